-- A policy chosen when the program runs means what the one chosen means.
use Rattle.std.specs.Prelude.{ℕ, Bool}
use Rattle.policies.specs.declared.any.AnyPolicy.{AnyPolicy}
use Rattle.policies.specs.declared.any.AnyPolicy.TheVariants.{Rotating, Full}
use Rattle.policies.specs.Masks.{full_turn, full_seats}
use Rattle.policies.specs.Rotating.{rotating_turn, rotating_seats}

abbrev pub any_stations : AnyPolicy → ℕ
any_stations (Rotating p) = p.n
any_stations (Full p) = p.n

abbrev pub any_faults : AnyPolicy → ℕ
any_faults (Rotating p) = p.t
any_faults (Full p) = p.t

abbrev pub any_turn : AnyPolicy → ℕ
any_turn (Rotating p) = rotating_turn p.t
any_turn (Full p) = full_turn p.n p.t

abbrev pub any_seats : AnyPolicy → ℕ → ℕ → Bool
any_seats (Rotating p) = rotating_seats p.n p.t
any_seats (Full p) = full_seats p.n p.t
