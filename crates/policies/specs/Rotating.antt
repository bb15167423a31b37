-- Committee c of the rotating policy seats (c + j) mod n, j from 0 to t.
use Rattle.std.specs.Prelude.{ℕ, zero, suc, ◌+◌, ◌*◌, ◌%◌, Bool, false, cond, ◌||◌, Ok, Err, Result, nat_eq, nat_lt}
use Rattle.base.specs.declared.fault.Fault.{Fault}
use Rattle.base.specs.declared.refusal.Refusal.TheVariants.{TooFewForPolicy}
use Rattle.base.specs.Refusals.{fault_at}
use Rattle.policies.specs.Seats.{committee_of}
use Rattle.policies.specs.Sizes.{Sizes, sizes_of}
use Rattle.policies.specs.Tables.{PlainLocked}

-- some number below k passes
abbrev pub some : (ℕ → Bool) → ℕ → Bool
some f zero = false
some f (suc k) = f k || some f k

-- station i is one of t + 1 in a row from c on, counted round
abbrev pub in_row : ℕ → ℕ → ℕ → ℕ → Bool
in_row n t c i = some (λ j. nat_eq ((c + j) % n) i) (suc t)

abbrev pub rotating_seats : ℕ → ℕ → ℕ → ℕ → Bool
rotating_seats n t c = committee_of n c (in_row n t c)

-- of so many numbers in a row one has a committee without any given t stations
abbrev pub rotating_turn : ℕ → ℕ
rotating_turn t = t * t + t + 1

abbrev pub rotating_of : PlainLocked → Result Sizes Fault
rotating_of l = cond (nat_lt l.n (rotating_turn l.t)) (Err (fault_at TooFewForPolicy 0)) (Ok (sizes_of l))
