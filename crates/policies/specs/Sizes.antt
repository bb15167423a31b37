-- What a policy is built of.
use Rattle.std.specs.Prelude.{ℕ}
use Rattle.policies.specs.Tables.{PlainLocked}

-- how many stations there are, and how many of them may be faulty
pub record Sizes : Type 0 where
  pub n : ℕ
  pub t : ℕ

abbrev pub sizes : ℕ → ℕ → Sizes
sizes n t = record { n = n; t = t }

abbrev pub sizes_of : PlainLocked → Sizes
sizes_of l = sizes l.n l.t
