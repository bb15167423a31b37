-- The oil rule.
use Rattle.std.specs.Prelude.{ℕ, ◌+◌, ◌*◌, ◌/◌, ◌%◌, min}
use Rattle.base.specs.declared.book.Batch.{Batch}
use Rattle.rules.specs.declared.rule.Outcome.{Outcome}

-- all the oil at hand
abbrev pub grams : ℕ → Batch → ℕ
grams c b = min c 99999999 + b.oil

-- whole kilograms; ten thousand times these for each kilogram of fruit; the grams left
abbrev pub oil_outcome : ℕ → Batch → Outcome
oil_outcome c b = record { amount = grams c b / 1000; figure = grams c b / 1000 * 10000 / b.fruit; carry = grams c b % 1000 }
