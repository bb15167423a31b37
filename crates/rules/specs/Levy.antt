-- The levy rule: the season's kilograms up to a total of 200,000 cost 12 cents each, those above 9.
use Rattle.std.specs.Prelude.{ℕ, ◌+◌, ◌-◌, ◌*◌, min}
use Rattle.base.specs.declared.book.Batch.{Batch}
use Rattle.rules.specs.declared.rule.Outcome.{Outcome}

-- the season's kilograms before the batch
abbrev pub before : ℕ → ℕ
before c = min c 99999999

-- the kilograms of fruit f that lie above a total of 200,000
abbrev pub cheap : ℕ → ℕ → ℕ
cheap c f = min f (before c + f - 200000)

abbrev pub levy_outcome : ℕ → Batch → Outcome
levy_outcome c b = record {
  amount = 12 * (b.fruit - cheap c b.fruit) + 9 * cheap c b.fruit;
  figure = cheap c b.fruit;
  carry = min (before c + b.fruit) 99999999;
}
