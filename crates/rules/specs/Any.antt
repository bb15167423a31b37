-- A chosen rule means what the rule of that name means.
use Rattle.std.specs.Prelude.{ℕ}
use Rattle.base.specs.declared.book.Batch.{Batch}
use Rattle.rules.specs.declared.any.AnyRule.{AnyRule}
use Rattle.rules.specs.declared.any.AnyRule.TheVariants.{Oil, Levy}
use Rattle.rules.specs.declared.rule.Outcome.{Outcome}
use Rattle.rules.specs.Oil.{oil_outcome}
use Rattle.rules.specs.Levy.{levy_outcome}

abbrev pub any_outcome : AnyRule → ℕ → Batch → Outcome
any_outcome Oil c b = oil_outcome c b
any_outcome Levy c b = levy_outcome c b
