use Rattle.std.proofs.Common.{sym, ◌∙◌, rules}
use Rattle.std.proofs.lemmas.Iterator.{YieldsList-from_slice}
use Rattle.std.proofs.lemmas.Iterator.Search.{any_from_yields_List}
use Rattle.evidence.specs.Forgery.{step_begins}
use Rattle.evidence.proofs.Search.{issued_is}
use Rattle.evidence.proofs.forgery.is_issued.Goals as goal

pub returns : goal.returns
returns c =
    any_from_yields_List (step_begins c.args.statement.now) _ _ _ c.any.ensures.ran (YieldsList-from_slice c.args.pool.now (cc)) (λ x b q k. search rules)
    ∙ sym (issued_is c.args.statement.now c.args.pool.now)
