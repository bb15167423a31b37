use Rattle.evidence.proofs.Issues.{slot_is}
use Rattle.evidence.proofs.issue.slot_under.Goals as goal

pub returns : goal.returns
returns c = slot_is c.args.frame.now c.args.tag c.encode.result c.as_slice.result.now c.holding.result c.encode.ensures.is c.as_slice.ensures c.holding.ensures
