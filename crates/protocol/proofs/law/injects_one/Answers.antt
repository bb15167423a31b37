use Rattle.protocol.proofs.Sanity.{injects_one}
use Rattle.protocol.proofs.law.injects_one.Goals as goal

pub returns : goal.returns
returns c = injects_one
