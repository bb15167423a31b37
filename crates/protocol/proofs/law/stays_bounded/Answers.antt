use Rattle.protocol.proofs.Bounds.{stays_bounded}
use Rattle.protocol.proofs.law.stays_bounded.Goals as goal

pub returns : goal.returns
returns c = stays_bounded
