use Rattle.protocol.proofs.Reading.{reads-clerk}
use Rattle.protocol.proofs.law.reads_clerk.Goals as goal

pub returns : goal.returns
returns c = reads-clerk
