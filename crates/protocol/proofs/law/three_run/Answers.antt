use Rattle.protocol.proofs.Three.{three_run}
use Rattle.protocol.proofs.law.three_run.Goals as goal

pub returns : goal.returns
returns c = three_run
