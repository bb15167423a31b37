use Rattle.protocol.proofs.Three.{three-lawful}
use Rattle.protocol.proofs.law.three_lawful.Goals as goal

pub returns : goal.returns
returns c = three-lawful
