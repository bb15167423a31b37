use Rattle.protocol.proofs.Agreement.{holds}
use Rattle.protocol.proofs.law.agreement.Goals as goal

pub returns : goal.returns
returns c = holds
