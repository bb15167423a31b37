use Rattle.protocol.proofs.Sanity.{refusals_stay}
use Rattle.protocol.proofs.law.refusals_stay.Goals as goal

pub returns : goal.returns
returns c = refusals_stay
