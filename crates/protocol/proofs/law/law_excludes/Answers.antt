use Rattle.protocol.proofs.Sanity.{law_excludes}
use Rattle.protocol.proofs.law.law_excludes.Goals as goal

pub returns : goal.returns
returns c = law_excludes
