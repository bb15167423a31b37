use Rattle.protocol.proofs.Reading.{writes_line}
use Rattle.protocol.proofs.law.writes_line.Goals as goal

pub returns : goal.returns
returns c = writes_line
