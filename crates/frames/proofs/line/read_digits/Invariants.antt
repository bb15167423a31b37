use Rattle.frames.proofs.Reading.{Begun}
use Rattle.frames.proofs.line.read_digits.Given as goal

abbrev pub invariant-loop-k : goal.invariant-loop-k
invariant-loop-k l = Begun l.line l.bytes l.k
