use Rattle.frames.proofs.Reading.{Written}
use Rattle.frames.proofs.line.write_digits.Given as goal

abbrev pub invariant-loop-k : goal.invariant-loop-k
invariant-loop-k l = Written l.frame l.initial.buffer l.buffer l.k
