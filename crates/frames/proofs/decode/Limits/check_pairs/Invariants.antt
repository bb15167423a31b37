use Rattle.frames.proofs.Decoding.{Rises}
use Rattle.frames.proofs.decode.Limits.check_pairs.Given as goal

abbrev pub invariant-loop-k : goal.invariant-loop-k
invariant-loop-k l = Rises l.self.stations l.low l.k l.pairs
