use Rattle.std.proofs.Common.{◌≡◌}
use Rattle.evidence.proofs.Backers.{placed}
use Rattle.evidence.proofs.votes.lowest.Given as goal

abbrev pub invariant-loop-k : goal.invariant-loop-k
invariant-loop-k l = (goal.iterator-loop-k).can_next l.k-iterator × (goal.iterator-loop-k).is_finite l.k-iterator × (l.each ≡ placed l.yielded)
