use Rattle.std.proofs.Common.{◌≡◌, ◌+◌, ◌<◌, ◌≤◌, get_or}
use Rattle.policies.specs.Masks.{masks, binomial}
use Rattle.policies.proofs.full.Subsets.ranked.Given as goal

abbrev pub invariant-loop-b : goal.invariant-loop-b
invariant-loop-b l =
    (l.left ≤ 8)
    × (l.rest < binomial l.b l.left)
    × (l.found + get_or (masks l.b l.left) l.rest 0 ≡ get_or (masks l.fn.self.n l.fn.self.ones) l.rank 0)
