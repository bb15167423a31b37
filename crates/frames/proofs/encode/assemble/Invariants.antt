use Rattle.std.proofs.Common.{◌≡◌, ◌^◌, ◌<◌, take}
use Rattle.std.specs.List.{AllByRecursion}
use Rattle.frames.specs.declared.frame.Pair.{Pair}
use Rattle.frames.specs.Packed.{packed}
use Rattle.frames.specs.Typed.{begun}
use Rattle.frames.proofs.encode.assemble.Given as goal

abbrev pub invariant-loop-pair : goal.invariant-loop-pair
invariant-loop-pair l =
    (l.bytes ≡ packed (begun l.frame (take l.pair-index l.pairs))) × AllByRecursion (λ (p : Pair). p.tag < 2 ^ 64) (take l.pair-index l.pairs)
