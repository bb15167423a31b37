use Rattle.std.proofs.Common.{◌≡◌}
use Rattle.seals.specs.Sheet.{picked, xors}
use Rattle.seals.proofs.sheet.mixed.Given as goal

abbrev pub invariant-loop-p : goal.invariant-loop-p
invariant-loop-p l = l.tag ≡ xors (picked l.words l.first l.statement) l.p
