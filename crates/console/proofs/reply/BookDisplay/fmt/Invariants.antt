use Rattle.std.proofs.Common.{take}
use Rattle.std.specs.Fmt.{HasWritten, IsPlainFormatter}
use Rattle.console.specs.Shown.{lines_from}
use Rattle.console.proofs.reply.BookDisplay.fmt.Given as goal

abbrev pub invariant-loop-k : goal.invariant-loop-k
invariant-loop-k g l = IsPlainFormatter l.fn.f → HasWritten g.W.Write.write_str_gives l.fn.f (lines_from 1 (take l.k l.fn.self.0.items)) l.f
