use Rattle.std.proofs.Common.{arith, ◌+◌}
use Rattle.std.proofs.lemmas.Grind.{common_steps}
use Rattle.console.specs.Shown.{entry_line}
use Rattle.console.proofs.Printing.{no_entry, next_item}
use Rattle.console.proofs.reply.BookDisplay.fmt.Goals as goal

pub loop-k-preserved : goal.loop-k-preserved
loop-k-preserved g c = λ plain. next_item _ entry_line 1 (c.loop-k.k + 1) _ _ _ _ c.loop-k.k no_entry (omega arith) (omega arith) (c.loop-k.invariant plain) (grind (arith, common_steps))
