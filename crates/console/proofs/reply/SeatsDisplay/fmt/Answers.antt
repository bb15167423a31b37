use Rattle.std.proofs.Common.{arith, false}
use Rattle.std.proofs.lemmas.Grind.{common_steps}
use Rattle.console.specs.Shown.{seat_text}
use Rattle.console.proofs.Printing.{next_item}
use Rattle.console.proofs.reply.SeatsDisplay.fmt.Goals as goal
use Rattle.console.proofs.reply.SeatsDisplay.fmt.Goals.{then-sits+in_ok-write, else-sits}

pub loop-i-preserved : goal.loop-i-preserved
loop-i-preserved g c = λ plain.
    let i = c.loop-i.i-counter in
    next_item g.W.Write.write_str_gives seat_text 0 i c.args.f.now c.loop-i.f c.if-sits.f c.args.self.now.0 i false (omega (arith, c.loop-i-test.true)) (omega arith) (c.loop-i.invariant plain)
    (elim c.if-sits.branch [ then-sits+in_ok-write w ↦ grind (arith, common_steps, w.if-sits, w.write, w.f-is) | else-sits w ↦ grind (arith, common_steps, w.if-sits, w.f-is) ])
