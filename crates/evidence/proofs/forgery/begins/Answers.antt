use Rattle.std.proofs.Common.{length, take, arith}
use Rattle.std.proofs.lemmas.Slice.Eq.{slice_eq-Decides}
use Rattle.evidence.proofs.Search.{begins_is}
use Rattle.evidence.proofs.forgery.begins.Goals as goal
use Rattle.std.proofs.lemmas.Bool.Decides.{Decides-eqb}

pub returns-then-is_of_step : goal.returns-then-is_of_step
returns-then-is_of_step c =
    let s = c.args.statement.now in
    let frame = c.frame.result.now in
    begins_is c.args.slot.now s frame c.starts_with.result c.if-is_of_step.ensures c.frame.ensures (omega arith)
    (slice_eq-Decides Decides-eqb s (take (length s) frame) c.starts_with.result c.starts_with.ensures.value)
