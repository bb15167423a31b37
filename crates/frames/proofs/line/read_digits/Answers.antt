use Rattle.std.proofs.Common.{◌+◌, ◌*◌, length, ap, ◌∙◌, arith, Err}
use Rattle.std.proofs.lemmas.Result.{err_from_is_err_and}
use Rattle.frames.proofs.Reading.{digit_ok, digit_err, digits_of, read_wrong, begun_first, begun_second, begun_more, begun_all}
use Rattle.frames.proofs.line.read_digits.Goals as goal

pub returns-in_err-digit_value : goal.returns-in_err-digit_value
returns-in_err-digit_value c =
    let x = digits_of c.args.line.now c.as_chunks.result.0.now c.loop-k.k _ c.as_chunks.ensures.front (omega arith) in
    let p = err_from_is_err_and c.from_residual.result c.from_residual.ensures.1 in
    let q = digit_err _ _ _ _ x.0 c.in_err-digit_value.ensures in
    read_wrong c.args.line.now (2 * c.loop-k.k) c.from_residual.result c.requires
    (begun_first c.args.line.now c.loop-k.bytes c.loop-k.k c.loop-k.invariant (omega (arith, c.requires.even)) q.0) (p.1 ∙ ap Err (p.2 ∙ q.1))

pub returns-in_err-bytes : goal.returns-in_err-bytes
returns-in_err-bytes c =
    let x = digits_of c.args.line.now c.as_chunks.result.0.now c.loop-k.k _ c.as_chunks.ensures.front (omega arith) in
    let p = err_from_is_err_and c.from_residual-in_err-bytes.result c.from_residual-in_err-bytes.ensures.1 in
    let o = digit_ok _ _ _ _ x.0 c.in_ok-digit_value.ensures in
    let q = digit_err _ _ _ _ x.1 c.in_err-bytes.ensures in
    read_wrong c.args.line.now (2 * c.loop-k.k + 1) c.from_residual-in_err-bytes.result c.requires
    (begun_second c.args.line.now c.loop-k.bytes c.loop-k.k c.loop-k.invariant (omega (arith, c.requires.even)) o.0 q.0) (p.1 ∙ ap Err (p.2 ∙ q.1))

pub loop-k-preserved : goal.loop-k-preserved
loop-k-preserved c =
    let x = digits_of c.args.line.now c.as_chunks.result.0.now c.loop-k.k _ c.as_chunks.ensures.front (omega arith) in
    begun_more c.args.line.now c.loop-k.bytes c.loop-k.k _ _ c.loop-k.invariant (omega (arith, c.requires.even)) (omega (arith, c.requires.high))
    (digit_ok _ _ _ _ x.0 c.in_ok-digit_value.ensures) (digit_ok _ _ _ _ x.1 c.in_ok-bytes.ensures)

pub returns : goal.returns
returns c =
    begun_all c.args.line.now c.loop-k.bytes c.loop-k.k (length c.as_chunks.result.0.now) c.requires c.loop-k.invariant (omega arith) (omega arith)
