use Rattle.std.proofs.Common.{◌+◌, ◌*◌, set, ◌∙◌, ap₂, arith}
use Rattle.frames.proofs.Reading.{written_more, written_all, one_line}
use Rattle.frames.proofs.Numbers.{bytes_from}
use Rattle.frames.proofs.line.write_digits.Goals as goal

pub loop-k-preserved : goal.loop-k-preserved
loop-k-preserved c =
    ap₂ (λ x y. set (set c.loop-k.buffer (2 * c.loop-k.k) x) (2 * c.loop-k.k + 1) y) c.digit.ensures c.digit-in-loop-k.ensures
    ∙ written_more c.args.frame.now c.args.buffer.now c.loop-k.buffer c.loop-k.k c.loop-k.invariant (omega arith) (omega arith)

pub returns : goal.returns
returns c = record {
  is = written_all c.args.frame.now c.args.buffer.now c.loop-k.buffer c.loop-k.k c.loop-k.invariant (omega arith);
  one = one_line c.args.frame.now (bytes_from c.args.frame.now (λ i. (c.type_inv.frame i).fits));
}
