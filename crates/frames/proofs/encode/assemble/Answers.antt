use Rattle.std.proofs.Common.{◌^◌, ◌<◌}
use Rattle.std.proofs.ByRecursion.{All-more}
use Rattle.frames.specs.declared.frame.Pair.{Pair}
use Rattle.frames.specs.Typed.{no_pair}
use Rattle.frames.proofs.Encoding.{encode_more, encode_all, few_listed, short_encoded}
use Rattle.frames.proofs.Bothways.{encode_back}
use Rattle.frames.proofs.encode.assemble.Goals as goal

pub loop-pair-preserved : goal.loop-pair-preserved
loop-pair-preserved c = (
  encode_more c.args.frame.now c.as_slice-pairs.result.now c.loop-pair.pair-index c.loop-pair.bytes c.join-bytes-in-loop-pair.result c.as_slice.result.now c.write_pair.result
      c.loop-pair-test.true (few_listed c.args.frame.now c.as_slice-pairs.result.now c.as_slice-pairs.ensures.is) c.loop-pair.invariant.0 c.as_slice.ensures c.write_pair.ensures.is
      c.join-bytes-in-loop-pair.ensures,
  All-more (λ (p : Pair). p.tag < 2 ^ 64) c.as_slice-pairs.result.now c.loop-pair.pair-index no_pair c.loop-pair-test.true c.loop-pair.invariant.1 c.write_pair.ensures.fits,
)

pub returns : goal.returns
returns c =
    let is =
    encode_all c.args.frame.now c.as_slice-pairs.result.now c.loop-pair.pair-index c.loop-pair.bytes c.as_slice-pairs.ensures.is c.loop-pair-test.false c.loop-pair.invariant.0 in
    record {
      is = is;
      short = short_encoded c.args.frame.now c.as_slice-pairs.result.now c.as_slice-pairs.ensures.is;
      back = encode_back c.args.frame.now c.as_slice-pairs.result.now c.loop-pair.pair-index c.as_slice-pairs.ensures.is c.as_slice-pairs.ensures.size c.loop-pair-test.false
          c.requires.fits c.requires.small c.loop-pair.invariant.1;
    }
