use Rattle.std.proofs.Common.{rules, get_or, map}
use Rattle.frames.specs.Typed.{pair_in, pair_at, no_pair}
use Rattle.frames.proofs.Decoding.{from_fn_same, held_at, all_held}
use Rattle.frames.proofs.decode.read_pairs.Goals as goal

pub returns : goal.returns
returns c =
    let cs = c.args.pairs.now in
    all_held c.args.count (map pair_in cs) c.from_fn.result c.from_fn.ensures.items.long
    (λ k l. from_fn_same _ (λ j. get_or (map pair_at (map pair_in cs)) j no_pair) _ (λ j y q m. (held_at cs j y (λ h. search rules) (λ h. search rules), search rules)) c.from_fn.result 8 k no_pair c.from_fn.ensures.items l)
