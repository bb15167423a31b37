use Rattle.std.proofs.Common.{◌≡◌, ◌<◌, ◌≤◌, length, refl, arith, rules}
use Rattle.std.proofs.lemmas.Iterator.{YieldsList-from_range, YieldsList-from_slice, YieldsList-from_take, YieldsList-from_zip}
use Rattle.std.proofs.lemmas.Iterator.Consumers.{YieldsList-from_filter_map, YieldsList-turn, YieldsList-end}
use Rattle.evidence.specs.Votes.{pair_backed}
use Rattle.evidence.proofs.Backers.{gathered_at, placed_more, placed_all}
use Rattle.evidence.proofs.votes.lowest.Goals as goal

at_place : (c : goal.After-pair-1) → (c.in-Some.k ≡ length c.loop-k.yielded) × (length c.loop-k.yielded < 8)
at_place c =
    let s = c.into_iter-k-iterator.result in
    let votes = YieldsList-from_zip {s = s.b.iter.iter.iter} (YieldsList-from_range 0 16 16 (cc) refl) (YieldsList-from_slice c.args.votes.now (cc)) in
    gathered_at c.args.what c.args.n c.args.size c.args.votes.now (length c.loop-k.yielded) (c.in-Some.k, c.in-Some.pair)
    (YieldsList-turn (YieldsList-from_zip {s = s} (YieldsList-from_range 0 8 8 (cc) refl)
    (YieldsList-from_take c.args.size
    (YieldsList-from_filter_map {s = s.b.iter} _ (λ p. pair_backed c.args.what p.0 p.1) (YieldsList-from_take c.args.n votes (cc)) refl (λ x r q k. search rules)) (cc)))
    c.loop-k.yielded c.loop-k.k-iterator c.loop-k.yielded_by c.next.result c.next.new.self (c.in-Some.k, c.in-Some.pair) c.in-Some.is c.next.ensures.steps)

pub bounds-each-k : goal.bounds-each-k
bounds-each-k c = omega (arith, at_place c)

pub offset_bounds-each-k : goal.offset_bounds-each-k
offset_bounds-each-k c = omega (arith, at_place c)

pub loop-k-preserved : goal.loop-k-preserved
loop-k-preserved c =
    (search rules, search rules, placed_more c.loop-k.yielded c.loop-k.each (c.in-Some.k, c.in-Some.pair) (at_place c) c.loop-k.invariant.2)

pub returns : goal.returns
returns c =
    let s = c.into_iter-k-iterator.result in
    let votes = YieldsList-from_zip {s = s.b.iter.iter.iter} (YieldsList-from_range 0 16 16 (cc) refl) (YieldsList-from_slice c.args.votes.now (cc)) in
    let long : length c.args.votes.now ≤ 16 = omega arith in
    let end = YieldsList-end (YieldsList-from_zip {s = s} (YieldsList-from_range 0 8 8 (cc) refl)
    (YieldsList-from_take c.args.size
    (YieldsList-from_filter_map {s = s.b.iter} _ (λ p. pair_backed c.args.what p.0 p.1) (YieldsList-from_take c.args.n votes (cc)) refl (λ x r q k. search rules)) (cc)))
    c.loop-k.yielded c.loop-k.k-iterator c.loop-k.yielded_by c.next.result c.next.new.self c.in-None.is c.next.ensures.steps in
    placed_all c.args.what c.args.n c.args.size c.args.votes.now c.loop-k.yielded c.loop-k.each long end.0 c.loop-k.invariant.2
