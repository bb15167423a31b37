use Rattle.std.proofs.Common.{eqb, rules, tests}
use Rattle.std.proofs.lemmas.Iterator.{YieldsList-from_slice}
use Rattle.std.proofs.lemmas.Iterator.Search.{position_from_yields_List}
use Rattle.frames.specs.declared.slot.Slot.{Slot}
use Rattle.frames.proofs.Places.{found}
use Rattle.frames.proofs.pool.lowest_free.Goals as goal

pub returns : goal.returns
returns c =
    let e = position_from_yields_List (λ (s : Slot). eqb s.len 0) _ _ c.position.result c.position.ensures.ran (YieldsList-from_slice c.args.pool.now cc) (λ x b q k. search (rules, tests)) in
    let f = found c.args.pool.now c.position.result e in
    record { is = f.is; inside = f.inside; behind = f.behind; place = f.place }
