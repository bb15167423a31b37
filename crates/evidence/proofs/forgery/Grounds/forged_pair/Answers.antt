use Rattle.std.proofs.Common.{map, Some, sym, ap, ◌∙◌}
use Rattle.std.specs.List.{list_any}
use Rattle.std.proofs.lemmas.List.{take_all}
use Rattle.std.proofs.lemmas.List.Folds.{list_any_at}
use Rattle.frames.specs.Frames.{first_pair}
use Rattle.frames.specs.Typed.{plain}
use Rattle.evidence.specs.Forgery.{faulty_in, step_begins, unforged}
use Rattle.evidence.proofs.Search.{pair_next, pair_here, issued_is, pair_known, pair_unknown}
use Rattle.evidence.proofs.forgery.Grounds.forged_pair.Goals as goal

pub pairs-preserved : goal.pairs-preserved
pairs-preserved g c =
    let faulty = faulty_in c.args.self.now.table.now in
    let tag = g.S.Check.tag c.args.self.now.seal.now in
    let f = c.args.f.now in
    let pool = c.args.self.now.pool.now in
    let here = issued_is c.pair_statement-statement.result pool ∙ list_any_at (step_begins c.pair_statement-statement.result) pool c.loop-slot.slot-index _ c.loop-slot-test.true (sym c.if-begins.ensures) in
    pair_next (unforged faulty tag f pool) c.as_slice-pairs.result.now c.pairs.k _ _ c.pairs.invariant c.pairs-test.true
    (pair_known faulty tag f pool _ c.pair_statement-statement.result c.pair_statement-statement.ensures c.if-not-is_bound.ensures here)

pub returns-after-loop-slot : goal.returns-after-loop-slot
returns-after-loop-slot g c =
    let faulty = faulty_in c.args.self.now.table.now in
    let tag = g.S.Check.tag c.args.self.now.seal.now in
    let f = c.args.f.now in
    let pool = c.args.self.now.pool.now in
    let none = issued_is c.pair_statement-statement.result pool ∙ ap (list_any (step_begins c.pair_statement-statement.result)) (sym (take_all c.loop-slot.slot-index pool c.loop-slot-test.false)) ∙ c.loop-slot.invariant in
    ap Some c.place_of.ensures
    ∙ sym (pair_here (unforged faulty tag f pool) c.as_slice-pairs.result.now c.pairs.k _ _ c.pairs.invariant c.pairs-test.true
    (pair_unknown faulty tag f pool _ c.pair_statement-statement.result c.pair_statement-statement.ensures c.if-not-is_bound.ensures none))
    ∙ ap (λ l. first_pair (unforged faulty tag f pool) 32 (map plain l)) c.as_slice-pairs.ensures.is
