use Rattle.std.proofs.Common.{◌≡◌, [], map, min, take, ap, rules}
use Rattle.std.proofs.lemmas.Bool.{both_ways}
use Rattle.frames.specs.declared.frame.Pairs.{Pairs}
use Rattle.frames.specs.Typed.{plain, listed}
use Rattle.protocol.specs.Law.{ringing}
use Rattle.hall.proofs.Whole.{kept, unadmitted, ring_unknown, ring_refused, ring_done, ring_moving, ring_seat}
use Rattle.hall.proofs.state.Hall.ring.Goals as goal

unpaired : (p : Pairs) → p.count ≡ 0 → map plain (listed p) ≡ []
unpaired p none = ap (λ n. map plain (take (min n 8) p.each)) none

pub returns-in_err-admit-clause-call : goal.returns-in_err-admit-clause-call
returns-in_err-admit-clause-call g c =
    let a = c.args in
    let e = unadmitted g.R.Rule g.P.Policy g.S.Check a.self.now a.intake.now a.pool.now a.books.now (ringing a.i) c.in_err-admit.field-0.0 c.in_err-admit.ensures.same in
    search rules

pub returns-in_err-who-clause-call : goal.returns-in_err-who-clause-call
returns-in_err-who-clause-call g c =
    let a = c.args in
    let e = ring_unknown g.R.Rule g.P.Policy g.S.Check a.self.now a.intake.now a.pool.now a.books.now c.in_ok-admit.ensures.same a.i c.in_err-who.field-0.0 c.in_err-who.ensures in
    search rules

pub returns-in_err-ring_ready-clause-call : goal.returns-in_err-ring_ready-clause-call
returns-in_err-ring_ready-clause-call g c =
    let a = c.args in
    let e = ring_refused g.R.Rule g.P.Policy g.S.Check a.self.now a.intake.now a.pool.now a.books.now c.in_ok-admit.ensures.same a.i c.in_ok-who.who.i c.in_ok-who.ensures c.record_at-st.result.now c.record_at-st.ensures c.in_err-ring_ready.field-0.0 c.in_err-ring_ready.ensures in
    search rules

pub reselect_on-requires : goal.reselect_on-requires
reselect_on-requires g c =
    let a = c.args in
    record {
      moving = ring_moving g.R.Rule g.P.Policy g.S.Check a.self.now a.intake.now a.pool.now a.books.now c.in_ok-admit.ensures.same a.i c.in_ok-who.who.i c.in_ok-who.ensures c.record_at-st.result.now c.record_at-st.ensures c.in_ok-ring_ready.ensures;
      shown = λ off. absurd (both_ways _ off (ring_seat g.R.Rule g.P.Policy g.S.Check a.self.now a.intake.now a.pool.now a.books.now c.in_ok-admit.ensures.same a.i c.in_ok-who.who.i c.in_ok-who.ensures c.record_at-st.result.now c.record_at-st.ensures c.in_ok-ring_ready.ensures));
    }

pub invariant_of-self-2 : goal.invariant_of-self-2
invariant_of-self-2 g c =
    let a = c.args in
    record { steady = kept g.R.Rule g.P.Policy g.S.Check a.self.now a.intake.now a.pool.now a.books.now (ringing a.i) _ (ring_done g.R.Rule g.P.Policy g.S.Check a.self.now a.intake.now a.pool.now a.books.now c.in_ok-admit.ensures.same a.i c.in_ok-who.who.i c.in_ok-who.ensures c.record_at-st.result.now c.record_at-st.ensures c.in_ok-ring_ready.ensures _ _ _ _ (rw (unpaired c.default.result c.default.ensures.0) at c.reselect_on.ensures)) }

pub returns-clause-call : goal.returns-clause-call
returns-clause-call g c =
    let a = c.args in
    ring_done g.R.Rule g.P.Policy g.S.Check a.self.now a.intake.now a.pool.now a.books.now c.in_ok-admit.ensures.same a.i c.in_ok-who.who.i c.in_ok-who.ensures c.record_at-st.result.now c.record_at-st.ensures c.in_ok-ring_ready.ensures _ _ _ _ (rw (unpaired c.default.result c.default.ensures.0) at c.reselect_on.ensures)
