use Rattle.std.proofs.Common.{rules}
use Rattle.protocol.specs.Law.{opening}
use Rattle.hall.proofs.Whole.{kept, unadmitted, open_unknown, open_refused, open_done, open_placed}
use Rattle.hall.proofs.state.Hall.open.Goals as goal

pub returns-in_err-admit-clause-call : goal.returns-in_err-admit-clause-call
returns-in_err-admit-clause-call g c =
    let a = c.args in
    let e = unadmitted g.R.Rule g.P.Policy g.S.Check a.self.now a.intake.now a.pool.now a.books.now (opening a.i) c.in_err-admit.field-0.0 c.in_err-admit.ensures.same in
    search rules

pub returns-in_err-who-clause-call : goal.returns-in_err-who-clause-call
returns-in_err-who-clause-call g c =
    let a = c.args in
    let e = open_unknown g.R.Rule g.P.Policy g.S.Check a.self.now a.intake.now a.pool.now a.books.now c.in_ok-admit.ensures.same a.i c.in_err-who.field-0.0 c.in_err-who.ensures in
    search rules

pub returns-in_err-batch-clause-call : goal.returns-in_err-batch-clause-call
returns-in_err-batch-clause-call g c =
    let a = c.args in
    let e = open_refused g.R.Rule g.P.Policy g.S.Check a.self.now a.intake.now a.pool.now a.books.now c.in_ok-admit.ensures.same a.i c.in_ok-who.who.i c.in_ok-who.ensures c.record_at-st.result.now c.record_at-st.ensures c.in_err-batch.field-0.0 c.in_err-batch.ensures in
    search rules

pub open_on-requires : goal.open_on-requires
open_on-requires g c =
    let a = c.args in
    open_placed g.R.Rule g.P.Policy g.S.Check a.self.now a.intake.now a.pool.now a.books.now c.in_ok-admit.ensures.same a.i c.in_ok-who.who.i c.in_ok-who.ensures c.record_at-st.result.now c.record_at-st.ensures c.in_ok-batch.batch.batch c.in_ok-batch.ensures

pub invariant_of-self-2 : goal.invariant_of-self-2
invariant_of-self-2 g c =
    let a = c.args in
    record { steady = kept g.R.Rule g.P.Policy g.S.Check a.self.now a.intake.now a.pool.now a.books.now (opening a.i) _ (open_done g.R.Rule g.P.Policy g.S.Check a.self.now a.intake.now a.pool.now a.books.now c.in_ok-admit.ensures.same a.i c.in_ok-who.who.i c.in_ok-who.ensures c.record_at-st.result.now c.record_at-st.ensures c.in_ok-batch.batch.batch c.in_ok-batch.ensures _ _ _ _ c.open_on.ensures) }

pub returns-clause-call : goal.returns-clause-call
returns-clause-call g c =
    let a = c.args in
    open_done g.R.Rule g.P.Policy g.S.Check a.self.now a.intake.now a.pool.now a.books.now c.in_ok-admit.ensures.same a.i c.in_ok-who.who.i c.in_ok-who.ensures c.record_at-st.result.now c.record_at-st.ensures c.in_ok-batch.batch.batch c.in_ok-batch.ensures _ _ _ _ c.open_on.ensures
