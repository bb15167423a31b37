use Rattle.std.proofs.Common.{rules}
use Rattle.protocol.specs.Law.{delivery}
use Rattle.hall.proofs.Whole.{kept, unadmitted, deliver_unknown, deliver_refused, deliver_done, deliver_working, deliver_frame}
use Rattle.hall.proofs.state.Hall.deliver.Goals as goal

pub returns-in_err-admit-clause-call : goal.returns-in_err-admit-clause-call
returns-in_err-admit-clause-call g c =
    let a = c.args in
    let e = unadmitted g.R.Rule g.P.Policy g.S.Check a.self.now a.intake.now a.pool.now a.books.now (delivery a.i a.f) c.in_err-admit.field-0.0 c.in_err-admit.ensures.same in
    search rules

pub returns-in_err-who-clause-call : goal.returns-in_err-who-clause-call
returns-in_err-who-clause-call g c =
    let a = c.args in
    let e = deliver_unknown g.R.Rule g.P.Policy g.S.Check a.self.now a.intake.now a.pool.now a.books.now c.in_ok-admit.ensures.same a.i c.in_err-who.field-0.0 c.in_err-who.ensures a.f in
    search rules

pub returns-in_err-frame-clause-call : goal.returns-in_err-frame-clause-call
returns-in_err-frame-clause-call g c =
    let a = c.args in
    let e = deliver_refused g.R.Rule g.P.Policy g.S.Check a.self.now a.intake.now a.pool.now a.books.now c.in_ok-admit.ensures.same a.i c.in_ok-who.who.i c.in_ok-who.ensures c.record_at-st.result.now c.record_at-st.ensures a.f c.in_err-frame.ensures.says c.in_err-frame.field-0.0 c.in_err-frame.ensures.is in
    search rules

pub deliver_on-requires : goal.deliver_on-requires
deliver_on-requires g c =
    let a = c.args in
    record {
      working = deliver_working g.R.Rule g.P.Policy g.S.Check a.self.now a.intake.now a.pool.now a.books.now c.in_ok-admit.ensures.same a.i c.in_ok-who.who.i c.in_ok-who.ensures c.record_at-st.result.now c.record_at-st.ensures a.f c.in_ok-frame.ensures.says c.in_ok-frame.frame c.in_ok-frame.ensures.is;
      frame = deliver_frame g.R.Rule g.P.Policy g.S.Check a.self.now a.intake.now a.pool.now a.books.now c.in_ok-admit.ensures.same a.i c.in_ok-who.who.i c.in_ok-who.ensures c.record_at-st.result.now c.record_at-st.ensures a.f c.in_ok-frame.ensures.says c.in_ok-frame.frame c.in_ok-frame.ensures.is;
    }

pub invariant_of-self-2 : goal.invariant_of-self-2
invariant_of-self-2 g c =
    let a = c.args in
    record { steady = kept g.R.Rule g.P.Policy g.S.Check a.self.now a.intake.now a.pool.now a.books.now (delivery a.i a.f) _ (deliver_done g.R.Rule g.P.Policy g.S.Check a.self.now a.intake.now a.pool.now a.books.now c.in_ok-admit.ensures.same a.i c.in_ok-who.who.i c.in_ok-who.ensures c.record_at-st.result.now c.record_at-st.ensures a.f c.in_ok-frame.ensures.says c.in_ok-frame.frame c.in_ok-frame.ensures.is _ _ _ _ c.deliver_on.ensures) }

pub returns-clause-call : goal.returns-clause-call
returns-clause-call g c =
    let a = c.args in
    deliver_done g.R.Rule g.P.Policy g.S.Check a.self.now a.intake.now a.pool.now a.books.now c.in_ok-admit.ensures.same a.i c.in_ok-who.who.i c.in_ok-who.ensures c.record_at-st.result.now c.record_at-st.ensures a.f c.in_ok-frame.ensures.says c.in_ok-frame.frame c.in_ok-frame.ensures.is _ _ _ _ c.deliver_on.ensures
