use Rattle.std.proofs.Common.{rules}
use Rattle.protocol.specs.Law.{injection}
use Rattle.hall.proofs.Whole.{unadmitted, inject_refused, inject_done}
use Rattle.hall.proofs.state.Hall.inject.Goals as goal

pub returns-in_err-admit-clause-call : goal.returns-in_err-admit-clause-call
returns-in_err-admit-clause-call g c =
    let a = c.args in
    let e = unadmitted g.R.Rule g.P.Policy g.S.Check a.self.now a.intake.now a.pool.now a.books.now (injection a.line.now) c.in_err-admit.field-0.0 c.in_err-admit.ensures.same in
    search rules

pub returns-in_err-bytes-clause-call : goal.returns-in_err-bytes-clause-call
returns-in_err-bytes-clause-call g c =
    let a = c.args in
    let e = inject_refused g.R.Rule g.P.Policy g.S.Check a.self.now a.intake.now a.pool.now a.books.now c.in_ok-admit.ensures.same a.line.now c.in_err-bytes.field-0.0 c.in_err-bytes.ensures in
    search rules

pub returns-clause-call : goal.returns-clause-call
returns-clause-call g c =
    let a = c.args in
    inject_done g.R.Rule g.P.Policy g.S.Check a.self.now a.intake.now a.pool.now a.books.now c.in_ok-admit.ensures.same a.line.now c.in_ok-bytes.bytes _ _ _ c.in_ok-bytes.ensures c.as_slice.ensures c.holding.ensures c.enter.ensures
