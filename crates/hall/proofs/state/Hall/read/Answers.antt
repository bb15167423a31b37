use Rattle.std.proofs.Common.{sym, ◌∙◌}
use Rattle.protocol.proofs.Passed.{passing_ok}
use Rattle.hall.proofs.Whole.{read_place}
use Rattle.hall.proofs.state.Hall.read.Goals as goal

pub bounds-books-book_place : goal.bounds-books-book_place
bounds-books-book_place g c =
    let a = c.args in
    read_place g.R.Rule g.P.Policy g.S.Check a.self.now a.intake.now a.pool.now a.books.now c.in_ok-admit.ensures.same a.i c.in_ok-who.who.i c.in_ok-who.ensures c.record_at.result.now c.record_at.ensures
    a.k c.book_place.result (sym c.is_booked.ensures ∙ (passing_ok _ _ _ _ (sym c.in_ok-ensure.ensures)).0) c.book_place.ensures
