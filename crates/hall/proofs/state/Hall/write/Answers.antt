use Rattle.std.proofs.Common.{◌≡◌, true, leb, length, rules}
use Rattle.hall.specs.Join.{terms}
use Rattle.hall.proofs.Asked.{write_unadmitted, write_done}
use Rattle.hall.proofs.state.Hall.write.Goals as goal

pub returns-in_err-admit : goal.returns-in_err-admit
returns-in_err-admit g c =
    let a = c.args in
    let e = write_unadmitted (terms g.R.Rule g.P.Policy g.S.Check a.self.now.setup) a.intake.now a.self.now.stations a.pool.now a.books.now a.f a.buffer.now _ c.in_err-admit.ensures.same in
    search rules

pub returns : goal.returns
returns g c =
    let a = c.args in
    let some : leb 1 (length c.frame_in-frame.result.now) ≡ true = search rules in
    write_done (terms g.R.Rule g.P.Policy g.S.Check a.self.now.setup) a.intake.now a.self.now.stations a.pool.now a.books.now a.f a.buffer.now c.frame_in-frame.result.now _
    c.in_ok-admit.ensures.same c.frame_in-frame.ensures some c.write_line.ensures.is
