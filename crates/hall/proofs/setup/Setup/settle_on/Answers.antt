use Rattle.hall.specs.Called.{desk}
use Rattle.hall.specs.Join.{terms}
use Rattle.hall.proofs.Quorums.{settles, waits}
use Rattle.hall.proofs.setup.Setup.settle_on.Goals as goal

pub returns-in-Some-clause-is : goal.returns-in-Some-clause-is
returns-in-Some-clause-is g c =
    let a = c.args in
    settles (terms g.R.Rule g.P.Policy g.S.Check a.self.now) a.who.i a.entry (desk a.st.now a.pool.now a.books.now)
    _ _ c.quorum_size.ensures c.stations.ensures c.in-Some.pairs _ c.requires.quorum c.in-Some.ensures c.decide_on.ensures

pub returns-in-None-clause-is : goal.returns-in-None-clause-is
returns-in-None-clause-is g c =
    let a = c.args in
    waits (terms g.R.Rule g.P.Policy g.S.Check a.self.now) a.who.i a.entry (desk a.st.now a.pool.now a.books.now)
    _ _ c.quorum_size.ensures c.stations.ensures c.in-None.ensures
