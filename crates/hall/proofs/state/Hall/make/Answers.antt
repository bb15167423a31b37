use Rattle.hall.specs.Join.{joined}
use Rattle.hall.proofs.Lawful.{owes}
use Rattle.hall.proofs.state.Hall.make.Goals as goal

pub returns-clause-law : goal.returns-clause-law
returns-clause-law g c =
    let a = c.args in
    let p = g.met.P.Policy in
    owes g.R.Rule g.P.Policy g.S.Check (joined a.table a.rule a.policy a.seal a.batches a.slots)
    (record {
      turns = p.turns a.policy;
      exact = p.exact a.policy;
      covering = p.covering a.policy;
      within = g.met.R.Rule.within a.rule;
      fits = g.met.R.Rule.fits a.rule;
      small = g.met.S.Check.small a.seal;
    })
