use Rattle.std.proofs.Common.{sym, ◌∙◌}
use Rattle.evidence.specs.Issue.{right_tag}
use Rattle.evidence.proofs.Meets.{sent_is}
use Rattle.hall.specs.Join.{terms}
use Rattle.hall.proofs.setup.Setup.send.Goals as goal

pub returns-clause-row : goal.returns-clause-row
unfolding right_tag
returns-clause-row g c = c.issue.ensures.row ∙ sym (sent_is (terms g.R.Rule g.P.Policy g.S.Check c.args.self.now) c.args.frame.now c.args.pool.now)
