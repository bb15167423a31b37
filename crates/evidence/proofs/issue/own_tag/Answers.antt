use Rattle.std.proofs.Common.{ap, ◌∙◌}
use Rattle.evidence.specs.Issue.{right_tag}
use Rattle.evidence.proofs.issue.own_tag.Goals as goal

pub returns : goal.returns
unfolding right_tag
returns g c = c.seal.ensures ∙ ap (g.S.Check.tag c.args.seal.now c.args.frame.now.sender) c.statement.ensures.is
