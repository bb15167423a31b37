use Rattle.std.proofs.Common.{eqb, ap, ◌∙◌}
use Rattle.evidence.specs.Issue.{right_tag}
use Rattle.evidence.proofs.tags.is_senders.Goals as goal

pub returns : goal.returns
unfolding right_tag
returns g c = c.check.ensures ∙ ap (λ s. eqb c.args.shown (g.S.Check.tag c.args.seal.now c.args.f.now.sender s)) c.statement.ensures.is
