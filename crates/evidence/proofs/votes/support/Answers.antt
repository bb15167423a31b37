use Rattle.std.proofs.Common.{take, ◌∙◌, rules}
use Rattle.std.proofs.lemmas.Iterator.{YieldsList-from_slice, YieldsList-from_take}
use Rattle.std.proofs.lemmas.Iterator.Consumers.{YieldsList-from_filter, count_from_yields_List}
use Rattle.std.proofs.lemmas.List.Sums.{length-filter}
use Rattle.evidence.specs.Votes.{is_for}
use Rattle.evidence.proofs.votes.support.Goals as goal

pub returns-clause-is : goal.returns-clause-is
returns-clause-is g c =
    let test = is_for g.V.Ballot.backs c.args.what.now in
    count_from_yields_List c.filter.result _ c.count.ensures.ran
    (YieldsList-from_filter _ test (YieldsList-from_take {s = c.filter.result.iter} c.args.n (YieldsList-from_slice c.args.votes.now (cc)) (cc)) c.filter.ensures.closure (λ x r q k. search rules))
    ∙ length-filter test (take c.args.n c.args.votes.now)
