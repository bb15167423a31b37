use Rattle.std.proofs.Common.{◌≡◌, ◌+◌, ◌*◌, Bool, not, ap, ◌∙◌, rules}
use Rattle.std.specs.Fn.{FnReturnsAt}
use Rattle.std.specs.Option.{option_map}
use Rattle.std.proofs.iter.Next.{says_at}
use Rattle.std.proofs.lemmas.Iterator.{YieldsList-from_slice}
use Rattle.std.proofs.lemmas.Iterator.Search.{position_from_yields_List}
use Rattle.frames.specs.Typed.{plain, listed}
use Rattle.evidence.proofs.Search.{pair_at_position}
use Rattle.evidence.proofs.tags.first_failing.Goals as goal

pub returns : goal.returns
returns g c good computes =
    let pairs = listed c.args.pairs.now in
    let first = position_from_yields_List (λ p. not (good (plain p))) _ _ c.position.result c.position.ensures.ran (YieldsList-from_slice pairs (cc)) (λ x b q k.
    let said : (r : Bool) × (b ≡ not r) × FnReturnsAt g.F.Fn c.args.passes x.now r = search (rules, says_at g.F.Fn) in
    (search rules, said.1 ∙ ap not (computes x.now said.0 said.2))) in
    let place : c.map.result ≡ option_map (λ k. 32 + 9 * k) c.position.result = search rules in
    place ∙ ap (option_map (λ k. 32 + 9 * k)) first ∙ pair_at_position good 32 pairs
