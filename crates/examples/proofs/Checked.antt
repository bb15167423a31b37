-- A test that is passed makes an example hold, and the whole table passes.
use Rattle.std.proofs.Common.{◌≡◌, ℕ, true, false, eqb, List, [], ◌∷◌, refl, ap, ◌∙◌}
use Rattle.std.specs.List.{AllByRecursion}
use Rattle.std.proofs.lemmas.Bool.{and_parts, eqb-true, both_ways}
use Rattle.rules.specs.declared.rule.Outcome.{Outcome}
use Rattle.protocol.specs.Law.{works}
use Rattle.protocol.specs.Steps.{in_range, fitting, whole_call, same_entry, backers, last_carry, issue, with_station, propose, decide, settle, own_entry, reselect, open_call, ring_call, mark_taken, take_proposal, meet_proposal, meet_decision, meet_reselect, meet, shows, deliver_call, next_number, announce, join, take_up, store, differs}
use Rattle.examples.specs.Table.{Example, oil, levy, rotates, fills, builds, locks, plays, Holds, same_outcome, same_list, passes, all_pass, gives, examples, AllHold}

outcome_same : (a b : Outcome) → same_outcome a b ≡ true → a ≡ b
outcome_same a b e =
    let (amounts, rest) = and_parts (eqb a.amount b.amount) _ e in
    let (figures, carries) = and_parts (eqb a.figure b.figure) _ rest in
    ap (λ x. gives x a.figure a.carry) (eqb-true a.amount b.amount amounts)
    ∙ ap (λ x. gives b.amount x a.carry) (eqb-true a.figure b.figure figures)
    ∙ ap (λ x. gives b.amount b.figure x) (eqb-true a.carry b.carry carries)

list_same : (a b : List ℕ) → same_list a b ≡ true → a ≡ b
list_same [] [] e = refl
list_same [] (y ∷ ys) e = absurd (both_ways false refl e)
list_same (x ∷ xs) [] e = absurd (both_ways false refl e)
list_same (x ∷ xs) (y ∷ ys) e =
    let (head, tail) = and_parts (eqb x y) (same_list xs ys) e in
    let p : x ≡ y = eqb-true x y head in
    let q : xs ≡ ys = list_same xs ys tail in
    cc

holds : (x : Example) → passes x ≡ true → Holds x
holds (oil c b o) e = outcome_same _ o e
holds (levy c b o) e = outcome_same _ o e
holds (rotates n t c l) e = list_same _ l e
holds (fills n t c l) e = list_same _ l e
holds (plays d intake w calls l) e = list_same _ l e
holds (builds n t k) e = eqb-true _ k e
holds (locks n t k) e = eqb-true _ k e

each : (l : List Example) → all_pass l ≡ true → AllByRecursion Holds l
each [] e = tt
each (x ∷ xs) e = let (head, tail) = and_parts (passes x) (all_pass xs) e in (holds x head, each xs tail)

pub all_hold : AllHold
unfolding works in_range fitting whole_call same_entry backers last_carry issue with_station propose decide settle own_entry reselect open_call ring_call mark_taken take_proposal meet_proposal meet_decision meet_reselect meet shows deliver_call next_number announce join take_up store differs
all_hold = each examples refl
