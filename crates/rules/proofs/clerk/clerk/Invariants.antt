use Rattle.std.proofs.Common.{◌≡◌, ◌++◌, drop, vec_items}
use Rattle.rules.specs.Lawful.{lawful}
use Rattle.rules.specs.Clerk.{clerk_book}
use Rattle.rules.proofs.clerk.clerk.Given as goal

-- what is booked, and what the clerk makes of the rest, is the whole book
abbrev pub invariant-loop-b : goal.invariant-loop-b
invariant-loop-b g l =
    vec_items l.book ++ clerk_book lawful (g.R.Rule.outcome l.rule) l.carry (drop l.b-index l.intake)
    ≡ clerk_book lawful (g.R.Rule.outcome l.rule) 0 l.intake
