-- The book of a lone clerk.
use Rattle.std.specs.Prelude.{ℕ, Bool, true, false, List, [], ◌∷◌}
use Rattle.base.specs.declared.book.Batch.{Batch}
use Rattle.base.specs.declared.book.Entry.{Entry}
use Rattle.rules.specs.declared.rule.Outcome.{Outcome}

-- the entry of a batch, from a carry: the rule's numbers, with the grower copied
abbrev pub worked : (ℕ → Batch → Outcome) → ℕ → Batch → Entry
worked rule carry b =
    record { grower = b.grower; amount = (rule carry b).amount; carry = (rule carry b).carry; figure = (rule carry b).figure }

-- each lawful batch in intake order, up to the first unlawful one
abbrev pub clerk_book : (Batch → Bool) → (ℕ → Batch → Outcome) → ℕ → List Batch → List Entry
clerk_book lawful rule carry [] = []
clerk_book lawful rule carry (b ∷ bs) =
    elim (lawful b) [ true ↦ worked rule carry b ∷ clerk_book lawful rule (rule carry b).carry bs | false ↦ [] ]
