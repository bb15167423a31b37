use Rattle.std.proofs.Common.{◌≡◌, ℕ, zero, suc, ◌+◌, ◌%◌, Bool, ◌||◌, eqb, [], ◌∷◌, ◌++◌, refl, ap, ◌∙◌, rules, arith, tests, zero-add}
use Rattle.std.specs.List.{range_with_len, list_any}
use Rattle.std.proofs.Math.Bool.{or_comm}
use Rattle.std.proofs.lemmas.List.Recursion.{or_push}
use Rattle.std.proofs.lemmas.Iterator.{YieldsList-from_range}
use Rattle.std.proofs.lemmas.Iterator.Search.{any_from_yields_List}
use Rattle.policies.specs.Rotating.{some}
use Rattle.policies.proofs.rotating.in_row.Goals as goal

more : (a n j : ℕ) → a + n ≡ j → range_with_len a (suc n) ≡ range_with_len a n ++ j ∷ []
more a zero j e = ap (λ x. x ∷ []) (omega arith)
more a (suc n) j e = ap (λ l. a ∷ l) (more (a + 1) n j (omega arith))

-- `any` asks from 0 up, and the definition from the top down
any_some : (f : ℕ → Bool) (k : ℕ) → list_any f (range_with_len 0 k) ≡ some f k
any_some f zero = refl
any_some f (suc k) =
    ap (list_any f) (more 0 k k (zero-add k))
    ∙ or_push (list_any f) f refl (λ _ _. refl) (range_with_len 0 k) k
    ∙ ap (λ b. b || f k) (any_some f k)
    ∙ or_comm (some f k) (f k)

pub returns : goal.returns
returns c =
    let f : ℕ → Bool = λ j. eqb ((c.args.c + j) % c.args.n) c.args.i in
    any_from_yields_List f _ _ _ c.any.ensures.ran (YieldsList-from_range 0 (c.args.t + 1) (suc c.args.t) (cc) (omega arith)) (λ x b q k. search (rules, tests))
    ∙ any_some f (suc c.args.t)
