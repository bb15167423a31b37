-- Tests and lists: small facts that several files share.
use Rattle.std.proofs.Common.{◌≡◌, ℕ, Bool, true, false, cond, ◌⊎◌, List, [], ◌∷◌, Some, None, Option, refl, inl, inr, arith}
use Rattle.std.specs.List.{AllByRecursion}
use Rattle.std.proofs.lemmas.Bool.{both_ways}
use Rattle.frames.specs.Frames.{◌and◌, ◌or◌}

-- tests

pub never : {A : Type 0} → false ≡ true → A
never e = absurd (both_ways false refl e)

pub by_test : (P : Bool → Type 0) (b : Bool) → (b ≡ true → P true) → (b ≡ false → P false) → P b
by_test P true f g = f refl
by_test P false f g = g refl

pub both_true : (a b : Bool) → a ≡ true → b ≡ true → (a and b) ≡ true
both_true a b p q = rw p q

pub and_true : (a b : Bool) → (a and b) ≡ true → (a ≡ true) × (b ≡ true)
and_true true b h = (refl, h)
and_true false b h = absurd (both_ways false refl h)

pub or_true : (a b : Bool) → (a or b) ≡ true → (a ≡ true) ⊎ (b ≡ true)
or_true true b h = inl refl
or_true false b h = inr h

pub cond_cases : (a b c : Bool) → cond a b c ≡ true → ((a ≡ true) × (b ≡ true)) ⊎ ((a ≡ false) × (c ≡ true))
cond_cases true b c h = inl (refl, h)
cond_cases false b c h = inr (refl, h)

pub cond_false_false : (a : Bool) → cond a false false ≡ false
cond_false_false true = refl
cond_false_false false = refl

-- a chain of tests goes on only where the test passes
pub passed : (b : Bool) (o : Option ℕ) (place : ℕ) → ◌≡◌ {A = Option ℕ} (elim b [ true ↦ o | false ↦ Some place ]) None → (b ≡ true) × (o ≡ None)
passed true o place e = (refl, e)
passed false o place e = let z : ◌≡◌ {A = ℕ} 0 1 = cc in absurd (omega arith)

-- lists

pub all_both : {X : Type 0} (P Q R : X → Type 0) → ((x : X) → P x → Q x → R x) → (xs : List X) → AllByRecursion P xs → AllByRecursion Q xs → AllByRecursion R xs
all_both P Q R f [] e g = tt
all_both P Q R f (x ∷ xs) e g = (f x e.0 g.0, all_both P Q R f xs e.1 g.1)
