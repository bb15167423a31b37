-- The code's table of the ways to pick is checked by one test that the checker computes.
use Rattle.std.specs.Prelude.{◌≡◌, ℕ, zero, suc, ◌<◌, ◌≤◌, Bool, true, ◌&&◌, [], nat_eq, nat_le, slice_index, slice_index_or, refl}
use Rattle.std.proofs.lemmas.Bool.{eqb-true, leb-true}
use Rattle.std.proofs.lemmas.Bool.Decides.{Decides-below_and}
use Rattle.policies.specs.declared.full.TheConstants.{PASCAL}
use Rattle.policies.specs.Masks.{binomial}

-- the test passes at each number below n
abbrev pub every : (ℕ → Bool) → ℕ → Bool
every f zero = true
every f (suc n) = f n && every f n

at : (f : ℕ → Bool) (n : ℕ) → every f n ≡ true → (i : ℕ) → i < n → f i ≡ true
at f n = (Decides-below_and f (λ i. f i ≡ true) (every f) (λ i. (λ e. e, λ e. e)) refl (λ _. refl) n).0

pub read : (n k : ℕ) → n < 17 → k < 9 → slice_index (slice_index_or PASCAL n []) k ≡ binomial n k
read n k h g =
    let f : ℕ → ℕ → Bool = λ n k. nat_eq (slice_index (slice_index_or PASCAL n []) k) (binomial n k) in
    eqb-true _ _ (at (f n) 9 (at (λ n. every (f n) 9) 17 refl n h) k g)

pub binomial_small : (n k : ℕ) → n < 17 → k < 9 → binomial n k ≤ 20000
binomial_small n k h g =
    leb-true _ _ (at (λ k. nat_le (binomial n k) 20000) 9 (at (λ n. every (λ k. nat_le (binomial n k) 20000) 9) 17 refl n h) k g)
