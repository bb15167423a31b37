-- Searches, votes and sets of stations: small facts that several files share.
use Rattle.std.proofs.Common.{◌≡◌, ℕ, zero, suc, ◌+◌, ◌<◌, ◌≤◌, Bool, true, false, cond, ◌⊎◌, get_or, replicate, Some, None, Option, refl, inl, inr, arith}
use Rattle.std.proofs.lemmas.Bool.{cases_eq, cases_lt}
use Rattle.std.proofs.lemmas.List.{get_or_past, get_or-replicate}
use Rattle.protocol.specs.declared.station.Vote.{Vote}
use Rattle.protocol.specs.Run.{size}

-- a number below n that passes a test, or none does
pub search_below : (p : ℕ → Bool) (n : ℕ) → ((i : ℕ) × (i < n) × (p i ≡ true)) ⊎ ((i : ℕ) → i < n → p i ≡ false)
search_below p zero = inr (λ i l. absurd (omega arith))
search_below p (suc n) = go (p n) refl (search_below p n)
  where
    go : (b : Bool) → p n ≡ b → ((i : ℕ) × (i < n) × (p i ≡ true)) ⊎ ((i : ℕ) → i < n → p i ≡ false)
        → ((i : ℕ) × (i < suc n) × (p i ≡ true)) ⊎ ((i : ℕ) → i < suc n → p i ≡ false)
    go true e s = inl (n, omega arith, e)
    go false e (inl x) = inl (x.0, omega (arith, x.1), x.2)
    go false e (inr f) = inr (λ i l. last i l (cases_eq i n))
      where
        last : (i : ℕ) → i < suc n → (i ≡ n) ⊎ (i ≡ n → ⊥) → p i ≡ false
        last i l (inl z) = rw z e
        last i l (inr z) = f i (omega arith)

pub no_votes : (q : ℕ) (v : Vote) → get_or (replicate 16 None) q None ≡ Some v → ⊥
no_votes q v e = go (cases_lt q 16)
  where
    go : (q < 16) ⊎ (16 ≤ q) → ⊥
    go (inl l) = let x = get_or-replicate {A = Option Vote} 16 q None None l in let z : ◌≡◌ {A = ℕ} 0 1 = cc in omega arith
    go (inr l) = let x = get_or_past {X = Option Vote} (replicate 16 None) q None l in let z : ◌≡◌ {A = ℕ} 0 1 = cc in omega arith

-- how many stations a set has

pub size_more : (s : ℕ → Bool) (a b : ℕ) → a ≤ b → size s a ≤ size s b
size_more s a zero h = let z : a ≡ 0 = omega arith in rw z (omega arith)
size_more s a (suc b) h = go (cases_lt b a) (size_more s a b)
  where
    go : (b < a) ⊎ (a ≤ b) → (a ≤ b → size s a ≤ size s b) → size s a ≤ size s (suc b)
    go (inl l) ih = let z : a ≡ suc b = omega arith in rw z (omega arith)
    go (inr l) ih = omega (arith, ih l)

pub size_shift : (p : ℕ → Bool) (m : ℕ) → size p (suc m) ≡ cond (p 0) 1 0 + size (λ q. p (suc q)) m
size_shift p zero = refl
size_shift p (suc m) = let ih = size_shift p m in omega (arith, ih)

pub size_le : (s p : ℕ → Bool) (n : ℕ) → ((q : ℕ) → q < n → s q ≡ true → p q ≡ true) → size s n ≤ size p n
size_le s p zero h = omega arith
size_le s p (suc n) h = go (s n) refl (size_le s p n (λ q l. h q (omega arith)))
  where
    go : (b : Bool) → s n ≡ b → size s n ≤ size p n → size s (suc n) ≤ size p (suc n)
    go true e ih = let z : p n ≡ true = h n (omega arith) e in rw (e, z) (omega arith)
    go false e ih = rw e (omega arith)
