-- Each committee has t + 1 stations, and for any t stations every turn has a committee without them.
use Rattle.std.specs.Prelude.{◌≡◌, ℕ, zero, suc, ◌+◌, ◌*◌, ◌/◌, ◌%◌, ◌^◌, ◌<◌, ◌≤◌, Bool, true, false, ◌≢◌, nat_eq, slice_index, refl}
use Rattle.std.proofs.Common.{sym, ap, ◌∙◌, subst, ⊎_elim, mod-lt, mod-eq_of_lt, mul-suc, not-suc-le-zero, arith}
use Rattle.std.proofs.Math.Nat.{div-add-mod, mul-add-mod_self_left, zero-div}
use Rattle.std.proofs.lemmas.Bool.{cases_lt, cases_eq, cases_Bool, both_ways}
use Rattle.policies.specs.Seats.{count, Covers, last_number}
use Rattle.policies.specs.Masks.{masks, binomial, holds, Mask, mask_of, full_turn, full_seats}
use Rattle.policies.specs.Counts.{committee_count, committee_seat}
use Rattle.policies.specs.Pascal.{binomial_small}
use Rattle.policies.specs.MasksLemmas.{holds_not, holds_high, mask_low, mask_high, sound, whole}

pub binomial_pos : (n k : ℕ) → k ≤ n → 0 < binomial n k
binomial_pos zero zero h = omega arith
binomial_pos zero (suc k) h = absurd (not-suc-le-zero h)
binomial_pos (suc n) zero h = omega arith
binomial_pos (suc n) (suc k) h = omega (arith, binomial_pos n k (omega arith))

module _ (n t : ℕ) (wide : 2 * t + 1 ≤ n) where
  pub turns : n ≤ 16 → (1 ≤ full_turn n t) × (full_turn n t ≤ 20000) × (20000 ≤ last_number)
  turns small = (binomial_pos n (t + 1) (omega arith), binomial_small n (t + 1) (omega arith) (omega arith), omega arith)

  pub exactly : (c : ℕ) → c ≤ last_number → count (full_seats n t c) n ≡ t + 1
  exactly c l =
      committee_count n c (holds (mask_of n t c)) l
      ∙ (sound n (t + 1) (c % full_turn n t) (mod-lt c (binomial_pos n (t + 1) (omega arith)))).1

zero_mask : (n : ℕ) → Mask n 0 0
zero_mask zero = (omega arith, refl)
zero_mask (suc n) = mask_low n 0 0 (zero_mask n)

-- k stations apart from the bad ones, where there is room
apart : (bad : ℕ → Bool) (n k : ℕ) → k + count bad n ≤ n → (m : ℕ) × (Mask n k m) × ((i : ℕ) → i < n → holds m i ≡ true → bad i ≢ true)
apart bad n zero h = (0, zero_mask n, λ i _ e _. both_ways _ (ap (λ z. nat_eq (z % 2) 1) (zero-div (2 ^ i))) e)
apart bad zero (suc k) h = let z : ⊥ = omega arith in absurd z
apart bad (suc n) (suc k) h = ⊎_elim
    (λ (b : bad n ≡ true).
    let r = apart bad n (suc k) (grind arith) in (
      r.0,
      mask_low n (suc k) r.0 r.1,
      λ i l e f. ⊎_elim
          (λ (q : i ≡ n). both_ways _ (ap (holds r.0) q ∙ holds_not n r.0 r.1.0) e)
          (λ (q : i ≡ n → ⊥). r.2 i (omega (arith, q)) e f)
          (cases_eq i n),
    ))
    (λ (b : bad n ≡ false).
    let r = apart bad n k (grind arith) in (
      2 ^ n + r.0,
      mask_high n k r.0 r.1,
      λ i l e f. ⊎_elim
          (λ (q : i ≡ n). both_ways _ (ap bad q ∙ b) f)
          (λ (q : i ≡ n → ⊥). let s : i < n = omega (arith, q) in r.2 i s (sym (holds_high n r.0 i s) ∙ e) f)
          (cases_eq i n),
    ))
    (cases_Bool (bad n))

-- w numbers in a row have each remainder
onto : (a w r : ℕ) → r < w → (c : ℕ) × (a ≤ c) × (c < a + w) × (c % w ≡ r)
onto a w r h =
    let d = div-add-mod a w in
    let m : a % w < w = mod-lt a (omega arith) in
    ⊎_elim
    (λ (l : r < a % w).
    let s = mul-suc w (a / w) in
    (w * suc (a / w) + r, omega arith, omega arith, mul-add-mod_self_left w (suc (a / w)) r ∙ mod-eq_of_lt h))
    (λ (l : a % w ≤ r). (w * (a / w) + r, omega arith, omega arith, mul-add-mod_self_left w (a / w) r ∙ mod-eq_of_lt h))
    (cases_lt r (a % w))

pub covers : (n t : ℕ) → 2 * t + 1 ≤ n → Covers n t (full_turn n t) last_number (full_seats n t)
covers n t wide a bad few last =
    let r = apart bad n (t + 1) (omega arith) in
    let p = whole n (t + 1) r.0 r.1 in
    let c = onto a (full_turn n t) p.0 p.1 in (
      c.0,
      c.1,
      c.2,
      λ i seated isBad.
          let s = committee_seat n c.0 i (holds (mask_of n t c.0)) seated in
          let e : mask_of n t c.0 ≡ r.0 = ap (λ z. slice_index (masks n (t + 1)) z) c.3 ∙ p.2 in
          r.2 i s.0 (subst (λ z. holds z i ≡ true) e s.1) isBad,
    )
