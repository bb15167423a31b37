-- The list of masks: how long it is, what stands where, that it rises and that it is whole.
use Rattle.std.specs.Prelude.{◌≡◌, ℕ, zero, suc, ◌+◌, ◌-◌, ◌*◌, ◌/◌, ◌%◌, ◌^◌, ◌<◌, ◌≤◌, true, false, [], ◌∷◌, map, length, nat_eq, slice_index, refl}
use Rattle.std.proofs.Common.{sym, ap, ◌∙◌, subst, ⊎_elim, pow-suc, not-suc-le-zero, arith, length-append, pow_pos, pow-add}
use Rattle.std.proofs.Math.Nat.{div-eq_of_lt, add-div_left, mul-add-div, mul-add-mod_self_right, two-pow-succ}
use Rattle.std.proofs.lemmas.List.{get_or_append_left, get_or-append_right, get_or-map, length-map}
use Rattle.std.proofs.lemmas.Bool.{cases_lt}
use Rattle.policies.specs.Seats.{count}
use Rattle.policies.specs.Masks.{masks, binomial, holds, Mask, Listed}
use Rattle.policies.specs.Counts.{bit, count_same}

length_masks : (n k : ℕ) → length (masks n k) ≡ binomial n k
length_masks zero zero = refl
length_masks zero (suc k) = refl
length_masks (suc zero) zero = refl
length_masks (suc (suc n)) zero = length_masks (suc n) zero
length_masks (suc n) (suc k) =
    grind (arith, length-append, length-map, length_masks n (suc k), length_masks n k)

binomial_none : (n : ℕ) → binomial n zero ≡ 1
binomial_none zero = refl
binomial_none (suc n) = refl

low : (n k r : ℕ) → r < binomial n (suc k) → slice_index (masks (suc n) (suc k)) r ≡ slice_index (masks n (suc k)) r
low n k r h = get_or_append_left (masks n (suc k)) _ 0 r (omega (arith, length_masks n (suc k)))

high : (n k r : ℕ) → binomial n (suc k) ≤ r → r < binomial (suc n) (suc k) → slice_index (masks (suc n) (suc k)) r ≡ 2 ^ n + slice_index (masks n k) (r - binomial n (suc k))
high n k r h l =
    get_or-append_right (masks n (suc k)) (map (λ x. 2 ^ n + x) (masks n k)) (binomial n (suc k)) r 0 (length_masks n (suc k)) h
    ∙ get_or-map (λ x. 2 ^ n + x) (masks n k) (r - binomial n (suc k)) 0 0 (omega (arith, length_masks n k))

-- bits

-- a number below 2 ^ n has no bit n
pub holds_not : (n m : ℕ) → m < 2 ^ n → holds m n ≡ false
holds_not n m h = ap (λ z. nat_eq (z % 2) 1) (div-eq_of_lt h)

holds_top : (n m : ℕ) → m < 2 ^ n → holds (2 ^ n + m) n ≡ true
holds_top n m h = ap (λ z. nat_eq (z % 2) 1) (add-div_left m (pow_pos n) ∙ ap (λ z. z + 1) (div-eq_of_lt h))

-- and 2 ^ n leaves the bits below n
pub holds_high : (n m i : ℕ) → i < n → holds (2 ^ n + m) i ≡ holds m i
holds_high n m i h =
    let d = n - suc i in
    let e : n ≡ i + suc d = omega arith in
    let p : 2 ^ n ≡ 2 ^ i * 2 ^ suc d = ap (λ z. 2 ^ z) e ∙ pow-add 2 i (suc d) in
    let q : (2 ^ n + m) / 2 ^ i ≡ 2 ^ suc d + m / 2 ^ i = ap (λ z. (z + m) / 2 ^ i) p ∙ mul-add-div (pow_pos i) (2 ^ suc d) m in
    let s : 2 ^ suc d ≡ 2 ^ d * 2 = pow-suc 2 d in
    ap (λ z. nat_eq (z % 2) 1) (q ∙ ap (λ z. z + m / 2 ^ i) s) ∙ ap (λ z. nat_eq z 1) (mul-add-mod_self_right (2 ^ d) 2 (m / 2 ^ i))

pub mask_low : (n k m : ℕ) → Mask n k m → Mask (suc n) k m
mask_low n k m h =
    (omega (arith, two-pow-succ n, h.0), grind (arith, holds_not n m h.0, h.1))

pub mask_high : (n k m : ℕ) → Mask n k m → Mask (suc n) (suc k) (2 ^ n + m)
mask_high n k m h =
    let s = count_same (holds (2 ^ n + m)) (holds m) n (holds_high n m) in
    (omega (arith, two-pow-succ n, h.0), grind (arith, holds_top n m h.0, h.1))

-- what stands at a rank is a mask
pub sound : (n k r : ℕ) → r < binomial n k → Mask n k (slice_index (masks n k) r)
sound zero zero r h = let e : r ≡ 0 = omega arith in subst (λ z. Mask 0 0 (slice_index (0 ∷ []) z)) (sym e) (omega arith, refl)
sound zero (suc k) r h = absurd (not-suc-le-zero h)
sound (suc n) zero r h = mask_low n zero _ (sound n zero r (omega (arith, binomial_none n)))
sound (suc n) (suc k) r h = ⊎_elim
    (λ (l : r < binomial n (suc k)). subst (Mask (suc n) (suc k)) (sym (low n k r l)) (mask_low n (suc k) _ (sound n (suc k) r l)))
    (λ (l : binomial n (suc k) ≤ r). subst (Mask (suc n) (suc k)) (sym (high n k r l h)) (mask_high n k _ (sound n k (r - binomial n (suc k)) (omega arith))))
    (cases_lt r (binomial n (suc k)))

pub rising : (n k i j : ℕ) → i < j → j < binomial n k → slice_index (masks n k) i < slice_index (masks n k) j
rising zero zero i j h l = let z : ⊥ = omega arith in absurd z
rising zero (suc k) i j h l = absurd (not-suc-le-zero l)
rising (suc n) zero i j h l = let z : ⊥ = omega arith in absurd z
rising (suc n) (suc k) i j h l = ⊎_elim
    (λ (q : j < binomial n (suc k)).
    let p : i < binomial n (suc k) = omega arith in
    omega (arith, low n k i p, low n k j q, rising n (suc k) i j h q))
    (λ (q : binomial n (suc k) ≤ j). ⊎_elim
    (λ (p : i < binomial n (suc k)). omega (arith, low n k i p, high n k j q l, (sound n (suc k) i p).0))
    (λ (p : binomial n (suc k) ≤ i).
    omega (arith, high n k i p (omega arith), high n k j q l, rising n k (i - binomial n (suc k)) (j - binomial n (suc k)) (omega arith) (omega arith)))
    (cases_lt i (binomial n (suc k))))
    (cases_lt j (binomial n (suc k)))

mask_low_back : (n k m : ℕ) → m < 2 ^ n → Mask (suc n) k m → Mask n k m
mask_low_back n k m l h =
    (l, grind (arith, holds_not n m l, h.1))

-- a number of n + 1 bits from 2 ^ n on has bit n
bit_top : (n m : ℕ) → m < 2 ^ suc n → 2 ^ n ≤ m → bit (holds m n) ≡ 1
bit_top n m h l =
    let e : 2 ^ n + (m - 2 ^ n) ≡ m = omega arith in
    ap bit (ap (λ z. holds z n) (sym e) ∙ holds_top n (m - 2 ^ n) (omega (arith, two-pow-succ n)))

mask_high_back : (n k m : ℕ) → 2 ^ n ≤ m → Mask (suc n) (suc k) m → Mask n k (m - 2 ^ n)
mask_high_back n k m l h =
    let e : 2 ^ n + (m - 2 ^ n) ≡ m = omega arith in
    let s : count (holds m) n ≡ count (holds (m - 2 ^ n)) n = ap (λ z. count (holds z) n) (sym e) ∙ count_same (holds (2 ^ n + (m - 2 ^ n))) (holds (m - 2 ^ n)) n (holds_high n (m - 2 ^ n)) in
    (omega (arith, two-pow-succ n, h.0), omega (arith, h.1, bit_top n m h.0 l))

-- the masks with bit n stand past those without it
past : (n k r : ℕ) → r < binomial n k → slice_index (masks (suc n) (suc k)) (binomial n (suc k) + r) ≡ 2 ^ n + slice_index (masks n k) r
past n k r h =
    let back : binomial n (suc k) + r - binomial n (suc k) ≡ r = omega arith in
    high n k (binomial n (suc k) + r) (omega arith) (omega arith) ∙ ap (λ z. 2 ^ n + slice_index (masks n k) z) back

-- each mask has a rank
pub whole : (n k m : ℕ) → Mask n k m → (r : ℕ) × (r < binomial n k) × (slice_index (masks n k) r ≡ m)
whole zero zero m h = (0, omega arith, omega (arith, h.0))
whole zero (suc k) m h = let z : ⊥ = omega (arith, h.1) in absurd z
whole (suc n) zero m h = ⊎_elim
    (λ (l : m < 2 ^ n). let r = whole n zero m (mask_low_back n zero m l h) in (r.0, omega (arith, r.1, binomial_none n), r.2))
    (λ (l : 2 ^ n ≤ m). let z : ⊥ = omega (arith, h.1, bit_top n m h.0 l) in absurd z)
    (cases_lt m (2 ^ n))
whole (suc n) (suc k) m h = ⊎_elim
    (λ (l : m < 2 ^ n).
    let r = whole n (suc k) m (mask_low_back n (suc k) m l h) in
    (r.0, omega (arith, r.1), low n k r.0 r.1 ∙ r.2))
    (λ (l : 2 ^ n ≤ m).
    let r = whole n k (m - 2 ^ n) (mask_high_back n k m l h) in
    (binomial n (suc k) + r.0, omega (arith, r.1), omega (arith, past n k r.0 r.1, r.2)))
    (cases_lt m (2 ^ n))

pub listed : (n k : ℕ) → Listed n k (masks n k)
listed n k =
    let e = length_masks n k in
    record {
      many = e;
      rising = λ i j h l. rising n k i j h (omega arith);
      sound = λ i l. sound n k i (omega arith);
      whole = λ m h. let r = whole n k m h in (r.0, omega (arith, r.1), r.2);
    }

-- the two ways from bit n on: without it, the mask is that of n bits at the same rank; with it, at the rank past those without

pub step_low : (b k r : ℕ) → 0 < b → r < binomial (b - 1) k → slice_index (masks b k) r ≡ slice_index (masks (b - 1) k) r
step_low b k r p l =
    let e : b ≡ suc (b - 1) = omega arith in
    ap (λ z. slice_index (masks z k) r) e ∙ same (b - 1) k l
  where
    same : (n k : ℕ) → r < binomial n k → slice_index (masks (suc n) k) r ≡ slice_index (masks n k) r
    same n zero h = refl
    same n (suc k) h = low n k r h

with_bit : (n k r : ℕ) → r < binomial (suc n) k → binomial n k ≤ r
    → (1 ≤ k) × (r - binomial n k < binomial n (k - 1)) × (slice_index (masks (suc n) k) r ≡ 2 ^ n + slice_index (masks n (k - 1)) (r - binomial n k))
with_bit n zero r h l = let z : ⊥ = omega (arith, binomial_none n) in absurd z
with_bit n (suc k) r h l =
    let e : k ≡ suc k - 1 = omega arith in (
      omega arith,
      subst (λ z. r - binomial n (suc k) < binomial n z) e (omega arith),
      subst (λ z. slice_index (masks (suc n) (suc k)) r ≡ 2 ^ n + slice_index (masks n z) (r - binomial n (suc k))) e (high n k r l h),
    )

pub step_high : (b k r : ℕ) → 0 < b → r < binomial b k → binomial (b - 1) k ≤ r
    → (1 ≤ k) × (r - binomial (b - 1) k < binomial (b - 1) (k - 1)) × (slice_index (masks b k) r ≡ 2 ^ (b - 1) + slice_index (masks (b - 1) (k - 1)) (r - binomial (b - 1) k))
step_high b k r p h l =
    let e : suc (b - 1) ≡ b = omega arith in
    let s = with_bit (b - 1) k r (subst (λ z. r < binomial z k) (sym e) h) l in
    (s.0, s.1, ap (λ z. slice_index (masks z k) r) (sym e) ∙ s.2)
