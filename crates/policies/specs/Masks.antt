-- The masks of n bits with k ones, in rising order, and who sits in committee c of the full policy.
use Rattle.std.specs.Prelude.{◌≡◌, ℕ, zero, suc, ◌+◌, ◌/◌, ◌%◌, ◌^◌, ◌<◌, Bool, List, [], ◌∷◌, ◌++◌, map, length, ◌==◌, slice_index}
use Rattle.policies.specs.Seats.{count, committee_of}

-- first those without bit n, then those with it
abbrev pub masks : ℕ → ℕ → List ℕ
masks zero zero = 0 ∷ []
masks zero (suc k) = []
masks (suc n) zero = masks n zero
masks (suc n) (suc k) = masks n (suc k) ++ map (λ x. 2 ^ n + x) (masks n k)

-- how many there are
abbrev pub binomial : ℕ → ℕ → ℕ
binomial zero zero = 1
binomial zero (suc k) = 0
binomial (suc n) zero = 1
binomial (suc n) (suc k) = binomial n (suc k) + binomial n k

-- bit i of m is a one
abbrev pub holds : ℕ → ℕ → Bool
holds m i = m / 2 ^ i % 2 == 1

-- a number of n bits with k ones
abbrev pub Mask : ℕ → ℕ → ℕ → Type 0
Mask n k m = (m < 2 ^ n) × (count (holds m) n ≡ k)

-- the list has all numbers of n bits with k ones and no other, in rising order
pub record Listed (n k : ℕ) (l : List ℕ) : Type 0 where
  pub many : length l ≡ binomial n k
  pub rising : (i j : ℕ) → i < j → j < length l → slice_index l i < slice_index l j
  pub sound : (i : ℕ) → i < length l → Mask n k (slice_index l i)
  pub whole : (m : ℕ) → Mask n k m → (i : ℕ) × (i < length l) × (slice_index l i ≡ m)

-- how many committees of t + 1 of the n stations there are
abbrev pub full_turn : ℕ → ℕ → ℕ
full_turn n t = binomial n (t + 1)

-- mask number c, counted round
abbrev pub mask_of : ℕ → ℕ → ℕ → ℕ
mask_of n t c = slice_index (masks n (t + 1)) (c % full_turn n t)

abbrev pub full_seats : ℕ → ℕ → ℕ → ℕ → Bool
full_seats n t c = committee_of n c (holds (mask_of n t c))
