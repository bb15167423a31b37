-- Sets of stations as tests, how many pass, and when committees cover every set of faulty stations.
use Rattle.std.specs.Prelude.{◌≡◌, ℕ, zero, suc, ◌+◌, ◌<◌, ◌≤◌, Bool, true, cond, ◌&&◌, ◌≢◌, nat_le, nat_lt}

-- how many i below n pass the test
abbrev pub count : (ℕ → Bool) → ℕ → ℕ
count f zero = 0
count f (suc n) = cond (f n) 1 0 + count f n

-- no station passes both
abbrev pub Apart : (ℕ → Bool) → (ℕ → Bool) → Type 0
Apart f g = (i : ℕ) → f i ≡ true → g i ≢ true

-- among any `turn` numbers in a row up to the top, some committee has nobody of a set of at most t of the n stations
abbrev pub Covers : ℕ → ℕ → ℕ → ℕ → (ℕ → ℕ → Bool) → Type 0
Covers n t turn top seats =
    (a : ℕ) (bad : ℕ → Bool) → count bad n ≤ t → a + turn ≤ top + 1 →
    (c : ℕ) × (a ≤ c) × (c < a + turn) × Apart (seats c) bad

-- the highest number of a committee
abbrev pub last_number : ℕ
last_number = 999999

-- the committee of number c: those of the n stations that pass, and nobody above the highest number
abbrev pub committee_of : ℕ → ℕ → (ℕ → Bool) → ℕ → Bool
committee_of n c f i = nat_le c last_number && (nat_lt i n && f i)
