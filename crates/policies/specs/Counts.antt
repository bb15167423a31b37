-- How many numbers below a bound pass a test, and who sits in a committee.
use Rattle.std.specs.Prelude.{◌≡◌, ℕ, zero, suc, ◌+◌, ◌*◌, ◌/◌, ◌%◌, ◌<◌, ◌≤◌, Bool, true, false, cond, ◌&&◌, ◌||◌, ◌≢◌, nat_eq, nat_lt, refl, Decides}
use Rattle.std.proofs.Common.{sym, ap, ◌∙◌, ⊎_elim, mul-le-mul_left, mul-suc, add-mul, not-suc-le-zero, arith}
use Rattle.std.proofs.Math.Nat.{div-add-mod}
use Rattle.std.proofs.lemmas.Bool.{cases_order, cases_eq, cases_Bool, false_from_ne_true, ne_eqb, lt-ltb, le-leb, both_ways}
use Rattle.std.proofs.lemmas.Bool.Decides.{Decides-below_or}
use Rattle.policies.specs.Seats.{count, last_number, committee_of}
use Rattle.policies.specs.Rotating.{some}

abbrev pub bit : Bool → ℕ
bit b = cond b 1 0

-- two numbers less than n apart with one remainder are equal
pub near : (n x y : ℕ) → x % n ≡ y % n → x < y + n → y < x + n → x ≡ y
near n x y e h k =
    let a = div-add-mod x n in
    let b = div-add-mod y n in
    ⊎_elim
    (λ q. sym a ∙ ap (λ z. n * z + x % n) q ∙ ap (λ z. n * (y / n) + z) e ∙ b)
    (⊎_elim
    (λ (l : x / n < y / n). let p = mul-le-mul_left n l in let s = mul-suc n (x / n) in let z : ⊥ = omega arith in absurd z)
    (λ (l : y / n < x / n). let p = mul-le-mul_left n l in let s = mul-suc n (y / n) in let z : ⊥ = omega arith in absurd z))
    (cases_order (x / n) (y / n))

bit_le_one : (b : Bool) → bit b ≤ 1
bit_le_one b = grind arith

bit_of_or : (x y : Bool) → bit (x || y) ≤ bit x + bit y
bit_of_or x y = grind arith

bit_apart : (x y : Bool) → (x ≡ true → y ≢ true) → bit (x || y) ≡ bit x + bit y
bit_apart x y h = grind (arith, h)

bit_mono : (x y : Bool) → (x ≡ true → y ≡ true) → bit x ≤ bit y
bit_mono x y h = grind (arith, h)

pub count_same : (f g : ℕ → Bool) (n : ℕ) → ((i : ℕ) → i < n → f i ≡ g i) → count f n ≡ count g n
count_same f g zero h = refl
count_same f g (suc n) h = grind (arith, h n (omega arith), count_same f g n (λ i l. h i (omega arith)))

pub count_mono : (f g : ℕ → Bool) (n : ℕ) → ((i : ℕ) → f i ≡ true → g i ≡ true) → count f n ≤ count g n
count_mono f g zero h = omega arith
count_mono f g (suc n) h = omega (arith, bit_mono (f n) (g n) (h n), count_mono f g n h)

-- everything passes
pub count_all : (n : ℕ) → count (λ _. true) n ≡ n
count_all zero = refl
count_all (suc n) = omega (arith, count_all n)

count_or_le : (f g : ℕ → Bool) (n : ℕ) → count (λ i. f i || g i) n ≤ count f n + count g n
count_or_le f g zero = omega arith
count_or_le f g (suc n) = omega (arith, bit_of_or (f n) (g n), count_or_le f g n)

pub count_or : (f g : ℕ → Bool) (n : ℕ) → ((i : ℕ) → i < n → f i ≡ true → g i ≢ true) → count (λ i. f i || g i) n ≡ count f n + count g n
count_or f g zero h = refl
count_or f g (suc n) h = omega (arith, bit_apart (f n) (g n) (h n (omega arith)), count_or f g n (λ i l. h i (omega arith)))

-- nothing passes
pub count_none : (f : ℕ → Bool) (n : ℕ) → ((i : ℕ) → i < n → f i ≡ false) → count f n ≡ 0
count_none f zero h = refl
count_none f (suc n) h = grind (arith, h n (omega arith), count_none f n (λ i l. h i (omega arith)))

-- at most one passes
pub count_once : (f : ℕ → Bool) (n : ℕ) → ((i j : ℕ) → i < n → j < n → f i ≡ true → f j ≡ true → i ≡ j) → count f n ≤ 1
count_once f zero h = omega arith
count_once f (suc n) h = ⊎_elim
    (λ (e : f n ≡ true).
    let none : count f n ≡ 0 = count_none f n (λ i l. false_from_ne_true (f i) (λ t. let z : i ≡ n = h i n (omega arith) (omega arith) t e in let w : ⊥ = omega arith in w)) in
    omega (arith, bit_le_one (f n)))
    (λ (e : f n ≡ false). grind (arith, count_once f n (λ i j l k. h i j (omega arith) (omega arith))))
    (cases_Bool (f n))

-- exactly one number is a
pub count_is : (a n : ℕ) → a < n → count (λ i. nat_eq a i) n ≡ 1
count_is a zero h = absurd (not-suc-le-zero h)
count_is a (suc n) h = ⊎_elim
    (λ (e : a ≡ n). grind (arith, count_none (λ i. nat_eq a i) n (λ i l. ne_eqb a i (λ q. let w : ⊥ = omega arith in w))))
    (λ (e : a ≡ n → ⊥). let l : a < n = omega (arith, e) in grind (arith, count_is a n l))
    (cases_eq a n)

-- fewer than n pass, so one does not
pub one_fails : (f : ℕ → Bool) (n : ℕ) → count f n < n → (k : ℕ) × (k < n) × (f k ≡ false)
one_fails f zero h = absurd (not-suc-le-zero h)
one_fails f (suc n) h = ⊎_elim
    (λ (e : f n ≡ true). let r = one_fails f n (grind arith) in (r.0, omega (arith, r.1), r.2))
    (λ (e : f n ≡ false). (n, omega arith, e))
    (cases_Bool (f n))

-- some of k tests passes
some_decides : (f : ℕ → Bool) (k : ℕ) → Decides (some f k) ((j : ℕ) × (j < k) × (f j ≡ true))
some_decides f = Decides-below_or f (λ j. f j ≡ true) (some f) (λ j. (λ e. e, λ e. e)) refl (λ _. refl)

-- a test that some of k tests passes
pub some_here : (f : ℕ → Bool) (k j : ℕ) → j < k → f j ≡ true → some f k ≡ true
some_here f k j h e = (some_decides f k).1 (j, h, e)

pub some_at : (f : ℕ → Bool) (k : ℕ) → some f k ≡ true → (j : ℕ) × (j < k) × (f j ≡ true)
some_at f k = (some_decides f k).0

pub some_none : (f : ℕ → Bool) (k : ℕ) → some f k ≡ false → (j : ℕ) → j < k → f j ≡ false
some_none f k e j h = false_from_ne_true (f j) (λ t. both_ways (some f k) e (some_here f k j h t))

count_and : (b : Bool) (f : ℕ → Bool) (n c : ℕ) → count f n ≤ c → count (λ i. b && f i) n ≤ bit b * c
count_and b f n c h = grind (arith, count_none (λ i. false) n (λ _ _. refl))

-- each of k tests is passed at most c times, and only those that w takes count
pub count_picked : (f : ℕ → ℕ → Bool) (w : ℕ → Bool) (n k c : ℕ) → ((j : ℕ) → count (f j) n ≤ c) → count (λ i. some (λ j. w j && f j i) k) n ≤ count w k * c
count_picked f w n zero c h = omega (arith, count_none (λ i. false) n (λ _ _. refl))
count_picked f w n (suc k) c h =
    let a = count_or_le (λ i. w k && f k i) (λ i. some (λ j. w j && f j i) k) n in
    let b = count_picked f w n k c h in
    let d = count_and (w k) (f k) n c (h k) in
    let s = add-mul (bit (w k)) (count w k) c in
    omega arith

-- up to the highest number, a committee has all of the n stations that pass
pub committee_count : (n c : ℕ) (f : ℕ → Bool) → c ≤ last_number → count (committee_of n c f) n ≡ count f n
committee_count n c f h =
    count_same (committee_of n c f) f n
    (λ i l. ap (λ b. b && (nat_lt i n && f i)) (le-leb c last_number h) ∙ ap (λ b. b && f i) (lt-ltb i n l))

pub committee_seat : (n c i : ℕ) (f : ℕ → Bool) → committee_of n c f i ≡ true → (i < n) × (f i ≡ true)
committee_seat n c i f e =
    (grind arith, grind arith)
