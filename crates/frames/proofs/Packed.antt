-- Frames in a place of 104 bytes: what two parts make, and that nothing is lost.
use Rattle.std.proofs.Common.{◌≡◌, ℕ, zero, suc, ◌+◌, ◌-◌, ◌≤◌, min, List, [], ◌∷◌, ◌++◌, length, take, drop, replicate, sym, refl, ap, ◌∙◌, ap₂, zero-add, arith}
use lib.Seq.{paste}
use Rattle.std.proofs.Math.Seq.{take-nil}
use Rattle.std.proofs.lemmas.List.{drop_at, drop-drop, drop-replicate, length-append, length-take-le, take_all, take_at, take_min}
use Rattle.frames.specs.Packed.{packed, unpacked}

-- bytes that fit are read back
pub unpacked-packed : (bs : List ℕ) → length bs ≤ 104 → unpacked (packed bs) ≡ bs
unpacked-packed bs h =
    let m : min (length bs) 104 ≡ length bs = omega arith in
    ap (λ n. take n (bs ++ replicate (104 - length bs) 0)) m ∙ take_at bs (replicate (104 - length bs) 0) (length bs) refl

pub take_least : {X : Type 0} (n : ℕ) (ys : List X) → take n ys ≡ take (min (length ys) n) ys
take_least n ys = sym (take_min n ys) ∙ (let e : min n (length ys) ≡ min (length ys) n = omega arith in ap (λ k. take k ys) e)

-- a list cut off, by its two parts
take_two : (n : ℕ) (xs ys : List ℕ) → take n (xs ++ ys) ≡ take (min (length xs) n) xs ++ take (min (length ys) (n - min (length xs) n)) ys
take_two zero xs ys =
    let m : min (length xs) 0 ≡ 0 = omega arith in
    let k : min (length ys) (0 - min (length xs) 0) ≡ 0 = omega arith in
    rw (k, m) refl
take_two (suc n) [] ys =
    let k : min (length ys) (suc n - min 0 (suc n)) ≡ min (length ys) (suc n) = omega arith in
    rw k (take_least (suc n) ys ∙ sym (ap (λ r. r ++ take (min (length ys) (suc n)) ys) (take-nil (min 0 (suc n)))))
take_two (suc n) (x ∷ xs) ys =
    let m : min (suc (length xs)) (suc n) ≡ suc (min (length xs) n) = omega arith in
    let k : suc n - suc (min (length xs) n) ≡ n - min (length xs) n = omega arith in
    rw (m, k) (ap (λ r. x ∷ r) (take_two n xs ys))

-- some bytes, written over zeros behind others
over_zeros : (n : ℕ) (xs ys : List ℕ) → length xs + length ys ≤ n
    → paste (xs ++ replicate (n - length xs) 0) (length xs) ys (length ys) ≡ (xs ++ ys) ++ replicate (n - (length xs + length ys)) 0
over_zeros n xs ys h =
    let k : n - length xs - length ys ≡ n - (length xs + length ys) = omega arith in
    let t : take (length xs) (xs ++ replicate (n - length xs) 0) ≡ xs = take_at xs (replicate (n - length xs) 0) (length xs) refl in
    let d : drop (length xs + length ys) (xs ++ replicate (n - length xs) 0) ≡ replicate (n - (length xs + length ys)) 0 =
    sym (drop-drop (length ys) (length xs) (xs ++ replicate (n - length xs) 0))
    ∙ ap (drop (length ys)) (drop_at xs (replicate (n - length xs) 0) (length xs) refl)
    ∙ drop-replicate (length ys) (n - length xs) 0 ∙ ap (λ m. replicate m 0) k in
    λ i. (t i ++ take_all (length ys) ys (omega arith) i) ++ d i

-- what `join` writes: f and g are what there is room for
pub joined : (front back f g x y : List ℕ) → f ≡ take (min 104 (length front)) front → g ≡ take (min (104 - length f) (length back)) back
    → x ≡ paste (replicate 104 0) 0 f (length f) → y ≡ paste x (length f) g (length g)
    → record { len = length f + length g; bytes = y } ≡ packed (take 104 (front ++ back))
joined front back f g x y a m p q =
    let lf : length f ≡ min 104 (length front) = ap length a ∙ length-take-le (min 104 (length front)) front (omega arith) in
    let lg : length g ≡ min (104 - length f) (length back) = ap length m ∙ length-take-le (min (104 - length f) (length back)) back (omega arith) in
    let n : min 104 (length front) ≡ min (length front) 104 = omega arith in
    let k : min (104 - length f) (length back) ≡ min (length back) (104 - min (length front) 104) = omega arith in
    let whole : take 104 (front ++ back) ≡ f ++ g = take_two 104 front back ∙ sym (ap₂ ◌++◌ (a ∙ ap (λ u. take u front) n) (m ∙ ap (λ u. take u back) k)) in
    let size : length (take 104 (front ++ back)) ≡ length f + length g = ap length whole ∙ length-append f g in
    let first : x ≡ f ++ replicate (104 - length f) 0 = p ∙ over_zeros 104 [] f (omega arith) ∙ ap (λ n. f ++ replicate (104 - n) 0) (zero-add (length f)) in
    let bytes : y ≡ (f ++ g) ++ replicate (104 - (length f + length g)) 0 = q ∙ ap (λ u. paste u (length f) g (length g)) first ∙ over_zeros 104 f g (omega arith) in
    λ i. record {
      len = sym size i;
      bytes = (bytes ∙ ap₂ (λ u v. u ++ replicate (104 - v) 0) (sym whole) (sym size)) i;
    }
