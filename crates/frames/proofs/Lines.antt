-- Lines of hexadecimal digits: what a line without fault is, and that bytes and lines go back and forth.
use Rattle.std.proofs.Common.{◌≡◌, ℕ, ◌+◌, ◌*◌, ◌/◌, ◌%◌, ◌<◌, ◌≤◌, true, eqb, ltb, leb, List, [], ◌∷◌, ◌++◌, length, get_or, take, drop, set, Some, None, sym, refl, ap, ◌∙◌, ap₂, arith}
use Rattle.std.specs.List.{AllByRecursion}
use Rattle.std.proofs.lemmas.Bool.{ltb-true, lt-ltb, le-ltb}
use Rattle.std.proofs.lemmas.Bool.Decides.{nat_tests}
use Rattle.std.proofs.lemmas.List.{at_drop_more, drop_more, take_more_set, append_assoc}
use Rattle.frames.specs.Frames.{digit, hex, ◌and◌, nibble, first_wrong, unhex, line_fault}
use Rattle.frames.proofs.Numbers.{Bytes}
use Rattle.frames.proofs.Basics.{passed}

pub nibble-digit : (n : ℕ) → n < 16 → nibble (digit n) ≡ n
nibble-digit n h = grind (arith, nat_tests)

pub digit-nibble : (x : ℕ) → nibble x < 16 → digit (nibble x) ≡ x
digit-nibble x h = grind (arith, nat_tests)

pub unhex-hex : (bs : List ℕ) → Bytes bs → unhex (hex bs) ≡ bs
unhex-hex [] h = refl
unhex-hex (b ∷ bs) h =
    let lt = h.0 in
    let p = nibble-digit (b / 16) (omega arith) in
    let q = nibble-digit (b % 16) (omega arith) in
    ap₂ ◌∷◌ (ap₂ (λ x y. x * 16 + y) p q ∙ omega arith) (unhex-hex bs h.1)

pub length-hex : (bs : List ℕ) → length (hex bs) ≡ 2 * length bs
length-hex [] = refl
length-hex (b ∷ bs) = omega (arith, length-hex bs)

-- every character is a digit
abbrev pub Digits : List ℕ → Type 0
Digits = AllByRecursion (λ x. nibble x < 16)

pub digits_hex : (bs : List ℕ) → Bytes bs → Digits (hex bs)
digits_hex [] h = tt
digits_hex (b ∷ bs) h =
    let lt = h.0 in
    let p = nibble-digit (b / 16) (omega arith) in
    let q = nibble-digit (b % 16) (omega arith) in
    (omega arith, (omega arith, digits_hex bs h.1))

pub first_wrong_none : (i : ℕ) (l : List ℕ) → Digits l → first_wrong i l ≡ None
first_wrong_none i [] h = refl
first_wrong_none i (x ∷ xs) h = rw (lt-ltb (nibble x) 16 h.0, first_wrong) (first_wrong_none (i + 1) xs h.1)

pub first_wrong_all : (i : ℕ) (l : List ℕ) → first_wrong i l ≡ None → Digits l
first_wrong_all i [] e = tt
first_wrong_all i (x ∷ xs) e =
    let h = passed (ltb (nibble x) 16) (first_wrong (i + 1) xs) i e in
    (ltb-true (nibble x) 16 h.0, first_wrong_all (i + 1) xs h.1)

pub hex-unhex : (l : List ℕ) → Digits l → length l % 2 ≡ 0 → hex (unhex l) ≡ l
hex-unhex [] h e = refl
hex-unhex (x ∷ []) h e = absurd (omega arith)
hex-unhex (x ∷ (y ∷ zs)) h e =
    let p = h.0 in
    let q = h.1.0 in
    let b : ℕ = nibble x * 16 + nibble y in
    let hi : b / 16 ≡ nibble x = omega arith in
    let lo : b % 16 ≡ nibble y = omega arith in
    let t = hex-unhex zs h.1.1 (omega arith) in
    let c = ap digit hi ∙ digit-nibble x p in
    let d = ap digit lo ∙ digit-nibble y q in
    λ i. c i ∷ d i ∷ t i

pub bytes_unhex : (l : List ℕ) → Digits l → Bytes (unhex l)
bytes_unhex [] h = tt
bytes_unhex (x ∷ []) h = tt
bytes_unhex (x ∷ (y ∷ zs)) h = let p = h.0 in let q = h.1.0 in (omega arith, bytes_unhex zs h.1.1)

-- a line's length, as it is tested
pub sized_ok : (n : ℕ) → 2 ≤ n → n ≤ 208 → n % 2 ≡ 0 → (leb 2 n and leb n 208 and eqb (n % 2) 0) ≡ true
sized_ok n p q r = grind (arith, nat_tests)

pub sized_says : (n : ℕ) → (leb 2 n and leb n 208 and eqb (n % 2) 0) ≡ true → (2 ≤ n) × (n ≤ 208) × (n % 2 ≡ 0)
sized_says n e = (grind (arith, nat_tests), grind (arith, nat_tests), grind (arith, nat_tests))

-- what `line_fault l ≡ None` says
pub record Line (l : List ℕ) : Type 0 where
  pub size : (2 ≤ length l) × (length l ≤ 208)
  pub even : length l % 2 ≡ 0
  pub digits : Digits l

pub line_none : (l : List ℕ) → Line l → line_fault l ≡ None
line_none l f = rw (sized_ok (length l) f.size.0 f.size.1 f.even, line_fault) (first_wrong_none 0 l f.digits)

pub none_line : (l : List ℕ) → line_fault l ≡ None → Line l
none_line l e =
    let h = passed (leb 2 (length l) and leb (length l) 208 and eqb (length l % 2) 0) (first_wrong 0 l) (length l) e in
    let s = sized_says (length l) h.0 in
    record { size = (s.0, s.1); even = s.2; digits = first_wrong_all 0 l h.1 }

pub line_hex : (bs : List ℕ) → Bytes bs → 1 ≤ length bs → length bs ≤ 104 → line_fault (hex bs) ≡ None
line_hex bs h l u =
    let n = length-hex bs in
    line_none (hex bs) (record { size = omega arith; even = omega arith; digits = digits_hex bs h })

-- a line that passes is the one line of the bytes that it reads as
pub hex_of_line : (l : List ℕ) → line_fault l ≡ None → hex (unhex l) ≡ l
hex_of_line l e = let f = none_line l e in hex-unhex l f.digits f.even

pub bytes_of_line : (l : List ℕ) → line_fault l ≡ None → Bytes (unhex l)
bytes_of_line l e = bytes_unhex l (none_line l e).digits

pub length_of_line : (l : List ℕ) → line_fault l ≡ None → (1 ≤ length (unhex l)) × (length (unhex l) ≤ 104)
length_of_line l e =
    let f = none_line l e in
    omega (arith, length-hex (unhex l), ap length (hex_of_line l e))

-- one turn of a loop over a line, for code that reads it
pub wrong_stops : (l : List ℕ) (i : ℕ) → i < length l → 16 ≤ nibble (get_or l i 0) → first_wrong i (drop i l) ≡ Some i
wrong_stops l i h n =
    at_drop_more (first_wrong i) l i 0 h ∙ rw (le-ltb (nibble (get_or l i 0)) 16 n, first_wrong) refl

pub wrong_more : (l : List ℕ) (i : ℕ) → i < length l → nibble (get_or l i 0) < 16 → first_wrong i (drop i l) ≡ first_wrong (i + 1) (drop (i + 1) l)
wrong_more l i h n =
    at_drop_more (first_wrong i) l i 0 h ∙ rw (lt-ltb (nibble (get_or l i 0)) 16 n, first_wrong) refl

pub unhex_more : (l : List ℕ) (k : ℕ) → 2 * k + 1 < length l
    → unhex (drop (2 * k) l) ≡ (nibble (get_or l (2 * k) 0) * 16 + nibble (get_or l (2 * k + 1) 0)) ∷ unhex (drop (2 * (k + 1)) l)
unhex_more l k h =
    let e : 2 * k + 1 + 1 ≡ 2 * (k + 1) = omega arith in
    ap unhex (drop_more l (2 * k) 0 (omega arith) ∙ ap (λ r. get_or l (2 * k) 0 ∷ r) (drop_more l (2 * k + 1) 0 h ∙ ap (λ n. get_or l (2 * k + 1) 0 ∷ drop n l) e))

-- `out` holds the first k bytes, and the next is written
pub unhex-turn : (l out : List ℕ) (k a b : ℕ) → 2 * k + 1 < length l → k < length out → a ≡ nibble (get_or l (2 * k) 0) → b ≡ nibble (get_or l (2 * k + 1) 0)
    → take k out ++ unhex (drop (2 * k) l) ≡ unhex l → take (k + 1) (set out k (a * 16 + b)) ++ unhex (drop (2 * (k + 1)) l) ≡ unhex l
unhex-turn l out k a b h o p q e =
    ap (λ f. f ++ unhex (drop (2 * (k + 1)) l)) (take_more_set out k (a * 16 + b) o)
    ∙ append_assoc (take k out) ((a * 16 + b) ∷ []) (unhex (drop (2 * (k + 1)) l))
    ∙ ap₂ (λ x y. take k out ++ (x * 16 + y) ∷ unhex (drop (2 * (k + 1)) l)) p q
    ∙ ap (λ r. take k out ++ r) (sym (unhex_more l k h)) ∙ e
