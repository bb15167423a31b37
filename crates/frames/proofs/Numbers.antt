-- Numbers as bytes and back: what is written is read, and what is read was written.
use Rattle.std.proofs.Common.{◌≡◌, ℕ, zero, suc, ◌+◌, ◌*◌, ◌/◌, ◌%◌, ◌^◌, ◌<◌, ◌≤◌, List, [], ◌∷◌, ◌++◌, length, take, drop, sym, refl, ap, ◌∙◌, ap₂, add-zero, add_assoc, mod-lt, arith, lit<}
use Rattle.std.specs.List.{AllByRecursion}
use Rattle.std.proofs.lemmas.List.{get_or-drop, take-append-drop, drop-drop, drop_more}
use Rattle.std.proofs.ByRecursion.{All-from_get_or}
use Rattle.frames.specs.Bytes.{byte, be2, be4, be8}
use Rattle.frames.specs.Frames.{at, num2, num4, num8}

-- every element is a byte
abbrev pub Bytes : List ℕ → Type 0
Bytes = AllByRecursion (λ x. x < 256)

-- w elements from the place i on
abbrev pub read : ℕ → ℕ → List ℕ → List ℕ
read zero i bs = []
read (suc w) i bs = at bs i ∷ read w (i + 1) bs

pub byte_lt : (k x : ℕ) → byte k x < 256
byte_lt k x = mod-lt (x / 256 ^ k) (lit< tt)

pub be2_bytes : (x : ℕ) → Bytes (be2 x)
be2_bytes x = (byte_lt 1 x, (byte_lt 0 x, tt))

pub be4_bytes : (x : ℕ) → Bytes (be4 x)
be4_bytes x = (byte_lt 3 x, (byte_lt 2 x, be2_bytes x))

pub be8_bytes : (x : ℕ) → Bytes (be8 x)
be8_bytes x = (byte_lt 7 x, (byte_lt 6 x, (byte_lt 5 x, (byte_lt 4 x, be4_bytes x))))

pub at_lt : (bs : List ℕ) (i : ℕ) → Bytes bs → at bs i < 256
at_lt [] i h = omega arith
at_lt (b ∷ bs) zero h = h.0
at_lt (b ∷ bs) (suc i) h = at_lt bs i h.1

-- for code: a list whose every element is known to be a byte
pub bytes_from : (bs : List ℕ) → ((i : ℕ) → at bs i < 256) → Bytes bs
bytes_from bs f = All-from_get_or (λ x. x < 256) bs 0 (λ i _. f i)

-- the halves of a number's bytes
pub be4-join : (hi lo : ℕ) → lo < 65536 → be4 (hi * 65536 + lo) ≡ be2 hi ++ be2 lo
be4-join hi lo h =
    let x : ℕ = hi * 65536 + lo in
    let p₃ : byte 3 x ≡ byte 1 hi = omega arith in
    let p₂ : byte 2 x ≡ byte 0 hi = omega arith in
    let p₁ : byte 1 x ≡ byte 1 lo = omega arith in
    let p₀ : byte 0 x ≡ byte 0 lo = omega arith in
    cc

pub be8-join : (hi lo : ℕ) → lo < 4294967296 → be8 (hi * 4294967296 + lo) ≡ be4 hi ++ be4 lo
be8-join hi lo h =
    let x : ℕ = hi * 4294967296 + lo in
    let p₇ : byte 7 x ≡ byte 3 hi = omega arith in
    let p₆ : byte 6 x ≡ byte 2 hi = omega arith in
    let p₅ : byte 5 x ≡ byte 1 hi = omega arith in
    let p₄ : byte 4 x ≡ byte 0 hi = omega arith in
    let p₃ : byte 3 x ≡ byte 3 lo = omega arith in
    let p₂ : byte 2 x ≡ byte 2 lo = omega arith in
    let p₁ : byte 1 x ≡ byte 1 lo = omega arith in
    let p₀ : byte 0 x ≡ byte 0 lo = omega arith in
    cc

-- for code that writes one half after the other

pub be4_split : (x : ℕ) → be4 x ≡ be2 (x / 65536) ++ be2 (x % 65536)
be4_split x =
    let e : x ≡ x / 65536 * 65536 + x % 65536 = omega arith in
    ap be4 e ∙ be4-join (x / 65536) (x % 65536) (omega arith)

pub be8_split : (x : ℕ) → be8 x ≡ be4 (x / 4294967296) ++ be4 (x % 4294967296)
be8_split x =
    let e : x ≡ x / 4294967296 * 4294967296 + x % 4294967296 = omega arith in
    ap be8 e ∙ be8-join (x / 4294967296) (x % 4294967296) (omega arith)

-- the number that a list begins with
pub num2-be2 : (x : ℕ) (r : List ℕ) → x < 2 ^ 16 → num2 (be2 x ++ r) 0 ≡ x
num2-be2 x r h = omega arith

pub num4-be4 : (x : ℕ) (r : List ℕ) → x < 2 ^ 32 → num4 (be4 x ++ r) 0 ≡ x
num4-be4 x r h =
    let p = num2-be2 (x / 65536) r (omega arith) in
    let q = num2-be2 (x % 65536) r (omega arith) in
    ap (λ l. num4 (l ++ r) 0) (be4_split x) ∙ ap₂ (λ a b. a * 65536 + b) p q ∙ omega arith

pub num8-be8 : (x : ℕ) (r : List ℕ) → x < 2 ^ 64 → num8 (be8 x ++ r) 0 ≡ x
num8-be8 x r h =
    let p = num4-be4 (x / 4294967296) r (omega arith) in
    let q = num4-be4 (x % 4294967296) r (omega arith) in
    ap (λ l. num8 (l ++ r) 0) (be8_split x) ∙ ap₂ (λ a b. a * 4294967296 + b) p q ∙ omega arith

pub num8-drop : (bs : List ℕ) (i j : ℕ) → num8 (drop i bs) j ≡ num8 bs (i + j)
num8-drop bs i j = simp (get_or-drop, add_assoc)

pub num8-at : (bs r : List ℕ) (i x : ℕ) → x < 2 ^ 64 → drop i bs ≡ be8 x ++ r → num8 bs i ≡ x
num8-at bs r i x h e = simp add-zero at (sym (num8-drop bs i 0)) ∙ ap (λ l. num8 l 0) e ∙ num8-be8 x r h

-- what bytes read is below its limit, and its bytes are they
pub num2_lt : (bs : List ℕ) (i : ℕ) → Bytes bs → num2 bs i < 2 ^ 16
num2_lt bs i h = omega (arith, at_lt bs i h, at_lt bs (i + 1) h)

pub num4_lt : (bs : List ℕ) (i : ℕ) → Bytes bs → num4 bs i < 2 ^ 32
num4_lt bs i h = omega (arith, num2_lt bs i h, num2_lt bs (i + 2) h)

pub be2-num2 : (bs : List ℕ) (i : ℕ) → Bytes bs → be2 (num2 bs i) ≡ read 2 i bs
be2-num2 bs i h =
    let p = at_lt bs i h in
    let q = at_lt bs (i + 1) h in
    let e₁ : byte 1 (num2 bs i) ≡ at bs i = omega arith in
    let e₀ : byte 0 (num2 bs i) ≡ at bs (i + 1) = omega arith in
    cc

pub be4-num4 : (bs : List ℕ) (i : ℕ) → Bytes bs → be4 (num4 bs i) ≡ read 4 i bs
be4-num4 bs i h =
    be4-join (num2 bs i) (num2 bs (i + 2)) (num2_lt bs (i + 2) h)
    ∙ ap₂ (λ a b. a ++ b) (be2-num2 bs i h) (be2-num2 bs (i + 2) h) ∙ simp add_assoc

pub be8-num8 : (bs : List ℕ) (i : ℕ) → Bytes bs → be8 (num8 bs i) ≡ read 8 i bs
be8-num8 bs i h =
    be8-join (num4 bs i) (num4 bs (i + 4)) (num4_lt bs (i + 4) h)
    ∙ ap₂ (λ a b. a ++ b) (be4-num4 bs i h) (be4-num4 bs (i + 4) h) ∙ simp add_assoc

pub take-read : (w i : ℕ) (bs : List ℕ) → i + w ≤ length bs → take w (drop i bs) ≡ read w i bs
take-read zero i bs h = refl
take-read (suc w) i bs h =
    ap (take (suc w)) (drop_more bs i 0 (omega arith)) ∙ ap (λ l. at bs i ∷ l) (take-read w (i + 1) bs (omega arith))

-- a list from a place on, with its next w elements written out
pub drop-read : (w i : ℕ) (bs : List ℕ) → i + w ≤ length bs → drop i bs ≡ read w i bs ++ drop (i + w) bs
drop-read w i bs h =
    sym (take-append-drop w (drop i bs)) ∙ ap₂ (λ a b. a ++ b) (take-read w i bs h) (drop-drop w i bs)
