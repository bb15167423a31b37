-- Lines as they are read and written by code: one digit, one turn of a loop, and the whole.
use Rattle.std.proofs.Common.{◌≡◌, ℕ, zero, suc, ◌+◌, ◌-◌, ◌*◌, ◌/◌, ◌%◌, ◌<◌, ◌≤◌, Bool, true, false, cond, eqb, ltb, leb, List, [], ◌∷◌, ◌++◌, length, get_or, take, drop, set, replicate, Some, None, Ok, Err, Option, Result, sym, refl, ap, subst, ◌∙◌, ap₂, add-one, arith, lit<}
use Rattle.std.proofs.lemmas.Bool.{ltb-true, ltb-false}
use Rattle.std.proofs.lemmas.List.{append_assoc, append-nil, drop_all, drop_at, drop-drop, drop-replicate, drop-set-lt, get_or-drop, get_or-take, length-append, length-drop, length-set, length-take-le, take_all, take_at, take-append-drop, take_more}
use Rattle.std.specs.Simd.{first_chunks}
use Rattle.base.specs.declared.fault.Fault.{Fault}
use Rattle.base.specs.declared.refusal.Refusal.TheVariants.{BadLine}
use Rattle.base.specs.Refusals.{fault_at}
use Rattle.frames.specs.declared.bytes.FrameBytes.{FrameBytes}
use Rattle.frames.specs.Frames.{◌and◌, nibble, digit, first_wrong, unhex, hex, line_fault}
use Rattle.frames.specs.Packed.{packed, Sized, digit_read, line_read, OneLine}
use Rattle.frames.proofs.Lines.{wrong_stops, wrong_more, unhex-turn, length-hex, sized_ok, sized_says, line_hex, unhex-hex, hex_of_line}
use Rattle.frames.proofs.Numbers.{Bytes}

-- one digit: x is the character y of a line

pub digit_ok : (x y place d : ℕ) → x ≡ y → Ok d ≡ digit_read x place → (nibble y < 16) × (d ≡ nibble y)
digit_ok x y place d same e = go (ltb (nibble y) 16) refl (subst (λ z. Ok d ≡ digit_read z place) same e)
  where
    go : (b : Bool) → ltb (nibble y) 16 ≡ b → ◌≡◌ {A = Result ℕ Fault} (Ok d) (cond b (Ok (nibble y)) (Err (fault_at BadLine place))) → (nibble y < 16) × (d ≡ nibble y)
    go true t e = (ltb-true (nibble y) 16 t, cc)
    go false t e = absurd (let z : ◌≡◌ {A = ℕ} 0 1 = cc in omega arith)

pub digit_err : (x y place : ℕ) (f : Fault) → x ≡ y → Err f ≡ digit_read x place → (16 ≤ nibble y) × (f ≡ fault_at BadLine place)
digit_err x y place f same e = go (ltb (nibble y) 16) refl (subst (λ z. Err f ≡ digit_read z place) same e)
  where
    go : (b : Bool) → ltb (nibble y) 16 ≡ b → ◌≡◌ {A = Result ℕ Fault} (Err f) (cond b (Ok (nibble y)) (Err (fault_at BadLine place))) → (16 ≤ nibble y) × (f ≡ fault_at BadLine place)
    go true t e = absurd (let z : ◌≡◌ {A = ℕ} 0 1 = cc in omega arith)
    go false t e = (ltb-false (nibble y) 16 t, cc)

-- reading

-- what comes of a line with this fault
abbrev outcome : List ℕ → Option ℕ → Result FrameBytes Fault
outcome l o = elim o [ None ↦ Ok (packed (unhex l)) | Some place ↦ Err (fault_at BadLine place) ]

sized_fault : (l : List ℕ) → Sized l → line_fault l ≡ first_wrong 0 l
sized_fault l s = rw (sized_ok (length l) s.low s.high s.even, line_fault) refl

pub read_unsized : (l : List ℕ) (x : Fault) → x ≡ fault_at BadLine (length l) → (Sized l → ⊥) → line_read l ≡ Err x
unfolding line_read
read_unsized l x is h = sym (ap Err is ∙ sym (ap (outcome l) (go (leb 2 (length l) and leb (length l) 208 and eqb (length l % 2) 0) refl)))
  where
    go : (b : Bool) → (leb 2 (length l) and leb (length l) 208 and eqb (length l % 2) 0) ≡ b → line_fault l ≡ Some (length l)
    go true e = let s = sized_says (length l) e in absurd (h (record { low = s.0; high = s.1; even = s.2 }))
    go false e = rw (e, line_fault) refl

pub read_wrong : (l : List ℕ) (place : ℕ) (r : Result FrameBytes Fault) → Sized l → first_wrong 0 l ≡ Some place → r ≡ Err (fault_at BadLine place) → r ≡ line_read l
unfolding line_read
read_wrong l place r s e q = q ∙ sym (ap (outcome l) (sized_fault l s ∙ e))

pub read_right : (l : List ℕ) → Sized l → first_wrong 0 l ≡ None → line_read l ≡ Ok (packed (unhex l))
unfolding line_read
read_right l s e = ap (outcome l) (sized_fault l s ∙ e)

-- a line in pairs of digits
twos_at : (m k : ℕ) (xs d : List ℕ) → k < m → get_or (first_chunks 2 m xs) k d ≡ take 2 (drop (2 * k) xs)
twos_at zero k xs d h = absurd (omega arith)
twos_at (suc m) zero xs d h = refl
twos_at (suc m) (suc k) xs d h =
    let e : 2 + 2 * k ≡ 2 * suc k = omega arith in
    twos_at m k (drop 2 xs) d (omega arith) ∙ ap (take 2) (drop-drop (2 * k) 2 xs ∙ ap (λ n. drop n xs) e)

pub digits_of : (l : List ℕ) (ps : List (List ℕ)) (k : ℕ) (d : List ℕ) → ps ≡ first_chunks 2 (length l / 2) l → k < length l / 2
    → (get_or (get_or ps k d) 0 0 ≡ get_or l (2 * k) 0) × (get_or (get_or ps k d) 1 0 ≡ get_or l (2 * k + 1) 0)
digits_of l ps k d e h =
    let two : get_or ps k d ≡ take 2 (drop (2 * k) l) = ap (λ x. get_or x k d) e ∙ twos_at (length l / 2) k l d h in
    let at : (j : ℕ) → j < 2 → get_or (get_or ps k d) j 0 ≡ get_or l (2 * k + j) 0 =
    λ j b. ap (λ x. get_or x j 0) two ∙ get_or-take 2 (drop (2 * k) l) j 0 b ∙ get_or-drop (2 * k) l j 0 in
    let z : 2 * k + 0 ≡ 2 * k = omega arith in
    (at 0 (lit< tt) ∙ ap (λ n. get_or l n 0) z, at 1 (lit< tt))

-- k bytes are read: their digits are right, they stand in front and zeros behind
pub record Begun (l out : List ℕ) (k : ℕ) : Type 0 where
  pub right : first_wrong (2 * k) (drop (2 * k) l) ≡ first_wrong 0 l
  pub front : take k out ++ unhex (drop (2 * k) l) ≡ unhex l
  pub behind : drop k out ≡ replicate (104 - k) 0
  pub size : length out ≡ 104

-- the first digit of the next byte is wrong, or its second
pub begun_first : (l out : List ℕ) (k : ℕ) → Begun l out k → 2 * k < length l → 16 ≤ nibble (get_or l (2 * k) 0) → first_wrong 0 l ≡ Some (2 * k)
begun_first l out k b h n = sym b.right ∙ wrong_stops l (2 * k) h n

pub begun_second : (l out : List ℕ) (k : ℕ) → Begun l out k → 2 * k + 1 < length l → nibble (get_or l (2 * k) 0) < 16 → 16 ≤ nibble (get_or l (2 * k + 1) 0)
    → first_wrong 0 l ≡ Some (2 * k + 1)
begun_second l out k b h n m = sym b.right ∙ wrong_more l (2 * k) (omega arith) n ∙ wrong_stops l (2 * k + 1) h m

pub begun_more : (l out : List ℕ) (k x y : ℕ) → Begun l out k → 2 * k + 1 < length l → k < 104
    → (nibble (get_or l (2 * k) 0) < 16) × (x ≡ nibble (get_or l (2 * k) 0)) → (nibble (get_or l (2 * k + 1) 0) < 16) × (y ≡ nibble (get_or l (2 * k + 1) 0))
    → Begun l (set out k (x * 16 + y)) (k + 1)
begun_more l out k x y b h o p q =
    let e : 2 * k + 1 + 1 ≡ 2 * (k + 1) = omega arith in
    record {
      right = ap (λ i. first_wrong i (drop i l)) (sym e) ∙ sym (wrong_more l (2 * k + 1) h q.0) ∙ sym (wrong_more l (2 * k) (omega arith) p.0) ∙ b.right;
      front = unhex-turn l out k x y h (omega (arith, b.size)) p.1 q.1 b.front;
      behind = drop-set-lt (k + 1) out k (x * 16 + y) (omega arith) ∙ sym (drop-drop 1 k out) ∙ ap (drop 1) b.behind
          ∙ drop-replicate 1 (104 - k) 0 ∙ (let e : 104 - k - 1 ≡ 104 - (k + 1) = omega arith in ap (λ n. replicate n 0) e);
      size = simp length-set b.size;
    }

pub begun_all : (l out : List ℕ) (k size : ℕ) → Sized l → Begun l out k → k ≡ length l / 2 → size ≡ k → Ok (record { len = size; bytes = out }) ≡ line_read l
begun_all l out k last s b h z =
    let none : drop (2 * k) l ≡ [] = drop_all (2 * k) l (omega (arith, s.even)) in
    let bytes : take k out ≡ unhex l = sym (append-nil (take k out)) ∙ ap (λ r. take k out ++ unhex r) (sym none) ∙ b.front in
    let size : k ≡ length (unhex l) = sym (length-take-le k out (omega (arith, b.size, s.high))) ∙ ap length bytes in
    let whole : out ≡ unhex l ++ replicate (104 - length (unhex l)) 0 =
    sym (take-append-drop k out) ∙ ap₂ (λ x y. x ++ y) bytes (b.behind ∙ ap (λ n. replicate (104 - n) 0) size) in
    sym (read_right l s (sym b.right ∙ ap (first_wrong (2 * k)) none) ∙ sym (λ i. Ok (record { len = (z ∙ size) i; bytes = whole i })))

-- writing

pub hex_append : (xs ys : List ℕ) → hex (xs ++ ys) ≡ hex xs ++ hex ys
hex_append [] ys = refl
hex_append (x ∷ xs) ys = ap (λ r. digit (x / 16) ∷ digit (x % 16) ∷ r) (hex_append xs ys)

two_set : (b : List ℕ) (i x y : ℕ) → suc i < length b → set (set b i x) (suc i) y ≡ take i b ++ x ∷ y ∷ drop (suc (suc i)) b
two_set [] i x y h = absurd (omega arith)
two_set (a ∷ []) i x y h = absurd (omega arith)
two_set (a ∷ (c ∷ b)) zero x y h = refl
two_set (a ∷ (c ∷ b)) (suc i) x y h = ap (λ r. a ∷ r) (two_set (c ∷ b) i x y (omega arith))

-- the first k bytes stand in front as digits, and what lay behind them is there
abbrev pub Written : List ℕ → List ℕ → List ℕ → ℕ → Type 0
Written bs buffer out k = out ≡ hex (take k bs) ++ drop (2 * k) buffer

pub written_more : (bs buffer out : List ℕ) (k : ℕ) → Written bs buffer out k → k < length bs → 2 * length bs ≤ length buffer
    → Written bs buffer (set (set out (2 * k) (digit (get_or bs k 0 / 16))) (2 * k + 1) (digit (get_or bs k 0 % 16))) (k + 1)
written_more bs buffer out k e h room =
    let x : ℕ = digit (get_or bs k 0 / 16) in
    let y : ℕ = digit (get_or bs k 0 % 16) in
    let front : length (hex (take k bs)) ≡ 2 * k = length-hex (take k bs) ∙ ap (λ n. 2 * n) (length-take-le k bs (omega arith)) in
    let size : suc (2 * k) < length out = rw e (simp (length-append, length-drop) (omega (arith, front))) in
    let t : take (2 * k) out ≡ hex (take k bs) = ap (take (2 * k)) e ∙ take_at (hex (take k bs)) (drop (2 * k) buffer) (2 * k) front in
    let d : drop (suc (suc (2 * k))) out ≡ drop (2 * (k + 1)) buffer =
    (let q : suc (suc (2 * k)) ≡ 2 * k + 2 = omega arith in ap (λ n. drop n out) q) ∙ sym (drop-drop 2 (2 * k) out)
    ∙ ap (drop 2) (ap (drop (2 * k)) e ∙ drop_at (hex (take k bs)) (drop (2 * k) buffer) (2 * k) front)
    ∙ drop-drop 2 (2 * k) buffer ∙ (let q : 2 * k + 2 ≡ 2 * (k + 1) = omega arith in ap (λ n. drop n buffer) q) in
    ap (λ n. set (set out (2 * k) x) n y) (add-one (2 * k)) ∙ two_set out (2 * k) x y size ∙ ap₂ (λ a b. a ++ x ∷ y ∷ b) t d
    ∙ sym (ap (λ r. r ++ drop (2 * (k + 1)) buffer) (ap hex (take_more bs k 0 h) ∙ hex_append (take k bs) (get_or bs k 0 ∷ []))
    ∙ append_assoc (hex (take k bs)) (x ∷ y ∷ []) (drop (2 * (k + 1)) buffer))

pub written_all : (bs buffer out : List ℕ) (k : ℕ) → Written bs buffer out k → k ≡ length bs → out ≡ hex bs ++ drop (2 * length bs) buffer
written_all bs buffer out k e h =
    e ∙ ap (λ n. hex (take n bs) ++ drop (2 * n) buffer) h ∙ ap (λ x. hex x ++ drop (2 * length bs) buffer) (take_all (length bs) bs (omega arith))

-- reading what was written

packed_once : (xs ys : List ℕ) → packed xs ≡ packed ys → xs ≡ ys
packed_once xs ys e =
    let n : length xs ≡ length ys = ap (λ (p : FrameBytes). p.len) e in
    sym (take_at xs (replicate (104 - length xs) 0) (length xs) refl)
    ∙ ap₂ (λ (k : ℕ) (p : FrameBytes). take k p.bytes) n e
    ∙ take_at ys (replicate (104 - length ys) 0) (length ys) refl

read-hex : (bs : List ℕ) → Bytes bs → 1 ≤ length bs → length bs ≤ 104 → line_read (hex bs) ≡ Ok (packed bs)
unfolding line_read
read-hex bs h low high = ap (outcome (hex bs)) (line_hex bs h low high) ∙ ap (λ (x : List ℕ). Ok (packed x)) (unhex-hex bs h)

read_only : (bs l : List ℕ) → line_read l ≡ Ok (packed bs) → l ≡ hex bs
unfolding line_read
read_only bs l e = go (line_fault l) refl e
  where
    go : (o : Option ℕ) → line_fault l ≡ o → outcome l o ≡ Ok (packed bs) → l ≡ hex bs
    go None f e = let same : packed (unhex l) ≡ packed bs = cc in sym (hex_of_line l f) ∙ ap hex (packed_once (unhex l) bs same)
    go (Some place) f e = absurd (let z : ◌≡◌ {A = ℕ} 0 1 = cc in omega arith)

pub one_line : (bs : List ℕ) → Bytes bs → OneLine bs (hex bs)
one_line bs h = record { reads = read-hex bs h; only = read_only bs }
