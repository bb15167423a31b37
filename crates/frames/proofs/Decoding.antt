-- Frames as they are read: a chain of tests, part by part, and one pair after the other.
use Rattle.std.proofs.Common.{◌≡◌, ℕ, zero, suc, ◌+◌, ◌-◌, ◌*◌, ◌/◌, ◌<◌, ◌≤◌, Bool, true, false, ◌&&◌, cond, eqb, List, [], ◌∷◌, ◌++◌, map, length, get_or, take, drop, replicate, Some, None, Ok, Err, Option, sym, refl, subst, ap, ◌∙◌, ap₂, arith, lit<}
use Rattle.std.specs.List.{list_all}
use Rattle.std.specs.Simd.{first_chunks}
use Rattle.std.specs.Fn.{Mut, Called}
use Rattle.std.specs.Array.{IsFromFnResultFrom, IsFromFnResult}
use Rattle.std.proofs.lemmas.Bool.{eqb-true}
use Rattle.std.proofs.lemmas.Bool.Decides.{nat_tests}
use Rattle.std.proofs.lemmas.List.{drop-drop, ext_get_or, get_or-drop, get_or-replicate, get_or-take, length-append, length-map, length-replicate, length-take, take-map, take-take}
use Rattle.std.proofs.lemmas.List.Recursion.{same_from_clauses}
use Rattle.base.specs.declared.fault.Fault.{Fault}
use Rattle.base.specs.declared.refusal.Refusal.TheVariants.{Malformed}
use Rattle.base.specs.Refusals.{fault_at}
use Rattle.frames.specs.declared.frame.Pair.{Pair}
use Rattle.frames.specs.declared.decode.Head.{Head}
use Rattle.frames.specs.Frames.{◌and◌, at, num4, num8, all_zero, first_fault, rising_tests, pairs_from, pairs_of, kind_of, number_of, count_of, entry_of, tag_of}
use Rattle.frames.specs.Certificates.{malformed}
use Rattle.frames.specs.Typed.{kind_number, kind_at, no_pair, pair_at, holding, frame_of, held_to, head_tests, count_tests, body_tests, head_of, decoded, Cut, entry_in, tag_in, pair_in, parts_tests, frame_in}
use Rattle.frames.proofs.Numbers.{num8-drop}
use Rattle.frames.proofs.Formed.{between_says, first_fault_all}

-- blank bytes, in the library's words
blank_is : (xs : List ℕ) → all_zero xs ≡ list_all (λ x. eqb x 0) xs
blank_is = same_from_clauses all_zero (list_all (λ x. eqb x 0)) (λ x b. eqb x 0 and b) refl (λ x xs. refl) (λ x xs. go (eqb x 0) (list_all (λ x. eqb x 0) xs))
  where
    go : (a b : Bool) → (a && b) ≡ (a and b)
    go true b = refl
    go false b = refl

-- the stations of the pairs

-- what is left of the tests gives what they all give
abbrev pub Rises : ℕ → ℕ → ℕ → List (List ℕ) → Type 0
Rises n low k cs = first_fault (rising_tests n low (32 + 9 * k) (map pair_in (drop k cs))) ≡ first_fault (rising_tests n 0 32 (map pair_in cs))

-- the pairs that are kept

-- an array that a closure makes place by place, where no call changes the closure
module _ {F B : Type 0} (g : Mut F (ℕ × Unit {0}) B) (v : ℕ → B) (f : F) (one : (k : ℕ) (y : B) (f' : F) → Called g f (k, tt) y f' → (y ≡ v k) × (f' ≡ f)) where
  made_at : (ys : List B) (n i j k : ℕ) (d : B) (q : F) → q ≡ f → IsFromFnResultFrom g q ys i n → j < n → i + j ≡ k → get_or ys k d ≡ v k
  made_at ys zero i j k d q e m l h = absurd (omega arith)
  made_at ys (suc n) i zero k d q e m l h =
      let at : i ≡ k = omega arith in
      subst (λ j. get_or ys j d ≡ v j) at (m.2.1 d ∙ (one i m.1 m.0 (subst (λ (p : F). Called g p (i, tt) m.1 m.0) e m.3)).0)
  made_at ys (suc n) i (suc j) k d q e m l h =
      made_at ys n (i + 1) j k d m.0 (one i m.1 m.0 (subst (λ (p : F). Called g p (i, tt) m.1 m.0) e m.3)).1 m.4 (omega arith) (omega arith)

  pub from_fn_same : (ys : List B) (n k : ℕ) (d : B) → IsFromFnResult g f ys n → k < n → get_or ys k d ≡ v k
  from_fn_same ys n k d m l = made_at ys n 0 k k d f refl m.each l (omega arith)

-- a pair at a place, and none behind the last
pub held_at : (cs : List (List ℕ)) (k : ℕ) (y : Pair) → (k < length cs → y ≡ pair_at (pair_in (get_or cs k []))) → (length cs ≤ k → y ≡ no_pair)
    → y ≡ get_or (map pair_at (map pair_in cs)) k no_pair
held_at [] k y inside behind = behind (omega arith)
held_at (c ∷ cs) zero y inside behind = inside (omega arith)
held_at (c ∷ cs) (suc k) y inside behind = held_at cs k y (λ h. inside (omega arith)) (λ h. behind (omega arith))

-- the first n, filled up to n, and none behind them
filled : (n : ℕ) (ps : List Pair) (k : ℕ) → k < n → get_or (take n ps ++ replicate (n - length (take n ps)) no_pair) k no_pair ≡ get_or ps k no_pair
filled zero ps k l = absurd (omega arith)
filled (suc n) [] k l = get_or-replicate (suc n - 0) k no_pair no_pair (omega arith)
filled (suc n) (p ∷ ps) zero l = refl
filled (suc n) (p ∷ ps) (suc k) l =
    let e : suc n - suc (length (take n ps)) ≡ n - length (take n ps) = omega arith in
    ap (λ m. get_or (take n ps ++ replicate m no_pair) k no_pair) e ∙ filled n ps k (omega arith)

pub all_held : (count : ℕ) (ps : List (ℕ × ℕ)) (each : List Pair) → length each ≡ 8
    → ((k : ℕ) → k < 8 → get_or each k no_pair ≡ get_or (map pair_at ps) k no_pair) → record { count = count; each = each } ≡ holding count ps
all_held count ps each long at =
    let some : List Pair = map pair_at (take 8 ps) in
    let same : some ≡ take 8 (map pair_at ps) = sym (take-map pair_at 8 ps) in
    let eight : length (some ++ replicate (8 - length some) no_pair) ≡ 8 =
    length-append some (replicate (8 - length some) no_pair) ∙ omega (arith, length-replicate (8 - length some) no_pair, length-map (take 8 ps) pair_at, length-take 8 ps) in
    ap (λ l. record { count = count; each = l }) (ext_get_or no_pair each (some ++ replicate (8 - length some) no_pair) (long ∙ sym eight)
    (λ k l. at k (omega (arith, long)) ∙ sym (filled 8 (map pair_at ps) k (omega (arith, long))) ∙ ap (λ l. get_or (l ++ replicate (8 - length l) no_pair) k no_pair) (sym same)))

-- parts that were cut

at-cut : (w i j : ℕ) (bs : List ℕ) → j < w → at (take w (drop i bs)) j ≡ at bs (i + j)
at-cut w i j bs h = get_or-take w (drop i bs) j 0 h ∙ get_or-drop i bs j 0

-- the bytes of a body, one by one
entry_cut : (bs : List ℕ) → entry_in (take 24 (drop 8 bs)) ≡ entry_of bs
entry_cut bs =
    let e : (j : ℕ) → j < 24 → at (take 24 (drop 8 bs)) j ≡ at bs (8 + j) = λ j h. at-cut 24 8 j bs h in
    λ i. record {
      grower = (e 0 (lit< tt) i * 256 + e 1 (lit< tt) i) * 65536 + (e 2 (lit< tt) i * 256 + e 3 (lit< tt) i);
      amount = (e 4 (lit< tt) i * 256 + e 5 (lit< tt) i) * 65536 + (e 6 (lit< tt) i * 256 + e 7 (lit< tt) i);
      carry = (e 8 (lit< tt) i * 256 + e 9 (lit< tt) i) * 65536 + (e 10 (lit< tt) i * 256 + e 11 (lit< tt) i);
      figure = (e 12 (lit< tt) i * 256 + e 13 (lit< tt) i) * 65536 + (e 14 (lit< tt) i * 256 + e 15 (lit< tt) i);
    }

num8-cut : (w i j : ℕ) (bs : List ℕ) → j + 8 ≤ w → num8 (take w (drop i bs)) j ≡ num8 bs (i + j)
num8-cut w i j bs h =
    let e : (k : ℕ) → k < w → at (take w (drop i bs)) k ≡ at (drop i bs) k = λ k l. get_or-take w (drop i bs) k 0 l in
    let half : (k : ℕ) → k + 4 ≤ w → num4 (take w (drop i bs)) k ≡ num4 (drop i bs) k =
    λ k l q. (e k (omega arith) q * 256 + e (k + 1) (omega arith) q) * 65536 + (e (k + 2) (omega arith) q * 256 + e (k + 2 + 1) (omega arith) q) in
    ap₂ (λ x y. x * 4294967296 + y) (half j (omega arith)) (half (j + 4) (omega arith)) ∙ num8-drop bs i j

pair_cut : (i : ℕ) (bs : List ℕ) → pair_in (take 9 (drop i bs)) ≡ (at bs i, num8 bs (i + 1))
pair_cut i bs = let e : i + 0 ≡ i = omega arith in λ q. ((at-cut 9 i 0 bs (lit< tt) ∙ ap (at bs) e) q, num8-cut 9 i 1 bs (omega arith) q)

pairs_cut : (m i : ℕ) (bs : List ℕ) → map pair_in (first_chunks 9 m (drop i bs)) ≡ pairs_from m i bs
pairs_cut zero i bs = refl
pairs_cut (suc m) i bs =
    λ q. pair_cut i bs q ∷ (ap (λ l. map pair_in (first_chunks 9 m l)) (drop-drop 9 i bs) ∙ pairs_cut m (i + 9) bs) q

chunks : (m : ℕ) (xs : List ℕ) → length (first_chunks 9 m xs) ≡ m
chunks zero xs = refl
chunks (suc m) xs = ap suc (chunks m (drop 9 xs))

exact_length : (long m left count : ℕ) → long ≡ 32 + 9 * m + left → left < 9 → (eqb m count and eqb left 0) ≡ eqb long (32 + 9 * count)
exact_length long m left count e l = grind (arith, nat_tests)

module _ (bs body : List ℕ) (cs : List (List ℕ)) (left : List ℕ) (cut : Cut bs body cs left) where
  room : length cs ≡ (length bs - 32) / 9
  room = ap length cut.nines ∙ chunks ((length bs - 32) / 9) (drop 32 bs)

  -- the tests of the parts are those of the bytes
  parts_same : (kind count : ℕ) → parts_tests kind count body (length cs) (length left) (length bs) ≡ body_tests kind count bs
  parts_same kind count =
      let blank : list_all (λ b. eqb b 0) (take 16 body) ≡ all_zero (take 16 (drop 8 bs)) =
      sym (blank_is (take 16 body)) ∙ ap (λ l. all_zero (take 16 l)) cut.front ∙ ap all_zero (take-take 16 24 (drop 8 bs) (omega arith)) in
      let exact : (eqb (length cs) count and eqb (length left) 0) ≡ eqb (length bs) (32 + 9 * count) = exact_length (length bs) (length cs) (length left) count (omega (arith, cut.long, cut.behind, room)) (omega (arith, cut.behind)) in
      λ i. (cond (eqb kind 3) (blank i) true, 8) ∷ (exact i, length bs) ∷ []

  -- where they pass, there are as many pairs as the head says
  pairs_same : (count : ℕ) → length bs ≡ 32 + 9 * count → map pair_in cs ≡ pairs_from count 32 bs
  pairs_same count h =
      let e : (length bs - 32) / 9 ≡ count = omega arith in
      ap (map pair_in) cut.nines ∙ pairs_cut ((length bs - 32) / 9) 32 bs ∙ ap (λ m. pairs_from m 32 bs) e

-- a chain of tests

pub first_fault_append : (xs ys : List (Bool × ℕ)) → first_fault (xs ++ ys) ≡ elim (first_fault xs) [ None ↦ first_fault ys | Some place ↦ Some place ]
first_fault_append [] ys = refl
first_fault_append (x ∷ xs) ys = go x.0 (first_fault_append xs ys)
  where
    go : (b : Bool) → first_fault (xs ++ ys) ≡ elim (first_fault xs) [ None ↦ first_fault ys | Some place ↦ Some place ]
        → ◌≡◌ {A = Option ℕ} (elim b [ true ↦ first_fault (xs ++ ys) | false ↦ Some x.1 ])
        (elim (elim b as (λ _. Option ℕ) [ true ↦ first_fault xs | false ↦ Some x.1 ]) [ None ↦ first_fault ys | Some place ↦ Some place ])
    go true e = e
    go false e = refl

pub held : {A : Type 0} (o : Option ℕ) (x y : A) → Ok y ≡ held_to o x → (o ≡ None) × (y ≡ x)
held None x y e = (refl, cc)
held (Some place) x y e = absurd (let z : ◌≡◌ {A = ℕ} 0 1 = cc in omega arith)

pub refused : {A : Type 0} (o : Option ℕ) (x : A) (e : Fault) → Err e ≡ held_to o x → (place : ℕ) × (o ≡ Some place) × (e ≡ fault_at Malformed place)
refused None x e q = absurd (let z : ◌≡◌ {A = ℕ} 0 1 = cc in omega arith)
refused (Some place) x e q = (place, refl, cc)

pub named : (k : ℕ) → 1 ≤ k → k ≤ 3 → kind_number (kind_at k) ≡ k
named k low high = grind (arith, nat_tests)

module _ (n t batches : ℕ) (bs : List ℕ) where
  -- where a part of the tests fails after those before it have passed
  pub decoded_fails : (place : ℕ) (x : Fault) → malformed n t batches bs ≡ Some place → x ≡ fault_at Malformed place → decoded n t batches bs ≡ Err x
  unfolding decoded
  decoded_fails place x e q = ap (λ o. held_to o (frame_of bs)) e ∙ ap Err (sym q)

  pub decoded-holds : malformed n t batches bs ≡ None → decoded n t batches bs ≡ Ok (frame_of bs)
  unfolding decoded
  decoded-holds e = ap (λ o. held_to o (frame_of bs)) e

  -- the four parts, as the code passes through them
  abbrev tail₂ : List (Bool × ℕ)
  tail₂ = body_tests (kind_of bs) (count_of bs) bs ++ rising_tests n 0 32 (pairs_of bs)

  abbrev counts : List (Bool × ℕ)
  counts = count_tests t (kind_of bs) (number_of bs) (count_of bs) (at bs 7)

  abbrev after : List (Bool × ℕ) → Option ℕ → Option ℕ
  after ys o = elim o [ None ↦ first_fault ys | Some place ↦ Some place ]

  by_parts : malformed n t batches bs ≡ after (counts ++ tail₂) (first_fault (head_tests n batches bs))
  by_parts = first_fault_append (head_tests n batches bs) (counts ++ tail₂)

  pub fails_head : (place : ℕ) → first_fault (head_tests n batches bs) ≡ Some place → malformed n t batches bs ≡ Some place
  fails_head place e = by_parts ∙ ap (after (counts ++ tail₂)) e

  module _ (passed : first_fault (head_tests n batches bs) ≡ None) where
    after_head : malformed n t batches bs ≡ after tail₂ (first_fault counts)
    after_head = by_parts ∙ ap (after (counts ++ tail₂)) passed ∙ first_fault_append counts tail₂

    kinds : (1 ≤ kind_of bs) × (kind_of bs ≤ 3)
    kinds = between_says 1 (kind_of bs) 3 (first_fault_all (head_tests n batches bs) passed).1.0

    -- the kind by its name is the byte
    pub kind_is : kind_number (kind_at (kind_of bs)) ≡ kind_of bs
    kind_is = let k : ℕ = kind_of bs in let low : 1 ≤ k = kinds.0 in let high : k ≤ 3 = kinds.1 in named k low high

    pub fails_counts : (place : ℕ) → first_fault counts ≡ Some place → malformed n t batches bs ≡ Some place
    fails_counts place e = after_head ∙ ap (after tail₂) e

    module _ (counted : first_fault counts ≡ None) where
      after_counts : malformed n t batches bs ≡ after (rising_tests n 0 32 (pairs_of bs)) (first_fault (body_tests (kind_of bs) (count_of bs) bs))
      after_counts = after_head ∙ ap (after tail₂) counted ∙ first_fault_append (body_tests (kind_of bs) (count_of bs) bs) (rising_tests n 0 32 (pairs_of bs))

      pub fails_body : (place : ℕ) → first_fault (body_tests (kind_of bs) (count_of bs) bs) ≡ Some place → malformed n t batches bs ≡ Some place
      fails_body place e = after_counts ∙ ap (after (rising_tests n 0 32 (pairs_of bs))) e

      pub after_body : first_fault (body_tests (kind_of bs) (count_of bs) bs) ≡ None → malformed n t batches bs ≡ first_fault (rising_tests n 0 32 (pairs_of bs))
      after_body e = after_counts ∙ ap (after (rising_tests n 0 32 (pairs_of bs))) e

-- decoding, part by part: `h` is the head that was read, and the others are the parts behind it
module _ (n t batches : ℕ) (bs : List ℕ) where
  pub decode_head : (x : Fault) → Err x ≡ held_to (first_fault (head_tests n batches bs)) (head_of bs) → decoded n t batches bs ≡ Err x
  decode_head x e =
      let p = refused (first_fault (head_tests n batches bs)) (head_of bs) x e in
      decoded_fails n t batches bs p.0 x (fails_head n t batches bs p.0 p.1) p.2

  module _ (h : Head) (body : List ℕ) (cs : List (List ℕ)) (left : List ℕ) (read : Ok h ≡ held_to (first_fault (head_tests n batches bs)) (head_of bs)) (cut : Cut bs body cs left) where
    passed : first_fault (head_tests n batches bs) ≡ None
    passed = (held (first_fault (head_tests n batches bs)) (head_of bs) h read).0

    whole : h ≡ head_of bs
    whole = (held (first_fault (head_tests n batches bs)) (head_of bs) h read).1

    -- the kind of the head, as the tests have it
    kind : kind_number h.kind ≡ kind_of bs
    kind = ap (λ (g : Head). kind_number g.kind) whole ∙ kind_is n t batches bs passed

    count : h.count ≡ count_of bs
    count = ap (λ (g : Head). g.count) whole

    abbrev pub counted : Option ℕ
    counted = first_fault (count_tests t (kind_number h.kind) h.number h.count h.zero)

    abbrev pub bodied : Option ℕ
    bodied = first_fault (parts_tests (kind_number h.kind) h.count body (length cs) (length left) (length bs))

    abbrev pub rising : Option ℕ
    rising = first_fault (rising_tests n 0 32 (map pair_in cs))

    counted_is : counted ≡ first_fault (count_tests t (kind_of bs) (number_of bs) (count_of bs) (at bs 7))
    counted_is = λ i. first_fault (count_tests t (kind i) (whole i).number (count i) (whole i).zero)

    bodied_is : bodied ≡ first_fault (body_tests (kind_of bs) (count_of bs) bs)
    bodied_is = ap first_fault (parts_same bs body cs left cut (kind_number h.kind) h.count) ∙ (λ i. first_fault (body_tests (kind i) (count i) bs))

    pub decode_counts : (x : Fault) → Err x ≡ held_to {A = Unit {0}} counted tt → decoded n t batches bs ≡ Err x
    decode_counts x e =
        let p = refused {A = Unit {0}} counted tt x e in
        decoded_fails n t batches bs p.0 x (fails_counts n t batches bs passed p.0 (sym counted_is ∙ p.1)) p.2

    module _ (u : Unit {0}) (pass : Ok u ≡ held_to {A = Unit {0}} counted tt) where
      fits : first_fault (count_tests t (kind_of bs) (number_of bs) (count_of bs) (at bs 7)) ≡ None
      fits = sym counted_is ∙ (held {A = Unit {0}} counted tt u pass).0

      pub decode_body : (x : Fault) → Err x ≡ held_to {A = Unit {0}} bodied tt → decoded n t batches bs ≡ Err x
      decode_body x e =
          let p = refused {A = Unit {0}} bodied tt x e in
          decoded_fails n t batches bs p.0 x (fails_body n t batches bs passed fits p.0 (sym bodied_is ∙ p.1)) p.2

      module _ (v : Unit {0}) (long : Ok v ≡ held_to {A = Unit {0}} bodied tt) where
        sound : first_fault (body_tests (kind_of bs) (count_of bs) bs) ≡ None
        sound = sym bodied_is ∙ (held {A = Unit {0}} bodied tt v long).0

        pairs : map pair_in cs ≡ pairs_of bs
        pairs = pairs_same bs body cs left cut (count_of bs) (eqb-true _ _ (first_fault_all (body_tests (kind_of bs) (count_of bs) bs) sound).1.0)

        left_over : malformed n t batches bs ≡ rising
        left_over = after_body n t batches bs passed fits sound ∙ ap (λ ps. first_fault (rising_tests n 0 32 ps)) (sym pairs)

        pub decode_pairs : (x : Fault) → Err x ≡ held_to {A = Unit {0}} rising tt → decoded n t batches bs ≡ Err x
        decode_pairs x e =
            let p = refused {A = Unit {0}} rising tt x e in
            decoded_fails n t batches bs p.0 x (left_over ∙ p.1) p.2

        same_frame : frame_in h body cs ≡ frame_of bs
        unfolding frame_of
        same_frame =
            let entry : entry_in body ≡ entry_of bs = ap entry_in cut.front ∙ entry_cut bs in
            let tag : tag_in body ≡ tag_of bs = ap tag_in cut.front ∙ num8-cut 24 8 16 bs (omega arith) in
            λ i. record {
              kind = (whole i).kind;
              sender = (whole i).sender;
              batch = (whole i).batch;
              number = (whole i).number;
              entry = entry i;
              tag = tag i;
              pairs = holding (whole i).count (pairs i);
            }

        pub decode_all : (w : Unit {0}) → Ok w ≡ held_to {A = Unit {0}} rising tt → decoded n t batches bs ≡ Ok (frame_in h body cs)
        decode_all w rise = decoded-holds n t batches bs (left_over ∙ (held {A = Unit {0}} rising tt w rise).0) ∙ ap Ok (sym same_frame)
