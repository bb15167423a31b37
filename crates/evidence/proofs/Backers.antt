-- The stations that back an entry: how many they are, and the pairs of the lowest of them.
use Rattle.std.proofs.Common.{◌≡◌, ℕ, zero, suc, ◌+◌, ◌-◌, ◌<◌, ◌≤◌, Bool, true, false, cond, List, [], ◌∷◌, ◌++◌, map, length, get_or, take, set, replicate, Some, None, Option, sym, refl, ap, ◌∙◌, ap₂, zero-add, arith}
use Rattle.std.specs.List.{filter_map, zip, range_with_len, cons_option}
use Rattle.std.proofs.lemmas.List.FromFn.{length-range_with_len, get_or-range_with_len}
use Rattle.std.proofs.lemmas.Slice.Zip.{length-zip, get_or-zip}
use Rattle.std.proofs.lemmas.List.{take-map, map-id, append_assoc, length-append, length-map, set_at, map-append}
use Rattle.std.proofs.lemmas.List.Sums.{sum_by-cons}
use Rattle.base.specs.declared.book.Entry.{Entry}
use Rattle.frames.specs.declared.frame.Pair.{Pair}
use Rattle.frames.specs.Typed.{no_pair, pair_at}
use Rattle.protocol.specs.declared.station.Vote.{Vote}
use Rattle.protocol.specs.Steps.{same_entry, backers}
use Rattle.evidence.specs.Votes.{pair_backed, is_for, weight_of, support_of, backs_entry, lowest_of}

-- one station
backers_yes : (e : Entry) (q : ℕ) (v : Vote) (vs : List (Option Vote)) → backs_entry v e ≡ true → backers e q (Some v ∷ vs) ≡ (q, v.tag) ∷ backers e (q + 1) vs
unfolding backers same_entry
backers_yes e q v vs h = rw (h, backers) refl

backers_no : (e : Entry) (q : ℕ) (v : Vote) (vs : List (Option Vote)) → backs_entry v e ≡ false → backers e q (Some v ∷ vs) ≡ backers e (q + 1) vs
unfolding backers same_entry
backers_no e q v vs h = rw (h, backers) refl

backers_nil : (e : Entry) (q : ℕ) → backers e q [] ≡ []
unfolding backers
backers_nil e q = refl

backers_none : (e : Entry) (q : ℕ) (vs : List (Option Vote)) → backers e q (None ∷ vs) ≡ backers e (q + 1) vs
unfolding backers
backers_none e q vs = refl

support_cons : (e : Entry) (o : Option Vote) (vs : List (Option Vote)) → support_of backs_entry e (o ∷ vs) ≡ cond (is_for backs_entry e o) 1 0 + support_of backs_entry e vs
support_cons e o vs = sum_by-cons (weight_of backs_entry e) o vs

-- support is the number of those stations
pub support-backers : (e : Entry) (q : ℕ) (vs : List (Option Vote)) → support_of backs_entry e vs ≡ length (backers e q vs)
support-backers e q [] = sym (ap length (backers_nil e q))
support-backers e q (None ∷ vs) = support_cons e None vs ∙ zero-add _ ∙ support-backers e (q + 1) vs ∙ sym (ap length (backers_none e q vs))
support-backers e q (Some v ∷ vs) = support_cons e (Some v) vs ∙ go (backs_entry v e) refl (support-backers e (q + 1) vs)
  where
    go : (b : Bool) → backs_entry v e ≡ b → support_of backs_entry e vs ≡ length (backers e (q + 1) vs)
        → cond (backs_entry v e) 1 0 + support_of backs_entry e vs ≡ length (backers e q (Some v ∷ vs))
    go true h ih = ap (λ (b : Bool). cond b 1 0 + support_of backs_entry e vs) h ∙ omega (arith, ih) ∙ sym (ap length (backers_yes e q v vs h))
    go false h ih = ap (λ (b : Bool). cond b 1 0 + support_of backs_entry e vs) h ∙ omega (arith, ih) ∙ sym (ap length (backers_no e q v vs h))

-- The loop that gathers pairs

-- what it goes over: as many of their pairs as there is room for, each with its place
abbrev pub gathered : Entry → ℕ → ℕ → List (Option Vote) → List (ℕ × Pair)
gathered e n size vs = zip (range_with_len 0 8) (take size (filter_map (λ p. pair_backed e p.0 p.1) (take n (zip (range_with_len 0 16) vs))))

no_votes : (e : Entry) (q n : ℕ) → filter_map (λ p. pair_backed e p.0 p.1) (take {A = ℕ × Option Vote} n []) ≡ map pair_at (backers e q (take {A = Option Vote} n []))
no_votes e q zero = ap (map pair_at) (sym (backers_nil e q))
no_votes e q (suc n) = ap (map pair_at) (sym (backers_nil e q))

-- the pairs of stations from q on
pairs_backed : (e : Entry) (q m n : ℕ) (vs : List (Option Vote)) → length vs ≤ m
    → filter_map (λ p. pair_backed e p.0 p.1) (take n (zip (range_with_len q m) vs)) ≡ map pair_at (backers e q (take n vs))
pairs_backed e q zero n [] h = no_votes e q n
pairs_backed e q (suc m) n [] h = no_votes e q n
pairs_backed e q zero n (v ∷ vs) h = absurd (omega arith)
pairs_backed e q (suc m) zero (v ∷ vs) h = ap (map pair_at) (sym (backers_nil e q))
pairs_backed e q (suc m) (suc n) (None ∷ vs) h = pairs_backed e (q + 1) m n vs (omega arith) ∙ ap (map pair_at) (sym (backers_none e q (take n vs)))
pairs_backed e q (suc m) (suc n) (Some v ∷ vs) h = go (backs_entry v e) refl (pairs_backed e (q + 1) m n vs (omega arith))
  where
    test : ℕ × Option Vote → Option Pair
    test p = pair_backed e p.0 p.1

    go : (b : Bool) → backs_entry v e ≡ b → filter_map test (take n (zip (range_with_len (q + 1) m) vs)) ≡ map pair_at (backers e (q + 1) (take n vs))
        → filter_map test (take (suc n) (zip (range_with_len q (suc m)) (Some v ∷ vs))) ≡ map pair_at (backers e q (Some v ∷ take n vs))
    go true b ih =
        ap (λ (c : Bool). cons_option (cond c (Some (pair_at (q, v.tag))) None) (filter_map test (take n (zip (range_with_len (q + 1) m) vs)))) b
        ∙ ap (λ r. pair_at (q, v.tag) ∷ r) ih ∙ ap (map pair_at) (sym (backers_yes e q v (take n vs) b))
    go false b ih =
        ap (λ (c : Bool). cons_option (cond c (Some (pair_at (q, v.tag))) None) (filter_map test (take n (zip (range_with_len (q + 1) m) vs)))) b
        ∙ ih ∙ ap (map pair_at) (sym (backers_no e q v (take n vs) b))

-- places beside values are cut where either ends
seconds : {X : Type 0} (q m : ℕ) (xs : List X) → map (λ p. p.1) (zip (range_with_len q m) xs) ≡ take m xs
seconds q zero xs = refl
seconds q (suc m) [] = refl
seconds q (suc m) (x ∷ xs) = ap (λ r. x ∷ r) (seconds (q + 1) m xs)

fill : (xs : List Pair) (n k : ℕ) (v : Pair) → length xs ≡ k → k < n → set (xs ++ replicate (n - k) no_pair) k v ≡ (xs ++ v ∷ []) ++ replicate (n - (k + 1)) no_pair
fill xs n k v l h =
    let e : n - k ≡ suc (n - (k + 1)) = omega arith in
    ap (λ m. set (xs ++ replicate m no_pair) k v) e ∙ set_at xs no_pair (replicate (n - (k + 1)) no_pair) v k l
    ∙ sym (append_assoc xs (v ∷ []) (replicate (n - (k + 1)) no_pair))

-- the pairs so far, in front of empty places
abbrev pub placed : List (ℕ × Pair) → List Pair
placed done = map (λ p. p.1) done ++ replicate (8 - length done) no_pair

-- an item's place is its number
pub gathered_at : (e : Entry) (n size : ℕ) (vs : List (Option Vote)) (i : ℕ) (p : ℕ × Pair)
    → (i < length (gathered e n size vs)) × (p ≡ get_or (gathered e n size vs) i p) → (p.0 ≡ i) × (i < 8)
gathered_at e n size vs i p h =
    let ks : List ℕ = range_with_len 0 8 in
    let ys : List Pair = take size (filter_map (λ q. pair_backed e q.0 q.1) (take n (zip (range_with_len 0 16) vs))) in
    let few : i < 8 = omega (arith, h.0, length-zip ks ys, length-range_with_len 0 8) in
    let there : i < length ys = omega (arith, h.0, length-zip ks ys) in
    (ap (λ q. q.0) (h.1 ∙ get_or-zip ks ys i p few there) ∙ get_or-range_with_len 0 8 i p.0 few ∙ zero-add i, few)

-- one pair more
pub placed_more : (done : List (ℕ × Pair)) (each : List Pair) (p : ℕ × Pair) → (p.0 ≡ length done) × (length done < 8) → each ≡ placed done → set each p.0 p.1 ≡ placed (done ++ p ∷ [])
placed_more done each p h e =
    ap₂ (λ xs k. set xs k p.1) e h.0 ∙ fill (map (λ q. q.1) done) 8 (length done) p.1 (length-map done (λ q. q.1)) h.1
    ∙ ap₂ (λ r k. r ++ replicate (8 - k) no_pair) (sym (map-append (λ q. q.1) done (p ∷ []))) (sym (length-append done (p ∷ [])))

-- at the end they are the lowest
pub placed_all : (e : Entry) (n size : ℕ) (vs : List (Option Vote)) (done : List (ℕ × Pair)) (each : List Pair)
    → length vs ≤ 16 → map (λ p. (p.0, p.1)) done ≡ gathered e n size vs → each ≡ placed done → record { count = size; each = each } ≡ lowest_of size (backers e 0 (take n vs))
placed_all e n size vs done each h all is =
    let bs : List (ℕ × ℕ) = backers e 0 (take n vs) in
    let pairs : map (λ p. p.1) done ≡ map pair_at (take 8 (take size bs)) =
    ap (map (λ p. p.1)) (sym (map-id done) ∙ all) ∙ seconds 0 8 _ ∙ ap (λ xs. take 8 (take size xs)) (pairs_backed e 0 16 n vs h)
    ∙ ap (take 8) (take-map pair_at size bs) ∙ take-map pair_at 8 (take size bs) in
    let whole : each ≡ map pair_at (take 8 (take size bs)) ++ replicate (8 - length (map pair_at (take 8 (take size bs)))) no_pair =
    is ∙ ap₂ (λ r k. r ++ replicate (8 - k) no_pair) pairs (sym (length-map done (λ p. p.1)) ∙ ap length pairs) in
    λ i. record { count = size; each = whole i }
