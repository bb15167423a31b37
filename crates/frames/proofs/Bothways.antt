-- Decoding what was encoded, encoding what was decoded, and certificates.
use Rattle.std.proofs.Common.{◌≡◌, ℕ, zero, suc, ◌+◌, ◌-◌, ◌*◌, ◌^◌, ◌<◌, ◌≤◌, min, cond, eqb, List, [], ◌∷◌, ◌++◌, map, length, take, replicate, None, Ok, sym, refl, ap, ◌∙◌, subst, ap₂, ⊎_elim, arith}
use Rattle.std.specs.List.{AllByRecursion}
use Rattle.std.proofs.lemmas.Bool.{eq-eqb, eqb-true, ne_eqb, cases_eq}
use Rattle.std.proofs.Math.Seq.{take-append-add, take-nil}
use Rattle.std.proofs.ByRecursion.{All-weaker, All-map}
use Rattle.std.proofs.lemmas.List.{length-map, length-take, nil_from_length, take_all, take_at}
use Rattle.base.specs.declared.book.Entry.{Entry}
use Rattle.frames.specs.declared.frame.Kind.{Kind}
use Rattle.frames.specs.declared.frame.Kind.TheVariants.{Propose, Decision, Reselect}
use Rattle.frames.specs.declared.frame.Pair.{Pair}
use Rattle.frames.specs.declared.frame.Frame.{Frame}
use Rattle.frames.specs.Bytes.{be8, statement, entry_bytes, proposes, reselects, pair_bytes}
use Rattle.frames.specs.Frames.{kind_of, sender_of, batch_of, number_of, count_of, tag_of, entry_of, pairs_of, pair_states}
use Rattle.frames.specs.Certificates.{malformed, pair_sealed, Rising, Passes}
use Rattle.frames.specs.Typed.{kind_number, kind_at, no_pair, pair_at, plain, listed, holding, frame_of, held_to, decoded, stated, pair_stated, encoded, HeadFits}
use Rattle.frames.specs.Bothways.{Says, Fields, WellFormed, Accepted, BothWays, ReadsBack}
use Rattle.frames.proofs.Numbers.{Bytes}
use Rattle.frames.proofs.Formed.{Formed, formed_none, none_formed, first_pair_all, first_pair_none}
use Rattle.frames.proofs.Frames.{frame, frame_is, take_frame, tag_frame, batch_frame, number_frame, pairs_of_frame, entry_frame, body_entry, length-pairs_from, propose_formed, decision_formed, reselect_formed}
use Rattle.frames.proofs.Decoding.{named, held, decoded-holds}
use Rattle.frames.proofs.Certificates.{certifies, certificate}

-- pairs as they are held

plain_pair : (ps : List (ℕ × ℕ)) → map plain (map pair_at ps) ≡ ps
plain_pair [] = refl
plain_pair (p ∷ ps) = ap (λ (r : List (ℕ × ℕ)). p ∷ r) (plain_pair ps)

pair_plain : (ps : List Pair) → map pair_at (map plain ps) ≡ ps
pair_plain [] = refl
pair_plain (p ∷ ps) = ap (λ (r : List Pair). p ∷ r) (pair_plain ps)

listed-holding : (ps : List (ℕ × ℕ)) → map plain (listed (holding (length ps) ps)) ≡ take 8 ps
listed-holding ps =
    let some : List Pair = map pair_at (take 8 ps) in
    let size : length some ≡ min (length ps) 8 = length-map (take 8 ps) pair_at ∙ length-take 8 ps ∙ omega arith in
    ap (map plain) (take_at some (replicate (8 - length some) no_pair) (min (length ps) 8) size) ∙ plain_pair (take 8 ps)

-- what was encoded

-- the kind that a number names
pub renamed : (k : Kind) → kind_at (kind_number k) ≡ k
renamed Propose = refl
renamed Decision = refl
renamed Reselect = refl

-- the numbers of a frame are of their types, and it has its pairs
pub record Sound (f : Frame) : Type 0 where
  pub front : HeadFits f
  pub seal : f.tag < 2 ^ 64
  pub size : length (listed f.pairs) ≡ min f.pairs.count 8
  pub tags : AllByRecursion (λ (p : Pair). p.tag < 2 ^ 64) (listed f.pairs)

-- a frame for one number of batches is one for a higher one
wider : (n t few batches : ℕ) (bs : List ℕ) → few ≤ batches → Formed n t few bs → Formed n t batches bs
wider n t few batches bs h f = record {
  size = f.size;
  kinds = f.kinds;
  sends = f.sends;
  within = (f.within.0, omega (arith, f.within.1));
  proposal = f.proposal;
  decision = f.decision;
  reselection = f.reselection;
  blank = f.blank;
  spare = f.spare;
  rises = f.rises;
}

module _ (n t sender batch number count : ℕ) (e : Entry) (g : ℕ) (ps : List (ℕ × ℕ)) (small : batch < 2 ^ 16) (sends : sender < n) (some : 1 ≤ batch) (counts : length ps ≡ count) (rises : Rising n 0 ps) (tags : AllByRecursion (λ (p : ℕ × ℕ). p.1 < 2 ^ 64) ps) where
  written_formed : (k : Kind) → Fields t k number count e → Formed n t batch (frame (statement (kind_number k) sender batch number count (entry_bytes e)) g ps)
  written_formed Propose (z, c) =
      let nil : ps ≡ [] = nil_from_length ps (counts ∙ c) in
      subst (Formed n t batch) (sym (λ i. frame (statement 1 sender batch (z i) (c i) (entry_bytes e)) g (nil i)))
      (propose_formed n t batch small sender batch sends (some, omega arith) g e)
  written_formed Decision (z, c) =
      subst (Formed n t batch) (sym (λ i. frame (statement 2 sender batch (z i) (c i) (entry_bytes e)) g ps))
      (decision_formed n t batch small sender batch sends (some, omega arith) g e ps (counts ∙ c) rises tags)
  written_formed Reselect (low, high, few, none) =
      subst (Formed n t batch) (sym (λ i. frame (statement 3 sender batch number count (entry_bytes (none i))) g ps))
      (reselect_formed n t batch small sender batch sends (some, omega arith) g number count ps (low, high) counts few rises tags)

module _ (n t batches : ℕ) (f : Frame) (s : Sound f) (w : WellFormed n t batches f) where
  abbrev ps : List (ℕ × ℕ)
  ps = map plain (listed f.pairs)

  few_tags : AllByRecursion (λ (p : ℕ × ℕ). p.1 < 2 ^ 64) ps
  few_tags = All-map (λ (p : ℕ × ℕ). p.1 < 2 ^ 64) plain (listed f.pairs) s.tags

  counts : length ps ≡ f.pairs.count
  counts = length-map (listed f.pairs) plain ∙ s.size ∙ omega (arith, w.room)

  formed : Formed n t batches (encoded f)
  unfolding encoded
  formed =
      wider n t f.batch batches _ w.within.1
      (written_formed n t f.sender f.batch f.number f.pairs.count f.entry f.tag ps s.front.of_batch w.sends w.within.0 counts w.rises few_tags f.kind w.fields)

  held_again : holding f.pairs.count ps ≡ f.pairs
  held_again =
      let all : take 8 ps ≡ ps = take_all 8 ps (omega (arith, counts, w.room)) in
      let same : map pair_at (take 8 ps) ≡ listed f.pairs = ap (map pair_at) all ∙ pair_plain (listed f.pairs) in
      let size : length (map pair_at (take 8 ps)) ≡ f.pairs.count = ap length same ∙ s.size ∙ omega (arith, w.room) in
      let each : map pair_at (take 8 ps) ++ replicate (8 - length (map pair_at (take 8 ps))) no_pair ≡ f.pairs.each =
      ap₂ (λ (x : List Pair) (y : ℕ). x ++ replicate (8 - y) no_pair) same size ∙ sym w.blank in
      λ i. record { count = f.pairs.count; each = each i }

  reads : frame_of (encoded f) ≡ f
  unfolding encoded frame_of
  reads =
      let k : ℕ = kind_number f.kind in
      let m : ℕ = f.pairs.count in
      let body : List ℕ = entry_bytes f.entry in
      let b = batch_frame k f.sender f.batch f.number m body f.tag ps s.front.of_batch in
      let c = number_frame k f.sender f.batch f.number m body f.tag ps s.front.of_number in
      let e = entry_frame k f.sender f.batch f.number m f.entry f.tag ps s.front.of_entry in
      let g = tag_frame (statement k f.sender f.batch f.number m body) f.tag ps refl s.seal in
      let q = pairs_of_frame k f.sender f.batch f.number m body f.tag ps refl counts few_tags in
      λ i. record {
        kind = renamed f.kind i;
        sender = f.sender;
        batch = b i;
        number = c i;
        entry = e i;
        tag = g i;
        pairs = (ap (holding m) q ∙ held_again) i;
      }

  pub decoded-encoded : decoded n t batches (encoded f) ≡ Ok f
  unfolding decoded
  decoded-encoded = ap (λ o. held_to o (frame_of (encoded f))) (formed_none n t batches (encoded f) formed) ∙ ap Ok reads

-- for the contract of encode
pub encode_back : (f : Frame) (ps : List Pair) (k : ℕ) → ps ≡ listed f.pairs → length ps ≡ min f.pairs.count 8 → length ps ≤ k
    → HeadFits f → f.tag < 2 ^ 64 → AllByRecursion (λ (p : Pair). p.tag < 2 ^ 64) (take k ps) → ReadsBack f
encode_back f ps k is size end front seal tags n t batches w =
    let s : Sound f = record {
      front = front;
      seal = seal;
      size = ap length (sym is) ∙ size;
      tags = subst (AllByRecursion (λ (p : Pair). p.tag < 2 ^ 64)) (take_all k ps end ∙ is) tags;
    } in
    decoded-encoded n t batches f s w

-- what was decoded

-- a list cut behind its first part
take_over : (a k : ℕ) (xs ys : List ℕ) → length xs ≡ a → take (a + k) (xs ++ ys) ≡ xs ++ take k ys
take_over a k xs ys h = ap (λ m. take (m + k) (xs ++ ys)) (sym h) ∙ take-append-add xs ys k

take-pair_bytes : (k : ℕ) (ps : List (ℕ × ℕ)) → take (9 * k) (pair_bytes ps) ≡ pair_bytes (take k ps)
take-pair_bytes zero ps = refl
take-pair_bytes (suc k) [] = take-nil (9 * suc k)
take-pair_bytes (suc k) (p ∷ ps) =
    let e : 9 * suc k ≡ 9 + 9 * k = omega arith in
    ap (λ m. take m (pair_bytes (p ∷ ps))) e ∙ take_over 9 (9 * k) (p.0 ∷ be8 p.1) (pair_bytes ps) refl
    ∙ ap (λ r. (p.0 ∷ be8 p.1) ++ r) (take-pair_bytes k ps)

tag_read : (bs : List ℕ) → (frame_of bs).tag ≡ tag_of bs
unfolding frame_of
tag_read bs = refl

-- what a pair seals, by the number of its frame's kind
sealed_by : (k q b c : ℕ) (e : Entry) → elim (kind_at k) [ Propose ↦ reselects q b c | Decision ↦ proposes q b e | Reselect ↦ reselects q b c ] ≡ cond (eqb k 2) (proposes q b e) (reselects q b c)
sealed_by k q b c e =
    ⊎_elim (λ z. rw z refl)
    (λ one. ⊎_elim (λ z. rw z refl) (λ two. rw (ne_eqb k 1 one, ne_eqb k 2 two) refl) (cases_eq k 2))
    (cases_eq k 1)

module _ (n t batches : ℕ) (bs : List ℕ) (h : Bytes bs) (none : malformed n t batches bs ≡ None) where
  good : Formed n t batches bs
  good = none_formed n t batches bs none

  same_kind : kind_number (kind_at (kind_of bs)) ≡ kind_of bs
  same_kind = named (kind_of bs) good.kinds.0 good.kinds.1

  abbrev front : List ℕ
  front = statement (kind_of bs) (sender_of bs) (batch_of bs) (number_of bs) (count_of bs) (entry_bytes (entry_of bs))

  whole : bs ≡ frame front (tag_of bs) (pairs_of bs)
  whole =
      frame_is bs h good.spare good.size
      ∙ ap (λ x. frame (statement (kind_of bs) (sender_of bs) (batch_of bs) (number_of bs) (count_of bs) x) (tag_of bs) (pairs_of bs)) (body_entry bs h (omega (arith, good.size)))

  states : stated (frame_of bs) ≡ front
  unfolding frame_of
  states = ap (λ k. statement k (sender_of bs) (batch_of bs) (number_of bs) (count_of bs) (entry_bytes (entry_of bs))) same_kind

  shows : map plain (listed (frame_of bs).pairs) ≡ take 8 (pairs_of bs)
  unfolding frame_of
  shows = ap (λ m. map plain (listed (holding m (pairs_of bs)))) (sym (length-pairs_from (count_of bs) 32 bs)) ∙ listed-holding (pairs_of bs)

  written : encoded (frame_of bs) ≡ take 104 bs
  unfolding encoded
  written =
      let g : ℕ = tag_of bs in
      let tag_is : (frame_of bs).tag ≡ g = tag_read bs in
      (λ i. states i ++ be8 (tag_is i) ++ pair_bytes (shows i))
      ∙ ap (λ x. front ++ be8 g ++ x) (sym (take-pair_bytes 8 (pairs_of bs)))
      ∙ sym (take_over 32 72 (front ++ be8 g) (pair_bytes (pairs_of bs)) refl)
      ∙ ap (take 104) (sym whole)

  seals : (q : ℕ) → pair_stated (frame_of bs) q ≡ pair_states bs q
  unfolding frame_of
  seals q = sealed_by (kind_of bs) q (batch_of bs) (number_of bs) (entry_of bs)

  pub says : Says (frame_of bs) bs
  says = record {
    written = written;
    states = states ∙ sym (ap (take 24) whole ∙ take_frame front (tag_of bs) (pairs_of bs) refl);
    seals = seals;
    shows = shows;
  }

-- what decoding gives where there is no fault, and only there
decoded-some : (n t batches : ℕ) (bs : List ℕ) (f : Frame) → decoded n t batches bs ≡ Ok f → (malformed n t batches bs ≡ None) × (f ≡ frame_of bs)
unfolding decoded
decoded-some n t batches bs f e = held (malformed n t batches bs) (frame_of bs) f (sym e)

-- certificates

module _ (n t batches : ℕ) (tag : ℕ → List ℕ → ℕ) (bs : List ℕ) (h : Bytes bs) where
  kind_read : (f : Frame) → f ≡ frame_of bs → f.kind ≡ Decision → kind_at (kind_of bs) ≡ Decision
  unfolding frame_of
  kind_read f e k = sym (ap (λ (g : Frame). g.kind) e) ∙ k

  sealed_read : (f : Frame) → f ≡ frame_of bs → f.tag ≡ tag f.sender (stated f) → tag_of bs ≡ tag (sender_of bs) (stated f)
  unfolding frame_of
  sealed_read f e k = sym (ap (λ (g : Frame). g.tag) e) ∙ k ∙ ap (λ (g : Frame). tag g.sender (stated f)) e

  accepted-passes : Accepted n t batches tag bs → Passes n t batches tag bs
  accepted-passes a =
      let p = decoded-some n t batches bs a.frame a.decodes in
      let s = subst (λ (g : Frame). Says g bs) (sym p.1) (says n t batches bs h p.0) in
      let kind : kind_at (kind_of bs) ≡ Decision = kind_read a.frame p.1 a.decision in
      record {
        formed = p.0;
        decision = sym (same_kind n t batches bs h p.0) ∙ ap kind_number kind;
        sender = eq-eqb _ _ (sealed_read a.frame p.1 a.sender_right ∙ ap (tag (sender_of bs)) s.states);
        pairs = first_pair_none (pair_sealed tag bs) 32 (pairs_of bs) (All-weaker _ _ (λ q e. eq-eqb _ _ (e ∙ ap (tag q.0) (s.seals q.0))) (pairs_of bs) a.pairs_right);
      }

  passes-accepted : Passes n t batches tag bs → Accepted n t batches tag bs
  unfolding frame_of
  passes-accepted p =
      let s = says n t batches bs h p.formed in
      record {
        frame = frame_of bs;
        decodes = decoded-holds n t batches bs p.formed;
        decision = ap kind_at p.decision;
        sender_right = eqb-true _ _ p.sender ∙ ap (tag (sender_of bs)) (sym s.states);
        pairs_right = All-weaker _ _ (λ q e. eqb-true _ _ e ∙ ap (tag q.0) (sym (s.seals q.0))) (pairs_of bs) (first_pair_all (pair_sealed tag bs) 32 (pairs_of bs) p.pairs);
      }

-- for the contract of decode
pub both_ways : (n t batches : ℕ) (bs : List ℕ) → Bytes bs → BothWays n t batches bs
both_ways n t batches bs h = record {
  says = λ f e. let p = decoded-some n t batches bs f e in subst (λ (g : Frame). Says g bs) (sym p.1) (says n t batches bs h p.0);
  accepts = λ tag a.
      let p = accepted-passes n t batches tag bs h a in
      certifies n t batches tag bs h p.formed p.decision p.sender (first_pair_all (pair_sealed tag bs) 32 (pairs_of bs) p.pairs);
  certifies = λ tag small x. passes-accepted n t batches tag bs h ((certificate n t batches tag bs h (small _ _)).1 x);
}
