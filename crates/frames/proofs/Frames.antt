-- Frames: what is read from a frame that was written, and how a frame that is read was written.
use Rattle.std.proofs.Common.{◌≡◌, ℕ, zero, suc, ◌+◌, ◌*◌, ◌^◌, ◌<◌, ◌≤◌, List, [], ◌∷◌, ◌++◌, length, get_or, take, drop, replicate, sym, refl, ap, ◌∙◌, subst, ap₂, add-zero, arith}
use Rattle.std.specs.List.{AllByRecursion}
use Rattle.std.proofs.lemmas.Bool.{eq-eqb, ne_eqb}
use Rattle.std.proofs.lemmas.List.{length-append, append_assoc, take_at, drop_at, drop-drop, drop_all, get_or-drop}
use Rattle.std.proofs.ByRecursion.{All-append}
use Rattle.base.specs.declared.book.Entry.{Entry}
use Rattle.frames.specs.Bytes.{byte, be4, be8, entry_bytes, statement, proposes, reselects, pair_bytes}
use Rattle.frames.specs.Certificates.{Rising, Fits}
use Rattle.frames.specs.Frames.{at, num8, entry_of, kind_of, sender_of, batch_of, number_of, count_of, tag_of, pairs_from, pairs_of, pair_states}
use Rattle.frames.proofs.Numbers.{Bytes, be2_bytes, be4_bytes, be8_bytes, num2-be2, num4-be4, num8-at, be2-num2, be4-num4, be8-num8, take-read, drop-read}
use Rattle.frames.proofs.Formed.{Formed}

drop_on : (bs l : List ℕ) (i j : ℕ) → drop i bs ≡ l → drop (i + j) bs ≡ drop j l
drop_on bs l i j e = sym (drop-drop j i bs) ∙ ap (drop j) e

at_head : (bs l : List ℕ) (i b : ℕ) → drop i bs ≡ b ∷ l → at bs i ≡ b
at_head bs l i b e = simp add-zero at (sym (get_or-drop i bs 0 0)) ∙ ap (λ l. get_or l 0 0) e

pub length-pair_bytes : (ps : List (ℕ × ℕ)) → length (pair_bytes ps) ≡ 9 * length ps
length-pair_bytes [] = refl
length-pair_bytes (p ∷ ps) = omega (arith, length-pair_bytes ps)

pub length-pairs_from : (m i : ℕ) (bs : List ℕ) → length (pairs_from m i bs) ≡ m
length-pairs_from zero i bs = refl
length-pairs_from (suc m) i bs = ap suc (length-pairs_from m (i + 9) bs)

pub pairs_from_bytes : (bs : List ℕ) (i : ℕ) (ps : List (ℕ × ℕ)) → AllByRecursion (λ p. p.1 < 2 ^ 64) ps → drop i bs ≡ pair_bytes ps
    → pairs_from (length ps) i bs ≡ ps
pairs_from_bytes bs i [] h e = refl
pairs_from_bytes bs i (p ∷ ps) h e =
    let a : at bs i ≡ p.0 = at_head bs _ i p.0 e in
    let b : num8 bs (i + 1) ≡ p.1 = num8-at bs (pair_bytes ps) (i + 1) p.1 h.0 (drop_on bs _ i 1 e) in
    let c = pairs_from_bytes bs (i + 9) ps h.1 (drop_on bs _ i 9 e) in
    λ j. (a j, b j) ∷ c j

pub pair_bytes_from : (bs : List ℕ) (m i : ℕ) → Bytes bs → length bs ≡ i + 9 * m → pair_bytes (pairs_from m i bs) ≡ drop i bs
pair_bytes_from bs zero i h l = sym (drop_all i bs (omega arith))
pair_bytes_from bs (suc m) i h l =
    let a = be8-num8 bs (i + 1) h in
    let b = pair_bytes_from bs m (i + 9) h (omega arith) in
    ap₂ (λ x y. at bs i ∷ x ++ y) a b ∙ sym (drop-read 9 i bs (omega arith))

pair_bytes_bytes : (ps : List (ℕ × ℕ)) → AllByRecursion (λ p. p.0 < 256) ps → Bytes (pair_bytes ps)
pair_bytes_bytes [] h = tt
pair_bytes_bytes (p ∷ ps) h = (h.0, All-append (λ x. x < 256) (be8 p.1) (pair_bytes ps) (be8_bytes p.1) (pair_bytes_bytes ps h.1))

-- a frame that was written: a statement, the tag on it and pairs
abbrev pub frame : List ℕ → ℕ → List (ℕ × ℕ) → List ℕ
frame s g ps = s ++ be8 g ++ pair_bytes ps

module _ (s : List ℕ) (g : ℕ) (ps : List (ℕ × ℕ)) (full : length s ≡ 24) where
  pub length_frame : length (frame s g ps) ≡ 32 + 9 * length ps
  length_frame = simp length-append (omega (arith, length-pair_bytes ps))

  pub take_frame : take 24 (frame s g ps) ≡ s
  take_frame = ap (take 24) (append_assoc s (be8 g) (pair_bytes ps)) ∙ take_at s (be8 g ++ pair_bytes ps) 24 full

  drop_frame : drop 24 (frame s g ps) ≡ be8 g ++ pair_bytes ps
  drop_frame = ap (drop 24) (append_assoc s (be8 g) (pair_bytes ps)) ∙ drop_at s (be8 g ++ pair_bytes ps) 24 full

  pub tag_frame : g < 2 ^ 64 → tag_of (frame s g ps) ≡ g
  tag_frame h = num8-at (frame s g ps) (pair_bytes ps) 24 g h drop_frame

  pub pairs_frame : AllByRecursion (λ p. p.1 < 2 ^ 64) ps → pairs_from (length ps) 32 (frame s g ps) ≡ ps
  pairs_frame h = pairs_from_bytes (frame s g ps) 32 ps h (drop_on (frame s g ps) (be8 g ++ pair_bytes ps) 24 8 drop_frame)

  pub bytes_frame : Bytes s → AllByRecursion (λ p. p.0 < 256) ps → Bytes (frame s g ps)
  bytes_frame b h = All-append (λ x. x < 256) (s ++ be8 g) (pair_bytes ps) (All-append (λ x. x < 256) s (be8 g) b (be8_bytes g)) (pair_bytes_bytes ps h)

-- what is read from it; its kind, sender and count are read by refl
module _ (kind sender batch c m : ℕ) (body : List ℕ) (g : ℕ) (ps : List (ℕ × ℕ)) where
  pub batch_frame : batch < 2 ^ 16 → batch_of (frame (statement kind sender batch c m body) g ps) ≡ batch
  batch_frame h = num2-be2 batch [] h

  pub number_frame : c < 2 ^ 16 → number_of (frame (statement kind sender batch c m body) g ps) ≡ c
  number_frame h = num2-be2 c [] h

  pub pairs_of_frame : length body ≡ 16 → length ps ≡ m → AllByRecursion (λ p. p.1 < 2 ^ 64) ps
      → pairs_of (frame (statement kind sender batch c m body) g ps) ≡ ps
  pairs_of_frame l q h =
      let s : List ℕ = statement kind sender batch c m body in
      ap (λ k. pairs_from k 32 (frame s g ps)) (sym q) ∙ pairs_frame s g ps (omega arith) h

pub entry_frame : (kind sender batch c m : ℕ) (e : Entry) (g : ℕ) (ps : List (ℕ × ℕ)) → Fits e
    → entry_of (frame (statement kind sender batch c m (entry_bytes e)) g ps) ≡ e
entry_frame kind sender batch c m e g ps f =
    let p = num4-be4 e.grower [] f.0 in
    let q = num4-be4 e.amount [] f.1 in
    let r = num4-be4 e.carry [] f.2 in
    let s = num4-be4 e.figure [] f.3 in
    λ i. record { grower = p i; amount = q i; carry = r i; figure = s i }

-- all of it is bytes
pub statement_bytes : (kind sender batch c m : ℕ) (body : List ℕ) → kind < 256 → sender < 256 → m < 256 → Bytes body
    → Bytes (statement kind sender batch c m body)
statement_bytes kind sender batch c m body k s n b =
    let (b₁, (b₀, _)) = be2_bytes batch in
    let (c₁, (c₀, _)) = be2_bytes c in
    (k, (s, (b₁, (b₀, (c₁, (c₀, (n, (omega arith, b))))))))

pub entry_bytes_bytes : (e : Entry) → Bytes (entry_bytes e)
entry_bytes_bytes e =
    let B : ℕ → Type 0 = λ x. x < 256 in
    All-append B (be4 e.grower ++ be4 e.amount ++ be4 e.carry) (be4 e.figure)
    (All-append B (be4 e.grower ++ be4 e.amount) (be4 e.carry)
    (All-append B (be4 e.grower) (be4 e.amount) (be4_bytes e.grower) (be4_bytes e.amount)) (be4_bytes e.carry))
    (be4_bytes e.figure)

pub rising_below : (n low : ℕ) (ps : List (ℕ × ℕ)) → Rising n low ps → AllByRecursion (λ p. p.0 < n) ps
rising_below n low [] h = tt
rising_below n low (p ∷ ps) h = (h.1, rising_below n (p.0 + 1) ps h.2)

-- the three kinds, as they are issued
module _ (n t batches : ℕ) (few : batches < 2 ^ 16) (sender batch : ℕ) (sends : sender < n) (within : (1 ≤ batch) × (batch ≤ batches)) (g : ℕ) where
  batch_is : byte 1 batch * 256 + byte 0 batch ≡ batch
  batch_is = num2-be2 batch [] (omega arith)

  pub propose_formed : (e : Entry) → Formed n t batches (frame (proposes sender batch e) g [])
  propose_formed e = record {
    size = refl;
    kinds = omega arith;
    sends = sends;
    within = omega (arith, batch_is);
    proposal = λ _. (refl, refl);
    decision = λ h. absurd (omega arith);
    reselection = λ h. absurd (omega arith);
    blank = λ h. absurd (omega arith);
    spare = refl;
    rises = tt;
  }

  pub decision_formed : (e : Entry) (ps : List (ℕ × ℕ)) → length ps ≡ t + 1 → Rising n 0 ps → AllByRecursion (λ p. p.1 < 2 ^ 64) ps
      → Formed n t batches (frame (statement 2 sender batch 0 (t + 1) (entry_bytes e)) g ps)
  decision_formed e ps quorum rising tags =
      let s : List ℕ = statement 2 sender batch 0 (t + 1) (entry_bytes e) in
      let size : length (frame s g ps) ≡ 32 + 9 * length ps = length_frame s g ps refl in
      record {
        size = size ∙ ap (λ k. 32 + 9 * k) quorum;
        kinds = omega arith;
        sends = sends;
        within = omega (arith, batch_is);
        proposal = λ h. absurd (omega arith);
        decision = λ _. (refl, refl);
        reselection = λ h. absurd (omega arith);
        blank = λ h. absurd (omega arith);
        spare = refl;
        rises = subst (Rising n 0) (sym (pairs_of_frame 2 sender batch 0 (t + 1) (entry_bytes e) g ps refl quorum tags)) rising;
      }

  pub reselect_formed : (c m : ℕ) (ps : List (ℕ × ℕ)) → (1 ≤ c) × (c ≤ 20000) → length ps ≡ m → m ≤ 1 → Rising n 0 ps → AllByRecursion (λ p. p.1 < 2 ^ 64) ps
      → Formed n t batches (frame (statement 3 sender batch c m (replicate 16 0)) g ps)
  reselect_formed c m ps fits count few rising tags =
      let s : List ℕ = statement 3 sender batch c m (replicate 16 0) in
      let number : byte 1 c * 256 + byte 0 c ≡ c = num2-be2 c [] (omega arith) in
      record {
        size = length_frame s g ps refl ∙ ap (λ k. 32 + 9 * k) count;
        kinds = omega arith;
        sends = sends;
        within = omega (arith, batch_is);
        proposal = λ h. absurd (omega arith);
        decision = λ h. absurd (omega arith);
        reselection = λ _. omega arith;
        blank = λ _. refl;
        spare = refl;
        rises = subst (Rising n 0) (sym (pairs_of_frame 3 sender batch c m (replicate 16 0) g ps refl count tags)) rising;
      }

-- a frame that is read is what its fields write
pub body_entry : (bs : List ℕ) → Bytes bs → 24 ≤ length bs → take 16 (drop 8 bs) ≡ entry_bytes (entry_of bs)
body_entry bs h l =
    let p = be4-num4 bs 8 h in
    let q = be4-num4 bs 12 h in
    let r = be4-num4 bs 16 h in
    let s = be4-num4 bs 20 h in
    take-read 16 8 bs l ∙ sym (λ i. p i ++ q i ++ r i ++ s i)

pub frame_is : (bs : List ℕ) → Bytes bs → at bs 7 ≡ 0 → length bs ≡ 32 + 9 * count_of bs
    → bs ≡ frame (statement (kind_of bs) (sender_of bs) (batch_of bs) (number_of bs) (count_of bs) (take 16 (drop 8 bs))) (tag_of bs) (pairs_of bs)
frame_is bs h spare size =
    let b = be2-num2 bs 2 h in
    let c = be2-num2 bs 4 h in
    let body = take-read 16 8 bs (omega arith) in
    let g = be8-num8 bs 24 h in
    let ps = pair_bytes_from bs (count_of bs) 32 h size in
    drop-read 32 0 bs (omega arith)
    ∙ sym (λ i. (kind_of bs ∷ sender_of bs ∷ b i ++ c i ++ count_of bs ∷ sym spare i ∷ body i) ++ g i ++ ps i)

-- what a pair of a frame seals
pub states_proposal : (bs : List ℕ) (q : ℕ) → kind_of bs ≡ 2 → pair_states bs q ≡ proposes q (batch_of bs) (entry_of bs)
states_proposal bs q e = rw (eq-eqb (kind_of bs) 2 e) refl

pub states_reselect : (bs : List ℕ) (q : ℕ) → (kind_of bs ≡ 2 → ⊥) → pair_states bs q ≡ reselects q (batch_of bs) (number_of bs)
states_reselect bs q e = rw (ne_eqb (kind_of bs) 2 e) refl

module _ (n t batches : ℕ) where
  -- what a well-formed frame states, by its kind
  module _ (bs : List ℕ) (h : Bytes bs) (f : Formed n t batches bs) where
    pub written : (s : List ℕ) → statement (kind_of bs) (sender_of bs) (batch_of bs) (number_of bs) (count_of bs) (take 16 (drop 8 bs)) ≡ s
        → bs ≡ frame s (tag_of bs) (pairs_of bs)
    written s e = frame_is bs h f.spare f.size ∙ ap (λ s. frame s (tag_of bs) (pairs_of bs)) e

    pub written_proposal : kind_of bs ≡ 1 → bs ≡ frame (proposes (sender_of bs) (batch_of bs) (entry_of bs)) (tag_of bs) []
    written_proposal k =
        let c = (f.proposal k).0 in
        let m = (f.proposal k).1 in
        let body = body_entry bs h (omega arith) in
        written _ (λ i. statement (k i) (sender_of bs) (batch_of bs) (c i) (m i) (body i))
        ∙ ap (λ m. frame (proposes (sender_of bs) (batch_of bs) (entry_of bs)) (tag_of bs) (pairs_from m 32 bs)) m

    pub written_decision : kind_of bs ≡ 2
        → bs ≡ frame (statement 2 (sender_of bs) (batch_of bs) 0 (t + 1) (entry_bytes (entry_of bs))) (tag_of bs) (pairs_of bs)
    written_decision k =
        let c = (f.decision k).0 in
        let m = (f.decision k).1 in
        let body = body_entry bs h (omega arith) in
        written _ (λ i. statement (k i) (sender_of bs) (batch_of bs) (c i) (m i) (body i))

    pub written_reselection : kind_of bs ≡ 3
        → bs ≡ frame (statement 3 (sender_of bs) (batch_of bs) (number_of bs) (count_of bs) (replicate 16 0)) (tag_of bs) (pairs_of bs)
    written_reselection k =
        let body = f.blank k in
        written _ (λ i. statement (k i) (sender_of bs) (batch_of bs) (number_of bs) (count_of bs) (body i))
