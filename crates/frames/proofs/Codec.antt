-- What the frames that stations issue read back as, and what a well-formed frame states: all that an
-- argument over whole runs needs to know of bytes.
use Rattle.std.proofs.Common.{◌≡◌, ℕ, ◌+◌, ◌^◌, ◌<◌, ◌≤◌, true, List, [], ◌∷◌, length, get_or, take, replicate, None, sym, refl, ap, ◌∙◌, subst, ap₂, arith}
use Rattle.std.specs.List.{AllByRecursion}
use Rattle.std.proofs.ByRecursion.{All-weaker}
use Rattle.std.proofs.lemmas.Bool.{eqb-true, eq-eqb}
use Rattle.base.specs.declared.book.Entry.{Entry}
use Rattle.frames.specs.Bytes.{statement, entry_bytes, proposes, reselects}
use Rattle.frames.specs.Certificates.{Fits, Rising, Certifies, malformed, sender_sealed, pair_sealed}
use Rattle.frames.specs.Frames.{pair_states, kind_of, sender_of, batch_of, number_of, count_of, tag_of, pairs_of, pairs_from, entry_of, num8, at, line_fault, unhex}
use Rattle.frames.proofs.Basics.{all_both}
use Rattle.frames.proofs.Numbers.{Bytes, bytes_from, at_lt, num4_lt}
use Rattle.frames.proofs.Formed.{Formed, formed_none, none_formed}
use Rattle.frames.proofs.Frames.{frame, take_frame, tag_frame, length_frame, bytes_frame, batch_frame, number_frame, pairs_of_frame, entry_frame, statement_bytes, entry_bytes_bytes, rising_below, propose_formed, decision_formed, reselect_formed, written_proposal, written_reselection, length-pairs_from}
use Rattle.frames.proofs.Lines.{bytes_of_line, length_of_line}

-- statements of different kinds differ, and so do those of different counts
pub kind_apart : (k j b c m k' j' b' c' m' : ℕ) (x y : List ℕ) → statement k j b c m x ≡ statement k' j' b' c' m' y → k ≡ k'
kind_apart k j b c m k' j' b' c' m' x y e = ap (λ (bs : List ℕ). get_or bs 0 0) e

pub count-apart : (k j b c m k' j' b' c' m' : ℕ) (x y : List ℕ) → statement k j b c m x ≡ statement k' j' b' c' m' y → m ≡ m'
count-apart k j b c m k' j' b' c' m' x y e = ap (λ (bs : List ℕ). get_or bs 6 0) e

zero_bytes : Bytes (replicate 16 0)
zero_bytes = bytes_from (replicate 16 0) (λ i. at_lt (replicate 16 0) i (omega arith))

abbrev pub paired_statement : ℕ → ℕ → ℕ → List ℕ
paired_statement j b c = statement 3 j b c 1 (replicate 16 0)

pub line_bytes : (l : List ℕ) → line_fault l ≡ None → Bytes (unhex l) × (1 ≤ length (unhex l)) × (length (unhex l) ≤ 104)
line_bytes l n = let x = length_of_line l n in (bytes_of_line l n, x.0, x.1)

-- stations, batches and tags for which a frame has room
pub record Encodable (n t batches : ℕ) (tag : ℕ → List ℕ → ℕ) : Type 0 where
  pub few_stations : n ≤ 16
  pub few_faults : t ≤ 7
  pub few_batches : batches < 2 ^ 16
  pub tags : (i : ℕ) (s : List ℕ) → i < 16 → length s ≡ 24 → Bytes s → tag i s < 2 ^ 64

module _ (n t batches : ℕ) (tag : ℕ → List ℕ → ℕ) where
  -- the frame that a station issues on a statement
  unfoldable pub sealed_frame : ℕ → List ℕ → List (ℕ × ℕ) → List ℕ
  sealed_frame j s pairs = frame s (tag j s) pairs

  abbrev pub Within : ℕ → Type 0
  Within b = (1 ≤ b) × (b ≤ batches)

  -- what a frame reads back as
  pub record Reads (bs : List ℕ) (kind j b c m : ℕ) (pairs : List (ℕ × ℕ)) (s : List ℕ) : Type 0 where
    pub kind_is : kind_of bs ≡ kind
    pub sender_is : sender_of bs ≡ j
    pub batch_is : batch_of bs ≡ b
    pub number_is : number_of bs ≡ c
    pub count_is : count_of bs ≡ m
    pub pairs_are : pairs_of bs ≡ pairs
    pub begins : take 24 bs ≡ s
    pub tag_is : tag_of bs ≡ tag j s
    pub some : 1 ≤ length bs
    pub short : length bs ≤ 104
    pub bytes : Bytes bs
    pub formed : malformed n t batches bs ≡ None

  -- tags, as they are tested

  pub sealed_sender : (bs : List ℕ) → tag_of bs ≡ tag (sender_of bs) (take 24 bs) → sender_sealed tag bs ≡ true
  sealed_sender bs e = eq-eqb (tag_of bs) (tag (sender_of bs) (take 24 bs)) e

  pub sealed_tag : (bs : List ℕ) → sender_sealed tag bs ≡ true → tag_of bs ≡ tag (sender_of bs) (take 24 bs)
  sealed_tag bs h = eqb-true (tag_of bs) (tag (sender_of bs) (take 24 bs)) h

  pub sealed_pair : (bs : List ℕ) (p : ℕ × ℕ) → p.1 ≡ tag p.0 (pair_states bs p.0) → pair_sealed tag bs p ≡ true
  sealed_pair bs p e = eq-eqb p.1 (tag p.0 (pair_states bs p.0)) e

  pub pair_tag : (bs : List ℕ) (p : ℕ × ℕ) → pair_sealed tag bs p ≡ true → p.1 ≡ tag p.0 (pair_states bs p.0)
  pair_tag bs p h = eqb-true p.1 (tag p.0 (pair_states bs p.0)) h

  -- a frame that reads back is sealed by its sender
  pub reads_sealed : {bs : List ℕ} {kind j b c m : ℕ} {pairs : List (ℕ × ℕ)} {s : List ℕ} → Reads bs kind j b c m pairs s → sender_sealed tag bs ≡ true
  reads_sealed {bs} r = sealed_sender bs (r.tag_is ∙ ap₂ (λ (q : ℕ) (y : List ℕ). tag q y) (sym r.sender_is) (sym r.begins))

  -- a well-formed frame

  pub sender_small : (bs : List ℕ) → malformed n t batches bs ≡ None → sender_of bs < n
  sender_small bs m = (none_formed n t batches bs m).sends

  pub batch_within : (bs : List ℕ) → malformed n t batches bs ≡ None → Within (batch_of bs)
  batch_within bs m = (none_formed n t batches bs m).within

  entry_fits : (bs : List ℕ) → Bytes bs → Fits (entry_of bs)
  entry_fits bs h = (num4_lt bs 8 h, num4_lt bs 12 h, num4_lt bs 16 h, num4_lt bs 20 h)

  pub says_proposal : (bs : List ℕ) → malformed n t batches bs ≡ None → Bytes bs → kind_of bs ≡ 1
      → (take 24 bs ≡ proposes (sender_of bs) (batch_of bs) (entry_of bs)) × Fits (entry_of bs)
  says_proposal bs m h k = (
    ap (take 24) (written_proposal n t batches bs h (none_formed n t batches bs m) k) ∙ take_frame (proposes (sender_of bs) (batch_of bs) (entry_of bs)) (tag_of bs) [] refl,
    entry_fits bs h,
  )

  pub says_decision : (bs : List ℕ) → malformed n t batches bs ≡ None → Bytes bs → kind_of bs ≡ 2
      → Fits (entry_of bs) × (length (pairs_of bs) ≡ t + 1) × Rising n 0 (pairs_of bs)
  says_decision bs m h k =
      let f = none_formed n t batches bs m in
      (entry_fits bs h, length-pairs_from (count_of bs) 32 bs ∙ (f.decision k).1, f.rises)

  is_reselect : (bs : List ℕ) → malformed n t batches bs ≡ None → (kind_of bs ≡ 1 → ⊥) → (kind_of bs ≡ 2 → ⊥) → kind_of bs ≡ 3
  is_reselect bs m a b = let f = none_formed n t batches bs m in omega (arith, f.kinds.0, f.kinds.1)

  pub says-reselect : (bs : List ℕ) → malformed n t batches bs ≡ None → (kind_of bs ≡ 1 → ⊥) → (kind_of bs ≡ 2 → ⊥)
      → (1 ≤ number_of bs) × (number_of bs ≤ 20000)
  says-reselect bs m a b = let r = (none_formed n t batches bs m).reselection (is_reselect bs m a b) in (r.0, r.1)

  pub says_plain : (bs : List ℕ) → malformed n t batches bs ≡ None → Bytes bs → (kind_of bs ≡ 1 → ⊥) → (kind_of bs ≡ 2 → ⊥) → count_of bs ≡ 0
      → take 24 bs ≡ reselects (sender_of bs) (batch_of bs) (number_of bs)
  says_plain bs m h a b c =
      ap (take 24) (written_reselection n t batches bs h (none_formed n t batches bs m) (is_reselect bs m a b))
      ∙ take_frame (statement 3 (sender_of bs) (batch_of bs) (number_of bs) (count_of bs) (replicate 16 0)) (tag_of bs) (pairs_of bs) refl
      ∙ ap (λ (n : ℕ). statement 3 (sender_of bs) (batch_of bs) (number_of bs) n (replicate 16 0)) c

  pub says_paired : (bs : List ℕ) → malformed n t batches bs ≡ None → count_of bs ≡ 1 → (q x : ℕ) × (pairs_of bs ≡ (q, x) ∷ []) × (q < n)
  says_paired bs m c =
      let e : pairs_of bs ≡ (at bs 32, num8 bs 33) ∷ [] = ap (λ (n : ℕ). pairs_from n 32 bs) c in
      (at bs 32, num8 bs 33, e, (subst (Rising n 0) e (none_formed n t batches bs m).rises).1)

  module _ (room : Encodable n t batches tag) where
    few : batches < 2 ^ 16
    few = room.few_batches

    tag_small : (kind q b c m : ℕ) (body : List ℕ) → kind < 256 → q < n → m < 256 → length body ≡ 16 → Bytes body → tag q (statement kind q b c m body) < 2 ^ 64
    tag_small kind q b c m body k l m8 e h =
        room.tags q (statement kind q b c m body) (omega (arith, room.few_stations)) (omega arith) (statement_bytes kind q b c m body k (omega (arith, room.few_stations)) m8 h)

    reads_of : (kind j b c m : ℕ) (body : List ℕ) (ps : List (ℕ × ℕ)) → length body ≡ 16 → kind < 256 → j < n → b < 2 ^ 16 → c < 2 ^ 16 → m ≤ 8 → length ps ≡ m
        → AllByRecursion (λ p. p.1 < 2 ^ 64) ps → Rising n 0 ps → Bytes body → Formed n t batches (sealed_frame j (statement kind j b c m body) ps)
        → Reads (sealed_frame j (statement kind j b c m body) ps) kind j b c m ps (statement kind j b c m body)
    unfolding sealed_frame
    reads_of kind j b c m body ps full k256 jn b16 c16 m8 count tags rising bytes formed =
        let s : List ℕ = statement kind j b c m body in
        let long : length s ≡ 24 = omega arith in
        let size = length_frame s (tag j s) ps long in
        record {
          kind_is = refl;
          sender_is = refl;
          batch_is = batch_frame kind j b c m body (tag j s) ps b16;
          number_is = number_frame kind j b c m body (tag j s) ps c16;
          count_is = refl;
          pairs_are = pairs_of_frame kind j b c m body (tag j s) ps full count tags;
          begins = take_frame s (tag j s) ps long;
          tag_is = tag_frame s (tag j s) ps long (tag_small kind j b c m body k256 jn (omega arith) full bytes);
          some = omega (arith, size);
          short = omega (arith, size, count, m8);
          bytes = bytes_frame s (tag j s) ps long
              (statement_bytes kind j b c m body k256 (omega (arith, jn, room.few_stations)) (omega (arith, m8)) bytes)
              (All-weaker _ _ (λ p q. omega (arith, q, room.few_stations)) ps (rising_below n 0 ps rising));
          formed = formed_none n t batches _ formed;
        }

    -- frames that steps issue

    pub reads_proposal : (j b : ℕ) (e : Entry) → j < n → Within b → Reads (sealed_frame j (proposes j b e) []) 1 j b 0 0 [] (proposes j b e)
    unfolding sealed_frame
    reads_proposal j b e jn wi =
        reads_of 1 j b 0 0 (entry_bytes e) [] refl (omega arith) jn (omega (arith, wi.1, few)) (omega arith) (omega arith) refl tt tt
        (entry_bytes_bytes e) (propose_formed n t batches few j b jn wi _ e)

    pub reads_plain : (j b c : ℕ) → j < n → Within b → (1 ≤ c) × (c ≤ 20000) → Reads (sealed_frame j (reselects j b c) []) 3 j b c 0 [] (reselects j b c)
    unfolding sealed_frame
    reads_plain j b c jn wi cs =
        reads_of 3 j b c 0 (replicate 16 0) [] refl (omega arith) jn (omega (arith, wi.1, few)) (omega (arith, cs.1)) (omega arith) refl tt tt
        zero_bytes (reselect_formed n t batches few j b jn wi _ c 0 [] cs refl (omega arith) tt tt)

    pub reads_paired : (j b c q x : ℕ) → j < n → Within b → (1 ≤ c) × (c ≤ 20000) → q < n → x ≡ tag q (reselects q b c)
        → Reads (sealed_frame j (paired_statement j b c) ((q, x) ∷ [])) 3 j b c 1 ((q, x) ∷ []) (paired_statement j b c)
    unfolding sealed_frame
    reads_paired j b c q x jn wi cs qn tg =
        let xs : x < 2 ^ 64 = subst (λ (y : ℕ). y < 2 ^ 64) (sym tg) (tag_small 3 q b c 0 (replicate 16 0) (omega arith) qn (omega arith) refl zero_bytes) in
        reads_of 3 j b c 1 (replicate 16 0) ((q, x) ∷ []) refl (omega arith) jn (omega (arith, wi.1, few)) (omega (arith, cs.1)) (omega arith) refl (xs, tt) (omega arith, qn, tt)
        zero_bytes (reselect_formed n t batches few j b jn wi _ c 1 ((q, x) ∷ []) cs refl (omega arith) (omega arith, qn, tt) (xs, tt))

    pub reads_decision : (bs : List ℕ) (j b : ℕ) (e : Entry) (ps : List (ℕ × ℕ)) → Certifies n t batches tag bs j b e ps
        → Reads bs 2 j b 0 (t + 1) ps (statement 2 j b 0 (t + 1) (entry_bytes e))
    unfolding sealed_frame
    reads_decision bs j b e ps ce =
        let small : AllByRecursion (λ p. p.1 < 2 ^ 64) ps =
        all_both _ _ _ (λ p x y. subst (λ (x : ℕ). x < 2 ^ 64) (sym x) (tag_small 1 p.0 b 0 0 (entry_bytes e) (omega arith) y (omega arith) refl (entry_bytes_bytes e))) ps ce.sealed (rising_below n 0 ps ce.rising) in
        subst (λ (x : List ℕ). Reads x 2 j b 0 (t + 1) ps (statement 2 j b 0 (t + 1) (entry_bytes e))) (sym ce.reads)
        (reads_of 2 j b 0 (t + 1) (entry_bytes e) ps refl (omega arith) ce.sends (omega (arith, ce.within.1, few)) (omega arith)
        (omega (arith, room.few_faults)) ce.quorum small ce.rising (entry_bytes_bytes e)
        (decision_formed n t batches few j b ce.sends ce.within _ e ps ce.quorum ce.rising small))

    pub entry_decision : (bs : List ℕ) (j b : ℕ) (e : Entry) (ps : List (ℕ × ℕ)) → Certifies n t batches tag bs j b e ps → entry_of bs ≡ e
    entry_decision bs j b e ps ce = ap entry_of ce.reads ∙ entry_frame 2 j b 0 (t + 1) e 0 ps ce.fits

    -- a statement says one thing

    pub propose_once : (j b j' b' : ℕ) (e e' : Entry) → Within b → Within b' → Fits e → Fits e'
        → proposes j b e ≡ proposes j' b' e' → (j ≡ j') × (b ≡ b') × (e ≡ e')
    propose_once j b j' b' e e' wi wi' fi fi' q = (
      ap (λ (bs : List ℕ). get_or bs 1 0) q,
      sym (batch_frame 1 j b 0 0 (entry_bytes e) 0 [] (omega (arith, wi.1, few))) ∙ ap (λ (s : List ℕ). batch_of (frame s 0 [])) q
          ∙ batch_frame 1 j' b' 0 0 (entry_bytes e') 0 [] (omega (arith, wi'.1, few)),
      sym (entry_frame 1 j b 0 0 e 0 [] fi) ∙ ap (λ (s : List ℕ). entry_of (frame s 0 [])) q ∙ entry_frame 1 j' b' 0 0 e' 0 [] fi',
    )

    pub reselect_once : (j b c j' b' c' : ℕ) → Within b → Within b' → c ≤ 20000 → c' ≤ 20000
        → reselects j b c ≡ reselects j' b' c' → (j ≡ j') × (b ≡ b') × (c ≡ c')
    reselect_once j b c j' b' c' wi wi' cs cs' q = (
      ap (λ (bs : List ℕ). get_or bs 1 0) q,
      sym (batch_frame 3 j b c 0 (replicate 16 0) 0 [] (omega (arith, wi.1, few))) ∙ ap (λ (s : List ℕ). batch_of (frame s 0 [])) q
          ∙ batch_frame 3 j' b' c' 0 (replicate 16 0) 0 [] (omega (arith, wi'.1, few)),
      sym (number_frame 3 j b c 0 (replicate 16 0) 0 [] (omega arith)) ∙ ap (λ (s : List ℕ). number_of (frame s 0 [])) q
          ∙ number_frame 3 j' b' c' 0 (replicate 16 0) 0 [] (omega arith),
    )
