-- A frame by its fields is the frame by its bytes: what its tags seal, and its pairs.
use Rattle.std.proofs.Common.{◌≡◌, ℕ, ◌-◌, ◌≤◌, min, Bool, true, false, cond, eqb, List, [], ◌∷◌, ◌++◌, map, length, take, replicate, None, sym, refl, ap, ◌∙◌, ⊎_elim, arith}
use Rattle.std.proofs.lemmas.Bool.{eqb-true, ne_eqb, cases_eq}
use Rattle.std.proofs.lemmas.List.{length-map, take_all, take_at}
use Rattle.frames.specs.declared.frame.Kind.TheVariants.{Propose, Decision, Reselect}
use Rattle.frames.specs.declared.frame.Pair.{Pair}
use Rattle.frames.specs.Bytes.{statement, entry_bytes, proposes, reselects}
use Rattle.frames.specs.Frames.{kind_of, sender_of, batch_of, number_of, count_of, entry_of, tag_of, pairs_of, pair_states}
use Rattle.frames.specs.Certificates.{malformed}
use Rattle.frames.specs.Typed.{kind_number, kind_at, no_pair, pair_at, plain, listed, holding, frame_of, stated, pair_stated}
use Rattle.frames.proofs.Numbers.{Bytes}
use Rattle.frames.proofs.Formed.{Formed, none_formed}
use Rattle.frames.proofs.Frames.{take_frame, written, body_entry, length-pairs_from}
use Rattle.frames.proofs.Decoding.{named}
use Rattle.protocol.specs.Ready.{pairs_in}

plain_pairs : (ps : List (ℕ × ℕ)) → map plain (map pair_at ps) ≡ ps
plain_pairs [] = refl
plain_pairs (p ∷ ps) = ap (λ (r : List (ℕ × ℕ)). p ∷ r) (plain_pairs ps)

-- pairs that there is room for are all there
pub held_pairs : (count : ℕ) (ps : List (ℕ × ℕ)) → length ps ≡ count → count ≤ 8 → map plain (listed (holding count ps)) ≡ ps
held_pairs count ps size few =
    let all : take 8 ps ≡ ps = take_all 8 ps (omega arith) in
    let rest : List Pair = replicate (8 - length (map pair_at (take 8 ps))) no_pair in
    let least : min count 8 ≡ count = omega arith in
    let long : length (map pair_at (take 8 ps)) ≡ count = length-map (take 8 ps) pair_at ∙ ap length all ∙ size in
    ap (λ (m : ℕ). map plain (take m (map pair_at (take 8 ps) ++ rest))) least
    ∙ ap (map plain) (take_at (map pair_at (take 8 ps)) rest count long)
    ∙ plain_pairs (take 8 ps) ∙ all

-- what a pair seals
pub pair_stated_is : (bs : List ℕ) → pair_stated (frame_of bs) ≡ pair_states bs
unfolding frame_of
pair_stated_is bs = λ j q. go q (eqb (kind_of bs) 1) (eqb (kind_of bs) 2) (λ one. ne_eqb (kind_of bs) 2 (λ two. omega (arith, eqb-true (kind_of bs) 1 one, two))) j
  where
    go : (q : ℕ) (a b : Bool) → (a ≡ true → b ≡ false)
        → ◌≡◌ {A = List ℕ} (elim (cond a Propose (cond b Decision Reselect)) [
          | Propose ↦ reselects q (batch_of bs) (number_of bs)
          | Decision ↦ proposes q (batch_of bs) (entry_of bs)
          | Reselect ↦ reselects q (batch_of bs) (number_of bs)
        ])
        (cond b (proposes q (batch_of bs) (entry_of bs)) (reselects q (batch_of bs) (number_of bs)))
    go q true b h = rw (h refl) refl
    go q false true h = refl
    go q false false h = refl

module _ (n t batches : ℕ) (bs : List ℕ) (well : malformed n t batches bs ≡ None) where
  formed : Formed n t batches bs
  formed = none_formed n t batches bs well

  -- what the sender's tag seals
  pub stated_is : Bytes bs → stated (frame_of bs) ≡ take 24 bs
  unfolding frame_of
  stated_is h =
      let s : List ℕ = statement (kind_of bs) (sender_of bs) (batch_of bs) (number_of bs) (count_of bs) (entry_bytes (entry_of bs)) in
      let body = body_entry bs h (omega (arith, formed.size)) in
      let kind : kind_number (kind_at (kind_of bs)) ≡ kind_of bs = named (kind_of bs) formed.kinds.0 formed.kinds.1 in
      let is = written n t batches bs h formed s (ap (statement (kind_of bs) (sender_of bs) (batch_of bs) (number_of bs) (count_of bs)) body) in
      ap (λ (k : ℕ). statement k (sender_of bs) (batch_of bs) (number_of bs) (count_of bs) (entry_bytes (entry_of bs))) kind
      ∙ sym (ap (take 24) is ∙ take_frame s (tag_of bs) (pairs_of bs) refl)

  pub few_pairs : t ≤ 7 → count_of bs ≤ 8
  few_pairs few = ⊎_elim (λ k. omega (arith, (formed.proposal k).1))
      (λ k. ⊎_elim (λ l. omega (arith, (formed.decision l).1)) (λ l. omega (arith, (formed.reselection (omega (arith, formed.kinds))).2)) (cases_eq (kind_of bs) 2))
      (cases_eq (kind_of bs) 1)

  pub pairs_are : t ≤ 7 → pairs_in (frame_of bs) ≡ pairs_of bs
  unfolding frame_of
  pairs_are few = held_pairs (count_of bs) (pairs_of bs) (length-pairs_from (count_of bs) 32 bs) (few_pairs few)
