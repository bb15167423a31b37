-- A frame passes the checks of a decision exactly when it is a certificate by its own fields.
use Rattle.std.proofs.Common.{◌≡◌, ℕ, ◌+◌, ◌*◌, ◌^◌, ◌<◌, true, List, length, take, None, sym, refl, ap, ◌∙◌, arith}
use Rattle.std.specs.List.{AllByRecursion}
use Rattle.std.proofs.lemmas.Bool.{eqb-true, eq-eqb}
use Rattle.std.proofs.ByRecursion.{All-weaker}
use Rattle.frames.specs.Bytes.{statement, entry_bytes}
use Rattle.frames.specs.Frames.{at, kind_of, sender_of, batch_of, number_of, count_of, tag_of, pairs_of, entry_of}
use Rattle.frames.specs.Certificates.{malformed, sender_sealed, pair_sealed, Certificate, Passes}
use Rattle.frames.proofs.Numbers.{Bytes, num4_lt}
use Rattle.frames.proofs.Formed.{formed_none, none_formed, first_pair_all, first_pair_none}
use Rattle.frames.proofs.Frames.{frame, take_frame, tag_frame, length_frame, length-pairs_from, states_proposal, written_decision}

module _ (n t batches : ℕ) (tag : ℕ → List ℕ → ℕ) where
  -- a decision that passes the checks is a certificate
  pub certifies : (bs : List ℕ) → Bytes bs → malformed n t batches bs ≡ None → kind_of bs ≡ 2 → sender_sealed tag bs ≡ true
      → AllByRecursion (λ p. pair_sealed tag bs p ≡ true) (pairs_of bs)
      → Certificate n t batches tag bs
  certifies bs h none k seal seals =
      let f = none_formed n t batches bs none in
      let s : List ℕ = statement 2 (sender_of bs) (batch_of bs) 0 (t + 1) (entry_bytes (entry_of bs)) in
      let is : bs ≡ frame s (tag_of bs) (pairs_of bs) = written_decision n t batches bs h f k in
      let front : take 24 bs ≡ s = ap (take 24) is ∙ take_frame s (tag_of bs) (pairs_of bs) refl in
      let g : tag_of bs ≡ tag (sender_of bs) s = eqb-true _ _ seal ∙ ap (tag (sender_of bs)) front in
      record {
        sends = f.sends;
        within = f.within;
        fits = (num4_lt bs 8 h, num4_lt bs 12 h, num4_lt bs 16 h, num4_lt bs 20 h);
        quorum = length-pairs_from (count_of bs) 32 bs ∙ (f.decision k).1;
        rising = f.rises;
        sealed = All-weaker _ _ (λ p e. eqb-true _ _ e ∙ ap (tag p.0) (states_proposal bs p.0 k)) (pairs_of bs) seals;
        reads = is ∙ ap (λ g. frame s g (pairs_of bs)) g;
      }

  -- the tag that its sender owes on its statement
  abbrev pub owed_tag : List ℕ → ℕ
  owed_tag bs = tag (sender_of bs) (statement 2 (sender_of bs) (batch_of bs) 0 (t + 1) (entry_bytes (entry_of bs)))

  pub certificate : (bs : List ℕ) → Bytes bs → owed_tag bs < 2 ^ 64
      → (Passes n t batches tag bs → Certificate n t batches tag bs) × (Certificate n t batches tag bs → Passes n t batches tag bs)
  certificate bs h small = (there, back)
    where
      there : Passes n t batches tag bs → Certificate n t batches tag bs
      there p = certifies bs h p.formed p.decision p.sender (first_pair_all (pair_sealed tag bs) 32 (pairs_of bs) p.pairs)

      back : Certificate n t batches tag bs → Passes n t batches tag bs
      back c =
          let s : List ℕ = statement 2 (sender_of bs) (batch_of bs) 0 (t + 1) (entry_bytes (entry_of bs)) in
          let g : ℕ = tag (sender_of bs) s in
          let is : bs ≡ frame s g (pairs_of bs) = c.reads in
          let kind : kind_of bs ≡ 2 = ap kind_of is in
          let number : number_of bs ≡ 0 = ap number_of is in
          let count : count_of bs ≡ t + 1 = ap count_of is in
          let spare : at bs 7 ≡ 0 = ap (λ (x : List ℕ). at x 7) is in
          let front : take 24 bs ≡ s = ap (take 24) is ∙ take_frame s g (pairs_of bs) refl in
          let sealing : tag_of bs ≡ g = ap tag_of is ∙ tag_frame s g (pairs_of bs) refl small in
          record {
            formed = formed_none n t batches bs (record {
              size = ap length is ∙ length_frame s g (pairs_of bs) refl ∙ ap (λ (k : ℕ). 32 + 9 * k) (c.quorum ∙ sym count);
              kinds = omega arith;
              sends = c.sends;
              within = c.within;
              proposal = λ k. absurd (omega arith);
              decision = λ _. (number, count);
              reselection = λ k. absurd (omega arith);
              blank = λ k. absurd (omega arith);
              spare = spare;
              rises = c.rising;
            });
            decision = kind;
            sender = eq-eqb _ _ (sealing ∙ ap (tag (sender_of bs)) (sym front));
            pairs = first_pair_none (pair_sealed tag bs) 32 (pairs_of bs)
                (All-weaker _ _ (λ p e. eq-eqb _ _ (e ∙ ap (tag p.0) (sym (states_proposal bs p.0 kind)))) (pairs_of bs) c.sealed);
          }
