-- Frames that a station at work is bound to take, and that a vote once held stays held.
use Rattle.std.proofs.Common.{◌≡◌, ℕ, ◌+◌, ◌<◌, ◌≤◌, Bool, true, false, not, eqb, ltb, leb, List, [], length, get_or, Some, None, Ok, Err, Option, Result, sym, refl, ap, ◌∙◌, subst, arith}
use Rattle.std.proofs.lemmas.Bool.{eqb-true, eqb-false, leb-true, le-leb, lt-ltb, both_ways}
use Rattle.std.proofs.lemmas.List.{get_or-set_same}
use Rattle.base.specs.declared.book.Batch.{Batch}
use Rattle.base.specs.declared.book.Entry.{Entry}
use Rattle.base.specs.declared.fault.Fault.{Fault}
use Rattle.base.specs.declared.refusal.Refusal.TheVariants.{PoolFull, EarlierBatch, LaterBatch, SenderTag, VoteHeld}
use Rattle.base.specs.Refusals.{fault_at, number_of as refusal_number}
use Rattle.frames.specs.Slots.{frame_at, free}
use Rattle.frames.specs.Frames.{kind_of, sender_of, batch_of, number_of, tag_of, pairs_of, entry_of, first_pair}
use Rattle.protocol.specs.declared.station.Vote.{Vote}
use Rattle.protocol.specs.declared.station.Station.{Station}
use Rattle.protocol.specs.Law.{Terms, Marks}
use Rattle.protocol.specs.Steps.{World, station_at, at_work, sender_sealed, pair_sealed, malformed, propose, decide, store, mark_taken, own_entry, join, shows, Acted, stepped, reselect, held, take_proposal, deliver_call, meet, meet_proposal, meet_decision, meet_reselect, test, form_faults, tag_faults, rightly_sent, pair_left}
use Rattle.frames.proofs.Basics.{by_test, never}
use Rattle.protocol.proofs.Usable.{Usable}
use Rattle.protocol.proofs.Rules.{settle-rule, moved_on, reselect-rule, proposal_rule}
use Rattle.protocol.proofs.Records.{propose_here, moved_here, moved_length, store_here, propose-length, store_length, decide_votes}
use Rattle.protocol.proofs.Keeps.{held-set}

module _ (d : Terms) where
  -- a Deliver that passes the tests before those of its kind
  pub record Ripe (i f : ℕ) (w : World) : Type 0 where
    pub small : i < d.n
    pub right : d.faulty i ≡ false
    pub busy : at_work d (station_at w i) ≡ true
    pub some : 1 ≤ length (frame_at w.pool f)
    pub formed : malformed d (frame_at w.pool f) ≡ None
    pub batch : batch_of (frame_at w.pool f) ≡ (station_at w i).booked + 1
    pub sealed : sender_sealed d (frame_at w.pool f) ≡ true

  pass_rule : (P : Acted → Type 0) (b : Bool) (stop : Acted) {go : Acted} → b ≡ true → P go → P (test b stop go)
  pass_rule P true stop h g = g
  pass_rule P false stop h g = never h

  fail_rule : (P : Acted → Type 0) (b : Bool) {stop : Acted} (go : Acted) → b ≡ false → P stop → P (test b stop go)
  fail_rule P true go h g = absurd (both_ways true h refl)
  fail_rule P false go h g = g

  no_fault : (P : Acted → Type 0) (o : Option ℕ) (w : World) {go : Acted} → o ≡ None → P go → P (form_faults o w go)
  no_fault P None w h g = g
  no_fault P (Some x) w h g = absurd (let z : ◌≡◌ {A = ℕ} 0 1 = cc in omega arith)

  no_tag_fault : (P : Acted → Type 0) (o : Option ℕ) (w : World) {go : Acted} → o ≡ None → P go → P (tag_faults o w go)
  no_tag_fault P None w h g = g
  no_tag_fault P (Some x) w h g = absurd (let z : ◌≡◌ {A = ℕ} 0 1 = cc in omega arith)

  -- the answer refuses for want of slots
  abbrev pub full : Result Marks Fault → Bool
  full (Ok m) = false
  full (Err x) = eqb (refusal_number x.refusal) 13

  -- what holds of the meeting holds of a Deliver that is ripe and does not lack slots
  pub ripe_rule : (P : Acted → Type 0) (i f : ℕ) (w : World) → Ripe i f w → full (deliver_call d i f w).1 ≡ false → (3 ≤ free w.pool → P (meet d i f (frame_at w.pool f) w)) → P (deliver_call d i f w)
  unfolding deliver_call
  ripe_rule P i f w r nf p = go (leb 3 (free w.pool)) refl
    where
      start : (Q : Acted → Type 0) → Q (test (leb 3 (free w.pool)) (w, Err (fault_at PoolFull 0))
          (form_faults (malformed d (frame_at w.pool f)) w
          (test (leb ((station_at w i).booked + 1) (batch_of (frame_at w.pool f))) (w, Err (fault_at EarlierBatch 0))
          (test (leb (batch_of (frame_at w.pool f)) ((station_at w i).booked + 1)) (w, Err (fault_at LaterBatch 0))
          (test (sender_sealed d (frame_at w.pool f)) (w, Err (fault_at SenderTag 24))
          (meet d i f (frame_at w.pool f) w)))))) → Q (deliver_call d i f w)
      start Q q =
          pass_rule Q (ltb i d.n) _ (lt-ltb i d.n r.small)
          (pass_rule Q (not (d.faulty i)) _ (rw r.right refl)
          (pass_rule Q (at_work d (station_at w i)) _ r.busy
          (pass_rule Q (leb 1 (length (frame_at w.pool f))) _ (le-leb 1 (length (frame_at w.pool f)) r.some) q)))

      go : (b : Bool) → leb 3 (free w.pool) ≡ b → P (deliver_call d i f w)
      go true e =
          start P (pass_rule P (leb 3 (free w.pool)) _ e
          (no_fault P (malformed d (frame_at w.pool f)) w r.formed
          (pass_rule P (leb ((station_at w i).booked + 1) (batch_of (frame_at w.pool f))) _ (le-leb _ _ (omega (arith, r.batch)))
          (pass_rule P (leb (batch_of (frame_at w.pool f)) ((station_at w i).booked + 1)) _ (le-leb _ _ (omega (arith, r.batch)))
          (pass_rule P (sender_sealed d (frame_at w.pool f)) _ r.sealed (p (leb-true 3 (free w.pool) e)))))))
      go false e = absurd (both_ways (full (deliver_call d i f w).1) nf (start (λ a. full a.1 ≡ true) (fail_rule (λ a. full a.1 ≡ true) (leb 3 (free w.pool)) _ e refl)))

  pub meets_decision : (P : Acted → Type 0) (i f : ℕ) (bs : List ℕ) (w : World) → kind_of bs ≡ 2 → first_pair (pair_sealed d bs) 32 (pairs_of bs) ≡ None
      → P (decide d i (entry_of bs) (pairs_of bs) (mark_taken f w), Ok (false, false, true)) → P (meet d i f bs w)
  unfolding meet meet_decision
  meets_decision P i f bs w k p x =
      by_test (λ v. P (elim v [ true ↦ meet_proposal d i f bs w | false ↦ elim (eqb (kind_of bs) 2) [ true ↦ meet_decision d i f bs w | false ↦ meet_reselect d i f bs w ] ]))
      (eqb (kind_of bs) 1) (λ z. absurd (omega (arith, eqb-true (kind_of bs) 1 z, k)))
      (λ _. by_test (λ v. P (elim v [ true ↦ meet_decision d i f bs w | false ↦ meet_reselect d i f bs w ])) (eqb (kind_of bs) 2)
      (λ _. no_tag_fault P (first_pair (pair_sealed d bs) 32 (pairs_of bs)) w p x) (λ z. absurd (eqb-false (kind_of bs) 2 z k)))

  pub meets_proposal : (P : Acted → Type 0) (i f : ℕ) (bs : List ℕ) (w : World) → kind_of bs ≡ 1
      → (held (get_or (station_at w i).votes (sender_of bs) None) ≡ true → (x : Fault) → P (w, Err x))
      → (held (get_or (station_at w i).votes (sender_of bs) None) ≡ false → P (take_proposal d i bs (mark_taken f w))) → P (meet d i f bs w)
  unfolding meet meet_proposal
  meets_proposal P i f bs w k y x =
      by_test (λ v. P (elim v [ true ↦ meet_proposal d i f bs w | false ↦ elim (eqb (kind_of bs) 2) [ true ↦ meet_decision d i f bs w | false ↦ meet_reselect d i f bs w ] ]))
      (eqb (kind_of bs) 1)
      (λ _. choose (held (get_or (station_at w i).votes (sender_of bs) None)) refl)
      (λ z. absurd (eqb-false (kind_of bs) 1 z k))
    where
      choose : (b : Bool) → held (get_or (station_at w i).votes (sender_of bs) None) ≡ b
          → P (test (not (held (get_or (station_at w i).votes (sender_of bs) None))) (w, Err (fault_at VoteHeld 0)) (take_proposal d i bs (mark_taken f w)))
      choose true e = fail_rule P (not (held (get_or (station_at w i).votes (sender_of bs) None))) _ (rw e refl) (y e _)
      choose false e = pass_rule P (not (held (get_or (station_at w i).votes (sender_of bs) None))) _ (rw e refl) (x e)

  pub meets_reselect : (P : Acted → Type 0) (i f : ℕ) (bs : List ℕ) (w : World) → (kind_of bs ≡ 1 → ⊥) → (kind_of bs ≡ 2 → ⊥)
      → rightly_sent d bs ≡ true
      → first_pair (pair_left d bs) 32 (pairs_of bs) ≡ None → number_of bs ≡ (station_at w i).number + 1
      → P (stepped (reselect d i (shows bs) (mark_taken f w))) → P (meet d i f bs w)
  unfolding meet meet_reselect
  meets_reselect P i f bs w k₁ k₂ sh ts nx x =
      by_test (λ v. P (elim v [ true ↦ meet_proposal d i f bs w | false ↦ elim (eqb (kind_of bs) 2) [ true ↦ meet_decision d i f bs w | false ↦ meet_reselect d i f bs w ] ]))
      (eqb (kind_of bs) 1) (λ z. absurd (k₁ (eqb-true (kind_of bs) 1 z)))
      (λ _. by_test (λ v. P (elim v [ true ↦ meet_decision d i f bs w | false ↦ meet_reselect d i f bs w ])) (eqb (kind_of bs) 2) (λ z. absurd (k₂ (eqb-true (kind_of bs) 2 z)))
      (λ _. pass_rule P (rightly_sent d bs) _ sh
      (no_tag_fault P (first_pair (pair_left d bs) 32 (pairs_of bs)) w ts
      (pass_rule P (ltb (station_at w i).number (number_of bs)) _ (lt-ltb _ _ (omega (arith, nx)))
      (pass_rule P (leb (number_of bs) ((station_at w i).number + 1)) _ (le-leb _ _ (omega (arith, nx))) x)))))

  pub reselect-marks : (i : ℕ) (proof : List (ℕ × ℕ)) (w : World) → (reselect d i proof w).1.0 ≡ true
  reselect-marks i proof w = reselect-rule d (λ r. r.1.0 ≡ true) i proof w (λ _ _. refl) (λ _. refl)

  -- station i holds a vote of station q
  abbrev Holds : ℕ → ℕ → World → Type 0
  Holds i q w = held (get_or (station_at w i).votes q None) ≡ true

  module _ (intake : List Batch) (law : Usable d) (sized : length intake ≡ d.batches) where
    decide-holds : (w : World) (i q : ℕ) (e : Entry) (ps : List (ℕ × ℕ)) → i < length w.stations → Holds i q w → Holds i q (decide d i e ps w)
    decide-holds w i q e ps l h = subst (λ (vs : List (Option Vote)). held (get_or vs q None) ≡ true) (sym (decide_votes d w i e ps l)) h

    propose-holds : (w : World) (i q : ℕ) → i < length w.stations → Holds i q w → Holds i q (propose d i w)
    propose-holds w i q l h = subst (λ (s : Station). held (get_or s.votes q None) ≡ true) (sym (propose_here d w i l)) (held-set (station_at w i).votes i q _ h)

    join-holds : (w : World) (i q : ℕ) → i < length w.stations → Holds i q w → Holds i q (join d i w).0
    unfolding join
    join-holds w i q l h =
        settle-rule d (λ r. Holds i q r.0) i (own_entry (propose d i w) i) (propose d i w)
        (λ _. decide-holds (propose d i w) i q _ _ (omega (arith, l, propose-length d w i)) (propose-holds w i q l h)) (λ _. propose-holds w i q l h)

    moved_holds : (w : World) (i q : ℕ) (proof : List (ℕ × ℕ)) → i < length w.stations → Holds i q w → Holds i q (moved_on d i proof w)
    moved_holds w i q proof l h = subst (λ (s : Station). held (get_or s.votes q None) ≡ true) (sym (moved_here d w i proof l)) h

    reselect-holds : (w : World) (i q : ℕ) (proof : List (ℕ × ℕ)) → i < length w.stations → Holds i q w → Holds i q (reselect d i proof w).0
    reselect-holds w i q proof l h =
        reselect-rule d (λ r. Holds i q r.0) i proof w
        (λ _ _. join-holds (moved_on d i proof w) i q (omega (arith, l, moved_length d w i proof)) (moved_holds w i q proof l h)) (λ _. moved_holds w i q proof l h)

    -- a proposal taken is held
    pub proposal_holds : (w : World) (i : ℕ) (bs : List ℕ) → i < length w.stations → sender_of bs < length (station_at w i).votes → Holds i (sender_of bs) (take_proposal d i bs w).0
    proposal_holds w i bs l m =
        proposal_rule d (λ r. Holds i (sender_of bs) r.0) i bs w
        (λ _. decide-holds u i (sender_of bs) _ _ lu stored) (λ _ _. reselect-holds u i (sender_of bs) [] lu stored) (λ _ _. stored)
      where
        v : Vote
        v = record { entry = entry_of bs; tag = tag_of bs }

        u : World
        u = store i (sender_of bs) v w

        lu : i < length u.stations
        lu = omega (arith, l, store_length w i (sender_of bs) v)

        stored : Holds i (sender_of bs) u
        stored = ap held (ap (λ (s : Station). get_or s.votes (sender_of bs) None) (store_here w i (sender_of bs) v l) ∙ get_or-set_same (station_at w i).votes (sender_of bs) (Some v) None m)
