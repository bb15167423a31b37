-- A call is its tests, and then the step at the station's desk, put back.
use Rattle.std.proofs.Common.{◌≡◌, ℕ, ◌+◌, ◌-◌, ◌<◌, ◌≤◌, Bool, true, false, cond, not, eqb, ltb, leb, List, [], ◌∷◌, length, get_or, take, Some, None, Ok, Err, Option, Result, sym, refl, ap, ◌∙◌, arith}
use Rattle.std.proofs.lemmas.Bool.{ltb-true}
use Rattle.base.specs.declared.book.Batch.{Batch}
use Rattle.base.specs.declared.fault.Fault.{Fault}
use Rattle.base.specs.declared.refusal.Refusal.{Refusal}
use Rattle.base.specs.declared.refusal.Refusal.TheVariants.{NoStation, FaultyStation, AtWork, IntakeUsedUp, UnlawfulBatch, PoolFull, Idle, NoFrame, EarlierBatch, LaterBatch, SenderTag, VoteHeld, PairTag, WronglySent, NumberPassed, NumberAhead, NotMember, LastNumber, Forged, BadLine}
use Rattle.base.specs.Refusals.{fault_at}
use Rattle.frames.specs.declared.frame.Frame.{Frame}
use Rattle.frames.specs.declared.frame.Kind.{Kind}
use Rattle.frames.specs.declared.frame.Kind.TheVariants.{Propose, Decision, Reselect}
use Rattle.frames.specs.declared.bytes.FrameBytes.{FrameBytes}
use Rattle.frames.specs.Bytes.{proposes, reselects}
use Rattle.frames.specs.Slots.{frame_at, free, enter, slot_of, issued}
use Rattle.frames.specs.Frames.{◌and◌, kind_of, sender_of, batch_of, number_of, count_of, entry_of, tag_of, pairs_of, pair_states, first_pair, line_fault, unhex}
use Rattle.frames.specs.Packed.{packed, unpacked, line_read}
use Rattle.frames.specs.Typed.{holding, frame_of, held_to, decoded, stated, pair_stated}
use Rattle.frames.proofs.Basics.{by_test}
use Rattle.frames.proofs.Numbers.{Bytes}
use Rattle.frames.proofs.Packed.{unpacked-packed}
use Rattle.frames.proofs.Codec.{line_bytes}
use Rattle.frames.proofs.Frames.{length-pairs_from}
use Rattle.protocol.specs.declared.station.Station.{Station}
use Rattle.protocol.specs.Law.{Terms, Marks}
use Rattle.protocol.specs.Steps.{World, Acted, refused, test, tag_faults, form_faults, stepped, passing, no_batch, held, shows, at_work, station_at, take_up, propose, decide, reselect, mark_taken, malformed, pair_sealed, rightly_sent, pair_left, take_proposal, meet_proposal, meet_decision, meet_reselect, meet, open_call, ring_call, deliver_call, inject_call, forged, forgery}
use Rattle.protocol.specs.Desk.{Desk, desk_at, put_back, with_record, begun, propose_on, decide_on, vote_on, reselect_on}
use Rattle.protocol.specs.Ready.{passing_at, and_then, unless_at, pairs_in, roomy, open_ready, ring_ready, kind_ready, deliver_ready, forged_at, forgery_at, inject_ready, taken_on, open_on, deliver_on, through, answered, injected}
use Rattle.protocol.proofs.Lifts.{lifted_again, put_again, take_up_is, mark_taken_is, propose_is, decide_is, reselect_is, vote_is}
use Rattle.protocol.proofs.Fields.{held_pairs, pair_stated_is, stated_is, few_pairs, pairs_are}

-- one part of the tests after the other
module _ {A : Type 0} (w : World) (go : A → Acted) where
  past : (b : Bool) (why : Refusal) (r : Result A Fault) (x : Acted) → (b ≡ true → x ≡ through r w go) → test b (refused w why 0) x ≡ through (passing b why r) w go
  past true why r x is = is refl
  past false why r x is = refl

  past-at : (b : Bool) (why : Refusal) (place : ℕ) (r : Result A Fault) (x : Acted) → x ≡ through r w go
      → test b (refused w why place) x ≡ through (passing_at b why place r) w go
  past-at true why place r x is = is
  past-at false why place r x is = refl

  past-tag : (o : Option ℕ) (r : Result A Fault) (x : Acted) → x ≡ through r w go → tag_faults o w x ≡ through (unless_at o PairTag r) w go
  past-tag None r x is = is
  past-tag (Some place) r x is = refl

  past_form : {B : Type 0} (o : Option ℕ) (y : B) (f : B → Result A Fault) (x : Acted) → (o ≡ None → x ≡ through (f y) w go)
      → form_faults o w x ≡ through (and_then (held_to o y) f) w go
  past_form None y f x is = is refl
  past_form (Some place) y f x is = refl

  past_then : {B : Type 0} (r : Result B Fault) (f : B → Result A Fault) → through r w (λ y. through (f y) w go) ≡ through (and_then r f) w go
  past_then (Ok y) f = refl
  past_then (Err e) f = refl

module _ (d : Terms) (w : World) (places : d.n ≤ length w.stations) (i : ℕ) where
  inside : ltb i d.n ≡ true → i < length w.stations
  inside e = omega (arith, ltb-true i d.n e)

  opened : (next : Batch) → i < length w.stations
      → ◌≡◌ {A = Acted} (elim (d.seats 0 i) [ true ↦ (propose d i (take_up next i w), Ok (false, true, false)) | false ↦ (take_up next i w, Ok (false, false, false)) ])
      (answered i w (open_on d i next (desk_at w i)))
  unfolding open_on
  opened next low =
      let k : Desk = with_record (begun next) (desk_at w i) in
      by_test
      (λ v. ◌≡◌ {A = Acted} (elim v [ true ↦ (propose d i (take_up next i w), Ok (false, true, false)) | false ↦ (take_up next i w, Ok (false, false, false)) ])
      (answered i w (elim v as (λ _. Desk × Marks) [ true ↦ (propose_on d i k, (false, true, false)) | false ↦ (k, (false, false, false)) ])))
      (d.seats 0 i)
      (λ _. ap (λ (v : World). (v, Ok (false, true, false))) (ap (propose d i) (take_up_is next i w) ∙ put_again i w low (propose d i) (propose_on d i) (propose_is d i) k))
      (λ _. ap (λ (v : World). (v, Ok (false, false, false))) (take_up_is next i w))

  pub open_is : (intake : List Batch)
      → open_call d intake i w ≡ through (open_ready d intake i (station_at w i) w.pool) w (λ next. answered i w (open_on d i next (desk_at w i)))
  unfolding open_call open_ready
  open_is intake =
      let go : Batch → Acted = λ next. answered i w (open_on d i next (desk_at w i)) in
      past w go (ltb i d.n) NoStation _ _ λ low.
      past w go (not (d.faulty i)) FaultyStation _ _ λ _.
      past w go (not (at_work d (station_at w i))) AtWork _ _ λ _.
      past w go (ltb (station_at w i).booked d.batches) IntakeUsedUp _ _ λ _.
      past w go (d.lawful (get_or intake (station_at w i).booked no_batch)) UnlawfulBatch _ _ λ _.
      past w go (leb 3 (free w.pool)) PoolFull (Ok (get_or intake (station_at w i).booked no_batch)) _ λ _.
      opened (get_or intake (station_at w i).booked no_batch) (inside low)

  pub ring_is : ring_call d i w ≡ through (ring_ready d i (station_at w i) w.pool) w (λ _. answered i w (reselect_on d i [] (desk_at w i)))
  unfolding ring_call ring_ready
  ring_is =
      let go : Unit {0} → Acted = λ _. answered i w (reselect_on d i [] (desk_at w i)) in
      past w go (ltb i d.n) NoStation _ _ λ low.
      past w go (not (d.faulty i)) FaultyStation _ _ λ _.
      past w go (at_work d (station_at w i)) Idle _ _ λ _.
      past w go (d.seats (station_at w i).number i) NotMember _ _ λ _.
      past w go (ltb (station_at w i).number 20000) LastNumber _ _ λ _.
      past w go (leb 3 (free w.pool)) PoolFull (Ok tt) _ λ _.
      ap stepped (reselect_is d i [] w (inside low))

  -- Deliver, kind by kind
  module _ (low : i < length w.stations) (f : ℕ) (bs : List ℕ) (few : count_of bs ≤ 8) where
    abbrev frame_as : Kind → Frame
    frame_as k = record {
      kind = k;
      sender = sender_of bs;
      batch = batch_of bs;
      number = number_of bs;
      entry = entry_of bs;
      tag = tag_of bs;
      pairs = holding (count_of bs) (pairs_of bs);
    }

    abbrev pairs_there : List (ℕ × ℕ)
    pairs_there = pairs_in (frame_as Propose)

    there : pairs_of bs ≡ pairs_there
    there = sym (held_pairs (count_of bs) (pairs_of bs) (length-pairs_from (count_of bs) 32 bs) few)

    abbrev taken : Desk
    taken = taken_on f (desk_at w i)

    abbrev steps : Kind → Acted
    steps k = answered i w (deliver_on d i f (frame_as k) (desk_at w i))

    abbrev Is : Kind → Acted → Type 0
    Is k x = x ≡ through (kind_ready d (station_at w i) (frame_as k)) w (λ _. steps k)

    proposal : Is Propose (meet_proposal d i f bs w)
    unfolding meet_proposal kind_ready deliver_on
    proposal =
        past w (λ _. steps Propose) (not (held (get_or (station_at w i).votes (sender_of bs) None))) VoteHeld (Ok tt) _ λ _.
        ap (take_proposal d i bs) (mark_taken_is i f w)
        ∙ lifted_again i w low (take_proposal d i bs)
        (λ k. let r : Desk × Marks = vote_on d i (sender_of bs) (record { entry = entry_of bs; tag = tag_of bs }) k in (r.0, Ok r.1))
        (vote_is d i bs) taken

    decision : eqb (kind_of bs) 2 ≡ true → Is Decision (meet_decision d i f bs w)
    unfolding meet_decision kind_ready deliver_on
    decision e =
        let states : pair_states bs ≡ pair_stated (frame_as Decision) = λ j q. cond (e j) (proposes q (batch_of bs) (entry_of bs)) (reselects q (batch_of bs) (number_of bs)) in
        let step : List (ℕ × ℕ) → Acted = λ ps. answered i w (decide_on d i (entry_of bs) ps taken, (false, false, true)) in
        let decided : decide d i (entry_of bs) (pairs_of bs) (mark_taken f w) ≡ put_back i w (decide_on d i (entry_of bs) (pairs_of bs) taken) =
        ap (decide d i (entry_of bs) (pairs_of bs)) (mark_taken_is i f w)
        ∙ put_again i w low (decide d i (entry_of bs) (pairs_of bs)) (decide_on d i (entry_of bs) (pairs_of bs)) (decide_is d i (entry_of bs) (pairs_of bs)) taken in
        past-tag w (λ _. step (pairs_of bs)) (first_pair (pair_sealed d bs) 32 (pairs_of bs)) (Ok tt) _ (ap (λ (v : World). (v, Ok (false, false, true))) decided)
        ∙ (λ j. through (unless_at {A = Unit {0}} (first_pair (λ p. eqb p.1 (d.tag p.0 (states j p.0))) 32 (there j)) PairTag (Ok tt)) w (λ _. step (there j)))

    reselection : eqb (kind_of bs) 2 ≡ false → Is Reselect (meet_reselect d i f bs w)
    unfolding meet_reselect kind_ready deliver_on shows
    reselection e =
        let s : Station = station_at w i in
        let c : ℕ = number_of bs in
        let states : pair_states bs ≡ pair_stated (frame_as Reselect) = λ j q. cond (e j) (proposes q (batch_of bs) (entry_of bs)) (reselects q (batch_of bs) (number_of bs)) in
        let proof : List (ℕ × ℕ) → List (ℕ × ℕ) = λ ps. cond (eqb (count_of bs) 0) ((sender_of bs, tag_of bs) ∷ []) ps in
        let step : List (ℕ × ℕ) → Unit {0} → Acted = λ ps _. answered i w (reselect_on d i (proof ps) taken) in
        let moved : reselect d i (shows bs) (mark_taken f w) ≡ (put_back i w (reselect_on d i (proof (pairs_of bs)) taken).0, (reselect_on d i (proof (pairs_of bs)) taken).1) =
        ap (reselect d i (shows bs)) (mark_taken_is i f w) ∙ lifted_again i w low (reselect d i (shows bs)) (reselect_on d i (shows bs)) (reselect_is d i (shows bs)) taken in
        past w (step (pairs_of bs)) (rightly_sent d bs) WronglySent _ _ (λ _.
        past-tag w (step (pairs_of bs)) (first_pair (pair_left d bs) 32 (pairs_of bs)) _ _
        (past w (step (pairs_of bs)) (ltb s.number c) NumberPassed _ _ λ _.
        past w (step (pairs_of bs)) (leb c (s.number + 1)) NumberAhead (Ok tt) _ λ _. ap stepped moved))
        ∙ (λ j. through
        (passing {A = Unit {0}} (rightly_sent d bs) WronglySent
        (unless_at (first_pair (λ p. eqb p.1 (d.tag p.0 (states j p.0)) and d.seats (c - 1) p.0) 32 (there j)) PairTag
        (passing (ltb s.number c) NumberPassed (passing (leb c (s.number + 1)) NumberAhead (Ok tt))))) w (step (there j)))

    met : meet d i f bs w ≡ through (kind_ready d (station_at w i) (frame_of bs)) w (λ _. answered i w (deliver_on d i f (frame_of bs) (desk_at w i)))
    unfolding meet frame_of
    met =
        by_test (λ v. Is (cond v Propose (cond (eqb (kind_of bs) 2) Decision Reselect))
        (elim v [ true ↦ meet_proposal d i f bs w | false ↦ elim (eqb (kind_of bs) 2) [ true ↦ meet_decision d i f bs w | false ↦ meet_reselect d i f bs w ] ]))
        (eqb (kind_of bs) 1) (λ _. proposal)
        (λ _. by_test (λ v. Is (cond v Decision Reselect) (elim v [ true ↦ meet_decision d i f bs w | false ↦ meet_reselect d i f bs w ]))
        (eqb (kind_of bs) 2) decision reselection)

  pub deliver_is : (f : ℕ) → d.t ≤ 7
      → ((fr : Frame) → decoded d.n d.t d.batches (frame_at w.pool f) ≡ Ok fr → stated fr ≡ take 24 (frame_at w.pool f))
      → deliver_call d i f w ≡ through (deliver_ready d i f (station_at w i) w.pool) w (λ fr. answered i w (deliver_on d i f fr (desk_at w i)))
  unfolding deliver_call deliver_ready decoded frame_of
  deliver_is f few says =
      let s : Station = station_at w i in
      let bs : List ℕ = frame_at w.pool f in
      let go : Frame → Acted = λ fr. answered i w (deliver_on d i f fr (desk_at w i)) in
      past w go (ltb i d.n) NoStation _ _ λ low.
      past w go (not (d.faulty i)) FaultyStation _ _ λ _.
      past w go (at_work d s) Idle _ _ λ _.
      past w go (leb 1 (length bs)) NoFrame _ _ λ _.
      past w go (leb 3 (free w.pool)) PoolFull _ _ λ _.
      past_form w go (malformed d bs) (frame_of bs) _ _ λ well.
      past w go (leb (s.booked + 1) (batch_of bs)) EarlierBatch _ _ λ _.
      past w go (leb (batch_of bs) (s.booked + 1)) LaterBatch _ _ λ _.
      ap (λ (x : List ℕ). test (eqb (tag_of bs) (d.tag (sender_of bs) x)) (refused w SenderTag 24) (meet d i f bs w)) (sym (says (frame_of bs) (ap (λ (o : Option ℕ). held_to o (frame_of bs)) well)))
      ∙ past-at w go (eqb (tag_of bs) (d.tag (sender_of bs) (stated (frame_of bs)))) SenderTag 24 _ _
      (met (inside low) f bs (few_pairs d.n d.t d.batches bs well few)
      ∙ past_then w go (kind_ready d s (frame_of bs)) (λ _. Ok (frame_of bs)))

-- Inject
module _ (d : Terms) (few : d.t ≤ 7) (w : World) where
  -- by its fields a frame is forged where it is by its bytes
  forged_is : (bs : List ℕ) → Bytes bs → malformed d bs ≡ None → forged d bs w.pool ≡ forged_at d (frame_of bs) w.pool
  unfolding forged forged_at frame_of
  forged_is bs bytes well =
      let s : stated (frame_of bs) ≡ take 24 bs = stated_is d.n d.t d.batches bs well bytes in
      let q : pair_stated (frame_of bs) ≡ pair_states bs = pair_stated_is bs in
      let ps : pairs_in (frame_of bs) ≡ pairs_of bs = pairs_are d.n d.t d.batches bs well few in
      let whole : List ℕ → (ℕ → List ℕ) → List (ℕ × ℕ) → Option ℕ = λ s q ps.
      elim (not (d.faulty (sender_of bs)) and eqb (tag_of bs) (d.tag (sender_of bs) s) and not (issued s w.pool)) [
        | true ↦ Some 24
        | false ↦ first_pair (λ p. not (not (d.faulty p.0) and eqb p.1 (d.tag p.0 (q p.0)) and not (issued (q p.0) w.pool))) 32 ps
      ] in
      sym (λ j. whole (s j) (q j) (ps j))

  forgery_is : (bs : List ℕ) → Bytes bs → forgery d bs w.pool ≡ forgery_at d (decoded d.n d.t d.batches bs) w.pool
  unfolding forgery decoded
  forgery_is bs bytes = go (malformed d bs) refl
    where
      go : (o : Option ℕ) → malformed d bs ≡ o
          → ◌≡◌ {A = Option ℕ} (elim o [ None ↦ forged d bs w.pool | Some place ↦ None ]) (forgery_at d (held_to o (frame_of bs)) w.pool)
      go None well = forged_is bs bytes well
      go (Some place) _ = refl

  abbrev enters : List ℕ → Acted
  enters bs = (record { stations = w.stations; pool = enter (slot_of 1 bs) w.pool; books = w.books }, Ok (false, false, false))

  unforged : (o : Option ℕ) (bytes : FrameBytes) (x : Acted) → x ≡ injected bytes w
      → ◌≡◌ {A = Acted} (elim o [ Some place ↦ refused w Forged place | None ↦ x ]) (through (unless_at o Forged (Ok bytes)) w (λ y. injected y w))
  unforged None bytes x is = is
  unforged (Some place) bytes x is = refl

  pub inject_is : (l : List ℕ) → inject_call d l w ≡ through (inject_ready d l w.pool) w (λ bytes. injected bytes w)
  unfolding inject_call inject_ready line_read
  inject_is l = go (line_fault l) refl
    where
      go : (o : Option ℕ) → line_fault l ≡ o
          → ◌≡◌ {A = Acted} (elim o [
            | Some place ↦ refused w BadLine place
            | None ↦
                test (leb 3 (free w.pool)) (refused w PoolFull 0)
                (elim (forgery d (unhex l) w.pool) [ Some place ↦ refused w Forged place | None ↦ enters (unhex l) ])
          ])
          (through
          (and_then (elim o as (λ _. Result FrameBytes Fault) [ None ↦ Ok (packed (unhex l)) | Some place ↦ Err (fault_at BadLine place) ]) (λ bytes.
          roomy d w.pool (unless_at (forgery_at d (decoded d.n d.t d.batches (unpacked bytes)) w.pool) Forged (Ok bytes))))
          w (λ bytes. injected bytes w))
      go None e =
          let b = line_bytes l e in
          let same : unhex l ≡ unpacked (packed (unhex l)) = sym (unpacked-packed (unhex l) b.2) in
          let is : forgery d (unhex l) w.pool ≡ forgery_at d (decoded d.n d.t d.batches (unpacked (packed (unhex l)))) w.pool =
          forgery_is (unhex l) b.0 ∙ ap (λ (x : List ℕ). forgery_at d (decoded d.n d.t d.batches x) w.pool) same in
          past w (λ bytes. injected bytes w) (leb 3 (free w.pool)) PoolFull _ _ λ _.
          unforged (forgery d (unhex l) w.pool) (packed (unhex l)) (enters (unhex l)) (ap enters same)
          ∙ ap (λ (o : Option ℕ). through (unless_at o Forged (Ok (packed (unhex l)))) w (λ bytes. injected bytes w)) is
      go (Some place) e = refl
