-- A rule for each call and each inner step: what holds of every refusal and of every accepted outcome,
-- where the tests before it have passed, holds of the call.
use Rattle.std.proofs.Common.{◌≡◌, ℕ, ◌+◌, ◌<◌, ◌≤◌, Bool, true, false, not, eqb, ltb, leb, List, [], length, get_or, take, replicate, Some, None, Ok, Err, Option, refl, arith}
use Rattle.std.proofs.lemmas.Bool.{eqb-true, eqb-false, leb-true, leb-false, ltb-true, not-true}
use Rattle.base.specs.declared.book.Batch.{Batch}
use Rattle.base.specs.declared.book.Entry.{Entry}
use Rattle.base.specs.declared.fault.Fault.{Fault}
use Rattle.base.specs.declared.refusal.Refusal.TheVariants.{Malformed, PairTag, Forged, BadLine, PoolFull, OutOfRange, WrongLength}
use Rattle.base.specs.Refusals.{fault_at}
use Rattle.frames.specs.Bytes.{statement, reselects}
use Rattle.frames.specs.Slots.{frame_at, free, enter, slot_of}
use Rattle.frames.specs.Frames.{◌and◌, kind_of, sender_of, batch_of, number_of, tag_of, pairs_of, entry_of, line_fault, unhex, first_pair}
use Rattle.protocol.specs.Law.{Terms, Call}
use Rattle.protocol.specs.Steps.{World, Acted, Stepped, refused, test, form_faults, tag_faults, stepped, at_work, station_at, take_up, propose, decide, settle, join, announce, reselect, next_number, open_call, ring_call, deliver_call, inject_call, take_proposal, meet, meet_proposal, meet_decision, meet_reselect, shows, store, differs, mark_taken, issue, no_batch, malformed, forgery, sender_sealed, pair_sealed, held, rightly_sent, pair_left, support, act, in_range, fitting, whole_call}
use Rattle.frames.proofs.Basics.{and_true, by_test}

module _ (d : Terms) where
  pub test-rule : (P : Acted → Type 0) (b : Bool) {stop go : Acted} → P stop → (b ≡ true → P go) → P (test b stop go)
  test-rule P true s g = g refl
  test-rule P false s g = s

  pub form_rule : (P : Acted → Type 0) (o : Option ℕ) {w : World} {go : Acted} → ((x : Fault) → P (w, Err x)) → (o ≡ None → P go) → P (form_faults o w go)
  form_rule P None s g = g refl
  form_rule P (Some x) s g = s (fault_at Malformed x)

  pub tag-rule : (P : Acted → Type 0) (o : Option ℕ) {w : World} {go : Acted} → ((x : Fault) → P (w, Err x)) → (o ≡ None → P go) → P (tag_faults o w go)
  tag-rule P None s g = g refl
  tag-rule P (Some x) s g = s (fault_at PairTag x)

  -- an Open whose tests pass
  pub record Opening (intake : List Batch) (i : ℕ) (w : World) : Type 0 where
    pub small : i < d.n
    pub right : d.faulty i ≡ false
    pub idle : at_work d (station_at w i) ≡ false
    pub left : (station_at w i).booked < d.batches
    pub lawful : d.lawful (get_or intake (station_at w i).booked no_batch) ≡ true
    pub room : 3 ≤ free w.pool

  pub open_rule : (P : Acted → Type 0) (intake : List Batch) (i : ℕ) (w : World) → ((x : Fault) → P (w, Err x))
      → (Opening intake i w → d.seats 0 i ≡ true → P (propose d i (take_up (get_or intake (station_at w i).booked no_batch) i w), Ok (false, true, false)))
      → (Opening intake i w → d.seats 0 i ≡ false → P (take_up (get_or intake (station_at w i).booked no_batch) i w, Ok (false, false, false)))
      → P (open_call d intake i w)
  unfolding open_call
  open_rule P intake i w stay f g =
      test-rule P (ltb i d.n) (stay _) λ a.
      test-rule P (not (d.faulty i)) (stay _) λ b.
      test-rule P (not (at_work d (station_at w i))) (stay _) λ c.
      test-rule P (ltb (station_at w i).booked d.batches) (stay _) λ e.
      test-rule P (d.lawful (get_or intake (station_at w i).booked no_batch)) (stay _) λ l.
      test-rule P (leb 3 (free w.pool)) (stay _) λ r.
      let o : Opening intake i w = record
      { small = ltb-true i d.n a; right = not-true (d.faulty i) b; idle = not-true (at_work d (station_at w i)) c; left = ltb-true (station_at w i).booked d.batches e; lawful = l; room = leb-true 3 (free w.pool) r } in
      by_test (λ v. P (elim v [ true ↦ (propose d i (take_up (get_or intake (station_at w i).booked no_batch) i w), Ok (false, true, false)) | false ↦ (take_up (get_or intake (station_at w i).booked no_batch) i w, Ok (false, false, false)) ]))
      (d.seats 0 i) (f o) (g o)

  -- a Ring whose tests pass
  pub record Ringing (i : ℕ) (w : World) : Type 0 where
    pub small : i < d.n
    pub right : d.faulty i ≡ false
    pub busy : at_work d (station_at w i) ≡ true
    pub member : d.seats (station_at w i).number i ≡ true
    pub below : (station_at w i).number < 20000
    pub room : 3 ≤ free w.pool

  pub ring_rule : (P : Acted → Type 0) (i : ℕ) (w : World) → ((x : Fault) → P (w, Err x))
      → (Ringing i w → P (stepped (reselect d i [] w))) → P (ring_call d i w)
  unfolding ring_call
  ring_rule P i w stay f =
      test-rule P (ltb i d.n) (stay _) λ a.
      test-rule P (not (d.faulty i)) (stay _) λ b.
      test-rule P (at_work d (station_at w i)) (stay _) λ c.
      test-rule P (d.seats (station_at w i).number i) (stay _) λ e.
      test-rule P (ltb (station_at w i).number 20000) (stay _) λ l.
      test-rule P (leb 3 (free w.pool)) (stay _) λ r.
      f (record { small = ltb-true i d.n a; right = not-true (d.faulty i) b; busy = c; member = e; below = ltb-true (station_at w i).number 20000 l; room = leb-true 3 (free w.pool) r })

  -- a Deliver whose tests pass, up to the sender's tag
  pub record Delivering (i f : ℕ) (w : World) : Type 0 where
    pub small : i < d.n
    pub right : d.faulty i ≡ false
    pub busy : at_work d (station_at w i) ≡ true
    pub some : 1 ≤ length (frame_at w.pool f)
    pub room : 3 ≤ free w.pool
    pub formed : malformed d (frame_at w.pool f) ≡ None
    pub batch : batch_of (frame_at w.pool f) ≡ (station_at w i).booked + 1
    pub sealed : sender_sealed d (frame_at w.pool f) ≡ true

  -- a reselect frame that the station takes
  pub record Following (i : ℕ) (bs : List ℕ) (w : World) : Type 0 where
    pub shown : rightly_sent d bs ≡ true
    pub tags : first_pair (pair_left d bs) 32 (pairs_of bs) ≡ None
    pub next : number_of bs ≡ (station_at w i).number + 1
    pub not_proposal : kind_of bs ≡ 1 → ⊥
    pub not_decision : kind_of bs ≡ 2 → ⊥

  pub deliver_rule : (P : Acted → Type 0) (i f : ℕ) (w : World) → ((x : Fault) → P (w, Err x))
      → let bs : List ℕ = frame_at w.pool f in
      (Delivering i f w → kind_of bs ≡ 1
      → held (get_or (station_at w i).votes (sender_of bs) None) ≡ false
      → P (take_proposal d i bs (mark_taken f w)))
      → (Delivering i f w → kind_of bs ≡ 2
      → first_pair (pair_sealed d bs) 32 (pairs_of bs) ≡ None
      → P (decide d i (entry_of bs) (pairs_of bs) (mark_taken f w), Ok (false, false, true)))
      → (Delivering i f w → Following i bs w
      → P (stepped (reselect d i (shows bs) (mark_taken f w))))
      → P (deliver_call d i f w)
  unfolding deliver_call meet meet_proposal meet_decision meet_reselect
  deliver_rule P i f w stay one two three =
      let bs : List ℕ = frame_at w.pool f in
      test-rule P (ltb i d.n) (stay _) λ a.
      test-rule P (not (d.faulty i)) (stay _) λ b.
      test-rule P (at_work d (station_at w i)) (stay _) λ c.
      test-rule P (leb 1 (length bs)) (stay _) λ e.
      test-rule P (leb 3 (free w.pool)) (stay _) λ r.
      form_rule P (malformed d bs) stay λ m.
      test-rule P (leb ((station_at w i).booked + 1) (batch_of bs)) (stay _) λ lo.
      test-rule P (leb (batch_of bs) ((station_at w i).booked + 1)) (stay _) λ hi.
      test-rule P (sender_sealed d bs) (stay _) λ s.
      let at : Delivering i f w = record {
        small = ltb-true i d.n a;
        right = not-true (d.faulty i) b;
        busy = c;
        some = leb-true 1 (length bs) e;
        room = leb-true 3 (free w.pool) r;
        formed = m;
        batch = omega (arith, leb-true ((station_at w i).booked + 1) (batch_of bs) lo, leb-true (batch_of bs) ((station_at w i).booked + 1) hi);
        sealed = s;
      } in
      by_test (λ v. P (elim v [ true ↦ meet_proposal d i f bs w | false ↦ elim (eqb (kind_of bs) 2) [ true ↦ meet_decision d i f bs w | false ↦ meet_reselect d i f bs w ] ]))
      (eqb (kind_of bs) 1)
      (λ k. test-rule P (not (held (get_or (station_at w i).votes (sender_of bs) None))) (stay _)
      λ h. one at (eqb-true (kind_of bs) 1 k) (not-true (held (get_or (station_at w i).votes (sender_of bs) None)) h))
      (λ k₁. by_test (λ v. P (elim v [ true ↦ meet_decision d i f bs w | false ↦ meet_reselect d i f bs w ]))
      (eqb (kind_of bs) 2)
      (λ k. tag-rule P (first_pair (pair_sealed d bs) 32 (pairs_of bs)) stay λ h. two at (eqb-true (kind_of bs) 2 k) h)
      (λ k₂. test-rule P (rightly_sent d bs) (stay _) λ sh.
      tag-rule P (first_pair (pair_left d bs) 32 (pairs_of bs)) stay λ ts.
      test-rule P (ltb (station_at w i).number (number_of bs)) (stay _) λ up.
      test-rule P (leb (number_of bs) ((station_at w i).number + 1)) (stay _) λ near.
      three at (record {
        shown = sh;
        tags = ts;
        next = omega (arith, ltb-true (station_at w i).number (number_of bs) up, leb-true (number_of bs) ((station_at w i).number + 1) near);
        not_proposal = eqb-false (kind_of bs) 1 k₁;
        not_decision = eqb-false (kind_of bs) 2 k₂;
      })))

  pub inject_rule : (P : Acted → Type 0) (l : List ℕ) (w : World) → ((x : Fault) → P (w, Err x))
      → (line_fault l ≡ None → 3 ≤ free w.pool → forgery d (unhex l) w.pool ≡ None
      → P (record { stations = w.stations; pool = enter (slot_of 1 (unhex l)) w.pool; books = w.books }, Ok (false, false, false)))
      → P (inject_call d l w)
  unfolding inject_call
  inject_rule P l w stay f = line (line_fault l) refl
    where
      after : Option ℕ → Acted
      after o = elim o [
        | Some place ↦ (w, Err (fault_at Forged place))
        | None ↦ (record { stations = w.stations; pool = enter (slot_of 1 (unhex l)) w.pool; books = w.books }, Ok (false, false, false))
      ]

      forge : line_fault l ≡ None → 3 ≤ free w.pool → (o : Option ℕ) → forgery d (unhex l) w.pool ≡ o → P (after o)
      forge e r None g = f e r g
      forge e r (Some x) g = stay _

      line : (o : Option ℕ) → line_fault l ≡ o
          → P (elim o [
            | Some place ↦ (w, Err (fault_at BadLine place))
            | None ↦ test (leb 3 (free w.pool)) (w, Err (fault_at PoolFull 0)) (after (forgery d (unhex l) w.pool))
          ])
      line None e = test-rule P (leb 3 (free w.pool)) (stay _) λ r. forge e (leb-true 3 (free w.pool) r) (forgery d (unhex l) w.pool) refl
      line (Some x) e = stay _

  -- the steps inside

  pub settle-rule : (P : World × Bool → Type 0) (i : ℕ) (e : Entry) (w : World)
      → (d.t + 1 ≤ length (support d e (station_at w i)) → P (decide d i e (take (d.t + 1) (support d e (station_at w i))) w, true))
      → (length (support d e (station_at w i)) ≤ d.t → P (w, false))
      → P (settle d i e w)
  unfolding settle
  settle-rule P i e w f g =
      by_test (λ v. P (elim v [ true ↦ (decide d i e (take (d.t + 1) (support d e (station_at w i))) w, true) | false ↦ (w, false) ]))
      (leb (d.t + 1) (length (support d e (station_at w i))))
      (λ h. f (leb-true (d.t + 1) (length (support d e (station_at w i))) h))
      (λ h. g (omega (arith, leb-false (d.t + 1) (length (support d e (station_at w i))) h)))

  pub announce-rule : (P : World → Type 0) (i b c : ℕ) (proof : List (ℕ × ℕ)) (w : World)
      → (d.seats c i ≡ true → P (issue d (reselects i b (c + 1)) [] i w))
      → (d.seats c i ≡ false → d.seats (c + 1) i ≡ true → P (issue d (statement 3 i b (c + 1) 1 (replicate 16 0)) proof i w))
      → (d.seats c i ≡ false → d.seats (c + 1) i ≡ false → P w)
      → P (announce d i b c proof w)
  unfolding announce
  announce-rule P i b c proof w f g h =
      by_test (λ v. P (elim v [ true ↦ issue d (reselects i b (c + 1)) [] i w | false ↦ elim (d.seats (c + 1) i) [ true ↦ issue d (statement 3 i b (c + 1) 1 (replicate 16 0)) proof i w | false ↦ w ] ]))
      (d.seats c i) f
      (λ e. by_test (λ v. P (elim v [ true ↦ issue d (statement 3 i b (c + 1) 1 (replicate 16 0)) proof i w | false ↦ w ])) (d.seats (c + 1) i) (g e) (h e))

  -- a world with the number raised and the change announced
  unfoldable pub moved_on : ℕ → List (ℕ × ℕ) → World → World
  moved_on i proof w = announce d i ((station_at w i).booked + 1) (station_at w i).number proof (next_number i w)

  pub reselect-rule : (P : Stepped → Type 0) (i : ℕ) (proof : List (ℕ × ℕ)) (w : World)
      → (d.seats ((station_at w i).number + 1) i ≡ true → (station_at w i).proposed ≡ false
      → P ((join d i (moved_on i proof w)).0, (true, true, (join d i (moved_on i proof w)).1)))
      → ((d.seats ((station_at w i).number + 1) i and not (station_at w i).proposed) ≡ false → P (moved_on i proof w, (true, false, false)))
      → P (reselect d i proof w)
  unfolding reselect moved_on
  reselect-rule P i proof w f g =
      by_test (λ v. P (elim v [ true ↦ ((join d i (moved_on i proof w)).0, (true, true, (join d i (moved_on i proof w)).1)) | false ↦ (moved_on i proof w, (true, false, false)) ]))
      (d.seats ((station_at w i).number + 1) i and not (station_at w i).proposed)
      (λ h. let x = and_true (d.seats ((station_at w i).number + 1) i) (not (station_at w i).proposed) h in f x.0 (not-true (station_at w i).proposed x.1))
      g

  pub proposal_rule : (P : Acted → Type 0) (i : ℕ) (bs : List ℕ) (w : World)
      → let w₁ : World = store i (sender_of bs) (record { entry = entry_of bs; tag = tag_of bs }) w in
      (d.t + 1 ≤ length (support d (entry_of bs) (station_at w₁ i)) → P (decide d i (entry_of bs) (take (d.t + 1) (support d (entry_of bs) (station_at w₁ i))) w₁, Ok (false, false, true)))
      → (length (support d (entry_of bs) (station_at w₁ i)) ≤ d.t → differs d i (sender_of bs) (entry_of bs) w₁ ≡ true → P (stepped (reselect d i [] w₁)))
      → (length (support d (entry_of bs) (station_at w₁ i)) ≤ d.t → differs d i (sender_of bs) (entry_of bs) w₁ ≡ false → P (w₁, Ok (false, false, false)))
      → P (take_proposal d i bs w)
  unfolding take_proposal
  proposal_rule P i bs w f g h =
      let w₁ : World = store i (sender_of bs) (record { entry = entry_of bs; tag = tag_of bs }) w in
      settle-rule
      (λ r. P (elim r.1 [ true ↦ (r.0, Ok (false, false, true)) | false ↦ elim (differs d i (sender_of bs) (entry_of bs) w₁) [ true ↦ stepped (reselect d i [] w₁) | false ↦ (w₁, Ok (false, false, false)) ] ]))
      i (entry_of bs) w₁ f
      (λ l. by_test (λ v. P (elim v [ true ↦ stepped (reselect d i [] w₁) | false ↦ (w₁, Ok (false, false, false)) ])) (differs d i (sender_of bs) (entry_of bs) w₁) (g l) (h l))

  -- a call behind the refusals 6 and 7
  pub whole-rule : (P : Acted → Type 0) (intake : List Batch) (c : Call) (w : World) → ((x : Fault) → P (w, Err x))
      → (in_range d ≡ true → fitting d intake w ≡ true → P (act d intake c w)) → P (whole_call d intake c w)
  unfolding whole_call
  whole-rule P intake c w stay f = test-rule P (in_range d) (stay _) λ a. test-rule P (fitting d intake w) (stay _) λ b. f a b

  pub reaches : (intake : List Batch) (c : Call) (w : World) → in_range d ≡ true → fitting d intake w ≡ true → whole_call d intake c w ≡ act d intake c w
  unfolding whole_call
  reaches intake c w a b = rw (a, b) refl

  pub out_of_range : (intake : List Batch) (c : Call) (w : World) → in_range d ≡ false → whole_call d intake c w ≡ refused w OutOfRange 0
  unfolding whole_call
  out_of_range intake c w a = rw a refl

  pub wrong_length : (intake : List Batch) (c : Call) (w : World) → in_range d ≡ true → fitting d intake w ≡ false → whole_call d intake c w ≡ refused w WrongLength 0
  unfolding whole_call
  wrong_length intake c w a b = rw (a, b) refl

  pub refused_6 : (intake : List Batch) (c : Call) (w : World) → in_range d ≡ false → (x : Fault) × (whole_call d intake c w ≡ (w, Err x))
  refused_6 intake c w a = (fault_at OutOfRange 0, out_of_range intake c w a)

  pub refused_7 : (intake : List Batch) (c : Call) (w : World) → in_range d ≡ true → fitting d intake w ≡ false
      → (x : Fault) × (whole_call d intake c w ≡ (w, Err x))
  refused_7 intake c w a b = (fault_at WrongLength 0, wrong_length intake c w a b)
