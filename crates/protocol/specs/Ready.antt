-- The calls in two parts: the tests in their order, with what an accepted call goes on with, and the step.
-- Frames are taken by their fields.
use Rattle.std.specs.Prelude.{ℕ, ◌+◌, ◌-◌, Bool, true, false, cond, not, List, [], ◌∷◌, map, length, get_or, Some, None, Ok, Err, Option, Result, ◌==◌, nat_eq, nat_le, nat_lt, slice_index_or, slice_set}
use Rattle.base.specs.declared.book.Batch.{Batch}
use Rattle.base.specs.declared.fault.Fault.{Fault}
use Rattle.base.specs.declared.refusal.Refusal.{Refusal}
use Rattle.base.specs.declared.refusal.Refusal.TheVariants.{NoStation, FaultyStation, AtWork, IntakeUsedUp, UnlawfulBatch, PoolFull, Idle, NoFrame, EarlierBatch, LaterBatch, SenderTag, VoteHeld, PairTag, WronglySent, NumberPassed, NumberAhead, NotMember, LastNumber, Forged}
use Rattle.base.specs.Refusals.{fault_at}
use Rattle.frames.specs.declared.frame.Frame.{Frame}
use Rattle.frames.specs.declared.frame.Kind.TheVariants.{Propose, Decision, Reselect}
use Rattle.frames.specs.declared.slot.Slot.{Slot}
use Rattle.frames.specs.declared.bytes.FrameBytes.{FrameBytes}
use Rattle.frames.specs.Slots.{no_slot, free, frame_at, enter, slot_of, issued}
use Rattle.frames.specs.Frames.{◌and◌, first_pair}
use Rattle.frames.specs.Packed.{line_read, unpacked}
use Rattle.frames.specs.Typed.{decoded, stated, pair_stated, listed, plain}
use Rattle.protocol.specs.declared.station.Vote.{Vote}
use Rattle.protocol.specs.declared.station.Station.{Station}
use Rattle.protocol.specs.Law.{Terms, Marks}
use Rattle.protocol.specs.Steps.{World, Acted, no_batch, held, passing, at_work}
use Rattle.protocol.specs.Desk.{Desk, put_back, with_record, begun, propose_on, decide_on, vote_on, reselect_on}

-- a test that is refused at a place
abbrev pub passing_at : {A : Type 0} → Bool → Refusal → ℕ → Result A Fault → Result A Fault
passing_at true why place go = go
passing_at false why place go = Err (fault_at why place)

-- what goes on after an answer
abbrev pub and_then : {A B : Type 0} → Result A Fault → (A → Result B Fault) → Result B Fault
and_then (Ok x) f = f x
and_then (Err e) f = Err e

-- a refusal at a place that was found
abbrev pub unless_at : {A : Type 0} → Option ℕ → Refusal → Result A Fault → Result A Fault
unless_at None why go = go
unless_at (Some place) why go = Err (fault_at why place)

-- the pairs of a frame
abbrev pub pairs_in : Frame → List (ℕ × ℕ)
pairs_in f = map plain (listed f.pairs)

-- the vote that a proposal is
abbrev pub vote_in : Frame → Vote
vote_in f = record { entry = f.entry; tag = f.tag }

-- what a member of the new committee alone shows: the tag of the frame taken, or that frame's own pair
abbrev pub shown_by : Frame → List (ℕ × ℕ)
shown_by f = cond (f.pairs.count == 0) ((f.sender, f.tag) ∷ []) (pairs_in f)

module _ (d : Terms) where
  -- the station is there and correct
  abbrev pub stands : {A : Type 0} → ℕ → Result A Fault → Result A Fault
  stands i go = passing (nat_lt i d.n) NoStation (passing (not (d.faulty i)) FaultyStation go)

  -- three slots are free
  abbrev pub roomy : {A : Type 0} → List Slot → Result A Fault → Result A Fault
  roomy pool go = passing (nat_le 3 (free pool)) PoolFull go

  -- Open: the next batch
  unfoldable pub open_ready : List Batch → ℕ → Station → List Slot → Result Batch Fault
  open_ready intake i s pool =
      let next : Batch = get_or intake s.booked no_batch in
      stands i
      (passing (not (at_work d s)) AtWork
      (passing (nat_lt s.booked d.batches) IntakeUsedUp (passing (d.lawful next) UnlawfulBatch (roomy pool (Ok next)))))

  -- Ring
  unfoldable pub ring_ready : ℕ → Station → List Slot → Result (Unit {0}) Fault
  ring_ready i s pool =
      stands i
      (passing (at_work d s) Idle
      (passing (d.seats s.number i) NotMember (passing (nat_lt s.number 20000) LastNumber (roomy pool (Ok tt)))))

  -- the sender's tag is right
  abbrev pub sender_right : Frame → Bool
  sender_right f = f.tag == d.tag f.sender (stated f)

  -- a pair's tag is right
  abbrev pub pair_right : Frame → ℕ × ℕ → Bool
  pair_right f p = p.1 == d.tag p.0 (pair_stated f p.0)

  -- the sender of a reselect frame sits in the committee left and brings no pair, or only in the new one and brings one
  abbrev pub rightly_from : Frame → Bool
  rightly_from f = cond (d.seats (f.number - 1) f.sender) (f.pairs.count == 0) (d.seats f.number f.sender and nat_eq f.pairs.count 1)

  -- a pair has the right tag of a member of the committee left
  abbrev pub pair_leaves : Frame → ℕ × ℕ → Bool
  pair_leaves f p = pair_right f p and d.seats (f.number - 1) p.0

  -- the tests of each kind
  unfoldable pub kind_ready : Station → Frame → Result (Unit {0}) Fault
  kind_ready s f = elim f.kind [
    | Propose ↦ passing (not (held (slice_index_or s.votes f.sender None))) VoteHeld (Ok tt)
    | Decision ↦ unless_at (first_pair (pair_right f) 32 (pairs_in f)) PairTag (Ok tt)
    | Reselect ↦
        passing (rightly_from f) WronglySent
        (unless_at (first_pair (pair_leaves f) 32 (pairs_in f)) PairTag
        (passing (nat_lt s.number f.number) NumberPassed (passing (nat_le f.number (s.number + 1)) NumberAhead (Ok tt))))
  ]

  -- Deliver: the frame by its fields
  unfoldable pub deliver_ready : ℕ → ℕ → Station → List Slot → Result Frame Fault
  deliver_ready i place s pool =
      let bs : List ℕ = frame_at pool place in
      stands i
      (passing (at_work d s) Idle
      (passing (nat_le 1 (length bs)) NoFrame
      (roomy pool
      (and_then (decoded d.n d.t d.batches bs) (λ f.
      passing (nat_le (s.booked + 1) f.batch) EarlierBatch
      (passing (nat_le f.batch (s.booked + 1)) LaterBatch
      (passing_at (sender_right f) SenderTag 24
      (and_then (kind_ready s f) (λ _. Ok f)))))))))

  -- the place of the first statement under a correct station's right tag that no step issued
  unfoldable pub forged_at : Frame → List Slot → Option ℕ
  forged_at f pool =
      elim (not (d.faulty f.sender) and sender_right f and not (issued (stated f) pool)) [
        | true ↦ Some 24
        | false ↦ first_pair (λ p. not (not (d.faulty p.0) and pair_right f p and not (issued (pair_stated f p.0) pool))) 32 (pairs_in f)
      ]

  -- a malformed frame is not forged
  abbrev pub forgery_at : Result Frame Fault → List Slot → Option ℕ
  forgery_at (Ok f) pool = forged_at f pool
  forgery_at (Err e) pool = None

  -- Inject: the frame's bytes
  unfoldable pub inject_ready : List ℕ → List Slot → Result FrameBytes Fault
  inject_ready line pool =
      and_then (line_read line) (λ bytes.
      roomy pool (unless_at (forgery_at (decoded d.n d.t d.batches (unpacked bytes)) pool) Forged (Ok bytes)))

-- The steps that accepted calls go on with

-- frame number `place` of a pool is marked as taken
unfoldable pub marked_taken : ℕ → List Slot → List Slot
marked_taken place pool =
    let s : Slot = get_or pool place no_slot in
    slice_set pool place (record { len = s.len; bytes = s.bytes; by = s.by; taken = true })

abbrev pub taken_on : ℕ → Desk → Desk
taken_on place k = record { station = k.station; pool = marked_taken place k.pool; books = k.books }

module _ (d : Terms) (i : ℕ) where
  -- Open takes up the next batch; a member of committee 0 proposes
  unfoldable pub open_on : Batch → Desk → Desk × Marks
  open_on next k =
      let k₁ : Desk = with_record (begun next) k in
      elim (d.seats 0 i) [ true ↦ (propose_on d i k₁, (false, true, false)) | false ↦ (k₁, (false, false, false)) ]

  -- Deliver takes the frame
  unfoldable pub deliver_on : ℕ → Frame → Desk → Desk × Marks
  deliver_on place f k =
      let k₁ : Desk = taken_on place k in
      elim f.kind [
        | Propose ↦ vote_on d i f.sender (vote_in f) k₁
        | Decision ↦ (decide_on d i f.entry (pairs_in f) k₁, (false, false, true))
        | Reselect ↦ reselect_on d i (shown_by f) k₁
      ]

-- after passed tests the step; a refusal changes nothing
abbrev pub through : {A : Type 0} → Result A Fault → World → (A → Acted) → Acted
through (Ok x) w go = go x
through (Err e) w go = (w, Err e)

-- a step at station i's desk, put back
abbrev pub answered : ℕ → World → Desk × Marks → Acted
answered i w r = (put_back i w r.0, Ok r.1)

-- a frame from outside enters the pool
abbrev pub injected : FrameBytes → World → Acted
injected bytes w =
    (record { stations = w.stations; pool = enter (slot_of 1 (unpacked bytes)) w.pool; books = w.books }, Ok (false, false, false))
