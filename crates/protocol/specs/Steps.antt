-- The steps of a station and the calls of the hall, on the records and the buffers. A call is a
-- function from a world to the world after it and the answer; `whole_call` is what a caller meets.
use Rattle.std.specs.Prelude.{ℕ, ◌+◌, ◌-◌, ◌*◌, Bool, true, false, cond, not, ltb, leb, List, [], ◌∷◌, ◌++◌, length, get_or, take, drop, replicate, Some, None, Ok, Err, Option, Result, ◌==◌, nat_eq, nat_le, nat_lt, slice_index_or, slice_set}
use Rattle.base.specs.declared.book.Batch.{Batch}
use Rattle.base.specs.declared.book.Entry.{Entry}
use Rattle.base.specs.declared.fault.Fault.{Fault}
use Rattle.base.specs.declared.refusal.Refusal.{Refusal}
use Rattle.base.specs.declared.refusal.Refusal.TheVariants.{OutOfRange, WrongLength, NoStation, FaultyStation, AtWork, IntakeUsedUp, UnlawfulBatch, PoolFull, Idle, NoFrame, Malformed, EarlierBatch, LaterBatch, SenderTag, VoteHeld, PairTag, WronglySent, NumberPassed, NumberAhead, NotMember, LastNumber, Forged, BadLine, NotBooked, ShortBuffer}
use Rattle.base.specs.Refusals.{fault_at}
use Rattle.frames.specs.declared.slot.Slot.{Slot}
use Rattle.frames.specs.Bytes.{be8, statement, entry_bytes, proposes, reselects, pair_bytes}
use Rattle.frames.specs.Slots.{no_slot, frame_at, free, enter, slot_of, issued}
use Rattle.frames.specs.Frames.{◌and◌, entry_of, kind_of, sender_of, batch_of, number_of, count_of, tag_of, pairs_of, pair_states, first_pair, unhex, line_fault, hex}
use Rattle.frames.specs.Certificates.{malformed as malformed_for, sender_sealed as sealed_by, pair_sealed as pair_by}
use Rattle.protocol.specs.declared.station.Vote.{Vote}
use Rattle.protocol.specs.declared.station.Station.{Station}
use Rattle.protocol.specs.Law.{Terms, Call, opening, delivery, ringing, injection, Marks, works}

-- what an idle station has for a batch
abbrev pub no_batch : Batch
no_batch = record { grower = 0; fruit = 0; oil = 0 }

abbrev pub no_entry : Entry
no_entry = record { grower = 0; amount = 0; carry = 0; figure = 0 }

abbrev pub no_station : Station
no_station = record { booked = 0; work = no_batch; number = 0; proposed = false; votes = replicate 16 None }

-- everything that calls change
pub record World : Type 0 where
  pub stations : List Station
  pub pool : List Slot
  pub books : List Entry

-- The pool

-- frame f is marked as taken
unfoldable pub mark_taken : ℕ → World → World
mark_taken f w =
    let s : Slot = get_or w.pool f no_slot in
    record { stations = w.stations; pool = slice_set w.pool f (record { len = s.len; bytes = s.bytes; by = s.by; taken = true }); books = w.books }

-- The record of a station

abbrev pub station_at : World → ℕ → Station
station_at w i = slice_index_or w.stations i no_station

unfoldable pub with_station : ℕ → Station → World → World
with_station i s w = record { stations = slice_set w.stations i s; pool = w.pool; books = w.books }

-- the next batch, with number 0 and empty votes, not yet proposed
unfoldable pub take_up : Batch → ℕ → World → World
take_up next i w =
    with_station i (record { booked = (station_at w i).booked; work = next; number = 0; proposed = false; votes = replicate 16 None }) w

-- the committee number rises by one
unfoldable pub next_number : ℕ → World → World
next_number i w =
    let s : Station = station_at w i in
    with_station i (record { booked = s.booked; work = s.work; number = s.number + 1; proposed = s.proposed; votes = s.votes }) w

-- station i holds a vote of station q: the entry that q proposed to it, with the tag
unfoldable pub store : ℕ → ℕ → Vote → World → World
store i q v w =
    let s : Station = station_at w i in
    with_station i (record { booked = s.booked; work = s.work; number = s.number; proposed = s.proposed; votes = slice_set s.votes q (Some v) }) w

abbrev pub held : Option Vote → Bool
held None = false
held (Some v) = true

-- the entry of its own vote
unfoldable pub own_entry : World → ℕ → Entry
own_entry w i = elim (slice_index_or (station_at w i).votes i None) [ None ↦ no_entry | Some v ↦ v.entry ]

unfoldable pub same_entry : Entry → Entry → Bool
same_entry a b = nat_eq a.grower b.grower and nat_eq a.amount b.amount and nat_eq a.carry b.carry and nat_eq a.figure b.figure

-- the stations, from q on, whose vote is for e, with their tags
unfoldable pub backers : Entry → ℕ → List (Option Vote) → List (ℕ × ℕ)
backers e q [] = []
backers e q (None ∷ vs) = backers e (q + 1) vs
backers e q (Some v ∷ vs) = elim (same_entry v.entry e) [ true ↦ (q, v.tag) ∷ backers e (q + 1) vs | false ↦ backers e (q + 1) vs ]

-- Answers

-- a world, with the marks of what led to it
abbrev pub Stepped : Type 0
Stepped = World × Marks

-- a world, with the answer of the call that led to it
abbrev pub Acted : Type 0
Acted = World × Result Marks Fault

abbrev pub stepped : Stepped → Acted
stepped r = (r.0, Ok r.1)

-- a refusal changes nothing
abbrev pub refused : World → Refusal → ℕ → Acted
refused w why place = (w, Err (fault_at why place))

-- a test, with what comes where it fails and where it passes
abbrev pub test : Bool → Acted → Acted → Acted
test true stop go = go
test false stop go = stop

-- a test before an answer, with its refusal
abbrev pub passing : {A : Type 0} → Bool → Refusal → Result A Fault → Result A Fault
passing true why go = go
passing false why go = Err (fault_at why 0)

-- a buffer after a Write, with the answer
abbrev pub written : List ℕ → List ℕ → Result ℕ Fault → List ℕ × Result ℕ Fault
written line buffer (Ok n) = (line ++ drop (length line) buffer, Ok n)
written line buffer (Err x) = (buffer, Err x)

-- a malformed frame is refused
abbrev pub form_faults : Option ℕ → World → Acted → Acted
form_faults None w go = go
form_faults (Some place) w go = refused w Malformed place

-- a wrong tag of a pair is refused
abbrev pub tag_faults : Option ℕ → World → Acted → Acted
tag_faults None w go = go
tag_faults (Some place) w go = refused w PairTag place

-- what a member of the new committee alone shows: the tag of the frame taken, or that frame's own pair
unfoldable pub shows : List ℕ → List (ℕ × ℕ)
shows bs = cond (count_of bs == 0) ((sender_of bs, tag_of bs) ∷ []) (pairs_of bs)

module _ (d : Terms) where
  -- why a frame is malformed: the place of the first field that fails
  abbrev pub malformed : List ℕ → Option ℕ
  malformed bs = malformed_for d.n d.t d.batches bs

  -- the sender's tag is right
  abbrev pub sender_sealed : List ℕ → Bool
  sender_sealed bs = sealed_by d.tag bs

  -- a pair's tag is right
  abbrev pub pair_sealed : List ℕ → ℕ × ℕ → Bool
  pair_sealed bs p = pair_by d.tag bs p

  -- it has a batch at work
  abbrev pub at_work : Station → Bool
  at_work s = d.lawful s.work

  -- the carry of its last booked entry
  unfoldable pub last_carry : World → ℕ → ℕ
  last_carry w i = cond ((station_at w i).booked == 0) 0 (get_or w.books (i * d.batches + (station_at w i).booked - 1) no_entry).carry

  -- Steps of a station

  -- a frame of station i enters the pool, with its tag on the statement
  unfoldable pub issue : List ℕ → List (ℕ × ℕ) → ℕ → World → World
  issue s pairs i w = record { stations = w.stations; pool = enter (slot_of 0 (s ++ be8 (d.tag i s) ++ pair_bytes pairs)) w.pool; books = w.books }

  -- it works its entry out, stores its vote and issues a propose frame
  unfoldable pub propose : ℕ → World → World
  propose i w =
      let s : Station = station_at w i in
      let e : Entry = works d (last_carry w i) s.work in
      let text : List ℕ = proposes i (s.booked + 1) e in
      issue text [] i
      (with_station i (record { booked = s.booked; work = s.work; number = s.number; proposed = true; votes = slice_set s.votes i (Some (record { entry = e; tag = d.tag i text })) }) w)

  -- it books e, issues a decision with these pairs and is idle
  unfoldable pub decide : ℕ → Entry → List (ℕ × ℕ) → World → World
  decide i e pairs w =
      let s : Station = station_at w i in
      let text : List ℕ = statement 2 i (s.booked + 1) 0 (d.t + 1) (entry_bytes e) in
      issue text pairs i
      (record { stations = slice_set w.stations i (record { booked = s.booked + 1; work = no_batch; number = s.number; proposed = s.proposed; votes = s.votes }); pool = w.pool; books = slice_set w.books (i * d.batches + s.booked) e })

  -- of the n stations those whose vote is for e, with their tags
  abbrev pub support : Entry → Station → List (ℕ × ℕ)
  support e s = backers e 0 (take d.n s.votes)

  -- it decides if the support of e is t + 1, with the lowest t + 1 stations; the flag says whether it did
  unfoldable pub settle : ℕ → Entry → World → World × Bool
  settle i e w =
      let ps : List (ℕ × ℕ) = support e (station_at w i) in
      elim (nat_le (d.t + 1) (length ps)) [ true ↦ (decide i e (take (d.t + 1) ps) w, true) | false ↦ (w, false) ]

  -- it proposes, then settles
  unfoldable pub join : ℕ → World → World × Bool
  join i w = let w₁ : World = propose i w in settle i (own_entry w₁ i) w₁

  -- a member of committee c, or else of c + 1, issues a reselect frame in batch b
  unfoldable pub announce : ℕ → ℕ → ℕ → List (ℕ × ℕ) → World → World
  announce i b c proof w =
      elim (d.seats c i) [
        | true ↦ issue (reselects i b (c + 1)) [] i w
        | false ↦ elim (d.seats (c + 1) i) [ true ↦ issue (statement 3 i b (c + 1) 1 (replicate 16 0)) proof i w | false ↦ w ]
      ]

  -- it goes on to the next committee; `proof` is what a member of the new one alone shows
  unfoldable pub reselect : ℕ → List (ℕ × ℕ) → World → Stepped
  reselect i proof w =
      let s : Station = station_at w i in
      let c : ℕ = s.number in
      let w₂ : World = announce i (s.booked + 1) c proof (next_number i w) in
      elim (d.seats (c + 1) i and not s.proposed) [
        | true ↦ (let r : World × Bool = join i w₂ in (r.0, (true, true, r.1)))
        | false ↦ (w₂, (true, false, false))
      ]

  -- Calls

  -- Open
  unfoldable pub open_call : List Batch → ℕ → World → Acted
  open_call intake i w =
      let s : Station = station_at w i in
      let next : Batch = get_or intake s.booked no_batch in
      let w₁ : World = take_up next i w in
      test (nat_lt i d.n) (refused w NoStation 0)
      (test (not (d.faulty i)) (refused w FaultyStation 0)
      (test (not (at_work s)) (refused w AtWork 0)
      (test (nat_lt s.booked d.batches) (refused w IntakeUsedUp 0)
      (test (d.lawful next) (refused w UnlawfulBatch 0)
      (test (nat_le 3 (free w.pool)) (refused w PoolFull 0)
      (elim (d.seats 0 i) [ true ↦ (propose i w₁, Ok (false, true, false)) | false ↦ (w₁, Ok (false, false, false)) ]))))))

  -- Ring
  unfoldable pub ring_call : ℕ → World → Acted
  ring_call i w =
      let s : Station = station_at w i in
      test (nat_lt i d.n) (refused w NoStation 0)
      (test (not (d.faulty i)) (refused w FaultyStation 0)
      (test (at_work s) (refused w Idle 0)
      (test (d.seats s.number i) (refused w NotMember 0)
      (test (nat_lt s.number 20000) (refused w LastNumber 0)
      (test (nat_le 3 (free w.pool)) (refused w PoolFull 0)
      (stepped (reselect i [] w)))))))

  -- the sender is a fellow member whose entry differs
  unfoldable pub differs : ℕ → ℕ → Entry → World → Bool
  differs i q e w =
      let s : Station = station_at w i in
      let c : ℕ = s.number in
      d.seats c i and ltb c 20000 and s.proposed and d.seats c q and not (same_entry e (own_entry w i))

  -- a proposal that is taken: stored and settled, and a member that finds another entry reselects
  unfoldable pub take_proposal : ℕ → List ℕ → World → Acted
  take_proposal i bs w =
      let e : Entry = entry_of bs in
      let w₁ : World = store i (sender_of bs) (record { entry = e; tag = tag_of bs }) w in
      let r : World × Bool = settle i e w₁ in
      elim r.1 [
        | true ↦ (r.0, Ok (false, false, true))
        | false ↦
            elim (differs i (sender_of bs) e w₁)
            [ true ↦ stepped (reselect i [] w₁) | false ↦ (w₁, Ok (false, false, false)) ]
      ]

  -- the tests of each kind, after the sender's tag
  unfoldable pub meet_proposal : ℕ → ℕ → List ℕ → World → Acted
  meet_proposal i f bs w =
      test (not (held (slice_index_or (station_at w i).votes (sender_of bs) None))) (refused w VoteHeld 0) (take_proposal i bs (mark_taken f w))

  unfoldable pub meet_decision : ℕ → ℕ → List ℕ → World → Acted
  meet_decision i f bs w =
      tag_faults (first_pair (pair_sealed bs) 32 (pairs_of bs)) w
      (decide i (entry_of bs) (pairs_of bs) (mark_taken f w), Ok (false, false, true))

  -- the sender of a reselect frame sits in the committee left and brings no pair, or only in the new one and brings one
  abbrev pub rightly_sent : List ℕ → Bool
  rightly_sent bs = cond (d.seats (number_of bs - 1) (sender_of bs)) (count_of bs == 0) (d.seats (number_of bs) (sender_of bs) and nat_eq (count_of bs) 1)

  -- its pair has the right tag of a member of the committee left
  abbrev pub pair_left : List ℕ → ℕ × ℕ → Bool
  pair_left bs p = pair_sealed bs p and d.seats (number_of bs - 1) p.0

  unfoldable pub meet_reselect : ℕ → ℕ → List ℕ → World → Acted
  meet_reselect i f bs w =
      let c : ℕ = number_of bs in
      test (rightly_sent bs) (refused w WronglySent 0)
      (tag_faults (first_pair (pair_left bs) 32 (pairs_of bs)) w
      (test (nat_lt (station_at w i).number c) (refused w NumberPassed 0)
      (test (nat_le c ((station_at w i).number + 1)) (refused w NumberAhead 0)
      (stepped (reselect i (shows bs) (mark_taken f w))))))

  unfoldable pub meet : ℕ → ℕ → List ℕ → World → Acted
  meet i f bs w =
      elim (kind_of bs == 1) [
        | true ↦ meet_proposal i f bs w
        | false ↦ elim (kind_of bs == 2) [ true ↦ meet_decision i f bs w | false ↦ meet_reselect i f bs w ]
      ]

  -- Deliver
  unfoldable pub deliver_call : ℕ → ℕ → World → Acted
  deliver_call i f w =
      let s : Station = station_at w i in
      let bs : List ℕ = frame_at w.pool f in
      test (nat_lt i d.n) (refused w NoStation 0)
      (test (not (d.faulty i)) (refused w FaultyStation 0)
      (test (at_work s) (refused w Idle 0)
      (test (nat_le 1 (length bs)) (refused w NoFrame 0)
      (test (nat_le 3 (free w.pool)) (refused w PoolFull 0)
      (form_faults (malformed bs) w
      (test (nat_le (s.booked + 1) (batch_of bs)) (refused w EarlierBatch 0)
      (test (nat_le (batch_of bs) (s.booked + 1)) (refused w LaterBatch 0)
      (test (sender_sealed bs) (refused w SenderTag 24)
      (meet i f bs w)))))))))

  -- the place of the first statement under a correct station's right tag that no step issued
  unfoldable pub forged : List ℕ → List Slot → Option ℕ
  forged bs pool =
      elim (not (d.faulty (sender_of bs)) and sender_sealed bs and not (issued (take 24 bs) pool)) [
        | true ↦ Some 24
        | false ↦ first_pair (λ p. not (not (d.faulty p.0) and pair_sealed bs p and not (issued (pair_states bs p.0) pool))) 32 (pairs_of bs)
      ]

  unfoldable pub forgery : List ℕ → List Slot → Option ℕ
  forgery bs pool = elim (malformed bs) [ None ↦ forged bs pool | Some place ↦ None ]

  -- Inject
  unfoldable pub inject_call : List ℕ → World → Acted
  inject_call l w =
      let bs : List ℕ = unhex l in
      elim (line_fault l) [
        | Some place ↦ refused w BadLine place
        | None ↦
            test (nat_le 3 (free w.pool)) (refused w PoolFull 0)
            (elim (forgery bs w.pool) [
              | Some place ↦ refused w Forged place
              | None ↦ (record { stations = w.stations; pool = enter (slot_of 1 bs) w.pool; books = w.books }, Ok (false, false, false))
            ])
      ]

  -- any call, on buffers of the right lengths
  abbrev pub act : List Batch → Call → World → Acted
  act intake (opening i) w = open_call intake i w
  act intake (delivery i f) w = deliver_call i f w
  act intake (ringing i) w = ring_call i w
  act intake (injection l) w = inject_call l w

  -- Whole calls

  -- policy and table agree in n and t, and the numbers of batches and of slots lie in range
  unfoldable pub in_range : Bool
  in_range =
      nat_eq d.policy_n d.n and nat_eq d.policy_t d.t and leb 1 d.batches and leb d.batches 1000 and leb 3 d.slots
      and leb d.slots 65536

  -- every buffer has its length
  unfoldable pub fitting : List Batch → World → Bool
  fitting intake w = nat_eq (length intake) d.batches and nat_eq (length w.pool) d.slots and nat_eq (length w.books) (d.n * d.batches)

  -- a call as it is made, with the refusals that all calls share in front
  unfoldable pub whole_call : List Batch → Call → World → Acted
  whole_call intake c w = test in_range (refused w OutOfRange 0) (test (fitting intake w) (refused w WrongLength 0) (act intake c w))

  -- Read and Write, which no history shows: the world stays as it is

  -- Read: entry k of station i, counted from 1
  unfoldable pub read_call : List Batch → ℕ → ℕ → World → Result Entry Fault
  read_call intake i k w =
      passing in_range OutOfRange
      (passing (fitting intake w) WrongLength
      (passing (nat_lt i d.n) NoStation
      (passing (not (d.faulty i)) FaultyStation
      (passing (leb 1 k and leb k (station_at w i).booked) NotBooked
      (Ok (slice_index_or w.books (i * d.batches + k - 1) no_entry))))))

  -- Write: frame f as a line in front of the buffer, whose bytes behind it stay, and the line's length
  unfoldable pub write_call : List Batch → ℕ → List ℕ → World → List ℕ × Result ℕ Fault
  write_call intake f buffer w =
      let bs : List ℕ = frame_at w.pool f in
      let line : List ℕ = hex bs in
      written line buffer
      (passing in_range OutOfRange
      (passing (fitting intake w) WrongLength
      (passing (nat_le 1 (length bs)) NoFrame
      (passing (nat_le (length line) (length buffer)) ShortBuffer
      (Ok (length line))))))
