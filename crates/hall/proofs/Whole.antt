-- A call is its tests and then its step: what was tested and what was done come to the whole call.
use Rattle.std.proofs.Common.{◌≡◌, ℕ, ◌+◌, ◌-◌, ◌*◌, ◌<◌, ◌≤◌, min, true, false, not, ltb, leb, List, [], length, get_or, take, set, Ok, Err, Result, sym, refl, ap, ◌∙◌, subst, arith}
use Rattle.std.proofs.lemmas.Bool.{ltb-true, leb-true}
use Rattle.std.proofs.lemmas.List.{get_or_default, take_all, length-take}
use Rattle.base.specs.declared.book.Batch.{Batch}
use Rattle.base.specs.declared.book.Entry.{Entry}
use Rattle.base.specs.declared.fault.Fault.{Fault}
use Rattle.base.specs.declared.refusal.Refusal.TheVariants.{OutOfRange, WrongLength, NoStation, FaultyStation}
use Rattle.frames.specs.declared.bytes.FrameBytes.{FrameBytes}
use Rattle.frames.specs.declared.frame.Frame.{Frame}
use Rattle.frames.specs.declared.slot.Slot.{Slot}
use Rattle.frames.specs.Packed.{unpacked}
use Rattle.frames.specs.Slots.{frame_at, enter, slot_of}
use Rattle.frames.proofs.Basics.{and_true}
use Rattle.protocol.specs.declared.station.Station.{Station}
use Rattle.protocol.specs.Law.{Terms, Call, Marks, opening, delivery, ringing, injection}
use Rattle.protocol.specs.Steps.{World, Acted, passing, act, in_range, fitting, open_call, ring_call, deliver_call, whole_call, no_station, no_batch}
use Rattle.protocol.specs.Bounds.{Bounded}
use Rattle.protocol.specs.Desk.{Desk, reselect_on}
use Rattle.protocol.specs.Ready.{through, answered, stands, open_ready, ring_ready, deliver_ready, inject_ready, open_on, deliver_on}
use Rattle.protocol.proofs.Bounds.{call_bounded}
use Rattle.protocol.proofs.Splits.{open_is, ring_is, deliver_is, inject_is}
use Rattle.protocol.proofs.Passed.{passing_ok, Opens, open_passed, Rings, ring_passed, Delivers, deliver_passed}
use Rattle.rules.specs.declared.rule.Rule as Rule
use Rattle.policies.specs.declared.policy.Policy as Policy
use Rattle.seals.specs.declared.seal.Check as Check
use Rattle.hall.specs.declared.state.Hall.{Hall}
use Rattle.hall.specs.Called.{world, desk, admitted, among}
use Rattle.hall.specs.Join.{terms}
use Rattle.hall.specs.Parts.{States, open_tests, ring_tests, deliver_tests}
use Rattle.hall.specs.Steady.{Steady}
use Rattle.hall.specs.Working.{Placed, Working, Moving, Delivered}
use Rattle.hall.proofs.Lawful.{SoundTable, sound_table}
use Rattle.hall.proofs.Passing.{both_hold, both_pass, one_refuses}
use Rattle.hall.proofs.Ranges.{few_batches, Sizes, sizes, in_books}
use Rattle.hall.proofs.Tested.{deliver_parts}

-- what a place of an array is read with where it were not there
abbrev blank : Station
blank = record { booked = 0; work = no_batch; number = 0; proposed = false; votes = [] }

module _ {R P S : Type 0} (r : Rule.Ghosts R) (p : Policy.Ghosts P) (s : Check.Ghosts S)
    (h : Hall R P S) (intake : List Batch) (pool : List Slot) (books : List Entry) where
  abbrev d : Terms
  d = terms r p s h.setup

  abbrev w : World
  w = world h.stations pool books

  table : SoundTable h.setup.table.n h.setup.table.t h.setup.table.marks
  table = sound_table h.setup.table.n h.setup.table.t h.setup.table.marks h.setup.table.ok

  -- what the hall keeps of its records stays
  pub kept : (c : Call) (m : Acted) → m ≡ whole_call d intake c w → Steady h.setup.batches m.0.stations
  kept c m is =
      let before : Bounded d (length pool) (length books) w = record {
        station_places = h.steady.0;
        pool_places = refl;
        book_places = refl;
        each = λ i. let (a, b, n, v) = h.steady.1 i in record { booked_most = a; booked_less = b; number_most = n; vote_places = v };
      } in
      let after : Bounded d (length pool) (length books) m.0 =
      subst (λ (x : Acted). Bounded d (length pool) (length books) x.0) (sym is)
      (call_bounded d table.few refl (length pool) (length books) intake c w before) in
      (after.station_places, λ i. let b = after.each i in (b.booked_most, b.booked_less, b.number_most, b.vote_places))

  pub unadmitted : (c : Call) (e : Fault) → Err e ≡ admitted d intake (world [] pool books) → ◌≡◌ {A = Acted} (w, Err e) (whole_call d intake c w)
  unfolding whole_call fitting
  unadmitted c e = one_refuses OutOfRange WrongLength tt w (in_range d) (fitting d intake w) e (act d intake c w)

  module _ (fits : Ok tt ≡ admitted d intake (world [] pool books)) where
    tests : (in_range d ≡ true) × (fitting d intake w ≡ true)
    unfolding fitting
    tests = both_hold OutOfRange WrongLength tt (in_range d) (fitting d intake w) fits

    sized : Sizes d intake w
    sized = sizes d intake w tests.1

    reached : (c : Call) → act d intake c w ≡ whole_call d intake c w
    unfolding whole_call
    reached c = rw (tests.0, tests.1) refl

    -- a call by its tests and its step
    module _ {A : Type 0} (c : Call) (ready : Result A Fault) (go : A → Acted) (is : act d intake c w ≡ through ready w go) where
      call_stops : (e : Fault) → Err e ≡ ready → ◌≡◌ {A = Acted} (w, Err e) (whole_call d intake c w)
      call_stops e q = ap (λ (x : Result A Fault). through x w go) q ∙ sym is ∙ reached c

      call_goes : (y : A) → Ok y ≡ ready → go y ≡ whole_call d intake c w
      call_goes y q = ap (λ (x : Result A Fault). through x w go) q ∙ sym is ∙ reached c

    -- no such station, or a faulty one
    module _ (i : ℕ) (e : Fault) (fails : ◌≡◌ {A = Result ℕ Fault} (Err e) (stands d i (Ok i))) where
      pub open_unknown : ◌≡◌ {A = Acted} (w, Err e) (whole_call d intake (opening i) w)
      unfolding open_call
      open_unknown = one_refuses NoStation FaultyStation i w (ltb i d.n) (not (d.faulty i)) e _ fails ∙ reached (opening i)

      pub ring_unknown : ◌≡◌ {A = Acted} (w, Err e) (whole_call d intake (ringing i) w)
      unfolding ring_call
      ring_unknown = one_refuses NoStation FaultyStation i w (ltb i d.n) (not (d.faulty i)) e _ fails ∙ reached (ringing i)

      pub deliver_unknown : (place : ℕ) → ◌≡◌ {A = Acted} (w, Err e) (whole_call d intake (delivery i place) w)
      unfolding deliver_call
      deliver_unknown place = one_refuses NoStation FaultyStation i w (ltb i d.n) (not (d.faulty i)) e _ fails ∙ reached (delivery i place)

    -- station i stands, by its number j; it is read before the step, and lent to it
    module _ (i j : ℕ) (stood : ◌≡◌ {A = Result ℕ Fault} (Ok j) (stands d i (Ok i))) (st : Station) (is : st ≡ get_or h.stations j no_station) where
      abbrev mine : Station
      mine = get_or h.stations j no_station

      abbrev lent : Station
      lent = get_or h.stations j blank

      same : j ≡ i
      same =
          let rest = (passing_ok (ltb i d.n) NoStation (passing (not (d.faulty i)) FaultyStation (Ok i)) j (sym stood)).1 in
          let one : ◌≡◌ {A = Result ℕ Fault} (Ok i) (Ok j) = (passing_ok (not (d.faulty i)) FaultyStation (Ok i) j rest).1 in
          cc

      there : ◌≡◌ {A = Result ℕ Fault} (Ok j) (stands d j (Ok j))
      there = stood ∙ ap (λ x. stands d x (Ok x)) (sym same)

      small : j < d.n
      small = ltb-true j d.n (both_hold NoStation FaultyStation j (ltb j d.n) (not (d.faulty j)) there).0

      long : d.n ≤ length h.stations
      long = let places = h.steady.0 in let few = table.few in omega arith

      as_lent : lent ≡ mine
      as_lent = get_or_default h.stations j blank no_station (omega (arith, small, long))

      -- after its station's tests a call's own
      stood_before : {A : Type 0} (go : Result A Fault) → go ≡ stands d j go
      stood_before go = sym (both_pass NoStation FaultyStation j (ltb j d.n) (not (d.faulty j)) go there)

      -- a station that has a batch left
      placed : mine.booked < d.batches → Placed d j mine (length books)
      placed left = record {
        there = small;
        few = table.few;
        quorum = table.most;
        short = few_batches d tests.0;
        left = left;
        votes = (h.steady.1 j).3;
        shape = sized.book_size;
      }

      at_work_placed : d.lawful mine.work ≡ true → Working d j mine (length books)
      at_work_placed busy = record { placed = placed ((h.steady.1 j).1 busy); busy = busy }

      -- Read
      pub read_place : (k place : ℕ) → among k st.booked ≡ true → place ≡ j * d.batches + k → place - 1 < length books
      read_place k place on at =
          let (low, high) = and_true (leb 1 k) (leb k st.booked) on in
          let one = leb-true 1 k low in
          let most = leb-true k st.booked high in
          let booked = ap (λ (x : Station). x.booked) is in
          let all = (h.steady.1 j).0 in
          let inside = in_books j d.n d.batches (k - 1) (length books) small (omega arith) sized.book_size in
          omega (arith, inside)

      -- Open
      open_split : open_tests d intake st pool ≡ open_ready d intake j mine pool
      unfolding open_ready
      open_split = ap (λ (x : Station). open_tests d intake x pool) is ∙ stood_before (open_tests d intake mine pool)

      pub open_refused : (e : Fault) → Err e ≡ open_tests d intake st pool → ◌≡◌ {A = Acted} (w, Err e) (whole_call d intake (opening i) w)
      open_refused e q =
          call_stops (opening j) _ _ (open_is d w long j intake) e (q ∙ open_split) ∙ ap (λ x. whole_call d intake (opening x) w) same

      module _ (next : Batch) (ready : Ok next ≡ open_tests d intake st pool) where
        opened : Opens d intake j mine pool next
        opened = open_passed d intake j mine pool next (sym (ready ∙ open_split))

        pub open_placed : Placed d j lent (length books)
        open_placed = subst (λ (x : Station). Placed d j x (length books)) (sym as_lent) (placed opened.left)

        pub open_done : (st₁ : Station) (pool₁ : List Slot) (books₁ : List Entry) (m : Marks)
            → ◌≡◌ {A = Desk × Marks} (desk st₁ pool₁ books₁, m) (open_on d j next (desk lent pool books))
            → ◌≡◌ {A = Acted} (world (set h.stations j st₁) pool₁ books₁, Ok m) (whole_call d intake (opening i) w)
        open_done st₁ pool₁ books₁ m step =
            ap (answered j w) (step ∙ ap (λ (x : Station). open_on d j next (desk x pool books)) as_lent)
            ∙ call_goes (opening j) _ _ (open_is d w long j intake) next (ready ∙ open_split)
            ∙ ap (λ x. whole_call d intake (opening x) w) same

      -- Ring
      ring_split : ring_tests d j st pool ≡ ring_ready d j mine pool
      unfolding ring_ready
      ring_split = ap (λ (x : Station). ring_tests d j x pool) is ∙ stood_before (ring_tests d j mine pool)

      pub ring_refused : (e : Fault) → Err e ≡ ring_tests d j st pool → ◌≡◌ {A = Acted} (w, Err e) (whole_call d intake (ringing i) w)
      ring_refused e q =
          call_stops (ringing j) _ _ (ring_is d w long j) e (q ∙ ring_split) ∙ ap (λ x. whole_call d intake (ringing x) w) same

      module _ (ready : Ok tt ≡ ring_tests d j st pool) where
        rung : Rings d j mine pool
        rung = ring_passed d j mine pool tt (sym (ready ∙ ring_split))

        pub ring_moving : Moving d j lent (length books)
        ring_moving =
            subst (λ (x : Station). Moving d j x (length books)) (sym as_lent) (record { working = at_work_placed rung.busy; low = rung.below })

        pub ring_seat : d.seats lent.number j ≡ true
        ring_seat = ap (λ (x : Station). d.seats x.number j) as_lent ∙ rung.member

        pub ring_done : (st₁ : Station) (pool₁ : List Slot) (books₁ : List Entry) (m : Marks)
            → ◌≡◌ {A = Desk × Marks} (desk st₁ pool₁ books₁, m) (reselect_on d j [] (desk lent pool books))
            → ◌≡◌ {A = Acted} (world (set h.stations j st₁) pool₁ books₁, Ok m) (whole_call d intake (ringing i) w)
        ring_done st₁ pool₁ books₁ m step =
            ap (answered j w) (step ∙ ap (λ (x : Station). reselect_on d j [] (desk x pool books)) as_lent)
            ∙ call_goes (ringing j) _ _ (ring_is d w long j) tt (ready ∙ ring_split)
            ∙ ap (λ x. whole_call d intake (ringing x) w) same

      -- Deliver
      module _ (place : ℕ) (says : States d.n d.t d.batches (frame_at pool place)) where
        deliver_split : deliver_tests d st place pool ≡ deliver_ready d j place mine pool
        deliver_split =
            ap (λ (x : Station). deliver_tests d x place pool) is ∙ stood_before (deliver_tests d mine place pool) ∙ sym (deliver_parts d j mine pool place)

        pub deliver_refused : (e : Fault) → Err e ≡ deliver_tests d st place pool → ◌≡◌ {A = Acted} (w, Err e) (whole_call d intake (delivery i place) w)
        deliver_refused e q =
            call_stops (delivery j place) _ _ (deliver_is d w long j place table.most says) e (q ∙ deliver_split)
            ∙ ap (λ x. whole_call d intake (delivery x place) w) same

        module _ (f : Frame) (ready : Ok f ≡ deliver_tests d st place pool) where
          taken : Delivers d j place mine pool f
          taken = deliver_passed d j place mine pool f (sym (ready ∙ deliver_split))

          pub deliver_working : Working d j lent (length books)
          deliver_working = subst (λ (x : Station). Working d j x (length books)) (sym as_lent) (at_work_placed taken.busy)

          pub deliver_frame : Delivered d j lent place (length pool) f
          deliver_frame =
              let sender = taken.sender in
              let few = table.few in
              record {
                within = taken.inside;
                sender = omega arith;
                quorum = taken.quorum;
                few = taken.one;
                low = λ kind. let n = taken.next kind in let m = taken.most kind in let l = ap (λ (x : Station). x.number) as_lent in omega arith;
              }

          pub deliver_done : (st₁ : Station) (pool₁ : List Slot) (books₁ : List Entry) (m : Marks)
              → ◌≡◌ {A = Desk × Marks} (desk st₁ pool₁ books₁, m) (deliver_on d j place f (desk lent pool books))
              → ◌≡◌ {A = Acted} (world (set h.stations j st₁) pool₁ books₁, Ok m) (whole_call d intake (delivery i place) w)
          deliver_done st₁ pool₁ books₁ m step =
              ap (answered j w) (step ∙ ap (λ (x : Station). deliver_on d j place f (desk x pool books)) as_lent)
              ∙ call_goes (delivery j place) _ _ (deliver_is d w long j place table.most says) f (ready ∙ deliver_split)
              ∙ ap (λ x. whole_call d intake (delivery x place) w) same

    -- Inject
    module _ (line : List ℕ) where
      pub inject_refused : (e : Fault) → Err e ≡ inject_ready d line pool → ◌≡◌ {A = Acted} (w, Err e) (whole_call d intake (injection line) w)
      inject_refused e q = call_stops (injection line) _ _ (inject_is d table.most w line) e q

      whole : (bytes : FrameBytes) → take 104 (unpacked bytes) ≡ unpacked bytes
      whole bytes = take_all 104 (unpacked bytes) (omega (arith, length-take (min bytes.len 104) bytes.bytes))

      pub inject_done : (bytes : FrameBytes) (part : List ℕ) (slot : Slot) (pool₁ : List Slot) → Ok bytes ≡ inject_ready d line pool
          → part ≡ unpacked bytes → slot ≡ slot_of 1 (take 104 part) → pool₁ ≡ enter slot pool
          → ◌≡◌ {A = Acted} (world h.stations pool₁ books, Ok (false, false, false)) (whole_call d intake (injection line) w)
      inject_done bytes part slot pool₁ ready read held step =
          ap (λ (x : List Slot). (world h.stations x books, Ok (false, false, false)))
          (step ∙ ap (λ (x : Slot). enter x pool) (held ∙ ap (slot_of 1) (ap (take 104) read ∙ whole bytes)))
          ∙ call_goes (injection line) _ _ (inject_is d table.most w line) bytes ready
