-- The steps of one station at its desk: its own record, the pool and the books. A step never looks at
-- another station's record, so a step of the world is a step at the desk whose record is then put back.
use Rattle.std.specs.Prelude.{ℕ, ◌+◌, ◌-◌, ◌*◌, Bool, true, false, cond, not, List, [], ◌++◌, length, get_or, take, replicate, Some, None, ◌==◌, nat_le, nat_lt, slice_index_or, slice_set}
use Rattle.base.specs.declared.book.Batch.{Batch}
use Rattle.base.specs.declared.book.Entry.{Entry}
use Rattle.frames.specs.declared.slot.Slot.{Slot}
use Rattle.frames.specs.Bytes.{be8, statement, entry_bytes, proposes, reselects, pair_bytes}
use Rattle.frames.specs.Slots.{enter, slot_of}
use Rattle.frames.specs.Frames.{◌and◌}
use Rattle.protocol.specs.declared.station.Vote.{Vote}
use Rattle.protocol.specs.declared.station.Station.{Station}
use Rattle.protocol.specs.Law.{Terms, Marks, works}
use Rattle.protocol.specs.Steps.{World, station_at, no_batch, no_entry, same_entry, support}

-- what one station has before it
pub record Desk : Type 0 where
  pub station : Station
  pub pool : List Slot
  pub books : List Entry

abbrev pub desk_at : World → ℕ → Desk
desk_at w i = record { station = station_at w i; pool = w.pool; books = w.books }

-- the world after station i has put its desk back
abbrev pub put_back : ℕ → World → Desk → World
put_back i w k = record { stations = slice_set w.stations i k.station; pool = k.pool; books = k.books }

-- The record

-- the next batch, with number 0 and empty votes, not yet proposed
abbrev pub begun : Batch → Station → Station
begun next s = record { booked = s.booked; work = next; number = 0; proposed = false; votes = replicate 16 None }

-- the committee number is one higher
abbrev pub raised : Station → Station
raised s = record { booked = s.booked; work = s.work; number = s.number + 1; proposed = s.proposed; votes = s.votes }

-- a vote of station q is held
abbrev pub holds_vote : ℕ → Vote → Station → Station
holds_vote q v s = record { booked = s.booked; work = s.work; number = s.number; proposed = s.proposed; votes = slice_set s.votes q (Some v) }

-- station i has proposed, and holds its own vote
abbrev pub has_proposed_in : ℕ → Vote → Station → Station
has_proposed_in i v s = record { booked = s.booked; work = s.work; number = s.number; proposed = true; votes = slice_set s.votes i (Some v) }

-- one batch more is booked, and the station is idle
abbrev pub finished : Station → Station
finished s = record { booked = s.booked + 1; work = no_batch; number = s.number; proposed = s.proposed; votes = s.votes }

-- the entry of station i's own vote
abbrev pub own_vote : ℕ → Station → Entry
own_vote i s = elim (slice_index_or s.votes i None) [ None ↦ no_entry | Some v ↦ v.entry ]

-- the desk with another record
abbrev pub with_record : (Station → Station) → Desk → Desk
with_record f k = record { station = f k.station; pool = k.pool; books = k.books }

module _ (d : Terms) (i : ℕ) where
  -- the carry of the last booked entry
  abbrev pub carry_of : ℕ → List Entry → ℕ
  carry_of booked books = cond (booked == 0) 0 (get_or books (i * d.batches + booked - 1) no_entry).carry

  -- the pool after a frame of this station with its tag on the statement
  unfoldable pub sent : List ℕ → List (ℕ × ℕ) → List Slot → List Slot
  sent s pairs pool = enter (slot_of 0 (s ++ be8 (d.tag i s) ++ pair_bytes pairs)) pool

  -- the entry that the batch at work gives
  abbrev pub own_work : Desk → Entry
  own_work k = works d (carry_of k.station.booked k.books) k.station.work

  -- it works its entry out, stores its vote and issues a propose frame
  unfoldable pub propose_on : Desk → Desk
  propose_on k =
      let e : Entry = own_work k in
      let text : List ℕ = proposes i (k.station.booked + 1) e in
      record { station = has_proposed_in i (record { entry = e; tag = d.tag i text }) k.station; pool = sent text [] k.pool; books = k.books }

  -- it books e, issues a decision with these pairs and is idle
  unfoldable pub decide_on : Entry → List (ℕ × ℕ) → Desk → Desk
  decide_on e pairs k =
      record {
        station = finished k.station;
        pool = sent (statement 2 i (k.station.booked + 1) 0 (d.t + 1) (entry_bytes e)) pairs k.pool;
        books = slice_set k.books (i * d.batches + k.station.booked) e;
      }

  -- it decides if the support of e is t + 1, with the lowest t + 1 stations; the flag says whether it did
  unfoldable pub settle_on : Entry → Desk → Desk × Bool
  settle_on e k =
      let ps : List (ℕ × ℕ) = support d e k.station in
      elim (nat_le (d.t + 1) (length ps)) [ true ↦ (decide_on e (take (d.t + 1) ps) k, true) | false ↦ (k, false) ]

  -- it proposes, then settles
  unfoldable pub join_on : Desk → Desk × Bool
  join_on k = let k₁ : Desk = propose_on k in settle_on (own_vote i k₁.station) k₁

  -- the pool after a member of committee c, or else of c + 1, issued a reselect frame in batch b
  unfoldable pub announced : ℕ → ℕ → List (ℕ × ℕ) → List Slot → List Slot
  announced b c proof pool =
      elim (d.seats c i) [
        | true ↦ sent (reselects i b (c + 1)) [] pool
        | false ↦ elim (d.seats (c + 1) i) [ true ↦ sent (statement 3 i b (c + 1) 1 (replicate 16 0)) proof pool | false ↦ pool ]
      ]

  -- it goes on to the next committee
  abbrev pub moved_on : List (ℕ × ℕ) → Desk → Desk
  moved_on proof k = record {
    station = raised k.station;
    pool = announced (k.station.booked + 1) k.station.number proof k.pool;
    books = k.books;
  }

  -- and a member of it that has not proposed proposes and settles
  unfoldable pub reselect_on : List (ℕ × ℕ) → Desk → Desk × Marks
  reselect_on proof k =
      elim (d.seats (k.station.number + 1) i and not k.station.proposed) [
        | true ↦ (let r : Desk × Bool = join_on (moved_on proof k) in (r.0, (true, true, r.1)))
        | false ↦ (moved_on proof k, (true, false, false))
      ]

  -- the sender q of entry e is a fellow member whose entry differs
  unfoldable pub differs_on : ℕ → Entry → Station → Bool
  differs_on q e s =
      let c : ℕ = s.number in
      d.seats c i and nat_lt c 20000 and s.proposed and d.seats c q and not (same_entry e (own_vote i s))

  -- a vote that is taken: stored and settled, and a member that finds another entry reselects
  unfoldable pub vote_on : ℕ → Vote → Desk → Desk × Marks
  vote_on q v k =
      let k₁ : Desk = with_record (holds_vote q v) k in
      let r : Desk × Bool = settle_on v.entry k₁ in
      elim r.1 [
        | true ↦ (r.0, (false, false, true))
        | false ↦ elim (differs_on q v.entry k₁.station) [ true ↦ reselect_on [] k₁ | false ↦ (k₁, (false, false, false)) ]
      ]
