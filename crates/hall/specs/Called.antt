-- What the tests of every call answer.
use Rattle.std.specs.Prelude.{ℕ, ◌+◌, Bool, true, not, List, replicate, Ok, Err, Result, nat_le}
use Rattle.base.specs.declared.book.Batch.{Batch}
use Rattle.base.specs.declared.book.Entry.{Entry}
use Rattle.base.specs.declared.fault.Fault.{Fault}
use Rattle.base.specs.declared.refusal.Refusal.TheVariants.{OutOfRange, WrongLength}
use Rattle.frames.specs.declared.frame.Frame.{Frame}
use Rattle.frames.specs.declared.frame.Kind.{Kind}
use Rattle.frames.specs.declared.frame.Pairs.{Pairs}
use Rattle.frames.specs.declared.slot.Slot.{Slot}
use Rattle.frames.specs.Frames.{◌and◌}
use Rattle.frames.specs.Typed.{no_pair}
use Rattle.protocol.specs.declared.station.Station.{Station}
use Rattle.protocol.specs.Law.{Terms}
use Rattle.protocol.specs.Steps.{World, in_range, fitting, passing, no_entry}
use Rattle.protocol.specs.Desk.{Desk}
use Rattle.hall.specs.declared.standing.Standing.{Standing}

abbrev pub world : List Station → List Slot → List Entry → World
world stations pool books = record { stations = stations; pool = pool; books = books }

abbrev pub desk : Station → List Slot → List Entry → Desk
desk station pool books = record { station = station; pool = pool; books = books }

abbrev pub map_ok : {A B : Type 0} → (A → B) → Result A Fault → Result B Fault
map_ok f (Ok x) = Ok (f x)
map_ok f (Err e) = Err e

-- the numbers lie in range and agree, and then every buffer has its length
abbrev pub admitted : Terms → List Batch → World → Result (Unit {0}) Fault
admitted d intake w = passing (in_range d) OutOfRange (passing (fitting d intake w) WrongLength (Ok tt))

-- entry k, counted from 1, is among those booked
abbrev pub among : ℕ → ℕ → Bool
among k booked = nat_le 1 k and nat_le k booked

-- station i sits in the committee after c, and has not proposed
abbrev pub called_upon : (ℕ → ℕ → Bool) → ℕ → ℕ → Bool → Bool
called_upon seats i c proposed = seats (c + 1) i and not proposed

-- a slot whose frame is taken
abbrev pub taken_slot : Slot → Slot
taken_slot s = record { len = s.len; bytes = s.bytes; by = s.by; taken = true }

-- the number of a station that stands
abbrev pub number_of : Standing → ℕ
number_of s = s.i

abbrev pub no_pairs : Pairs
no_pairs = record { count = 0; each = replicate 8 no_pair }

-- a frame that says nothing but who sends it, and in which batch
abbrev pub draft : Kind → ℕ → ℕ → Frame
draft kind i batch = record { kind = kind; sender = i; batch = batch; number = 0; entry = no_entry; tag = 0; pairs = no_pairs }
