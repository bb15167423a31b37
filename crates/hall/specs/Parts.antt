-- Parts of the tests of the calls.
use Rattle.std.specs.Prelude.{◌≡◌, ℕ, ◌+◌, not, List, length, get_or, take, Ok, Result, nat_le, nat_lt}
use Rattle.base.specs.declared.book.Batch.{Batch}
use Rattle.base.specs.declared.fault.Fault.{Fault}
use Rattle.base.specs.declared.refusal.Refusal.TheVariants.{AtWork, Idle, IntakeUsedUp, UnlawfulBatch, NotMember, LastNumber, NoFrame, EarlierBatch, LaterBatch, SenderTag, PairTag, WronglySent, NumberPassed, NumberAhead}
use Rattle.frames.specs.declared.frame.Frame.{Frame}
use Rattle.frames.specs.declared.slot.Slot.{Slot}
use Rattle.frames.specs.Frames.{first_pair}
use Rattle.frames.specs.Slots.{frame_at}
use Rattle.frames.specs.Typed.{decoded, stated}
use Rattle.protocol.specs.declared.station.Station.{Station}
use Rattle.protocol.specs.Law.{Terms}
use Rattle.protocol.specs.Steps.{passing, no_batch, at_work}
use Rattle.protocol.specs.Ready.{passing_at, unless_at, and_then, roomy, pairs_in, sender_right, rightly_from, pair_leaves, kind_ready}

-- a frame that some bytes decode as states what they begin with
abbrev pub States : ℕ → ℕ → ℕ → List ℕ → Type 0
States n t batches bs = (f : Frame) → decoded n t batches bs ≡ Ok f → stated f ≡ take 24 bs

module _ (d : Terms) where
  -- of a reselect, at a station with this committee number
  abbrev pub reselect_ready : ℕ → Frame → Result (Unit {0}) Fault
  reselect_ready number f =
      passing (rightly_from d f) WronglySent
      (unless_at (first_pair (pair_leaves d f) 32 (pairs_in f)) PairTag
      (passing (nat_lt number f.number) NumberPassed (passing (nat_le f.number (number + 1)) NumberAhead (Ok tt))))

  -- of any frame that is well formed
  abbrev pub frame_ready : Station → Frame → Result (Unit {0}) Fault
  frame_ready s f =
      passing (nat_le (s.booked + 1) f.batch) EarlierBatch
      (passing (nat_le f.batch (s.booked + 1)) LaterBatch (passing_at (sender_right d f) SenderTag 24 (kind_ready d s f)))

  -- what Open tests of a station that stands
  abbrev pub open_tests : List Batch → Station → List Slot → Result Batch Fault
  open_tests intake s pool =
      passing (not (at_work d s)) AtWork
      (passing (nat_lt s.booked d.batches) IntakeUsedUp
      (passing (d.lawful (get_or intake s.booked no_batch)) UnlawfulBatch (roomy d pool (Ok (get_or intake s.booked no_batch)))))

  -- what Ring tests of one
  abbrev pub ring_tests : ℕ → Station → List Slot → Result (Unit {0}) Fault
  ring_tests i s pool =
      passing (at_work d s) Idle (passing (d.seats s.number i) NotMember (passing (nat_lt s.number 20000) LastNumber (roomy d pool (Ok tt))))

  -- what Deliver tests of one
  abbrev pub deliver_tests : Station → ℕ → List Slot → Result Frame Fault
  deliver_tests s place pool =
      passing (at_work d s) Idle
      (passing (nat_le 1 (length (frame_at pool place))) NoFrame
      (roomy d pool
      (and_then (decoded d.n d.t d.batches (frame_at pool place)) (λ f. and_then (frame_ready s f) (λ _. Ok f)))))
