-- A hall of three stations, of which station 0 is faulty: its terms, and a run of calls with its answers.
use Rattle.std.specs.Prelude.{◌≡◌, ℕ, ◌+◌, ◌*◌, ◌%◌, ◌^◌, Bool, true, false, cond, List, [], ◌∷◌, replicate, Ok, Err, Result, ◌==◌, nat_le}
use Rattle.base.specs.declared.book.Batch.{Batch}
use Rattle.base.specs.declared.fault.Fault.{Fault}
use Rattle.base.specs.declared.refusal.Refusal.TheVariants.{Idle}
use Rattle.base.specs.Refusals.{fault_at}
use Rattle.rules.specs.Lawful.{lawful as is_lawful}
use Rattle.rules.specs.Oil.{oil_outcome}
use Rattle.frames.specs.Frames.{◌and◌, num8}
use Rattle.frames.specs.Slots.{no_slot}
use Rattle.protocol.specs.Law.{Terms, Call, Marks, opening, delivery, ringing}
use Rattle.protocol.specs.Steps.{World, whole_call, no_station, no_entry}
use Rattle.protocol.specs.Run.{Lawful, New}

-- two neighbours sit in each committee
abbrev pub rotating : ℕ → ℕ → Bool
rotating c i = nat_le c 999999 and cond (i == c % 3) true (i == (c + 1) % 3)

-- some tags of 64 bits: the law needs no more of a seal
abbrev pub tagged : ℕ → List ℕ → ℕ
tagged i s = (num8 s 0 + num8 s 8 + num8 s 16 + (i + 1) * 1000003) % 2 ^ 64

abbrev pub three : ℕ → ℕ → Terms
three batches slots = record {
  n = 3;
  t = 1;
  faulty = λ i. (i == 0);
  policy_n = 3;
  policy_t = 1;
  turn = 3;
  seats = rotating;
  lawful = is_lawful;
  rule = oil_outcome;
  tag = tagged;
  batches = batches;
  slots = slots;
}

-- the answers to calls in a row
abbrev pub play : Terms → List Batch → List Call → World → List (Result Marks Fault)
play d intake [] w = []
play d intake (c ∷ cs) w = (whole_call d intake c w).1 ∷ play d intake cs (whole_call d intake c w).0

abbrev pub one_batch : List Batch
one_batch = record { grower = 4711; fruit = 500; oil = 93400 } ∷ []

abbrev pub made : World
made = record { stations = replicate 16 no_station; pool = replicate 8 no_slot; books = replicate 3 no_entry }

-- the law speaks of such a hall: its terms are lawful, and it can be new
abbrev pub ThreeLawful : Type 0
ThreeLawful = ((batches slots : ℕ) → Lawful (three batches slots)) × New (three 1 8) made

-- stations 1 and 2 book the one batch, after station 1 rang in committee 0, in which it sits with the faulty one
abbrev pub ThreeRun : Type 0
ThreeRun =
    play (three 1 8) one_batch (opening 1 ∷ opening 2 ∷ ringing 1 ∷ delivery 2 1 ∷ delivery 1 3 ∷ delivery 2 0 ∷ ringing 1 ∷ []) made
    ≡ Ok (false, true, false) ∷ Ok (false, false, false) ∷ Ok (true, false, false) ∷ Ok (true, true, false)
    ∷ Ok (false, false, true) ∷ Ok (false, false, true) ∷ Err (fault_at Idle 0) ∷ []
