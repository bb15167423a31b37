-- The tests of Deliver, in the parts that the code makes them in.
use Rattle.std.proofs.Common.{◌≡◌, ℕ, ◌+◌, Bool, true, false, leb, List, length, Some, Ok, Err, Option, Result, refl, ap, ◌∙◌, arith}
use Rattle.std.specs.Result.{result_ok}
use Rattle.base.specs.declared.fault.Fault.{Fault}
use Rattle.base.specs.declared.refusal.Refusal.TheVariants.{Idle, NoFrame, EarlierBatch, LaterBatch, SenderTag}
use Rattle.frames.specs.declared.frame.Frame.{Frame}
use Rattle.frames.specs.declared.slot.Slot.{Slot}
use Rattle.frames.specs.Slots.{frame_at}
use Rattle.frames.specs.Typed.{decoded}
use Rattle.evidence.specs.Forgery.{forged_sender_in, forged_in}
use Rattle.protocol.specs.declared.station.Station.{Station}
use Rattle.protocol.specs.Law.{Terms}
use Rattle.protocol.specs.Steps.{passing, at_work}
use Rattle.protocol.specs.Ready.{passing_at, and_then, stands, roomy, sender_right, kind_ready, deliver_ready, forged_at, forgery_at}
use Rattle.hall.specs.Parts.{frame_ready, deliver_tests}

-- what follows three tests may follow their answer
three-apart : (a b c : Bool) (rest : Result (Unit {0}) Fault) (f : Frame)
    → passing a EarlierBatch (passing b LaterBatch (passing_at c SenderTag 24 (and_then rest (λ _. Ok f))))
    ≡ and_then (passing a EarlierBatch (passing b LaterBatch (passing_at c SenderTag 24 rest))) (λ _. Ok f)
three-apart false b c rest f = refl
three-apart true false c rest f = refl
three-apart true true false rest f = refl
three-apart true true true rest f = refl

module _ (d : Terms) (i : ℕ) (s : Station) (pool : List Slot) (place : ℕ) where
  by_fields : (r : Result Frame Fault)
      → and_then r (λ f.
      passing (leb (s.booked + 1) f.batch) EarlierBatch
      (passing (leb f.batch (s.booked + 1)) LaterBatch
      (passing_at (sender_right d f) SenderTag 24 (and_then (kind_ready d s f) (λ _. Ok f)))))
      ≡ and_then r (λ f. and_then (frame_ready d s f) (λ _. Ok f))
  by_fields (Ok f) = three-apart (leb (s.booked + 1) f.batch) (leb f.batch (s.booked + 1)) (sender_right d f) (kind_ready d s f) f
  by_fields (Err e) = refl

  pub deliver_parts : deliver_ready d i place s pool ≡ stands d i (deliver_tests d s place pool)
  unfolding deliver_ready
  deliver_parts =
      ap (λ (r : Result Frame Fault). stands d i (passing (at_work d s) Idle (passing (leb 1 (length (frame_at pool place))) NoFrame (roomy d pool r))))
      (by_fields (decoded d.n d.t d.batches (frame_at pool place)))

-- a frame by its fields may be forged
pub forgery_found : (d : Terms) (f : Frame) (pool : List Slot) (parsed : Result Frame Fault) (o : Option ℕ)
    → o ≡ forged_in d.faulty d.tag f pool → Some f ≡ result_ok parsed → o ≡ forgery_at d parsed pool
unfolding forged_at forged_sender_in
forgery_found d f pool (Ok x) o found read = let same : f ≡ x = cc in found ∙ ap (λ y. forged_at d y pool) same
forgery_found d f pool (Err e) o found read = let z : ◌≡◌ {A = ℕ} 0 1 = cc in let w : ⊥ = omega arith in absurd w
