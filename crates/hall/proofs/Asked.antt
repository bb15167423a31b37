-- Write, by its tests.
use Rattle.std.proofs.Common.{◌≡◌, ℕ, Bool, true, false, cond, leb, List, [], ◌++◌, length, drop, Ok, Err, Result, sym, refl, ap, ◌∙◌}
use Rattle.base.specs.declared.book.Batch.{Batch}
use Rattle.base.specs.declared.book.Entry.{Entry}
use Rattle.base.specs.declared.fault.Fault.{Fault}
use Rattle.base.specs.declared.refusal.Refusal.TheVariants.{OutOfRange, WrongLength, NoFrame, ShortBuffer}
use Rattle.base.specs.Refusals.{fault_at}
use Rattle.frames.specs.declared.slot.Slot.{Slot}
use Rattle.frames.specs.Frames.{hex}
use Rattle.frames.specs.Packed.{line_written}
use Rattle.frames.specs.Slots.{frame_at}
use Rattle.frames.proofs.Lines.{length-hex}
use Rattle.protocol.specs.declared.station.Station.{Station}
use Rattle.protocol.specs.Law.{Terms}
use Rattle.protocol.specs.Steps.{passing, written, in_range, fitting, write_call}
use Rattle.hall.specs.Called.{world, admitted}
use Rattle.hall.proofs.Passing.{both_pass, one_fails}

module _ (d : Terms) (intake : List Batch) (stations : List Station) (pool : List Slot) (books : List Entry) (f : ℕ) (buffer : List ℕ) where
  abbrev bs : List ℕ
  bs = frame_at pool f

  abbrev wrote : Result ℕ Fault → List ℕ × Result ℕ Fault
  wrote r = written (hex bs) buffer r

  abbrev fit : Result ℕ Fault
  fit = passing (leb (length (hex bs)) (length buffer)) ShortBuffer (Ok (length (hex bs)))

  pub write_unadmitted : (e : Fault) → Err e ≡ admitted d intake (world [] pool books)
      → ◌≡◌ {A = List ℕ × Result ℕ Fault} (buffer, Err e) (write_call d intake f buffer (world stations pool books))
  unfolding write_call fitting
  write_unadmitted e p = ap wrote (one_fails OutOfRange WrongLength tt (in_range d) (fitting d intake (world stations pool books)) e _ p)

  pub write_done : (frame : List ℕ) (r : List ℕ × Result ℕ Fault) → Ok tt ≡ admitted d intake (world [] pool books) → frame ≡ bs
      → leb 1 (length frame) ≡ true → r ≡ line_written frame buffer → r ≡ write_call d intake f buffer (world stations pool books)
  unfolding write_call fitting
  write_done frame r fits is some step =
      let at : ℕ → List ℕ × Result ℕ Fault = λ n. cond (leb n (length buffer)) (hex bs ++ drop n buffer, Ok n) (buffer, Err (fault_at ShortBuffer 0)) in
      step
      ∙ ap (λ x. line_written x buffer) is
      ∙ ap at (sym (length-hex bs))
      ∙ by (leb (length (hex bs)) (length buffer))
      ∙ ap (λ b. wrote (passing b NoFrame fit)) (sym (ap (λ l. leb 1 (length l)) (sym is) ∙ some))
      ∙ ap wrote (sym (both_pass OutOfRange WrongLength tt (in_range d) (fitting d intake (world stations pool books)) _ fits))
    where
      by : (b : Bool) → ◌≡◌ {A = List ℕ × Result ℕ Fault} (cond b (hex bs ++ drop (length (hex bs)) buffer, Ok (length (hex bs))) (buffer, Err (fault_at ShortBuffer 0))) (wrote (passing b ShortBuffer (Ok (length (hex bs)))))
      by true = refl
      by false = refl
