-- A hall that refuses every call keeps the law: what is owed where B or P is out of range or a buffer
-- has a wrong length, so that each call is refused 6 or 7.
use Rattle.std.proofs.Common.{◌≡◌, ℕ, ◌+◌, Bool, true, false, List, [], ◌∷◌, ◌++◌, length, Err, sym, refl, ap, subst, arith}
use Rattle.std.specs.List.{AllByRecursion}
use Rattle.std.proofs.lemmas.Bool.{both_ways}
use Rattle.base.specs.declared.book.Batch.{Batch}
use Rattle.base.specs.declared.book.Entry.{Entry}
use Rattle.base.specs.declared.fault.Fault.{Fault}
use Rattle.frames.specs.Bytes.{statement, entry_bytes}
use Rattle.frames.specs.Slots.{frame_at}
use Rattle.protocol.specs.Law.{Terms, Event, History, Marks, asks, is_opening, marks, has_decided, has_proposed, opened_by, booked_by, pool_of, Certifies, Rounds, none, more, SoundInTurn, Law}
use Rattle.protocol.specs.Run.{Empty}
use Rattle.frames.proofs.Basics.{cond_false_false}
use Rattle.frames.proofs.Slots.{frame_empty}
use Rattle.frames.proofs.Frames.{length_frame}

-- a refused call over an empty pool
pub record Refused (e : Event) : Type 0 where
  pub fault : Fault
  pub answer_is : e.answer ≡ Err fault
  pub empty : Empty e.pool

marks_none : (p : Marks → Bool) (i : ℕ) (e : Event) → Refused e → marks p i e ≡ false
marks_none p i e r = rw r.answer_is (cond_false_false (asks i e.call))

booked_none : (i : ℕ) (h : History) → AllByRecursion Refused h → booked_by i h ≡ 0
booked_none i [] a = refl
booked_none i (e ∷ h) a = rw (marks_none has_decided i e a.0) (omega (arith, booked_none i h a.1))

opened_none : (i : ℕ) (h : History) → AllByRecursion Refused h → opened_by i h ≡ 0
opened_none i [] a = refl
opened_none i (e ∷ h) a =
    rw (marks_none (λ m. true) i e a.0, cond_false_false (is_opening e.call)) (omega (arith, opened_none i h a.1))

no_frame : (h : History) → AllByRecursion Refused h → (f : ℕ) → frame_at (pool_of h) f ≡ []
no_frame [] a f = frame_empty [] f refl
no_frame (e ∷ h) a f = frame_empty e.pool f (a.0.empty f)

behind : (later h : History) → AllByRecursion Refused (later ++ h) → AllByRecursion Refused h
behind [] h a = a
behind (e ∷ later) h a = behind later h a.1

rounds_behind : {d : Terms} (k : ℕ) (before h : History) → Rounds d k before h → AllByRecursion Refused h → AllByRecursion Refused before
rounds_behind k before h none a = a
rounds_behind k before h (more {k = j} {h' = h'} round rs full) a = rounds_behind j before h' rs (behind round h' a)

pub refusals_law : (d : Terms) (intake : List Batch) (books : List Entry) → SoundInTurn d → (h : History) → AllByRecursion Refused h → Law d intake books h
refusals_law d intake books sound h a = record {
  one_book = λ i c. rw (booked_none i h a) (omega arith, refl);
  true_certificates = λ f sender b e pairs c. absurd (uncertified f sender b e pairs c);
  booked_certified = λ i b c lo hi. absurd (omega (arith, booked_none i h a));
  sound_in_turn = sound;
  booked_in_rounds = λ b c lag before open_all behind_by s rs.
      let at = behind_by.1.reached in
      absurd (omega (arith, at.1.1, at.1.2, opened_none at.0 before (rounds_behind (lag + 1) before h rs a)));
  lazy = λ later e before q i c m.
      let r = (behind later (e ∷ before) (subst (AllByRecursion Refused) q a)).0 in
      absurd (both_ways (marks has_proposed i e) (marks_none has_proposed i e r) m);
}
  where
    uncertified : (f sender b : ℕ) (e : Entry) (pairs : List (ℕ × ℕ)) → Certifies d (frame_at (pool_of h) f) sender b e pairs → ⊥
    uncertified f sender b e pairs c =
        let s : List ℕ = statement 2 sender b 0 (d.t + 1) (entry_bytes e) in
        let long = length_frame s (d.tag sender s) pairs refl in
        let n : 0 ≡ length (frame_at (pool_of h) f) = ap length (sym (no_frame h a f)) in
        omega (arith, long, n, ap length c.reads)
