-- Statements that bear a correct station's right tag though no step issued them.
use Rattle.std.specs.Prelude.{ℕ, Bool, true, false, not, List, take, Some, Option, nat_eq, nat_le, slice_index}
use Rattle.policies.specs.declared.table.Locked.{Locked}
use Rattle.policies.specs.Sound.{is_faulty}
use Rattle.policies.specs.Tables.{locked_plain}
use Rattle.frames.specs.declared.frame.Frame.{Frame}
use Rattle.frames.specs.declared.slot.Slot.{Slot}
use Rattle.frames.specs.Frames.{◌and◌, first_pair}
use Rattle.frames.specs.Slots.{framed, same_bytes, issued}
use Rattle.frames.specs.Typed.{stated, pair_stated}
use Rattle.protocol.specs.Ready.{pairs_in}

-- the stations that a locked table marks as faulty
abbrev pub faulty_in : Locked → ℕ → Bool
faulty_in table i = is_faulty (slice_index (locked_plain table).marks i)

-- a slot holds a step's frame
abbrev pub of_step : Slot → Bool
of_step x = nat_eq x.by 0 and nat_le 1 x.len

-- a slot holds a step's frame that begins with the statement
abbrev pub step_begins : List ℕ → Slot → Bool
step_begins s x = nat_eq x.by 0 and nat_le 1 x.len and same_bytes (take 24 (framed x)) s

module _ (faulty : ℕ → Bool) (tag : ℕ → List ℕ → ℕ) where
  -- a correct station's right tag on a statement
  abbrev pub bound : ℕ → List ℕ → ℕ → Bool
  bound station s shown = not (faulty station) and nat_eq shown (tag station s)

  -- the same, of a statement that no step issued
  abbrev pub unissued : ℕ → List ℕ → ℕ → List Slot → Bool
  unissued station s shown pool = not (faulty station) and nat_eq shown (tag station s) and not (issued s pool)

  -- a pair of a frame is not so
  abbrev pub unforged : Frame → List Slot → ℕ × ℕ → Bool
  unforged f pool p = not (unissued p.0 (pair_stated f p.0) p.1 pool)

  -- the place of the first pair that is so
  abbrev pub forged_pair_in : Frame → List Slot → Option ℕ
  forged_pair_in f pool = first_pair (unforged f pool) 32 (pairs_in f)

  -- the sender's statement is so
  unfoldable pub forged_sender_in : Frame → List Slot → Bool
  forged_sender_in f pool = unissued f.sender (stated f) f.tag pool

  -- the place of the first statement that is so, the sender's before those of the pairs
  abbrev pub forged_in : Frame → List Slot → Option ℕ
  forged_in f pool = elim (forged_sender_in f pool) [ true ↦ Some 24 | false ↦ forged_pair_in f pool ]
