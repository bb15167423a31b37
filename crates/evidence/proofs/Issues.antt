-- What is issued: the bytes of a sealed frame, none of which is cut off.
use Rattle.std.proofs.Common.{◌≡◌, ℕ, ◌≤◌, List, length, take, refl, ap, ◌∙◌}
use Rattle.std.proofs.lemmas.List.{take_all}
use Rattle.frames.specs.declared.bytes.FrameBytes.{FrameBytes}
use Rattle.frames.specs.declared.frame.Frame.{Frame}
use Rattle.frames.specs.declared.slot.Slot.{Slot}
use Rattle.frames.specs.Packed.{packed, unpacked}
use Rattle.frames.specs.Slots.{slot_of}
use Rattle.frames.specs.Typed.{listed, encoded}
use Rattle.frames.proofs.Encoding.{short_encoded}
use Rattle.frames.proofs.Packed.{unpacked-packed}
use Rattle.evidence.specs.Issue.{bytes_under}

-- a frame with another tag
abbrev pub with_tag : ℕ → Frame → Frame
with_tag tag f = record { kind = f.kind; sender = f.sender; batch = f.batch; number = f.number; entry = f.entry; tag = tag; pairs = f.pairs }

short : (f : Frame) → length (encoded f) ≤ 104
short f = short_encoded f (listed f.pairs) refl

-- what a step enters
pub slot_is : (f : Frame) (tag : ℕ) (bytes : FrameBytes) (part : List ℕ) (slot : Slot)
    → bytes ≡ packed (encoded (with_tag tag f)) → part ≡ unpacked bytes → slot ≡ slot_of 0 (take 104 part) → slot ≡ slot_of 0 (bytes_under tag f)
unfolding encoded bytes_under
slot_is f tag bytes part slot b p s =
    let whole : List ℕ = encoded (with_tag tag f) in
    let read : part ≡ whole = p ∙ ap unpacked b ∙ unpacked-packed whole (short (with_tag tag f)) in
    s ∙ ap (slot_of 0) (ap (take 104) read ∙ take_all 104 whole (short (with_tag tag f)))
