-- The bytes of a frame in a place of 104, and what comes of reading and writing a line.
use Rattle.std.specs.Prelude.{◌≡◌, ℕ, ◌-◌, ◌*◌, ◌%◌, ◌≤◌, min, cond, List, ◌++◌, length, take, drop, replicate, Some, None, Ok, Err, Result, nat_le, nat_lt}
use Rattle.base.specs.declared.fault.Fault.{Fault}
use Rattle.base.specs.declared.refusal.Refusal.TheVariants.{BadLine, ShortBuffer}
use Rattle.base.specs.Refusals.{fault_at}
use Rattle.frames.specs.declared.bytes.FrameBytes.{FrameBytes}
use Rattle.frames.specs.Frames.{nibble, line_fault, unhex, hex}

-- a frame's bytes, with zeros behind
abbrev pub packed : List ℕ → FrameBytes
packed bs = record { len = length bs; bytes = bs ++ replicate (104 - length bs) 0 }

abbrev pub unpacked : FrameBytes → List ℕ
unpacked p = take (min p.len 104) p.bytes

-- what reading the digit x at a place gives
abbrev pub digit_read : ℕ → ℕ → Result ℕ Fault
digit_read x place = let v : ℕ = nibble x in cond (nat_lt v 16) (Ok v) (Err (fault_at BadLine place))

-- a line's length is right
pub record Sized (l : List ℕ) : Type 0 where
  pub low : 2 ≤ length l
  pub high : length l ≤ 208
  pub even : length l % 2 ≡ 0

-- what reading a line gives
unfoldable pub line_read : List ℕ → Result FrameBytes Fault
line_read l = elim (line_fault l) [ None ↦ Ok (packed (unhex l)) | Some place ↦ Err (fault_at BadLine place) ]

-- a buffer after some bytes were written into it as a line, and the answer: the line's length
abbrev pub line_written : List ℕ → List ℕ → List ℕ × Result ℕ Fault
line_written bs buffer =
    let n : ℕ = 2 * length bs in
    cond (nat_le n (length buffer)) (hex bs ++ drop n buffer, Ok n) (buffer, Err (fault_at ShortBuffer 0))

-- the line of some bytes: it reads back as them where a line has room for them, and no other line does
pub record OneLine (bs line : List ℕ) : Type 0 where
  pub reads : 1 ≤ length bs → length bs ≤ 104 → line_read line ≡ Ok (packed bs)
  pub only : (other : List ℕ) → line_read other ≡ Ok (packed bs) → other ≡ line
