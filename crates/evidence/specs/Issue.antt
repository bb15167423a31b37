-- The bytes that a station issues.
use Rattle.std.specs.Prelude.{ℕ, List, ◌++◌, map}
use Rattle.frames.specs.declared.frame.Frame.{Frame}
use Rattle.frames.specs.Bytes.{be8, pair_bytes}
use Rattle.frames.specs.Typed.{plain, listed, stated}

-- the right tag of a frame's sender on its statement
unfoldable pub right_tag : (ℕ → List ℕ → ℕ) → Frame → ℕ
right_tag tag f = tag f.sender (stated f)

-- a frame's bytes under a tag of its sender
unfoldable pub bytes_under : ℕ → Frame → List ℕ
bytes_under tag f = stated f ++ be8 tag ++ pair_bytes (map plain (listed f.pairs))
