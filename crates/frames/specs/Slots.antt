-- The slots of a pool: the frame that one holds, where a frame goes, and what steps issued.
use Rattle.std.specs.Prelude.{ℕ, suc, ◌+◌, ◌-◌, min, Bool, true, false, cond, List, [], ◌∷◌, ◌++◌, length, take, replicate, Some, None, Option, ◌==◌, nat_eq, nat_le, nat_lt, slice_index_or}
use Rattle.frames.specs.declared.slot.Slot.{Slot}
use Rattle.frames.specs.declared.pool.Room.{Room}
use Rattle.frames.specs.Frames.{◌and◌, ◌or◌}

abbrev pub no_slot : Slot
no_slot = record { len = 0; bytes = []; by = 0; taken = false }

-- the frame in a slot: no byte where the slot is empty
abbrev pub framed : Slot → List ℕ
framed s = take (min s.len 104) s.bytes

-- frame f of a pool: no byte where there is none
abbrev pub frame_at : List Slot → ℕ → List ℕ
frame_at pool f = framed (slice_index_or pool f no_slot)

-- how many slots are empty
abbrev pub free : List Slot → ℕ
free [] = 0
free (s ∷ ss) = cond (s.len == 0) 1 0 + free ss

-- a frame goes into the lowest empty slot
abbrev pub enter : Slot → List Slot → List Slot
enter x [] = []
enter x (s ∷ ss) = elim (s.len == 0) [ true ↦ x ∷ ss | false ↦ s ∷ enter x ss ]

-- the place of the lowest empty slot; the pool's length where there is none
abbrev pub first_free : List Slot → ℕ
first_free [] = 0
first_free (s ∷ ss) = elim (s.len == 0) [ true ↦ 0 | false ↦ suc (first_free ss) ]

-- that place, where there is one
abbrev pub lowest_free : List Slot → Option ℕ
lowest_free pool = let k : ℕ = first_free pool in cond (nat_lt k (length pool)) (Some k) None

-- that place, and how many slots are empty, counted up to three
abbrev pub room_of : List Slot → Room
room_of pool = record { lowest = lowest_free pool; empty = min (free pool) 3 }

-- a slot that holds a frame, put there by a step (0) or from outside (1)
abbrev pub slot_of : ℕ → List ℕ → Slot
slot_of who frame = record { len = length frame; bytes = frame ++ replicate (104 - length frame) 0; by = who; taken = false }

abbrev pub same_bytes : List ℕ → List ℕ → Bool
same_bytes [] [] = true
same_bytes [] (y ∷ ys) = false
same_bytes (x ∷ xs) [] = false
same_bytes (x ∷ xs) (y ∷ ys) = nat_eq x y and same_bytes xs ys

-- some step's frame begins with this statement
abbrev pub issued : List ℕ → List Slot → Bool
issued s [] = false
issued s (x ∷ xs) = (nat_eq x.by 0 and nat_le 1 x.len and same_bytes (take 24 (framed x)) s) or issued s xs
