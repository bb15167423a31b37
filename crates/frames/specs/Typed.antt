-- Frames by their fields: the frame that some bytes are, the bytes of a frame, and what its tags seal.
use Rattle.std.specs.Prelude.{◌≡◌, ℕ, ◌+◌, ◌-◌, ◌*◌, ◌/◌, ◌%◌, ◌^◌, ◌<◌, ◌≤◌, min, Bool, true, cond, leb, List, [], ◌∷◌, ◌++◌, map, length, take, drop, replicate, Some, None, Ok, Err, Option, Result, ◌==◌, nat_le, nat_lt}
use Rattle.std.specs.List.{list_all}
use Rattle.std.specs.Simd.{first_chunks}
use Rattle.base.specs.declared.book.Entry.{Entry}
use Rattle.base.specs.declared.fault.Fault.{Fault}
use Rattle.base.specs.declared.refusal.Refusal.TheVariants.{Malformed}
use Rattle.base.specs.Refusals.{fault_at}
use Rattle.frames.specs.declared.frame.Kind.{Kind}
use Rattle.frames.specs.declared.frame.Kind.TheVariants.{Propose, Decision, Reselect}
use Rattle.frames.specs.declared.frame.Pair.{Pair}
use Rattle.frames.specs.declared.frame.Pairs.{Pairs}
use Rattle.frames.specs.declared.frame.Frame.{Frame}
use Rattle.frames.specs.declared.decode.Head.{Head}
use Rattle.frames.specs.Bytes.{be8, entry_bytes, statement, proposes, reselects, pair_bytes}
use Rattle.frames.specs.Frames.{◌and◌, kind_of, sender_of, batch_of, number_of, count_of, entry_of, tag_of, pairs_of, all_zero, at, num4, num8}
use Rattle.frames.specs.Certificates.{Fits, malformed}
use Rattle.frames.specs.Packed.{unpacked, line_read}

abbrev pub kind_number : Kind → ℕ
kind_number Propose = 1
kind_number Decision = 2
kind_number Reselect = 3

-- the kind of a number from 1 to 3
abbrev pub kind_at : ℕ → Kind
kind_at k = cond (k == 1) Propose (cond (k == 2) Decision Reselect)

abbrev pub no_pair : Pair
no_pair = record { station = 0; tag = 0 }

abbrev pub pair_at : ℕ × ℕ → Pair
pair_at p = record { station = p.0; tag = p.1 }

abbrev pub plain : Pair → ℕ × ℕ
plain p = (p.station, p.tag)

-- the pairs that are there
abbrev pub listed : Pairs → List Pair
listed ps = take (min ps.count 8) ps.each

-- a count, and as many of some pairs as there is room for
abbrev pub holding : ℕ → List (ℕ × ℕ) → Pairs
holding count ps = let some : List Pair = map pair_at (take 8 ps) in record { count = count; each = some ++ replicate (8 - length some) no_pair }

-- the frame that some bytes are, if they are one
unfoldable pub frame_of : List ℕ → Frame
frame_of bs = record {
  kind = kind_at (kind_of bs);
  sender = sender_of bs;
  batch = batch_of bs;
  number = number_of bs;
  entry = entry_of bs;
  tag = tag_of bs;
  pairs = holding (count_of bs) (pairs_of bs);
}

-- something, if there is no fault; a frame with a fault is refused at its place
abbrev pub held_to : {A : Type 0} → Option ℕ → A → Result A Fault
held_to None x = Ok x
held_to (Some place) x = Err (fault_at Malformed place)

-- The parts of decoding

-- the kind of a byte
abbrev pub kind_named : ℕ → Result Kind Fault
kind_named k = held_to (cond (leb 1 k and leb k 3) None (Some 0)) (kind_at k)

-- a committee number that a kind may have
abbrev pub number_test : ℕ → ℕ → Bool
number_test kind number = cond (kind == 3) (leb 1 number and leb number 20000) (number == 0)

-- a count of pairs that it may have
abbrev pub count_test : ℕ → ℕ → ℕ → Bool
count_test kind t count = cond (kind == 3) (nat_le count 1) (count == cond (kind == 2) (t + 1) 0)

-- the tests of a frame, part by part: up to the batch, the numbers that hang on the kind, the rest before the pairs
abbrev pub head_tests : ℕ → ℕ → List ℕ → List (Bool × ℕ)
head_tests n batches bs =
    (nat_le 32 (length bs), length bs)
    ∷ (leb 1 (kind_of bs) and leb (kind_of bs) 3, 0)
    ∷ (nat_lt (sender_of bs) n, 1)
    ∷ (leb 1 (batch_of bs) and leb (batch_of bs) batches, 2)
    ∷ []

abbrev pub count_tests : ℕ → ℕ → ℕ → ℕ → ℕ → List (Bool × ℕ)
count_tests t kind number count spare =
    (number_test kind number, 4) ∷ (count_test kind t count, 6) ∷ ((spare == 0), 7) ∷ []

abbrev pub body_tests : ℕ → ℕ → List ℕ → List (Bool × ℕ)
body_tests kind count bs = (cond (kind == 3) (all_zero (take 16 (drop 8 bs))) true, 8) ∷ ((length bs == 32 + 9 * count), length bs) ∷ []

abbrev pub head_of : List ℕ → Head
head_of bs = record {
  kind = kind_at (kind_of bs);
  sender = sender_of bs;
  batch = batch_of bs;
  number = number_of bs;
  count = count_of bs;
  zero = at bs 7;
}

-- what stands behind a head, from its first byte on: the entry and the tag, and a pair
abbrev pub entry_in : List ℕ → Entry
entry_in b = record { grower = num4 b 0; amount = num4 b 4; carry = num4 b 8; figure = num4 b 12 }

abbrev pub tag_in : List ℕ → ℕ
tag_in b = num8 b 16

abbrev pub pair_in : List ℕ → ℕ × ℕ
pair_in b = (at b 0, num8 b 1)

-- some bytes, cut behind the head: 24, pairs of nine, and what is left
pub record Cut (bs body : List ℕ) (pairs : List (List ℕ)) (left : List ℕ) : Type 0 where
  pub long : 32 ≤ length bs
  pub front : body ≡ take 24 (drop 8 bs)
  pub nines : pairs ≡ first_chunks 9 ((length bs - 32) / 9) (drop 32 bs)
  pub behind : length left ≡ (length bs - 32) % 9

-- the tests of those parts before the pairs
abbrev pub parts_tests : ℕ → ℕ → List ℕ → ℕ → ℕ → ℕ → List (Bool × ℕ)
parts_tests kind count body pairs left long =
    (cond (kind == 3) (list_all (λ b. b == 0) (take 16 body)) true, 8) ∷ ((pairs == count) and (left == 0), long) ∷ []

-- the frame of some parts
abbrev pub frame_in : Head → List ℕ → List (List ℕ) → Frame
frame_in h body pairs = record {
  kind = h.kind;
  sender = h.sender;
  batch = h.batch;
  number = h.number;
  entry = entry_in body;
  tag = tag_in body;
  pairs = holding h.count (map pair_in pairs);
}

-- what decoding gives
unfoldable pub decoded : ℕ → ℕ → ℕ → List ℕ → Result Frame Fault
decoded n t batches bs = held_to (malformed n t batches bs) (frame_of bs)

-- what decoding a line gives: its own fault, the frame's, or the frame
abbrev pub line_decoded : ℕ → ℕ → ℕ → List ℕ → Result Frame Fault
line_decoded n t batches l = elim (line_read l) [ Ok p ↦ decoded n t batches (unpacked p) | Err x ↦ Err x ]

-- the numbers of a statement are of the sizes that it has room for
pub record StatementFits (sender batch number count : ℕ) (e : Entry) : Type 0 where
  pub of_sender : sender < 256
  pub of_batch : batch < 2 ^ 16
  pub of_number : number < 2 ^ 16
  pub of_count : count < 256
  pub of_entry : Fits e

abbrev pub HeadFits : Frame → Type 0
HeadFits f = StatementFits f.sender f.batch f.number f.pairs.count f.entry

-- what the sender's tag seals
abbrev pub stated : Frame → List ℕ
stated f = statement (kind_number f.kind) f.sender f.batch f.number f.pairs.count (entry_bytes f.entry)

-- what the tag of a pair seals
abbrev pub pair_stated : Frame → ℕ → List ℕ
pair_stated f q = elim f.kind [
  | Propose ↦ reselects q f.batch f.number
  | Decision ↦ proposes q f.batch f.entry
  | Reselect ↦ reselects q f.batch f.number
]

-- a frame's statement and tag, and some pairs behind them
abbrev pub begun : Frame → List Pair → List ℕ
begun f ps = stated f ++ be8 f.tag ++ pair_bytes (map plain ps)

-- the bytes of a frame
unfoldable pub encoded : Frame → List ℕ
encoded f = begun f (listed f.pairs)
