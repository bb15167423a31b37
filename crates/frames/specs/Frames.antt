-- Frames and lines as they are read: fields, pairs, the tests of a well-formed frame, hexadecimal digits.
use Rattle.std.specs.Prelude.{ℕ, zero, suc, ◌+◌, ◌-◌, ◌*◌, ◌/◌, ◌%◌, Bool, true, false, cond, ltb, leb, List, [], ◌∷◌, length, take, drop, Some, None, Option, ◌==◌, nat_eq, nat_le, nat_lt, slice_index}
use Rattle.base.specs.declared.book.Entry.{Entry}
use Rattle.frames.specs.Bytes.{proposes, reselects}

abbrev pub ◌and◌ : Bool → Bool → Bool
a and b = cond a b false

abbrev pub ◌or◌ : Bool → Bool → Bool
a or b = cond a true b

infixr 30 ◌and◌
infixr 25 ◌or◌
-- The fields of a frame

-- the byte at a place, 0 past the end
abbrev pub at : List ℕ → ℕ → ℕ
at bs i = slice_index bs i

abbrev pub num2 : List ℕ → ℕ → ℕ
num2 bs i = at bs i * 256 + at bs (i + 1)

abbrev pub num4 : List ℕ → ℕ → ℕ
num4 bs i = num2 bs i * 65536 + num2 bs (i + 2)

abbrev pub num8 : List ℕ → ℕ → ℕ
num8 bs i = num4 bs i * 4294967296 + num4 bs (i + 4)

abbrev pub kind_of : List ℕ → ℕ
kind_of bs = at bs 0

abbrev pub sender_of : List ℕ → ℕ
sender_of bs = at bs 1

abbrev pub batch_of : List ℕ → ℕ
batch_of bs = num2 bs 2

abbrev pub number_of : List ℕ → ℕ
number_of bs = num2 bs 4

-- how many pairs
abbrev pub count_of : List ℕ → ℕ
count_of bs = at bs 6

abbrev pub entry_of : List ℕ → Entry
entry_of bs = record { grower = num4 bs 8; amount = num4 bs 12; carry = num4 bs 16; figure = num4 bs 20 }

abbrev pub tag_of : List ℕ → ℕ
tag_of bs = num8 bs 24

-- m pairs from the byte i on: a station and its tag
abbrev pub pairs_from : ℕ → ℕ → List ℕ → List (ℕ × ℕ)
pairs_from zero i bs = []
pairs_from (suc m) i bs = (at bs i, num8 bs (i + 1)) ∷ pairs_from m (i + 9) bs

abbrev pub pairs_of : List ℕ → List (ℕ × ℕ)
pairs_of bs = pairs_from (count_of bs) 32 bs

-- what a pair seals: in a decision a proposal, else a reselect without pair
abbrev pub pair_states : List ℕ → ℕ → List ℕ
pair_states bs q = cond (kind_of bs == 2) (proposes q (batch_of bs) (entry_of bs)) (reselects q (batch_of bs) (number_of bs))

-- A well-formed frame

abbrev pub all_zero : List ℕ → Bool
all_zero [] = true
all_zero (x ∷ xs) = nat_eq x 0 and all_zero xs

-- the place of the first test that fails
abbrev pub first_fault : List (Bool × ℕ) → Option ℕ
first_fault [] = None
first_fault (c ∷ cs) = elim c.0 [ true ↦ first_fault cs | false ↦ Some c.1 ]

-- the stations of the pairs rise, each below n; `low` is one above the last
abbrev pub rising_tests : ℕ → ℕ → ℕ → List (ℕ × ℕ) → List (Bool × ℕ)
rising_tests n low place [] = []
rising_tests n low place (p ∷ ps) = (ltb p.0 n and leb low p.0, place) ∷ rising_tests n (p.0 + 1) (place + 9) ps

-- what a frame is held to, field by field, each with its place
abbrev pub form_tests : ℕ → ℕ → ℕ → List ℕ → List (Bool × ℕ)
form_tests n t batches bs =
    let third : Bool = nat_eq (kind_of bs) 3 in
    (nat_le 32 (length bs), length bs)
    ∷ (leb 1 (kind_of bs) and leb (kind_of bs) 3, 0)
    ∷ (nat_lt (sender_of bs) n, 1)
    ∷ (leb 1 (batch_of bs) and leb (batch_of bs) batches, 2)
    ∷ (cond third (leb 1 (number_of bs) and leb (number_of bs) 20000) (number_of bs == 0), 4)
    ∷ (cond third (nat_le (count_of bs) 1) (count_of bs == cond (kind_of bs == 2) (t + 1) 0), 6)
    ∷ ((at bs 7 == 0), 7)
    ∷ (cond third (all_zero (take 16 (drop 8 bs))) true, 8)
    ∷ ((length bs == 32 + 9 * count_of bs), length bs)
    ∷ rising_tests n 0 32 (pairs_of bs)

-- the place of the first pair that fails a test
abbrev pub first_pair : (ℕ × ℕ → Bool) → ℕ → List (ℕ × ℕ) → Option ℕ
first_pair good place [] = None
first_pair good place (p ∷ ps) = elim (good p) [ true ↦ first_pair good (place + 9) ps | false ↦ Some place ]

-- Lines

-- a digit's value, 16 where it is none
abbrev pub nibble : ℕ → ℕ
nibble x = elim (leb 48 x and leb x 57) [ true ↦ x - 48 | false ↦ elim (leb 97 x and leb x 102) [ true ↦ x - 87 | false ↦ 16 ] ]

-- the place of the first character that is no digit
abbrev pub first_wrong : ℕ → List ℕ → Option ℕ
first_wrong i [] = None
first_wrong i (x ∷ xs) = elim (nat_lt (nibble x) 16) [ true ↦ first_wrong (i + 1) xs | false ↦ Some i ]

-- the bytes of a line
abbrev pub unhex : List ℕ → List ℕ
unhex [] = []
unhex (x ∷ []) = []
unhex (x ∷ (y ∷ zs)) = (nibble x * 16 + nibble y) ∷ unhex zs

-- what is wrong with a line: its length, or else a digit
abbrev pub line_fault : List ℕ → Option ℕ
line_fault l = elim (leb 2 (length l) and leb (length l) 208 and nat_eq (length l % 2) 0) [ true ↦ first_wrong 0 l | false ↦ Some (length l) ]

-- the line of some bytes
abbrev pub digit : ℕ → ℕ
digit n = cond (nat_lt n 10) (48 + n) (87 + n)

abbrev pub hex : List ℕ → List ℕ
hex [] = []
hex (b ∷ bs) = digit (b / 16) ∷ digit (b % 16) ∷ hex bs
