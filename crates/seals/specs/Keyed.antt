-- The keyed seal: a tag is folded over the three words of a statement.
use Rattle.std.specs.Prelude.{ℕ, ◌+◌, ◌*◌, ◌%◌, ◌^◌, cond, List, bit_xor, nat_lt, slice_index}
use Rattle.seals.specs.Turned.{turned}

-- the number of eight bytes from place p, the most significant first
abbrev pub word : List ℕ → ℕ → ℕ
word l p =
    slice_index l p * 2 ^ 56 + slice_index l (p + 1) * 2 ^ 48 + slice_index l (p + 2) * 2 ^ 40 + slice_index l (p + 3) * 2 ^ 32 + slice_index l (p + 4) * 2 ^ 24
    + slice_index l (p + 5) * 2 ^ 16
    + slice_index l (p + 6) * 2 ^ 8
    + slice_index l (p + 7)

-- one word more
abbrev pub mix : ℕ → ℕ → ℕ → ℕ
mix key h w = (turned (bit_xor h w) 13 + key) % 2 ^ 64

abbrev pub folded : ℕ → List ℕ → ℕ
folded key l = mix key (mix key (mix key key (word l 0)) (word l 8)) (word l 16)

-- a station above 15 has no key: its tag is 0
abbrev pub keyed_tag : List ℕ → ℕ → List ℕ → ℕ
keyed_tag keys station l = cond (nat_lt station 16) (folded (slice_index keys station) l) 0
