-- The sheet seal: 256 words for each station, of which each byte of a statement picks one.
use Rattle.std.specs.Prelude.{ℕ, zero, suc, ◌+◌, ◌*◌, ◌%◌, ◌^◌, cond, List, bit_xor, nat_lt, slice_index}
use Rattle.seals.specs.Turned.{turned}

-- the word that place p of a statement picks, counted from a station's first word, turned left by p; one beyond the sheet is 0
abbrev pub picked : List ℕ → ℕ → List ℕ → ℕ → ℕ
picked words first l p = turned (slice_index words (first + slice_index l p)) p

-- the xor of f at the numbers below n
unfoldable pub xors : (ℕ → ℕ) → ℕ → ℕ
xors f zero = 0
xors f (suc n) = bit_xor (xors f n) (f n)

-- words and tags are of 64 bits; a station above 15 has no words: its tag is 0
abbrev pub sheet_tag : List ℕ → ℕ → List ℕ → ℕ
sheet_tag words station l = cond (nat_lt station 16) (xors (picked words (256 * station) l) 24 % 2 ^ 64) 0
