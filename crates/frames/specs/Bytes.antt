-- Numbers as bytes, the statements that tags seal, and pairs.
use Rattle.std.specs.Prelude.{ℕ, ◌/◌, ◌%◌, ◌^◌, List, [], ◌∷◌, ◌++◌, replicate}
use Rattle.base.specs.declared.book.Entry.{Entry}

-- the byte of x that counts 256 ^ k
abbrev pub byte : ℕ → ℕ → ℕ
byte k x = x / 256 ^ k % 256

abbrev pub be2 : ℕ → List ℕ
be2 x = byte 1 x ∷ byte 0 x ∷ []

abbrev pub be4 : ℕ → List ℕ
be4 x = byte 3 x ∷ byte 2 x ∷ be2 x

abbrev pub be8 : ℕ → List ℕ
be8 x = byte 7 x ∷ byte 6 x ∷ byte 5 x ∷ byte 4 x ∷ be4 x

abbrev pub entry_bytes : Entry → List ℕ
entry_bytes e = be4 e.grower ++ be4 e.amount ++ be4 e.carry ++ be4 e.figure

-- the 24 bytes that a tag seals
abbrev pub statement : ℕ → ℕ → ℕ → ℕ → ℕ → List ℕ → List ℕ
statement kind sender batch c m body = kind ∷ sender ∷ be2 batch ++ be2 c ++ m ∷ 0 ∷ body

abbrev pub proposes : ℕ → ℕ → Entry → List ℕ
proposes sender batch e = statement 1 sender batch 0 0 (entry_bytes e)

abbrev pub reselects : ℕ → ℕ → ℕ → List ℕ
reselects sender batch c = statement 3 sender batch c 0 (replicate 16 0)

-- pairs of a station and its tag, as bytes
abbrev pub pair_bytes : List (ℕ × ℕ) → List ℕ
pair_bytes [] = []
pair_bytes (p ∷ ps) = p.0 ∷ be8 p.1 ++ pair_bytes ps
