-- A statement of 24 bytes taken as three words.
use Rattle.std.proofs.Common.{◌≡◌, ℕ, ◌+◌, ◌/◌, List, length, take, drop, fold, add_assoc, arith}
use Rattle.std.specs.Int.{w64, from_be_bytes}
use Rattle.std.specs.Simd.{first_chunks}
use Rattle.std.proofs.lemmas.List.{get_or-take, get_or-drop}
use Rattle.seals.specs.Keyed.{word, mix, folded}

first : (l : List ℕ) → from_be_bytes w64 (take 8 l) ≡ word l 0
first l = grind (arith, get_or-take)

later : (l : List ℕ) (k p : ℕ) → word (drop k l) p ≡ word l (k + p)
later l k p = simp (get_or-drop, add_assoc)

pub chunks_folded : (key : ℕ) (l : List ℕ) → length l ≡ 24 → fold (λ h w. mix key h (from_be_bytes w64 w)) key (first_chunks 8 (length l / 8) l) ≡ folded key l
chunks_folded key l e = rw (e, first l, first (drop 8 l), first (drop 8 (drop 8 l)), later l 8 0, later (drop 8 l) 8 0, later l 8 8)
