-- Frames as they are written: the statement, the tag and one pair after the other.
use Rattle.std.proofs.Common.{◌≡◌, ℕ, ◌+◌, ◌*◌, ◌<◌, ◌≤◌, min, List, [], ◌∷◌, ◌++◌, map, length, get_or, take, sym, refl, ap, ◌∙◌, ap₂, arith}
use Rattle.std.proofs.lemmas.List.{append_assoc, length-append, length-map, length-take, length-take-le, take_all, map_more}
use Rattle.frames.specs.declared.bytes.FrameBytes.{FrameBytes}
use Rattle.frames.specs.declared.frame.Pair.{Pair}
use Rattle.frames.specs.declared.frame.Frame.{Frame}
use Rattle.frames.specs.Bytes.{be8, pair_bytes}
use Rattle.frames.specs.Packed.{packed, unpacked}
use Rattle.frames.specs.Typed.{no_pair, plain, listed, stated, begun, encoded}
use Rattle.frames.proofs.Frames.{length-pair_bytes}
use Rattle.frames.proofs.Packed.{unpacked-packed}

pub length-begun : (f : Frame) (ps : List Pair) → length (begun f ps) ≡ 32 + 9 * length ps
length-begun f ps = simp length-append (omega (arith, length-pair_bytes (map plain ps), length-map ps plain))

pub pair_bytes_append : (xs ys : List (ℕ × ℕ)) → pair_bytes (xs ++ ys) ≡ pair_bytes xs ++ pair_bytes ys
pair_bytes_append [] ys = refl
pair_bytes_append (x ∷ xs) ys = ap (λ r. x.0 ∷ be8 x.1 ++ r) (pair_bytes_append xs ys) ∙ ap (λ r. x.0 ∷ r) (sym (append_assoc (be8 x.1) (pair_bytes xs) (pair_bytes ys)))

begun_more : (f : Frame) (ps : List Pair) (k : ℕ) → k < length ps
    → begun f (take (k + 1) ps) ≡ begun f (take k ps) ++ ((get_or ps k no_pair).station ∷ be8 (get_or ps k no_pair).tag)
begun_more f ps k h =
    ap (λ r. stated f ++ be8 f.tag ++ pair_bytes r) (map_more plain ps k no_pair h)
    ∙ ap (λ r. stated f ++ be8 f.tag ++ r) (pair_bytes_append (map plain (take k ps)) (plain (get_or ps k no_pair) ∷ []))
    ∙ sym (append_assoc (stated f ++ be8 f.tag) (pair_bytes (map plain (take k ps))) ((get_or ps k no_pair).station ∷ be8 (get_or ps k no_pair).tag))

-- one pair more
pub encode_more : (f : Frame) (ps : List Pair) (k : ℕ) (b r : FrameBytes) (s w : List ℕ) → k < length ps → length ps ≤ 8
    → b ≡ packed (begun f (take k ps)) → s ≡ unpacked b → w ≡ ((get_or ps k no_pair).station ∷ be8 (get_or ps k no_pair).tag)
    → r ≡ packed (take 104 (s ++ w)) → r ≡ packed (begun f (take (k + 1) ps))
encode_more f ps k b r s w h few inv p q e =
    let size : length (begun f (take k ps)) ≡ 32 + 9 * k = length-begun f (take k ps) ∙ ap (λ n. 32 + 9 * n) (length-take-le k ps (omega arith)) in
    let next : length (begun f (take (k + 1) ps)) ≡ 32 + 9 * (k + 1) = length-begun f (take (k + 1) ps) ∙ ap (λ n. 32 + 9 * n) (length-take-le (k + 1) ps (omega arith)) in
    let front : s ≡ begun f (take k ps) = p ∙ ap unpacked inv ∙ unpacked-packed (begun f (take k ps)) (omega arith) in
    e ∙ ap packed (ap₂ (λ x y. take 104 (x ++ y)) front q ∙ ap (take 104) (sym (begun_more f ps k h)) ∙ take_all 104 (begun f (take (k + 1) ps)) (omega arith))

pub encode_all : (f : Frame) (ps : List Pair) (k : ℕ) (b : FrameBytes) → ps ≡ listed f.pairs → length ps ≤ k → b ≡ packed (begun f (take k ps)) → b ≡ packed (encoded f)
unfolding encoded
encode_all f ps k b p h inv = inv ∙ ap (λ x. packed (begun f x)) (take_all k ps h ∙ p)

pub few_listed : (f : Frame) (ps : List Pair) → ps ≡ listed f.pairs → length ps ≤ 8
few_listed f ps p = omega (arith, ap length p, length-take (min f.pairs.count 8) f.pairs.each)

pub short_encoded : (f : Frame) (ps : List Pair) → ps ≡ listed f.pairs → length (encoded f) ≤ 104
unfolding encoded
short_encoded f ps p = omega (arith, length-begun f (listed f.pairs), few_listed f ps p, ap length p)
