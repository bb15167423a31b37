-- Searches, one pair and one slot at a time.
use Rattle.std.proofs.Common.{◌≡◌, ◌||◌, [], ℕ, ◌+◌, ◌*◌, ◌<◌, Bool, true, false, not, eqb, leb, List, ◌∷◌, map, cond, nat_lt, length, get_or, take, drop, Some, None, Decides, Option, sym, refl, ap, ◌∙◌, ap₂, arith, rules, tests, suc, add-zero}
use Rattle.std.specs.Option.{option_map}
use Rattle.std.specs.List.{list_any, position, position_or_len}
use Rattle.std.proofs.lemmas.Slice.Eq.{compares_Decides}
use Rattle.std.proofs.lemmas.List.{at_drop_more}
use Rattle.std.proofs.lemmas.Bool.Decides.{same_from_decides, Decides-like, nat_tests}
use Rattle.frames.specs.declared.frame.Pair.{Pair}
use Rattle.frames.specs.declared.frame.Frame.{Frame}
use Rattle.frames.specs.declared.slot.Slot.{Slot}
use Rattle.frames.specs.Frames.{◌and◌, ◌or◌, first_pair}
use Rattle.frames.specs.Slots.{framed, same_bytes, issued}
use Rattle.frames.specs.Typed.{plain, stated, pair_stated}
use Rattle.frames.proofs.Basics.{never, and_true}
use Rattle.evidence.specs.Forgery.{of_step, step_begins, bound, unissued, unforged, forged_sender_in}

-- Pairs

first_good : (good : ℕ × ℕ → Bool) (place : ℕ) (p : ℕ × ℕ) (ps : List (ℕ × ℕ)) → good p ≡ true → first_pair good place (p ∷ ps) ≡ first_pair good (place + 9) ps
first_good good place p ps h = rw (h, first_pair) refl

first_bad : (good : ℕ × ℕ → Bool) (place : ℕ) (p : ℕ × ℕ) (ps : List (ℕ × ℕ)) → good p ≡ false → first_pair good place (p ∷ ps) ≡ Some place
first_bad good place p ps h = rw (h, first_pair) refl

lt_more : (m n : ℕ) → nat_lt (1 + m) (suc n) ≡ nat_lt m n
lt_more m n = grind (arith, nat_tests)

later : (b : Bool) (place k : ℕ) {r : Option ℕ} → option_map (λ n. place + 9 + 9 * n) (cond b (Some k) None) ≡ r → option_map (λ n. place + 9 * n) (cond b (Some (1 + k)) None) ≡ r
later true place k e = let n : place + 9 * (1 + k) ≡ place + 9 + 9 * k = omega arith in ap Some n ∙ e
later false place k e = e

-- the place of the first bad pair, by its number
pub pair_at_position : (good : ℕ × ℕ → Bool) (place : ℕ) (ps : List Pair)
    → option_map (λ k. place + 9 * k) (position (λ p. not (good (plain p))) ps) ≡ first_pair good place (map plain ps)
pair_at_position good place [] = refl
pair_at_position good place (p ∷ ps) = go (good (plain p)) refl (pair_at_position good (place + 9) ps)
  where
    goal : Type 0
    goal = option_map (λ k. place + 9 * k) (position (λ p. not (good (plain p))) (p ∷ ps)) ≡ first_pair good place (map plain (p ∷ ps))

    go : (b : Bool) → good (plain p) ≡ b → option_map (λ k. place + 9 + 9 * k) (position (λ p. not (good (plain p))) ps) ≡ first_pair good (place + 9) (map plain ps) → goal
    go true h ih =
        let before : ℕ = position_or_len (λ q. not (good (plain q))) ps in
        rw h (ap (λ b. option_map (λ k. place + 9 * k) (cond b (Some (1 + before)) None)) (lt_more before (length ps)) ∙ later (nat_lt before (length ps)) place before ih)
    go false h ih =
        let some : nat_lt 0 (suc (length ps)) ≡ true = search (rules, tests) in
        rw h (ap (λ b. option_map (λ k. place + 9 * k) (cond b (Some 0) None)) some ∙ ap Some (add-zero place))

-- what the pairs from k on give
abbrev pub from : (ℕ × ℕ → Bool) → ℕ → List Pair → Option ℕ
from good k pairs = first_pair good (32 + 9 * k) (map plain (drop k pairs))

module _ (good : ℕ × ℕ → Bool) (pairs : List Pair) (k : ℕ) (d : Pair) (r : Option ℕ) (sofar : r ≡ from good k pairs) where
  pub pair_next : k < length pairs → good (plain (get_or pairs k d)) ≡ true → r ≡ from good (k + 1) pairs
  pair_next h g =
      let place : 32 + 9 * k + 9 ≡ 32 + 9 * (k + 1) = omega arith in
      sofar ∙ at_drop_more (λ l. first_pair good (32 + 9 * k) (map plain l)) pairs k d h
      ∙ first_good good (32 + 9 * k) (plain (get_or pairs k d)) (map plain (drop (k + 1) pairs)) g
      ∙ ap (λ n. first_pair good n (map plain (drop (k + 1) pairs))) place

  pub pair_here : k < length pairs → good (plain (get_or pairs k d)) ≡ false → r ≡ Some (32 + 9 * k)
  pair_here h g =
      sofar ∙ at_drop_more (λ l. first_pair good (32 + 9 * k) (map plain l)) pairs k d h
      ∙ first_bad good (32 + 9 * k) (plain (get_or pairs k d)) (map plain (drop (k + 1) pairs)) g

-- Slots

-- some slot has it
pub issued_is : (s : List ℕ) (pool : List Slot) → issued s pool ≡ list_any (step_begins s) pool
issued_is s [] = refl
issued_is s (x ∷ xs) = go (step_begins s x) (issued_is s xs)
  where
    go : (b : Bool) {l r : Bool} → l ≡ r → (b or l) ≡ (b || r)
    go true e = refl
    go false e = e

-- a frame that begins with 24 bytes
pub begins_is : (x : Slot) (s frame : List ℕ) (r : Bool) → true ≡ of_step x → frame ≡ framed x → length s ≡ 24 → Decides r (s ≡ take (length s) frame) → r ≡ step_begins s x
begins_is x s frame r step is size decides =
    let cut : take (length s) frame ≡ take 24 (framed x) = ap₂ (λ n l. take n l) size is in
    let p = and_true (eqb x.by 0) (leb 1 x.len) (sym step) in
    same_from_decides r (same_bytes (take 24 (framed x)) s)
    (Decides-like r (λ e. sym (e ∙ cut)) (λ e. sym (cut ∙ e)) decides)
    (compares_Decides same_bytes (search rules) (take 24 (framed x)) s)
    ∙ sym (ap₂ (λ a b. a and b and same_bytes (take 24 (framed x)) s) p.0 p.1)

-- Statements under a tag

module _ (faulty : ℕ → Bool) (tag : ℕ → List ℕ → ℕ) (station : ℕ) (s : List ℕ) (shown : ℕ) (pool : List Slot) where
  pub unbound : false ≡ bound faulty tag station s shown → unissued faulty tag station s shown pool ≡ false
  unbound = go (not (faulty station)) (eqb shown (tag station s))
    where
      go : (a b : Bool) → false ≡ (a and b) → (a and b and not (issued s pool)) ≡ false
      go true true e = never e
      go true false e = refl
      go false b e = refl

  pub bound_by : true ≡ bound faulty tag station s shown → unissued faulty tag station s shown pool ≡ not (issued s pool)
  bound_by e =
      let p = and_true (not (faulty station)) (eqb shown (tag station s)) (sym e) in
      ap₂ (λ a b. a and b and not (issued s pool)) p.0 p.1

module _ (faulty : ℕ → Bool) (tag : ℕ → List ℕ → ℕ) (f : Frame) (pool : List Slot) (p : ℕ × ℕ) (s : List ℕ) (is : s ≡ pair_stated f p.0) where
  abbrev test : List ℕ → Bool
  test l = not (unissued faulty tag p.0 l p.1 pool)

  pub pair_known : true ≡ bound faulty tag p.0 s p.1 → issued s pool ≡ true → unforged faulty tag f pool p ≡ true
  pair_known e i = ap test (sym is) ∙ ap not (bound_by faulty tag p.0 s p.1 pool e ∙ ap not i)

  pub pair_unknown : true ≡ bound faulty tag p.0 s p.1 → issued s pool ≡ false → unforged faulty tag f pool p ≡ false
  pair_unknown e i = ap test (sym is) ∙ ap not (bound_by faulty tag p.0 s p.1 pool e ∙ ap not i)

module _ (faulty : ℕ → Bool) (tag : ℕ → List ℕ → ℕ) (f : Frame) (pool : List Slot) (s : List ℕ) (is : s ≡ stated f) where
  sender_is : forged_sender_in faulty tag f pool ≡ unissued faulty tag f.sender s f.tag pool
  unfolding forged_sender_in
  sender_is = ap (λ l. unissued faulty tag f.sender l f.tag pool) (sym is)

  pub sender_bound : (r : Bool) → true ≡ bound faulty tag f.sender s f.tag → r ≡ not (issued s pool) → r ≡ forged_sender_in faulty tag f pool
  sender_bound r e i = i ∙ sym (sender_is ∙ bound_by faulty tag f.sender s f.tag pool e)

  pub sender_unbound : false ≡ bound faulty tag f.sender s f.tag → false ≡ forged_sender_in faulty tag f pool
  sender_unbound e = sym (sender_is ∙ unbound faulty tag f.sender s f.tag pool e)
