-- The walk through a pool: where its lowest empty slot is, and how many are empty.
use Rattle.std.proofs.Common.{◌≡◌, ℕ, suc, ◌+◌, ◌-◌, ◌<◌, ◌≤◌, Bool, true, false, cond, eqb, ltb, List, [], ◌∷◌, length, take, drop, set, Some, None, Option, IfSome, MatchOption, count_by, position, sym, refl, ap, ◌∙◌, subst, arith}
use Rattle.std.specs.List.{position_or_len}
use Rattle.std.proofs.lemmas.Bool.{ltb-true, ltb-false}
use Rattle.std.proofs.lemmas.List.{at_drop_all, set_past, take_rest}
use Rattle.std.proofs.lemmas.List.Recursion.{is_count_by, is_position_or_len}
use Rattle.frames.specs.declared.slot.Slot.{Slot}
use Rattle.frames.specs.Slots.{free, enter, first_free, lowest_free}

abbrev empty : Slot → Bool
empty s = eqb s.len 0

-- to enter is to write at the lowest empty slot
pub enter-set : (x : Slot) (pool : List Slot) → enter x pool ≡ set pool (first_free pool) x
enter-set x [] = refl
enter-set x (s ∷ ss) = go (eqb s.len 0) (enter-set x ss)
  where
    go : (b : Bool) → enter x ss ≡ set ss (first_free ss) x
        → ◌≡◌ {A = List Slot} (elim b [ true ↦ x ∷ ss | false ↦ s ∷ enter x ss ]) (set (s ∷ ss) (elim b as (λ _. ℕ) [ true ↦ 0 | false ↦ suc (first_free ss) ]) x)
    go true e = refl
    go false e = ap (λ (l : List Slot). s ∷ l) e

-- the library's words for the walk and for the count
first_free_is : (pool : List Slot) → first_free pool ≡ position_or_len empty pool
first_free_is = is_position_or_len first_free empty refl (λ s ss. go (empty s) (first_free ss))
  where
    go : (b : Bool) (k : ℕ) → ◌≡◌ {A = ℕ} (elim b [ true ↦ 0 | false ↦ suc k ]) (cond b 0 (1 + k))
    go true k = refl
    go false k = omega arith

pub position_is : (pool : List Slot) → position empty pool ≡ lowest_free pool
position_is pool = ap (λ k. cond (ltb k (length pool)) (Some k) None) (sym (first_free_is pool))

pub free_is : (pool : List Slot) → free pool ≡ count_by empty pool
free_is = is_count_by free empty refl (λ s ss. go (empty s) (free ss))
  where
    go : (b : Bool) (k : ℕ) → cond b 1 0 + k ≡ cond b (1 + k) k
    go true k = refl
    go false k = omega arith

-- the slots before the lowest empty one hold frames
free_behind : (pool : List Slot) → free (drop (first_free pool) pool) ≡ free pool
free_behind [] = refl
free_behind (s ∷ ss) = go (empty s) refl (free_behind ss)
  where
    go : (b : Bool) → empty s ≡ b → free (drop (first_free ss) ss) ≡ free ss
        → free (drop (elim b as (λ _. ℕ) [ true ↦ 0 | false ↦ suc (first_free ss) ]) (s ∷ ss)) ≡ cond (empty s) 1 0 + free ss
    go true h e = refl
    go false h e = rw h (omega (arith, e))

-- what is known of the place that the walk answers
pub record Found (pool : List Slot) (r : Option ℕ) : Type 0 where
  pub is : r ≡ lowest_free pool
  pub inside : IfSome r (λ k. k < length pool)
  pub behind : MatchOption r (free pool ≡ 0) (λ k. count_by empty (take (length pool - k) (drop k pool)) ≡ free pool)
  pub place : MatchOption r ((x : Slot) → enter x pool ≡ pool) (λ k. (x : Slot) → enter x pool ≡ set pool k x)

pub found : (pool : List Slot) (r : Option ℕ) → r ≡ position empty pool → Found pool r
found pool r e = subst (Found pool) (sym (e ∙ position_is pool)) (go (ltb (first_free pool) (length pool)) refl)
  where
    go : (b : Bool) → ltb (first_free pool) (length pool) ≡ b → Found pool (cond b (Some (first_free pool)) None)
    go true h = record {
      is = rw h refl;
      inside = ltb-true _ _ h;
      behind = ap (count_by empty) (take_rest pool (first_free pool)) ∙ sym (free_is (drop (first_free pool) pool)) ∙ free_behind pool;
      place = λ x. enter-set x pool;
    }
    go false h =
        let past : length pool ≤ first_free pool = ltb-false _ _ h in
        record {
          is = rw h refl;
          inside = tt;
          behind = sym (free_behind pool) ∙ at_drop_all free pool (first_free pool) past;
          place = λ x. enter-set x pool ∙ set_past pool (first_free pool) x past;
        }
