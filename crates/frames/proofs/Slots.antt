-- The slots of a pool: what entering and taking a frame changes.
use Rattle.std.proofs.Common.{◌≡◌, ℕ, zero, suc, ◌+◌, ◌-◌, ◌<◌, ◌≤◌, min, Bool, true, false, cond, eqb, leb, ◌⊎◌, List, [], ◌∷◌, length, get_or, take, set, replicate, refl, ap, ◌∙◌, inl, inr, arith}
use Rattle.std.proofs.lemmas.Bool.{eqb-true, leb-true, ne_eqb, both_ways}
use Rattle.std.proofs.lemmas.List.{get_or-set_other, length-set, length-take, take_at}
use Rattle.frames.specs.declared.slot.Slot.{Slot}
use Rattle.frames.specs.Slots.{no_slot, framed, frame_at, free, enter, slot_of, issued, same_bytes}
use Rattle.frames.specs.Frames.{◌and◌}
use Rattle.frames.proofs.Basics.{or_true, and_true, never}

abbrev pub slot_at : List Slot → ℕ → Slot
slot_at pool f = get_or pool f no_slot

-- where a frame goes that enters
pub record Place (x : Slot) (pool : List Slot) : Type 0 where
  pub place : ℕ
  pub inside : place < length pool
  pub empty : (slot_at pool place).len ≡ 0
  pub entered : enter x pool ≡ set pool place x
  pub freed : free pool ≡ free (enter x pool) + 1

enter-empty : (x s : Slot) (ss : List Slot) → eqb s.len 0 ≡ true → enter x (s ∷ ss) ≡ x ∷ ss
enter-empty x s ss e = rw (e, enter) refl

enter_filled : (x s : Slot) (ss : List Slot) → eqb s.len 0 ≡ false → enter x (s ∷ ss) ≡ s ∷ enter x ss
enter_filled x s ss e = rw (e, enter) refl

pub place_of : (x : Slot) → 1 ≤ x.len → (pool : List Slot) → 1 ≤ free pool → Place x pool
place_of x l [] h = absurd (omega arith)
place_of x l (s ∷ ss) h = go (eqb s.len 0) refl (place_of x l ss)
  where
    later : eqb s.len 0 ≡ false → Place x ss → Place x (s ∷ ss)
    later e p = record {
      place = suc p.place;
      inside = omega (arith, p.inside);
      empty = p.empty;
      entered = enter_filled x s ss e ∙ ap (λ (r : List Slot). s ∷ r) p.entered;
      freed = rw enter_filled (rw e (omega (arith, p.freed)));
    }

    go : (b : Bool) → eqb s.len 0 ≡ b → (1 ≤ free ss → Place x ss) → Place x (s ∷ ss)
    go true e ih =
        let z : s.len ≡ 0 = eqb-true s.len 0 e in
        let y : eqb x.len 0 ≡ false = ne_eqb x.len 0 (λ q. omega arith) in
        record { place = 0; inside = omega arith; empty = z; entered = enter-empty x s ss e; freed = rw enter-empty (rw (e, y) (omega arith)) }
    go false e ih = let r : 1 ≤ 0 + free ss = rw e at h in later e (ih (omega arith))

-- a statement that a step put into the pool
pub record Issued (s : List ℕ) (pool : List Slot) : Type 0 where
  pub place : ℕ
  pub own : (slot_at pool place).by ≡ 0
  pub filled : 1 ≤ (slot_at pool place).len
  pub begins : take 24 (frame_at pool place) ≡ s

-- what a slot shows of itself, once filled, stays
pub record Grows (p q : List Slot) : Type 0 where
  pub size : length q ≡ length p
  pub len : (f : ℕ) → 1 ≤ (slot_at p f).len → (slot_at q f).len ≡ (slot_at p f).len
  pub frame : (f : ℕ) → 1 ≤ (slot_at p f).len → frame_at q f ≡ frame_at p f
  pub by : (f : ℕ) → 1 ≤ (slot_at p f).len → (slot_at q f).by ≡ (slot_at p f).by

pub grows_refl : (p : List Slot) → Grows p p
grows_refl p = record { size = refl; len = λ f l. refl; frame = λ f l. refl; by = λ f l. refl }

pub grows_trans : {p q r : List Slot} → Grows p q → Grows q r → Grows p r
grows_trans {p} {q} {r} a b = record {
  size = b.size ∙ a.size;
  len = λ f l. b.len f (omega (arith, a.len f l)) ∙ a.len f l;
  frame = λ f l. b.frame f (omega (arith, a.len f l)) ∙ a.frame f l;
  by = λ f l. b.by f (omega (arith, a.len f l)) ∙ a.by f l;
}

pub issued_later : {s : List ℕ} {p q : List Slot} → Grows p q → Issued s p → Issued s q
issued_later g i = record {
  place = i.place;
  own = g.by i.place i.filled ∙ i.own;
  filled = omega (arith, g.len i.place i.filled, i.filled);
  begins = ap (take 24) (g.frame i.place i.filled) ∙ i.begins;
}

-- an empty slot filled
pub grows_set : (p : List Slot) (f : ℕ) (x : Slot) → (slot_at p f).len ≡ 0 → Grows p (set p f x)
grows_set p f x z = record {
  size = length-set p f x;
  len = λ g l. ap (λ (s : Slot). s.len) (other g l);
  frame = λ g l. ap framed (other g l);
  by = λ g l. ap (λ (s : Slot). s.by) (other g l);
}
  where
    other : (g : ℕ) → 1 ≤ (slot_at p g).len → slot_at (set p f x) g ≡ slot_at p g
    other g l = get_or-set_other p f g x no_slot (λ e. let y : (slot_at p g).len ≡ (slot_at p f).len = ap (λ (k : ℕ). (slot_at p k).len) e in omega arith)

abbrev pub taken_slot : Slot → Slot
taken_slot s = record { len = s.len; bytes = s.bytes; by = s.by; taken = true }

-- a slot marked as taken shows the same
pub shown : (p : List Slot) (f g : ℕ) → ((slot_at (set p f (taken_slot (slot_at p f))) g).len ≡ (slot_at p g).len)
    × (frame_at (set p f (taken_slot (slot_at p f))) g ≡ frame_at p g) × ((slot_at (set p f (taken_slot (slot_at p f))) g).by ≡ (slot_at p g).by)
shown [] f g = (refl, refl, refl)
shown (s ∷ ss) zero zero = (refl, refl, refl)
shown (s ∷ ss) zero (suc g) = (refl, refl, refl)
shown (s ∷ ss) (suc f) zero = (refl, refl, refl)
shown (s ∷ ss) (suc f) (suc g) = shown ss f g

pub grows_taken : (p : List Slot) (f : ℕ) → Grows p (set p f (taken_slot (slot_at p f)))
grows_taken p f = record
    { size = length-set p f (taken_slot (slot_at p f)); len = λ g l. (shown p f g).0; frame = λ g l. (shown p f g).1; by = λ g l. (shown p f g).2 }

pub free_taken : (p : List Slot) (f : ℕ) → free (set p f (taken_slot (slot_at p f))) ≡ free p
free_taken [] f = refl
free_taken (s ∷ ss) zero = refl
free_taken (s ∷ ss) (suc f) = ap (λ (k : ℕ). cond (eqb s.len 0) 1 0 + k) (free_taken ss f)

-- the frame in a slot just made
pub framed_slot : (who : ℕ) (bs : List ℕ) → length bs ≤ 104 → framed (slot_of who bs) ≡ bs
framed_slot who bs l =
    let m : min (length bs) 104 ≡ length bs = omega arith in
    rw m (take_at bs (replicate (104 - length bs) 0) (length bs) refl)

-- the search for an issued statement
pub same_bytes_true : (xs ys : List ℕ) → same_bytes xs ys ≡ true → xs ≡ ys
same_bytes_true [] [] h = refl
same_bytes_true [] (y ∷ ys) h = never h
same_bytes_true (x ∷ xs) [] h = never h
same_bytes_true (x ∷ xs) (y ∷ ys) h = go (eqb x y) refl (same_bytes_true xs ys)
  where
    go : (b : Bool) → eqb x y ≡ b → (same_bytes xs ys ≡ true → xs ≡ ys) → ◌≡◌ {A = List ℕ} (x ∷ xs) (y ∷ ys)
    go true e ih = let p : x ≡ y = eqb-true x y e in let q : xs ≡ ys = ih (rw e at h) in cc
    go false e ih = absurd (both_ways false refl (rw e at h))

pub issued_true : (s : List ℕ) (pool : List Slot) → issued s pool ≡ true → Issued s pool
issued_true s [] h = never h
issued_true s (x ∷ xs) h = go (or_true (eqb x.by 0 and leb 1 x.len and same_bytes (take 24 (framed x)) s) (issued s xs) h) (issued_true s xs)
  where
    later : Issued s xs → Issued s (x ∷ xs)
    later i = record { place = suc i.place; own = i.own; filled = i.filled; begins = i.begins }

    go : ((eqb x.by 0 and leb 1 x.len and same_bytes (take 24 (framed x)) s) ≡ true) ⊎ (issued s xs ≡ true) → (issued s xs ≡ true → Issued s xs) → Issued s (x ∷ xs)
    go (inl e) ih =
        let p = and_true (eqb x.by 0) (leb 1 x.len and same_bytes (take 24 (framed x)) s) e in
        let q = and_true (leb 1 x.len) (same_bytes (take 24 (framed x)) s) p.1 in
        record { place = 0; own = eqb-true x.by 0 p.0; filled = leb-true 1 x.len q.0; begins = same_bytes_true (take 24 (framed x)) s q.1 }
    go (inr e) ih = later (ih e)

pub filled : (p : List Slot) (f : ℕ) → 1 ≤ length (frame_at p f) → 1 ≤ (slot_at p f).len
filled p f h = go (slot_at p f).len refl
  where
    go : (k : ℕ) → (slot_at p f).len ≡ k → 1 ≤ k
    go zero e = absurd (let x : 1 ≤ length (take (min 0 104) (slot_at p f).bytes) = rw e at h in omega (arith, x))
    go (suc k) e = omega arith

pub frame_empty : (p : List Slot) (f : ℕ) → (slot_at p f).len ≡ 0 → frame_at p f ≡ []
frame_empty p f e = rw e refl

pub framed_short : (p : List Slot) (f : ℕ) → length (frame_at p f) ≤ 104
framed_short p f = omega (arith, length-take (min (slot_at p f).len 104) (slot_at p f).bytes)
