-- The hall of three stations: its terms are lawful, and its run answers as said.
use Rattle.std.proofs.Common.{◌≡◌, ℕ, zero, suc, ◌+◌, ◌-◌, ◌*◌, ◌/◌, ◌%◌, ◌^◌, ◌<◌, ◌≤◌, Bool, true, false, cond, ◌&&◌, eqb, leb, ◌⊎◌, get_or, replicate, sym, refl, ap, ◌∙◌, inl, inr, mod-lt, div-le_self, arith, lit<}
use Rattle.std.proofs.lemmas.Bool.{cases_lt, leb-true, le-leb, eqb-true, and_parts}
use Rattle.std.proofs.lemmas.List.{get_or_past, get_or-replicate}
use Rattle.base.specs.declared.book.Batch.{Batch}
use Rattle.rules.specs.Lawful.{lawful as is_lawful}
use Rattle.rules.specs.Oil.{grams, oil_outcome}
use Rattle.frames.specs.declared.slot.Slot.{Slot}
use Rattle.frames.specs.Slots.{no_slot}
use Rattle.protocol.specs.Law.{works}
use Rattle.protocol.specs.Steps.{in_range, fitting, whole_call, same_entry, backers, last_carry, issue, with_station, propose, decide, settle, own_entry, reselect, open_call, ring_call, mark_taken, take_proposal, meet_proposal, meet_decision, meet_reselect, meet, shows, deliver_call, forged, forgery, inject_call, next_number, announce, join, take_up, store, differs}
use Rattle.protocol.specs.Run.{Of32Bits, Lawful, New, size}
use Rattle.protocol.specs.Three.{rotating, three, made, ThreeLawful, ThreeRun}

-- committee c seats c mod 3 and the one behind it
seats_two : (c r q : ℕ) → c ≤ 20000 → c % 3 ≡ r → (c + 1) % 3 ≡ q → (i : ℕ) → rotating c i ≡ cond (eqb i r) true (eqb i q)
seats_two c r q l p e i = rw (le-leb c 999999 (omega arith), p, e) refl

two_seats : (c : ℕ) → c ≤ 20000 → size (rotating c) 3 ≡ 2
two_seats c l = go (c % 3) refl (omega arith)
  where
    go : (r : ℕ) → c % 3 ≡ r → r < 3 → size (rotating c) 3 ≡ 2
    go zero e h = let q : (c + 1) % 3 ≡ 1 = omega arith in let s = seats_two c 0 1 l e q in rw (s 0, s 1, s 2) refl
    go (suc zero) e h = let q : (c + 1) % 3 ≡ 2 = omega arith in let s = seats_two c 1 2 l e q in rw (s 0, s 1, s 2) refl
    go (suc (suc zero)) e h = let q : (c + 1) % 3 ≡ 0 = omega arith in let s = seats_two c 2 0 l e q in rw (s 0, s 1, s 2) refl
    go (suc (suc (suc r))) e h = absurd (omega arith)

-- three numbers in a row have each remainder once
abbrev rest : ℕ → ℕ → ℕ
rest a r = a + (r + 3 - a % 3) % 3

-- a committee that leaves out a station that is not r nor the one behind it
without : (s : ℕ → Bool) (a r q : ℕ) → a + 3 ≤ 20001 → r < 3 → (r + 1) % 3 ≡ q → s r ≡ false → s q ≡ false
    → (c : ℕ) × (a ≤ c) × (c < a + 3) × ((i : ℕ) → i < 3 → rotating c i ≡ true → s i ≡ false)
without s a r q l h e sr sq = (rest a r, omega arith, omega arith, λ i _ m. go i (eqb i r) refl (sym (members i) ∙ m))
  where
    members : (i : ℕ) → rotating (rest a r) i ≡ cond (eqb i r) true (eqb i q)
    members = seats_two (rest a r) r q (omega arith) (omega arith) (omega arith)

    go : (i : ℕ) (b : Bool) → eqb i r ≡ b → cond b true (eqb i q) ≡ true → s i ≡ false
    go i true x y = ap s (eqb-true i r x) ∙ sr
    go i false x y = ap s (eqb-true i q y) ∙ sq

-- no single station sits in all three
covered : (s : ℕ → Bool) → size s 3 ≤ 1 → (a : ℕ) → a + 3 ≤ 20001
    → (c : ℕ) × (a ≤ c) × (c < a + 3) × ((i : ℕ) → i < 3 → rotating c i ≡ true → s i ≡ false)
covered s h a l = go (s 0) (s 1) (s 2) refl refl refl
  where
    go : (x y z : Bool) → s 0 ≡ x → s 1 ≡ y → s 2 ≡ z → (c : ℕ) × (a ≤ c) × (c < a + 3) × ((i : ℕ) → i < 3 → rotating c i ≡ true → s i ≡ false)
    go true false false p q r = without s a 1 2 l (omega arith) refl q r
    go false true false p q r = without s a 2 0 l (omega arith) refl r p
    go false false z p q r = without s a 0 1 l (omega arith) refl p q
    go true true z p q r = absurd (let x = rw (p, q) at h in omega (arith, x))
    go true false true p q r = absurd (let x = rw (p, q, r) at h in omega (arith, x))
    go false true true p q r = absurd (let x = rw (p, q, r) at h in omega (arith, x))

oil-fits : (carry : ℕ) (b : Batch) → is_lawful b ≡ true → (b.grower < 2 ^ 32) × Of32Bits (oil_outcome carry b)
oil-fits carry b h =
    let h₁ = and_parts (leb 1 b.grower) (leb b.grower 9999999 && (leb 1 b.fruit && (leb b.fruit 30000 && leb b.oil 9000000))) h in
    let h₂ = and_parts (leb b.grower 9999999) (leb 1 b.fruit && (leb b.fruit 30000 && leb b.oil 9000000)) h₁.1 in
    let h₃ = and_parts (leb 1 b.fruit) (leb b.fruit 30000 && leb b.oil 9000000) h₂.1 in
    let h₄ = and_parts (leb b.fruit 30000) (leb b.oil 9000000) h₃.1 in
    let grower = leb-true b.grower 9999999 h₂.0 in
    let most = leb-true b.oil 9000000 h₄.1 in
    let figure = div-le_self (grams carry b / 1000 * 10000) b.fruit in
    (omega arith, (omega arith, omega arith, omega arith))

lawful-terms : (batches slots : ℕ) → Lawful (three batches slots)
lawful-terms batches slots = record {
  some_fault = omega arith;
  majority = omega arith;
  few_stations = omega arith;
  few_faulty = omega arith;
  some_turn = omega arith;
  short_turn = omega arith;
  full = two_seats;
  covers = covered;
  never_idle = refl;
  growers = λ b l. (oil-fits 0 b l).0;
  fits = λ carry b _ l. (oil-fits carry b l).1;
  tags = λ i s _ _ _. mod-lt _ (lit< tt);
}

starts_new : New (three 1 8) made
starts_new = record { one_n = refl; one_t = refl; idle = refl; empty = λ f. empty f (cases_lt f 8) }
  where
    empty : (f : ℕ) → (f < 8) ⊎ (8 ≤ f) → (get_or (replicate 8 no_slot) f no_slot).len ≡ 0
    empty f (inl l) = ap (λ (s : Slot). s.len) (get_or-replicate 8 f no_slot no_slot l)
    empty f (inr l) = ap (λ (s : Slot). s.len) (get_or_past (replicate 8 no_slot) f no_slot l)

pub three-lawful : ThreeLawful
three-lawful = (lawful-terms, starts_new)

pub three_run : ThreeRun
unfolding works in_range fitting whole_call same_entry backers last_carry issue with_station propose decide settle own_entry reselect open_call ring_call mark_taken take_proposal meet_proposal meet_decision meet_reselect meet shows deliver_call forged forgery inject_call next_number announce join take_up store differs
three_run = refl
