-- The rotating policy seats t + 1 stations, and any t² + t + 1 numbers in a row have a committee without any given t.
use Rattle.std.specs.Prelude.{◌≡◌, ℕ, zero, suc, ◌+◌, ◌*◌, ◌%◌, ◌<◌, ◌≤◌, Bool, true, false, ◌&&◌, ◌==◌, nat_eq, refl}
use Rattle.std.proofs.Common.{sym, ◌∙◌, mod-lt, mul-le-mul_right, mul-suc, mul-one, arith}
use Rattle.std.proofs.lemmas.Bool.{eqb-true, and_from, both_ways}
use Rattle.policies.specs.Seats.{count, Covers, last_number}
use Rattle.policies.specs.Rotating.{some, in_row, rotating_seats, rotating_turn}
use Rattle.policies.specs.Counts.{near, count_or, count_none, count_all, count_mono, count_once, count_is, one_fails, some_at, some_none, count_picked, committee_count, committee_seat}

module _ (n c : ℕ) (pos : 0 < n) where
  -- k stations in a row are k, up to n
  row_count : (k : ℕ) → k ≤ n → count (λ i. some (λ j. nat_eq ((c + j) % n) i) k) n ≡ k
  row_count zero h = count_none (λ i. false) n (λ _ _. refl)
  row_count (suc k) h =
      let one = count_is ((c + k) % n) n (mod-lt (c + k) pos) in
      let rest = row_count k (omega arith) in
      let apart : (i : ℕ) → i < n → ((c + k) % n == i) ≡ true → some (λ j. nat_eq ((c + j) % n) i) k ≡ true → ⊥ = λ i l e s.
      let r = some_at (λ j. nat_eq ((c + j) % n) i) k s in
      let same = near n (c + k) (c + r.0) (eqb-true _ i e ∙ sym (eqb-true _ i r.2)) (omega (arith, r.1)) (omega (arith, r.1)) in
      omega (arith, r.1) in
      let both = count_or (λ i. nat_eq ((c + k) % n) i) (λ i. some (λ j. nat_eq ((c + j) % n) i) k) n apart in
      omega arith

module _ (n t : ℕ) (wide : rotating_turn t ≤ n) where
  pub turns : n ≤ 16 → (1 ≤ rotating_turn t) × (rotating_turn t ≤ 20000) × (20000 ≤ last_number)
  turns small = (omega arith, omega arith, omega arith)

  pub exactly : (c : ℕ) → c ≤ last_number → count (rotating_seats n t c) n ≡ t + 1
  exactly c l =
      let pos : 0 < n = omega arith in
      omega (arith, committee_count n c (in_row n t c) l, row_count n c pos (suc t) (omega arith))

module _ (n t a turn : ℕ) (fits : turn ≤ n) where
  -- station q sits in at most t + 1 of the numbers in the row
  sits : (q : ℕ) → count (λ k. rotating_seats n t (a + k) q) turn ≤ suc t
  sits q =
      let m = count_mono (λ k. rotating_seats n t (a + k) q) (λ k. in_row n t (a + k) q) turn
      (λ k e. (committee_seat n (a + k) q (in_row n t (a + k)) e).1) in
      let s = count_picked (λ j k. nat_eq ((a + k + j) % n) q) (λ _. true) turn (suc t) 1
      (λ j. count_once (λ k. nat_eq ((a + k + j) % n) q) turn
      (λ x y lx ly ex ey. let e = near n (a + x + j) (a + y + j) (eqb-true _ q ex ∙ sym (eqb-true _ q ey)) (omega arith) (omega arith) in omega arith)) in
      omega (arith, count_all (suc t), mul-one (count (λ _. true) (suc t)))

pub covers : (n t : ℕ) → rotating_turn t ≤ n → Covers n t (rotating_turn t) last_number (rotating_seats n t)
covers n t wide a bad few last =
    let turn = rotating_turn t in
    let hits : ℕ → Bool = λ k. some (λ q. bad q && rotating_seats n t (a + k) q) n in
    let total : count hits turn ≤ count bad n * suc t = count_picked (λ q k. rotating_seats n t (a + k) q) bad turn n (suc t) (sits n t a turn wide) in
    let most : count bad n * suc t ≤ t * suc t = mul-le-mul_right (suc t) few in
    let square = mul-suc t t in
    let less : count hits turn < turn = omega arith in
    let r = one_fails hits turn less in (
      a + r.0,
      omega arith,
      omega (arith, r.1),
      λ i seated isBad.
          let within = (committee_seat n (a + r.0) i (in_row n t (a + r.0)) seated).0 in
          let no = some_none (λ q. bad q && rotating_seats n t (a + r.0) q) n r.2 i within in
          both_ways _ no (and_from (bad i) _ isBad seated),
    )
