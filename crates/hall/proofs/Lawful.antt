-- What the table, the rule, the policy and the seal promise makes the terms of a hall lawful.
use Rattle.std.proofs.Common.{◌≡◌, ℕ, zero, suc, ◌+◌, ◌*◌, ◌^◌, ◌<◌, ◌≤◌, Bool, true, cond, ◌&&◌, leb, ◌⊎◌, List, length, get_or, count_by, sym, refl, ap, ◌∙◌, inl, inr, add_comm, add-one, arith}
use Rattle.std.proofs.lemmas.List.{take_all, get_or_past}
use Rattle.std.proofs.lemmas.List.Sums.{sum_by_more}
use Rattle.std.proofs.lemmas.Bool.{cases_lt, false_from_ne_true, leb-true, and_parts}
use Rattle.base.specs.declared.book.Batch.{Batch}
use Rattle.rules.specs.Lawful.{lawful}
use Rattle.rules.specs.declared.rule.Rule as Rule
use Rattle.policies.specs.Seats.{count, Covers}
use Rattle.policies.specs.Sound.{is_faulty, faulty, sound}
use Rattle.policies.specs.declared.policy.Policy as Policy
use Rattle.seals.specs.declared.seal.Check as Check
use Rattle.protocol.specs.Run.{Lawful, Owes, size}
use Rattle.protocol.proofs.Agreement.{holds}
use Rattle.hall.specs.declared.setup.Setup.{Setup}
use Rattle.hall.specs.Join.{terms}

-- the two ways to count a set are one
size-count : (f : ℕ → Bool) (n : ℕ) → size f n ≡ count f n
size-count f zero = refl
size-count f (suc n) = ap (λ k. cond (f n) 1 0 + k) (size-count f n)

-- the set of the stations that are marked has as many as the marks count
marked : (marks : List ℕ) (n : ℕ) → size (λ i. is_faulty (get_or marks i 0)) n ≡ faulty n marks
marked marks zero = refl
marked marks (suc m) = step (marked marks m) (cases_lt m (length marks))
  where
    step : size (λ i. is_faulty (get_or marks i 0)) m ≡ faulty m marks → (m < length marks) ⊎ (length marks ≤ m)
        → cond (is_faulty (get_or marks m 0)) 1 0 + size (λ i. is_faulty (get_or marks i 0)) m ≡ faulty (suc m) marks
    step before (inl l) =
        ap (λ k. cond (is_faulty (get_or marks m 0)) 1 0 + k) before
        ∙ add_comm _ _
        ∙ sym (sum_by_more (λ y. cond (is_faulty y) 1 0) marks m 0 l)
        ∙ ap (λ k. faulty k marks) (add-one m)
    step before (inr l) =
        let one : Bool → ℕ = λ b. cond b 1 0 in
        let past = ap (λ x. one (is_faulty x)) (get_or_past marks m 0 l) in
        let all = ap (count_by is_faulty) (take_all m marks l ∙ sym (take_all (suc m) marks (omega (arith, l)))) in
        omega (arith, past, before, all)

-- what a locked table has
pub record SoundTable (n t : ℕ) (marks : List ℕ) : Type 0 where
  pub some : 1 ≤ t
  pub most : t ≤ 7
  pub majority : 2 * t + 1 ≤ n
  pub few : n ≤ 16
  pub faults : size (λ i. is_faulty (get_or marks i 0)) n ≤ t

pub sound_table : (n t : ℕ) (marks : List ℕ) → sound n t marks ≡ true → SoundTable n t marks
sound_table n t marks ok =
    let (low, rest) = and_parts (leb 1 t && leb t 7) ((leb (2 * t + 1) n && leb n 16) && leb (faulty n marks) t) ok in
    let (wide, least) = and_parts (leb (2 * t + 1) n && leb n 16) (leb (faulty n marks) t) rest in
    let (one, seven) = and_parts (leb 1 t) (leb t 7) low in
    let (more, sixteen) = and_parts (leb (2 * t + 1) n) (leb n 16) wide in
    record {
      some = leb-true 1 t one;
      most = leb-true t 7 seven;
      majority = leb-true (2 * t + 1) n more;
      few = leb-true n 16 sixteen;
      faults = omega (arith, marked marks n, leb-true (faulty n marks) t least);
    }

grower_fits : (b : Batch) → lawful b ≡ true → b.grower < 2 ^ 32
grower_fits b ok =
    let rest = (and_parts (leb 1 b.grower) _ ok).1 in
    omega (arith, leb-true b.grower 9999999 (and_parts (leb b.grower 9999999) _ rest).0)

module _ {R P S : Type 0} (r : Rule.Ghosts R) (p : Policy.Ghosts P) (s : Check.Ghosts S) (j : Setup R P S) where
  -- the laws of the three interfaces, at the parts of the hall
  pub record Promised : Type 0 where
    pub turns : (1 ≤ p.turn j.policy) × (p.turn j.policy ≤ 20000) × (20000 ≤ p.top j.policy)
    pub exact : (c : ℕ) → c ≤ p.top j.policy → count (p.seats j.policy c) (p.stations j.policy) ≡ p.faults j.policy + 1
    pub covering : Covers (p.stations j.policy) (p.faults j.policy) (p.turn j.policy) (p.top j.policy) (p.seats j.policy)
    pub within : (c : ℕ) (b : Batch) → lawful b ≡ true → (r.outcome j.rule c b).carry ≤ 99999999
    pub fits : (c : ℕ) (b : Batch) → lawful b ≡ true → ((r.outcome j.rule c b).amount < 2 ^ 32) × ((r.outcome j.rule c b).figure < 2 ^ 32)
    pub small : (i : ℕ) (l : List ℕ) → i < 16 → length l ≡ 24 → s.tag j.seal i l < 2 ^ 64

  lawful-terms : Promised → Lawful (terms r p s j)
  lawful-terms laws =
      let table = sound_table j.table.n j.table.t j.table.marks j.table.ok in
      let (one, short, top) = laws.turns in
      record {
        some_fault = table.some;
        majority = table.majority;
        few_stations = table.few;
        few_faulty = table.faults;
        some_turn = one;
        short_turn = short;
        full = λ c l. size-count (p.seats j.policy c) (p.stations j.policy) ∙ laws.exact c (omega (arith, l, top));
        covers = λ bad few a l.
            let same = size-count bad (p.stations j.policy) in
            let (c, low, high, apart) = laws.covering a bad (omega (arith, same, few)) (omega (arith, l, top)) in
            (c, low, high, λ i _ sits. false_from_ne_true (bad i) (apart i sits));
        never_idle = refl;
        growers = grower_fits;
        fits = λ c b _ ok. let (a, f) = laws.fits c b ok in (a, f, omega (arith, laws.within c b ok));
        tags = λ i l low long _. laws.small i l low long;
      }

  pub owes : Promised → Owes (terms r p s j)
  owes laws = holds (terms r p s j) (lawful-terms laws)
