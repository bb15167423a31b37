-- A well-formed frame, field by field: what `malformed n t batches bs ≡ None` says, both ways.
use Rattle.std.proofs.Common.{◌≡◌, ℕ, zero, suc, ◌+◌, ◌*◌, ◌<◌, ◌≤◌, Bool, true, cond, eqb, ltb, leb, List, [], ◌∷◌, length, take, drop, replicate, None, sym, refl, ap, ◌∙◌, ap₂, ⊎_elim, arith}
use Rattle.std.specs.List.{AllByRecursion}
use Rattle.std.proofs.lemmas.Bool.{leb-true, ltb-true, eqb-true, le-leb, lt-ltb, eq-eqb, ne_eqb, cases_eq, cond-true, cond-false}
use Rattle.std.proofs.lemmas.List.{length-take-le, length-drop}
use Rattle.std.proofs.lemmas.Bool.Decides.{nat_tests}
use Rattle.frames.specs.Frames.{◌and◌, at, kind_of, sender_of, batch_of, number_of, count_of, pairs_of, all_zero, first_fault, first_pair, rising_tests, form_tests}
use Rattle.frames.specs.Certificates.{Rising, malformed}
use Rattle.frames.proofs.Basics.{both_true, passed, and_true}

pub first_fault_none : (cs : List (Bool × ℕ)) → AllByRecursion (λ c. c.0 ≡ true) cs → first_fault cs ≡ None
first_fault_none [] h = refl
first_fault_none (c ∷ cs) h = rw h.0 (first_fault_none cs h.1)

pub first_fault_all : (cs : List (Bool × ℕ)) → first_fault cs ≡ None → AllByRecursion (λ c. c.0 ≡ true) cs
first_fault_all [] e = tt
first_fault_all (c ∷ cs) e = let h = passed c.0 (first_fault cs) c.1 e in (h.0, first_fault_all cs h.1)

pub first_pair_none : (good : ℕ × ℕ → Bool) (place : ℕ) (ps : List (ℕ × ℕ)) → AllByRecursion (λ p. good p ≡ true) ps → first_pair good place ps ≡ None
first_pair_none good place [] h = refl
first_pair_none good place (p ∷ ps) h = rw (h.0, first_pair) (first_pair_none good (place + 9) ps h.1)

pub first_pair_all : (good : ℕ × ℕ → Bool) (place : ℕ) (ps : List (ℕ × ℕ)) → first_pair good place ps ≡ None → AllByRecursion (λ p. good p ≡ true) ps
first_pair_all good place [] e = tt
first_pair_all good place (p ∷ ps) e = let h = passed (good p) (first_pair good (place + 9) ps) place e in (h.0, first_pair_all good (place + 9) ps h.1)

all_zero_is : (bs : List ℕ) (w : ℕ) → length bs ≡ w → all_zero bs ≡ true → bs ≡ replicate w 0
all_zero_is [] zero l e = refl
all_zero_is [] (suc w) l e = absurd (omega arith)
all_zero_is (b ∷ bs) zero l e = absurd (omega arith)
all_zero_is (b ∷ bs) (suc w) l e = let h = and_true (eqb b 0) (all_zero bs) e in ap₂ ◌∷◌ (eqb-true b 0 h.0) (all_zero_is bs w (omega arith) h.1)

all_zero-replicate : (w : ℕ) → all_zero (replicate w 0) ≡ true
all_zero-replicate zero = refl
all_zero-replicate (suc w) = all_zero-replicate w

-- the tests that look at the kind, over bare numbers
number_ok : (k c : ℕ) → (k ≡ 3 → (1 ≤ c) × (c ≤ 20000)) → ((k ≡ 3 → ⊥) → c ≡ 0) → cond (eqb k 3) (leb 1 c and leb c 20000) (eqb c 0) ≡ true
number_ok k c p q = grind (arith, nat_tests)

number_says : (k c : ℕ) → cond (eqb k 3) (leb 1 c and leb c 20000) (eqb c 0) ≡ true → (k ≡ 3 → (1 ≤ c) × (c ≤ 20000)) × ((k ≡ 3 → ⊥) → c ≡ 0)
number_says k c e = (λ h. (grind (arith, nat_tests), grind (arith, nat_tests)), λ h. grind (arith, nat_tests))

count_ok : (k m u : ℕ) → (k ≡ 3 → m ≤ 1) → (k ≡ 2 → m ≡ u) → (k ≡ 1 → m ≡ 0) → (1 ≤ k) → k ≤ 3 → cond (eqb k 3) (leb m 1) (eqb m (cond (eqb k 2) u 0)) ≡ true
count_ok k m u p q r a b = grind (arith, nat_tests)

count-says : (k m u : ℕ) → cond (eqb k 3) (leb m 1) (eqb m (cond (eqb k 2) u 0)) ≡ true → (k ≡ 3 → m ≤ 1) × (k ≡ 2 → m ≡ u) × (k ≡ 1 → m ≡ 0)
count-says k m u e = (λ h. grind (arith, nat_tests), λ h. grind (arith, nat_tests), λ h. grind (arith, nat_tests))

between_ok : (a b c : ℕ) → a ≤ b → b ≤ c → (leb a b and leb b c) ≡ true
between_ok a b c p q = grind (arith, nat_tests)

pub between_says : (a b c : ℕ) → (leb a b and leb b c) ≡ true → (a ≤ b) × (b ≤ c)
between_says a b c e = (grind (arith, nat_tests), grind (arith, nat_tests))

rising_none : (n low place : ℕ) (ps : List (ℕ × ℕ)) → Rising n low ps → AllByRecursion (λ c. c.0 ≡ true) (rising_tests n low place ps)
rising_none n low place [] h = tt
rising_none n low place (p ∷ ps) h = (both_true (ltb p.0 n) (leb low p.0) (lt-ltb _ _ h.1) (le-leb _ _ h.0), rising_none n (p.0 + 1) (place + 9) ps h.2)

rising_all : (n low place : ℕ) (ps : List (ℕ × ℕ)) → AllByRecursion (λ c. c.0 ≡ true) (rising_tests n low place ps) → Rising n low ps
rising_all n low place [] h = tt
rising_all n low place (p ∷ ps) h =
    let q = and_true (ltb p.0 n) (leb low p.0) h.0 in
    (leb-true _ _ q.1, ltb-true _ _ q.0, rising_all n (p.0 + 1) (place + 9) ps h.1)

module _ (n t batches : ℕ) where
  pub record Formed (bs : List ℕ) : Type 0 where
    pub size : length bs ≡ 32 + 9 * count_of bs
    pub kinds : (1 ≤ kind_of bs) × (kind_of bs ≤ 3)
    pub sends : sender_of bs < n
    pub within : (1 ≤ batch_of bs) × (batch_of bs ≤ batches)
    pub proposal : kind_of bs ≡ 1 → (number_of bs ≡ 0) × (count_of bs ≡ 0)
    pub decision : kind_of bs ≡ 2 → (number_of bs ≡ 0) × (count_of bs ≡ t + 1)
    pub reselection : kind_of bs ≡ 3 → (1 ≤ number_of bs) × (number_of bs ≤ 20000) × (count_of bs ≤ 1)
    pub blank : kind_of bs ≡ 3 → take 16 (drop 8 bs) ≡ replicate 16 0
    pub spare : at bs 7 ≡ 0
    pub rises : Rising n 0 (pairs_of bs)

  pub formed_none : (bs : List ℕ) → Formed bs → malformed n t batches bs ≡ None
  formed_none bs f =
      let k : ℕ = kind_of bs in
      let number : (k ≡ 3 → ⊥) → number_of bs ≡ 0 =
      λ h. ⊎_elim (λ p. (f.proposal p).0) (λ p. (f.decision (omega arith)).0) (cases_eq k 1) in
      let zeros : cond (eqb k 3) (all_zero (take 16 (drop 8 bs))) true ≡ true =
      ⊎_elim
      (λ h. cond-true (eqb k 3) (all_zero (take 16 (drop 8 bs))) true (eq-eqb k 3 h) ∙ ap all_zero (f.blank h))
      (λ h. cond-false (eqb k 3) (all_zero (take 16 (drop 8 bs))) true (ne_eqb k 3 h))
      (cases_eq k 3) in
      first_fault_none (form_tests n t batches bs) (
        le-leb 32 (length bs) (omega arith),
        (
          between_ok 1 k 3 f.kinds.0 f.kinds.1,
          (
            lt-ltb (sender_of bs) n f.sends,
            (
              between_ok 1 (batch_of bs) batches f.within.0 f.within.1,
              (
                number_ok k (number_of bs) (λ h. ((f.reselection h).0, (f.reselection h).1)) number,
                (
                  count_ok k (count_of bs) (t + 1) (λ h. (f.reselection h).2) (λ h. (f.decision h).1) (λ h. (f.proposal h).1) f.kinds.0 f.kinds.1,
                  (
                    eq-eqb (at bs 7) 0 f.spare,
                    (
                      zeros,
                      (
                        eq-eqb (length bs) (32 + 9 * count_of bs) f.size,
                        rising_none n 0 32 (pairs_of bs) f.rises,
                      ),
                    ),
                  ),
                ),
              ),
            ),
          ),
        ),
      )

  pub none_formed : (bs : List ℕ) → malformed n t batches bs ≡ None → Formed bs
  none_formed bs e =
      let k : ℕ = kind_of bs in
      let h₀ = first_fault_all (form_tests n t batches bs) e in
      let h₁ = h₀.1 in
      let h₂ = h₁.1 in
      let h₃ = h₂.1 in
      let h₄ = h₃.1 in
      let h₅ = h₄.1 in
      let h₆ = h₅.1 in
      let h₇ = h₆.1 in
      let h₈ = h₇.1 in
      let number = number_says k (number_of bs) h₄.0 in
      let count = count-says k (count_of bs) (t + 1) h₅.0 in
      let size : length bs ≡ 32 + 9 * count_of bs = eqb-true (length bs) (32 + 9 * count_of bs) h₈.0 in
      record {
        size = size;
        kinds = between_says 1 k 3 h₁.0;
        sends = ltb-true (sender_of bs) n h₂.0;
        within = between_says 1 (batch_of bs) batches h₃.0;
        proposal = λ h. (number.1 (omega arith), count.2 h);
        decision = λ h. (number.1 (omega arith), count.1 h);
        reselection = λ h. ((number.0 h).0, (number.0 h).1, count.0 h);
        blank = λ h.
            all_zero_is (take 16 (drop 8 bs)) 16 (length-take-le 16 (drop 8 bs) (simp length-drop (omega arith)))
            (sym (cond-true (eqb k 3) (all_zero (take 16 (drop 8 bs))) true (eq-eqb k 3 h)) ∙ h₇.0);
        spare = eqb-true (at bs 7) 0 h₆.0;
        rises = rising_all n 0 32 (pairs_of bs) h₈.1;
      }
