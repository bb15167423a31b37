-- The lone clerk's book, that t + 1 different stations have a correct one among them, and the backers of an entry.
use Rattle.std.proofs.Common.{◌≡◌, ℕ, zero, suc, ◌+◌, ◌^◌, ◌<◌, ◌≤◌, Bool, true, false, eqb, List, [], ◌∷◌, length, get_or, take, Some, None, Option, refl, ap, ◌∙◌, subst, add-one, arith}
use Rattle.std.specs.List.{AllByRecursion}
use Rattle.std.proofs.lemmas.Bool.{eqb-true, eq-eqb, both_ways}
use Rattle.base.specs.declared.book.Batch.{Batch}
use Rattle.base.specs.declared.book.Entry.{Entry}
use Rattle.rules.specs.Clerk.{clerk_book}
use Rattle.frames.specs.Certificates.{Fits}
use Rattle.frames.specs.Frames.{◌and◌}
use Rattle.protocol.specs.declared.station.Vote.{Vote}
use Rattle.protocol.specs.Law.{Terms, clerk, Rising, works}
use Rattle.protocol.specs.Steps.{no_batch, no_entry, backers, same_entry}
use Rattle.protocol.specs.Run.{size}
use Rattle.frames.proofs.Basics.{and_true}
use Rattle.protocol.proofs.Basics.{size_more}

module _ (d : Terms) where
  -- the carry before batch k
  abbrev pub carry_at : ℕ → List Entry → ℕ → ℕ
  carry_at c K zero = c
  carry_at c K (suc k) = (get_or K k no_entry).carry

  pub clerk-lawful : (c : ℕ) (b : Batch) (bs : List Batch) → d.lawful b ≡ true → clerk d c (b ∷ bs) ≡ works d c b ∷ clerk d (works d c b).carry bs
  unfolding works
  clerk-lawful c b bs e = rw (e, clerk_book) refl

  clerk_stops : (c : ℕ) (b : Batch) (bs : List Batch) → d.lawful b ≡ false → clerk d c (b ∷ bs) ≡ []
  clerk_stops c b bs e = rw (e, clerk_book) refl

  carry_shift : (x : Entry) (K : List Entry) (k : ℕ) → carry_at x.carry K k ≡ (get_or (x ∷ K) k no_entry).carry
  carry_shift x K zero = refl
  carry_shift x K (suc k) = refl

  -- at a lawful batch behind what is booked the clerk goes on
  pub clerk_next : d.lawful no_batch ≡ false → (c : ℕ) (intake : List Batch) (k : ℕ) → k ≤ length (clerk d c intake)
      → d.lawful (get_or intake k no_batch) ≡ true
      → (k < length (clerk d c intake)) × (get_or (clerk d c intake) k no_entry ≡ works d (carry_at c (clerk d c intake) k) (get_or intake k no_batch))
  clerk_next idle c [] k h l = absurd (both_ways (d.lawful no_batch) idle l)
  clerk_next idle c (b ∷ bs) zero h l = rw (clerk-lawful c b bs l) (omega arith, refl)
  clerk_next idle c (b ∷ bs) (suc k) h l = go (d.lawful b) refl (clerk_next idle (works d c b).carry bs k)
    where
      go : (v : Bool) → d.lawful b ≡ v
          → (k ≤ length (clerk d (works d c b).carry bs) → d.lawful (get_or bs k no_batch) ≡ true
          → (k < length (clerk d (works d c b).carry bs)) × (get_or (clerk d (works d c b).carry bs) k no_entry ≡ works d (carry_at (works d c b).carry (clerk d (works d c b).carry bs) k) (get_or bs k no_batch)))
          → (suc k < length (clerk d c (b ∷ bs))) × (get_or (clerk d c (b ∷ bs)) (suc k) no_entry ≡ works d (carry_at c (clerk d c (b ∷ bs)) (suc k)) (get_or (b ∷ bs) (suc k) no_batch))
      go true e ih = rw (clerk-lawful c b bs e) (step (ih (let r = rw (clerk-lawful c b bs e) at h in omega (arith, r)) l))
        where
          step : (k < length (clerk d (works d c b).carry bs)) × (get_or (clerk d (works d c b).carry bs) k no_entry ≡ works d (carry_at (works d c b).carry (clerk d (works d c b).carry bs) k) (get_or bs k no_batch))
              → (suc k < suc (length (clerk d (works d c b).carry bs))) × (get_or (clerk d (works d c b).carry bs) k no_entry ≡ works d (get_or (works d c b ∷ clerk d (works d c b).carry bs) k no_entry).carry (get_or bs k no_batch))
          step y = (omega (arith, y.0), y.1 ∙ ap (λ (x : ℕ). works d x (get_or bs k no_batch)) (carry_shift (works d c b) (clerk d (works d c b).carry bs) k))
      go false e ih = absurd (let r = rw (clerk_stops c b bs e) at h in omega (arith, r))

  pub clerk_short : (c : ℕ) (intake : List Batch) → length (clerk d c intake) ≤ length intake
  clerk_short c [] = omega arith
  clerk_short c (b ∷ bs) = go (d.lawful b) refl (clerk_short (works d c b).carry bs)
    where
      go : (v : Bool) → d.lawful b ≡ v → length (clerk d (works d c b).carry bs) ≤ length bs → length (clerk d c (b ∷ bs)) ≤ suc (length bs)
      go true e ih = rw (clerk-lawful c b bs e) (omega arith)
      go false e ih = rw (clerk_stops c b bs e) (omega arith)

  -- the clerk's entries fit
  pub clerk-fits : ((carry : ℕ) (b : Batch) → carry < 2 ^ 32 → d.lawful b ≡ true → Fits (works d carry b)) → (c : ℕ) → c < 2 ^ 32 → (intake : List Batch) (k : ℕ)
      → k < length (clerk d c intake) → Fits (get_or (clerk d c intake) k no_entry)
  clerk-fits fits c small [] k h = absurd (omega arith)
  clerk-fits fits c small (b ∷ bs) k h = go (d.lawful b) refl k h (λ l. clerk-fits fits (works d c b).carry l bs)
    where
      go : (v : Bool) → d.lawful b ≡ v → (k : ℕ) → k < length (clerk d c (b ∷ bs))
          → ((works d c b).carry < 2 ^ 32 → (k : ℕ) → k < length (clerk d (works d c b).carry bs) → Fits (get_or (clerk d (works d c b).carry bs) k no_entry))
          → Fits (get_or (clerk d c (b ∷ bs)) k no_entry)
      go true e zero h ih = rw (clerk-lawful c b bs e) (fits c b small e)
      go true e (suc k) h ih = rw (clerk-lawful c b bs e) (ih (fits c b small e).2 k (let r = rw (clerk-lawful c b bs e) at h in omega (arith, r)))
      go false e k h ih = absurd (let r = rw (clerk_stops c b bs e) at h in omega (arith, r))

  -- one of the pairs is of a station that is not in the set
  pub outside : (s : ℕ → Bool) (low : ℕ) (ps : List (ℕ × ℕ)) → low ≤ d.n → Rising d low ps → size s d.n < length ps + size s low
      → (k : ℕ) × (k < length ps) × (s (get_or ps k (0, 0)).0 ≡ false)
  outside s low [] l r h = absurd (omega (arith, size_more s low d.n l))
  outside s low (p ∷ ps) l r h = go (s p.0) refl (outside s (p.0 + 1) ps (omega arith) r.2)
    where
      go : (v : Bool) → s p.0 ≡ v → (size s d.n < length ps + size s (p.0 + 1) → (k : ℕ) × (k < length ps) × (s (get_or ps k (0, 0)).0 ≡ false))
          → (k : ℕ) × (k < suc (length ps)) × (s (get_or (p ∷ ps) k (0, 0)).0 ≡ false)
      go false e ih = (0, omega arith, e)
      go true e ih =
          let x : size s (p.0 + 1) ≡ 1 + size s p.0 = rw (add-one, e) refl in
          let y = ih (omega (arith, x, size_more s low p.0 r.0)) in
          (suc y.0, omega (arith, y.1), y.2)

  pub rising-take : (low n : ℕ) (ps : List (ℕ × ℕ)) → Rising d low ps → Rising d low (take n ps)
  rising-take low zero ps r = tt
  rising-take low (suc n) [] r = tt
  rising-take low (suc n) (p ∷ ps) r = (r.0, r.1, rising-take (p.0 + 1) n ps r.2)

  rising_lower : (low high : ℕ) (ps : List (ℕ × ℕ)) → low ≤ high → Rising d high ps → Rising d low ps
  rising_lower low high [] h r = tt
  rising_lower low high (p ∷ ps) h r = (omega arith, r.1, r.2)

  pub same_entry_true : (a b : Entry) → same_entry a b ≡ true → a ≡ b
  unfolding same_entry
  same_entry_true a b h =
      let p = and_true (eqb a.grower b.grower) (eqb a.amount b.amount and eqb a.carry b.carry and eqb a.figure b.figure) h in
      let q = and_true (eqb a.amount b.amount) (eqb a.carry b.carry and eqb a.figure b.figure) p.1 in
      let r = and_true (eqb a.carry b.carry) (eqb a.figure b.figure) q.1 in
      λ i. record {
        grower = eqb-true a.grower b.grower p.0 i;
        amount = eqb-true a.amount b.amount q.0 i;
        carry = eqb-true a.carry b.carry r.0 i;
        figure = eqb-true a.figure b.figure r.1 i;
      }

  pub same_entry_refl : (a : Entry) → same_entry a a ≡ true
  unfolding same_entry
  same_entry_refl a = simp (eq-eqb a.grower a.grower refl, eq-eqb a.amount a.amount refl, eq-eqb a.carry a.carry refl, eq-eqb a.figure a.figure refl)

  -- a vote among the first n
  pub take_vote : (n : ℕ) (vs : List (Option Vote)) (k : ℕ) (v : Vote) → get_or (take n vs) k None ≡ Some v → get_or vs k None ≡ Some v
  take_vote zero vs k v e = absurd (let z : ◌≡◌ {A = ℕ} 0 1 = cc in omega arith)
  take_vote (suc n) [] k v e = e
  take_vote (suc n) (o ∷ vs) zero v e = e
  take_vote (suc n) (o ∷ vs) (suc k) v e = take_vote n vs k v e

  -- what holds of every vote for e holds of each backer, and they rise
  backers_none : (e : Entry) (q : ℕ) (v : Vote) (vs : List (Option Vote)) → same_entry v.entry e ≡ false → backers e q (Some v ∷ vs) ≡ backers e (q + 1) vs
  unfolding backers
  backers_none e q v vs h = rw (h, backers) refl

  backers-some : (e : Entry) (q : ℕ) (v : Vote) (vs : List (Option Vote)) → same_entry v.entry e ≡ true → backers e q (Some v ∷ vs) ≡ (q, v.tag) ∷ backers e (q + 1) vs
  unfolding backers
  backers-some e q v vs h = rw (h, backers) refl

  abbrev Backs : (ℕ → Vote → Type 0) → ℕ × ℕ → Type 0
  Backs P p = (v : Vote) × (p.1 ≡ v.tag) × P p.0 v

  pub backers_each : (P : ℕ → Vote → Type 0) (e : Entry) (q : ℕ) (vs : List (Option Vote))
      → ((k : ℕ) (v : Vote) → get_or vs k None ≡ Some v → v.entry ≡ e → P (q + k) v)
      → AllByRecursion (λ p. (v : Vote) × (p.1 ≡ v.tag) × P p.0 v) (backers e q vs)
  unfolding backers
  backers_each P e q [] h = tt
  backers_each P e q (None ∷ vs) h = backers_each P e (q + 1) vs (λ k v x y. subst (λ (j : ℕ). P j v) (omega arith) (h (suc k) v x y))
  backers_each P e q (Some v ∷ vs) h = go (same_entry v.entry e) refl (backers_each P e (q + 1) vs (λ k u x y. subst (λ (j : ℕ). P j u) (omega arith) (h (suc k) u x y)))
    where
      go : (b : Bool) → same_entry v.entry e ≡ b → AllByRecursion (Backs P) (backers e (q + 1) vs) → AllByRecursion (Backs P) (backers e q (Some v ∷ vs))
      go true x ih = rw (backers-some e q v vs x) ((v, refl, subst (λ (j : ℕ). P j v) (omega arith) (h 0 v refl (same_entry_true v.entry e x))), ih)
      go false x ih = rw (backers_none e q v vs x) ih

  pub backers_rise : (e : Entry) (q : ℕ) (vs : List (Option Vote)) → ((k : ℕ) (v : Vote) → get_or vs k None ≡ Some v → q + k < d.n)
      → Rising d q (backers e q vs)
  unfolding backers
  backers_rise e q [] h = tt
  backers_rise e q (None ∷ vs) h = rising_lower q (q + 1) (backers e (q + 1) vs) (omega arith) (backers_rise e (q + 1) vs (λ k v x. omega (arith, h (suc k) v x)))
  backers_rise e q (Some v ∷ vs) h = go (same_entry v.entry e) refl (backers_rise e (q + 1) vs (λ k u x. omega (arith, h (suc k) u x)))
    where
      go : (b : Bool) → same_entry v.entry e ≡ b → Rising d (q + 1) (backers e (q + 1) vs) → Rising d q (backers e q (Some v ∷ vs))
      go true x ih = rw (backers-some e q v vs x) (omega arith, omega (arith, h 0 v refl), ih)
      go false x ih = rw (backers_none e q v vs x) (rising_lower q (q + 1) (backers e (q + 1) vs) (omega arith) ih)
