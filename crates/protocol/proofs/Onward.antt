-- What lies between two points of a run: counts and votes grow, and a call can be found again.
use Rattle.std.proofs.Common.{◌≡◌, ℕ, ◌+◌, ◌<◌, ◌≤◌, Bool, true, false, cond, ◌⊎◌, List, [], ◌∷◌, ◌++◌, length, get_or, None, Err, sym, refl, ap, ◌∙◌, subst, subst₂, arith}
use Rattle.std.specs.List.{AllByRecursion}
use Rattle.std.proofs.lemmas.Bool.{both_ways}
use Rattle.base.specs.declared.book.Batch.{Batch}
use Rattle.base.specs.declared.fault.Fault.{Fault}
use Rattle.base.specs.Refusals.{number_of}
use Rattle.protocol.specs.Law.{Terms, Correct, Call, Event, History, is_ringing, opens, rings, opened_by, booked_by, committee_of, Calm, Full, Rounds, none, more, has_reselected, marks}
use Rattle.protocol.specs.Steps.{World, station_at, at_work, malformed, act, held}
use Rattle.frames.proofs.Slots.{Grows, grows_refl, grows_trans}
use Rattle.protocol.proofs.Safe.{current}
use Rattle.protocol.proofs.History.{Rung, Inv, Next, CarriesOn, event_head, event_tail}

-- how counts grow

pub opened_more : (i : ℕ) (e : Event) (h : History) → opened_by i h ≤ opened_by i (e ∷ h)
opened_more i e h = omega arith

pub booked_more : (i : ℕ) (e : Event) (h : History) → booked_by i h ≤ booked_by i (e ∷ h)
booked_more i e h = omega arith

pub number_more : (i : ℕ) (e : Event) (h : History) → opened_by i (e ∷ h) ≡ opened_by i h → committee_of i (e ∷ h) ≡ cond (marks has_reselected i e) 1 0 + committee_of i h
number_more i e h same = go (opens i e) refl
  where
    go : (b : Bool) → opens i e ≡ b → committee_of i (e ∷ h) ≡ cond (marks has_reselected i e) 1 0 + committee_of i h
    go true z = absurd (let y : 1 + opened_by i h ≡ opened_by i h = rw z at same in omega arith)
    go false z = rw (z, committee_of) refl

-- histories in which nobody rings

pub opened_up : (i : ℕ) (later h : History) → opened_by i h ≤ opened_by i (later ++ h)
opened_up i [] h = omega arith
opened_up i (e ∷ later) h = omega (arith, opened_up i later h, opened_more i e (later ++ h))

pub left_number : (i c b : ℕ) (later : History) (e : Event) (before : History) → marks has_reselected i e ≡ true → committee_of i before ≡ c → opened_by i before ≡ b → opened_by i (later ++ e ∷ before) ≡ b
    → c < committee_of i (later ++ e ∷ before)
left_number i c b [] e before m n o q =
    let x = number_more i e before (q ∙ sym o) in
    let z : ◌≡◌ {A = ℕ} (cond (marks has_reselected i e) 1 0) 1 = rw m refl in
    omega (arith, x, z)
left_number i c b (y ∷ later) e before m n o q =
    let lo : opened_by i before ≤ opened_by i (later ++ e ∷ before) = omega (arith, opened_more i e before, opened_up i later (e ∷ before)) in
    let s : opened_by i (y ∷ (later ++ e ∷ before)) ≡ opened_by i (later ++ e ∷ before) = omega (arith, lo, opened_more i y (later ++ e ∷ before)) in
    omega (arith, left_number i c b later e before m n o (omega arith), number_more i y (later ++ e ∷ before) s)

pub rung_round : (i c b : ℕ) (r h₀ : History) → AllByRecursion Calm r → Rung i c b (r ++ h₀) → Rung i c b h₀
unfolding event_head event_tail
rung_round i c b [] h₀ calm o = o
rung_round i c b (x ∷ r) h₀ calm o = go o.0 o.1 o.2 o.3 o.4 (rung_round i c b r h₀ calm.1)
  where
    go : (later : History) (e : Event) (before : History) → x ∷ (r ++ h₀) ≡ later ++ e ∷ before
        → (rings i e ≡ true) × (marks has_reselected i e ≡ true) × (committee_of i before ≡ c) × (opened_by i before ≡ b) → (Rung i c b (r ++ h₀) → Rung i c b h₀) → Rung i c b h₀
    go [] e before q p ih =
        let s : is_ringing e.call ≡ false = ap (λ (y : Event). is_ringing y.call) (sym (ap (event_head x) q)) ∙ calm.0.no_ring in
        let z : rings i e ≡ false = rw s refl in
        absurd (both_ways (rings i e) z p.0)
    go (y ∷ later) e before q p ih = ih (later, e, before, ap event_tail q, p)

pub calm_at : (r : History) → AllByRecursion Calm r → (later : History) (e : Event) (before : History) → r ≡ later ++ e ∷ before → Calm e
unfolding event_head event_tail
calm_at [] a [] e before q = absurd (let z : ◌≡◌ {A = ℕ} 0 1 = cc in omega arith)
calm_at [] a (x ∷ later) e before q = absurd (let z : ◌≡◌ {A = ℕ} 0 1 = cc in omega arith)
calm_at (y ∷ r) a [] e before q = subst (Calm) (ap (event_head y) q) a.0
calm_at (y ∷ r) a (x ∷ later) e before q = calm_at r a.1 later e before (ap event_tail q)

module _ (d : Terms) where
  -- over rounds in a row
  pub rounds_rule : (P : ℕ → History → Type 0) (k : ℕ) (h h' : History) → Rounds d k h h' → P 0 h → ((k : ℕ) (r h' : History) → P k h' → Full d r h' → P (k + 1) (r ++ h')) → P k h'
  rounds_rule P k h h' none z s = z
  rounds_rule P k h h' (more {k = j} {h' = h₁} r rs full) z s = s j r h₁ (rounds_rule P j h h₁ rs z s) full

  pub formed_some : (bs : List ℕ) → malformed d bs ≡ None → 1 ≤ length bs
  formed_some [] h = absurd (let z : ◌≡◌ {A = ℕ} 0 1 = cc in omega arith)
  formed_some (x ∷ bs) h = omega arith

module _ (d : Terms) (intake : List Batch) where
  -- one call of a run
  abbrev pub OneCall : World → Event → World → Type 0
  OneCall v e w =
      ((c : Call) × (e ≡ record { call = c; answer = (act d intake c v).1; pool = (act d intake c v).0.pool }) × (w ≡ (act d intake c v).0))
      ⊎ ((x : Fault) × (e.answer ≡ Err x) × ((number_of x.refusal ≡ 6) ⊎ (number_of x.refusal ≡ 7)))

  -- from the world after h₀ on, over the calls of a list
  abbrev pub Onward : History → World → History → World → Type 0
  Onward h₀ w₀ [] w = w₀ ≡ w
  Onward h₀ w₀ (e ∷ r) w = (v : World) × Onward h₀ w₀ r v × OneCall v e w × Next d intake (r ++ h₀) v e w

  -- what stays between two points of a run
  pub record Since (h₀ : History) (w₀ : World) (h : History) (w : World) : Type 0 where
    pub grows : Grows w₀.pool w.pool
    pub opened_up : (i : ℕ) → opened_by i h₀ ≤ opened_by i h
    pub booked_up : (i : ℕ) → booked_by i h₀ ≤ booked_by i h
    pub number_up : (i : ℕ) → opened_by i h ≡ opened_by i h₀ → committee_of i h₀ ≤ committee_of i h
    pub held_on : (i : ℕ) → Correct d i → opened_by i h ≡ opened_by i h₀ → (q : ℕ) → held (get_or (station_at w₀ i).votes q None) ≡ true → held (get_or (station_at w i).votes q None) ≡ true

  pub since_refl : (h : History) (w : World) → Since h w h w
  since_refl h w = record { grows = grows_refl w.pool; opened_up = λ i. omega arith; booked_up = λ i. omega arith; number_up = λ i z. omega arith; held_on = λ i c z q x. x }

  pub since_step : {h₀ h : History} {w₀ v w : World} (e : Event) → Since h₀ w₀ h v → CarriesOn d intake h v e w → Since h₀ w₀ (e ∷ h) w
  since_step {h₀} {h} e s n = record {
    grows = grows_trans s.grows n.grows;
    opened_up = λ i. omega (arith, s.opened_up i, opened_more i e h);
    booked_up = λ i. omega (arith, s.booked_up i, booked_more i e h);
    number_up = λ i z.
        let y : opened_by i (e ∷ h) ≡ opened_by i h = omega (arith, z, s.opened_up i, opened_more i e h) in
        omega (arith, number_more i e h y, s.number_up i (omega (arith, z, y)));
    held_on = λ i c z q x.
        let y : opened_by i (e ∷ h) ≡ opened_by i h = omega (arith, z, s.opened_up i, opened_more i e h) in
        n.held_on i c y q (s.held_on i c (omega (arith, z, y)) q x);
  }

  pub since_of : (h₀ : History) (w₀ : World) (r : History) (w : World) → Onward h₀ w₀ r w → Since h₀ w₀ (r ++ h₀) w
  since_of h₀ w₀ [] w o = subst (λ (v : World). Since h₀ w₀ h₀ v) o (since_refl h₀ w₀)
  since_of h₀ w₀ (e ∷ r) w o = since_step e (since_of h₀ w₀ r o.0 o.1) o.3.1

  pub inv_of : (h₀ : History) (w₀ : World) → Inv d intake h₀ w₀ → (r : History) (w : World) → Onward h₀ w₀ r w → Inv d intake (r ++ h₀) w
  inv_of h₀ w₀ i [] w o = subst (λ (v : World). Inv d intake h₀ v) o i
  inv_of h₀ w₀ i (e ∷ r) w o = o.3.0

  -- a call inside the list
  pub record Inside (h₀ : History) (w₀ : World) (h : History) (w : World) (e : Event) (before : History) : Type 0 where
    pub from : World
    pub to : World
    pub first : Onward h₀ w₀ before from
    pub call : OneCall from e to
    pub next : Next d intake (before ++ h₀) from e to
    pub rest : Since (e ∷ (before ++ h₀)) to h w

  pub inside_of : (h₀ : History) (w₀ : World) (r : History) (w : World) → Onward h₀ w₀ r w → (later : History) (e : Event) (before : History) → r ≡ later ++ e ∷ before → Inside h₀ w₀ (r ++ h₀) w e before
  unfolding event_head event_tail
  inside_of h₀ w₀ [] w o [] e before q = absurd (let z : ◌≡◌ {A = ℕ} 0 1 = cc in omega arith)
  inside_of h₀ w₀ [] w o (x ∷ later) e before q = absurd (let z : ◌≡◌ {A = ℕ} 0 1 = cc in omega arith)
  inside_of h₀ w₀ (y ∷ r) w o [] e before q =
      subst₂ (λ (a : Event) (b : History). Inside h₀ w₀ (y ∷ (r ++ h₀)) w a b) (ap (event_head y) q) (ap event_tail q)
      (record { from = o.0; to = w; first = o.1; call = o.2; next = o.3; rest = since_refl (y ∷ (r ++ h₀)) w })
  inside_of h₀ w₀ (y ∷ r) w o (x ∷ later) e before q =
      let a = inside_of h₀ w₀ r o.0 o.1 later e before (ap event_tail q) in
      record { from = a.from; to = a.to; first = a.first; call = a.call; next = a.next; rest = since_step y a.rest o.3.1 }

  -- a station that has opened batch b and not booked it works on it
  pub at-batch : {h : History} {w : World} → Inv d intake h w → (i : ℕ) → Correct d i → (b : ℕ) → b ≤ opened_by i h → booked_by i h < b
      → (at_work d (station_at w i) ≡ true) × ((station_at w i).booked + 1 ≡ b) × (opened_by i h ≡ b)
  at-batch {h} {w} inv i co b lo hi = go (d.lawful (station_at w i).work) refl
    where
      go : (v : Bool) → d.lawful (station_at w i).work ≡ v → (at_work d (station_at w i) ≡ true) × ((station_at w i).booked + 1 ≡ b) × (opened_by i h ≡ b)
      go true e =
          let x : current d intake (station_at w i) ≡ (station_at w i).booked + 1 = rw e refl in
          (e, omega (arith, x, (inv.counted i co).opened_is, (inv.counted i co).booked_is), omega (arith, x, (inv.counted i co).opened_is, (inv.counted i co).booked_is))
      go false e =
          let x : current d intake (station_at w i) ≡ (station_at w i).booked = rw e refl in
          absurd (omega (arith, x, (inv.counted i co).opened_is, (inv.counted i co).booked_is))
