-- Full rounds in a row let every correct station book the batch.
use Rattle.std.proofs.Common.{◌≡◌, ℕ, ◌+◌, ◌-◌, ◌<◌, ◌≤◌, Bool, true, false, not, leb, ◌⊎◌, List, [], ◌∷◌, ◌++◌, Err, sym, refl, ap, ◌∙◌, subst, subst₂, inl, inr, arith}
use Rattle.std.proofs.lemmas.Bool.{leb-true, leb-false, not-true, both_ways, cases_lt}
use Rattle.base.specs.declared.book.Batch.{Batch}
use Rattle.frames.specs.Frames.{◌and◌}
use Rattle.protocol.specs.Law.{Terms, Correct, Event, History, opened_by, booked_by, committee_of, Full, Rounds, IsAtWork, Sound}
use Rattle.protocol.specs.Steps.{World, station_at, at_work, act}
use Rattle.frames.proofs.Basics.{and_true}
use Rattle.protocol.proofs.Usable.{Usable, Begun, Played, begun, acted, barred}
use Rattle.protocol.proofs.Basics.{search_below}
use Rattle.protocol.proofs.History.{Rung, LeftForCause, Inv, Next, refused_keeps, event_head, event_tail}
use Rattle.protocol.proofs.Ready.{Trail}
use Rattle.protocol.proofs.Calls.{call_keeps}
use Rattle.protocol.proofs.Runs.{run_inv}
use Rattle.protocol.proofs.Onward.{inv_of, rung_round, at-batch, Since, Onward, left_number, since_of, opened_up, OneCall, rounds_rule}
use Rattle.protocol.proofs.Rounds.{round_moves, round_finishes, round_decides}

module _ (d : Terms) (intake : List Batch) (law : Usable d) (start : World) (new : Begun d intake start) where
  -- a run taken apart
  record Peeled (e : Event) (h : History) (w : World) : Type 0 where
    from : World
    run : Played d intake start h from
    call : OneCall d intake from e w
    next : Next d intake h from e w

  peel : (h : History) (w : World) → Played d intake start h w → (e : Event) (h' : History) → h ≡ e ∷ h' → Peeled e h' w
  unfolding event_head event_tail
  peel h w begun e h' q = absurd (let z : ◌≡◌ {A = ℕ} 0 1 = cc in omega arith)
  peel h w (acted {h = h₁} {w = w₁} r c) e h' q =
      let inv = run_inv d intake law start new h₁ w₁ r in
      let x : Event = record { call = c; answer = (act d intake c w₁).1; pool = (act d intake c w₁).0.pool } in
      let p : x ≡ e = ap (event_head e) q in
      let t : h₁ ≡ h' = ap event_tail q in
      subst₂ (λ (a : Event) (b : History). Peeled a b (act d intake c w₁).0) p t
      (record { from = w₁; run = r; call = inl (c, refl, refl); next = call_keeps d intake law new.intake_size inv c })
  peel h w (barred {h = h₁} {w = w₁} r c x o) e h' q =
      let inv = run_inv d intake law start new h₁ w₁ r in
      let y : Event = record { call = c; answer = Err x; pool = w₁.pool } in
      let p : y ≡ e = ap (event_head e) q in
      let t : h₁ ≡ h' = ap event_tail q in
      subst₂ (λ (a : Event) (b : History). Peeled a b w₁) p t
      (record { from = w₁; run = r; call = inr (x, refl, o); next = refused_keeps d intake inv c x })

  split : (r h₀ : History) (w : World) → Played d intake start (r ++ h₀) w → (w₀ : World) × Played d intake start h₀ w₀ × Onward d intake h₀ w₀ r w
  split [] h₀ w run = (w, run, refl)
  split (e ∷ r) h₀ w run =
      let p = peel (e ∷ (r ++ h₀)) w run e (r ++ h₀) refl in
      let s = split r h₀ p.from p.run in
      (s.0, s.1, (p.from, s.2, p.call, p.next))

  -- all rounds
  module _ (b c lag : ℕ) (sound : Sound d c) where
    record Behind (k : ℕ) (h : History) : Type 0 where
      working : (i : ℕ) → Correct d i → (opened_by i h ≡ b) × (booked_by i h < b)
      upper : (i : ℕ) → Correct d i → committee_of i h ≤ c
      lower : (i : ℕ) → Correct d i → c + k ≤ committee_of i h + lag
      no_ring : (i : ℕ) → Correct d i → Rung i c b h → ⊥
      top : (j : ℕ) × Correct d j × (c ≤ committee_of j h)

    abbrev Booker : History → Type 0
    Booker h = (j : ℕ) × Correct d j × (b ≤ booked_by j h)

    abbrev State : ℕ → History → Type 0
    State k h = Booker h ⊎ Behind k h

    -- some correct station has booked the batch, or none has
    booker : (h : History) → Booker h ⊎ ((i : ℕ) → Correct d i → booked_by i h < b)
    booker h = go (search_below (λ i. not (d.faulty i) and leb b (booked_by i h)) d.n)
      where
        go : ((i : ℕ) × (i < d.n) × ((not (d.faulty i) and leb b (booked_by i h)) ≡ true)) ⊎ ((i : ℕ) → i < d.n → (not (d.faulty i) and leb b (booked_by i h)) ≡ false) → Booker h ⊎ ((i : ℕ) → Correct d i → booked_by i h < b)
        go (inl x) = let y = and_true (not (d.faulty x.0)) (leb b (booked_by x.0 h)) x.2 in inl (x.0, (x.1, not-true (d.faulty x.0) y.0), leb-true b (booked_by x.0 h) y.1)
        go (inr f) = inr (λ i co. leb-false b (booked_by i h) (second (d.faulty i) (leb b (booked_by i h)) co.1 (f i co.0)))
          where
            second : (x y : Bool) → x ≡ false → (not x and y) ≡ false → y ≡ false
            second true y p q = absurd (both_ways true p refl)
            second false y p q = q

    upper_bound : {h : History} {w : World} → Inv d intake h w → ((i : ℕ) → Correct d i → Rung i c b h → ⊥) → (i : ℕ) → Correct d i → opened_by i h ≡ b → committee_of i h ≤ c
    upper_bound {h} {w} inv nr i co op = go (cases_lt c (committee_of i h))
      where
        no_excuse : LeftForCause d intake c b h → ⊥
        no_excuse (inl x) = both_ways (d.faulty x.0) (sound x.0 x.1 x.2) x.3
        no_excuse (inr x) = nr x.0 x.1 x.3

        go : (c < committee_of i h) ⊎ (committee_of i h ≤ c) → committee_of i h ≤ c
        go (inr l) = l
        go (inl l) = absurd (no_excuse (subst (λ (k : ℕ). LeftForCause d intake c k h) (sym (inv.counted i co).opened_is ∙ op) ((inv.safe.fine i co).batch_work.excuses c (omega (arith, l, (inv.counted i co).number_is)))))

    abbrev Goal : History → Type 0
    Goal h = (i : ℕ) → Correct d i → b ≤ booked_by i h

    module _ (some : 1 ≤ b) (r h : History) (round : Full d r h) (w₀ w : World) (run : Played d intake start h w₀) (on : Onward d intake h w₀ r w) (open_all : (i : ℕ) → Correct d i → b ≤ opened_by i h) where
      inv₀ : Inv d intake h w₀
      inv₀ = run_inv d intake law start new h w₀ run

      all_book : Booker h → Goal (r ++ h)
      all_book x i co =
          let z : b - 1 + 1 ≡ b = omega arith in
          omega (arith, some, round_decides d intake law new.intake_size h w₀ inv₀ r w on round x.0 (b - 1) x.1 (omega (arith, some, x.2)) i co (omega (arith, z, open_all i co)))

      next_state : (k : ℕ) → k < lag → Behind k h → State (k + 1) (r ++ h)
      next_state k low be = go (booker (r ++ h))
        where
          inv₁ : Inv d intake (r ++ h) w
          inv₁ = inv_of d intake h w₀ inv₀ r w on

          since : Since d intake h w₀ (r ++ h) w
          since = since_of d intake h w₀ r w on

          go : Booker (r ++ h) ⊎ ((i : ℕ) → Correct d i → booked_by i (r ++ h) < b) → State (k + 1) (r ++ h)
          go (inl x) = inl x
          go (inr f) = inr (record {
            working = λ i co. ((work i co).2, f i co);
            upper = λ i co. upper_bound inv₁ nr i co (work i co).2;
            lower = low-bound;
            no_ring = nr;
            top = (be.top.0, be.top.1, omega (arith, be.top.2, since.number_up be.top.0 ((work be.top.0 be.top.1).2 ∙ sym (be.working be.top.0 be.top.1).0)));
          })
            where
              work : (i : ℕ) → Correct d i → (at_work d (station_at w i) ≡ true) × ((station_at w i).booked + 1 ≡ b) × (opened_by i (r ++ h) ≡ b)
              work i co = at-batch d intake inv₁ i co b (omega (arith, open_all i co, since.opened_up i)) (f i co)

              nr : (i : ℕ) → Correct d i → Rung i c b (r ++ h) → ⊥
              nr i co o = be.no_ring i co (rung_round i c b r h round.calm o)

              low-bound : (i : ℕ) → Correct d i → c + (k + 1) ≤ committee_of i (r ++ h) + lag
              low-bound i co = cases (cases_lt (committee_of i h) c)
                where
                  up : committee_of i h ≤ committee_of i (r ++ h)
                  up = since.number_up i ((work i co).2 ∙ sym (be.working i co).0)

                  j : ℕ
                  j = be.top.0

                  cj : Correct d j
                  cj = be.top.1

                  aj : (at_work d (station_at w₀ j) ≡ true) × ((station_at w₀ j).booked + 1 ≡ b) × (opened_by j h ≡ b)
                  aj = at-batch d intake inv₀ j cj b (open_all j cj) (be.working j cj).1

                  trail : committee_of i h < c → Trail d intake b (committee_of i h) h w₀.pool
                  trail l = subst (λ (x : ℕ). Trail d intake x (committee_of i h) h w₀.pool) aj.1
                      (inv₀.trail j cj aj.0 (committee_of i h) (omega (arith, l, be.top.2, (inv₀.counted j cj).number_is)))

                  cases : (committee_of i h < c) ⊎ (c ≤ committee_of i h) → c + (k + 1) ≤ committee_of i (r ++ h) + lag
                  cases (inl l) = omega (arith, be.lower i co, round_moves d intake law new.intake_size h w₀ inv₀ r w on round b (committee_of i h) (trail l) i co (be.working i co).0 (omega arith) (f i co))
                  cases (inr l) = omega (arith, l, up, low)

      finish : Behind lag h → Goal (r ++ h)
      finish be i co = round_finishes d intake law new.intake_size h w₀ inv₀ r w on round b c sound
          (λ j cj. ((be.working j cj).0, (be.working j cj).1, omega (arith, be.lower j cj, be.upper j cj))) i co

    pub rounds_book : (before h : History) (w : World) → Played d intake start h w → 1 ≤ b
        → ((i : ℕ) → Correct d i → b ≤ opened_by i before)
        → ((j : ℕ) × Correct d j × (c ≤ committee_of j before))
        → ((i : ℕ) → IsAtWork d i b before → committee_of i before ≤ c)
        → ((i : ℕ) → IsAtWork d i b before → c ≤ committee_of i before + lag)
        → Rounds d (lag + 1) before h → Goal h
    rounds_book before h w run some open_all top upper lower rs = (rounds_rule d P (lag + 1) before h rs base step w run).2 refl
      where
        P : ℕ → History → Type 0
        P k h = (w : World) → Played d intake start h w → ((i : ℕ) → Correct d i → b ≤ opened_by i h) × (k ≤ lag → State k h) × (k ≡ lag + 1 → Goal h)

        base : P 0 before
        base v rv = (open_all, (λ _. go (booker before)), (λ z. absurd (omega arith)))
          where
            inv : Inv d intake before v
            inv = run_inv d intake law start new before v rv

            go : Booker before ⊎ ((i : ℕ) → Correct d i → booked_by i before < b) → State 0 before
            go (inl x) = inl x
            go (inr f) = inr (record {
              working = λ i co. ((work i co).1, (work i co).2);
              upper = λ i co. upper i (work i co);
              lower = λ i co. omega (arith, lower i (work i co));
              no_ring = λ i co o. alone i co o;
              top = top;
            })
              where
                work : (i : ℕ) → Correct d i → IsAtWork d i b before
                work i co = (co, (at-batch d intake inv i co b (open_all i co) (f i co)).2, f i co)

                alone : (i : ℕ) → Correct d i → Rung i c b before → ⊥
                alone i co o =
                    let q : opened_by i (o.0 ++ o.1 ∷ o.2) ≡ b = subst (λ (x : History). opened_by i x ≡ b) o.3 (work i co).1 in
                    let n : c < committee_of i before = subst (λ (x : History). c < committee_of i x) (sym o.3) (left_number i c b o.0 o.1 o.2 o.4.1 o.4.2 o.4.3 q) in
                    omega (arith, n, upper i (work i co))

        step : (k : ℕ) (r h' : History) → P k h' → Full d r h' → P (k + 1) (r ++ h')
        step k r h' p full v rv = go (split r h' v rv)
          where
            go : (w₀ : World) × Played d intake start h' w₀ × Onward d intake h' w₀ r v
                → ((i : ℕ) → Correct d i → b ≤ opened_by i (r ++ h')) × (k + 1 ≤ lag → State (k + 1) (r ++ h')) × (k + 1 ≡ lag + 1 → Goal (r ++ h'))
            go s = (
              (λ i co. omega (arith, (p s.0 s.1).0 i co, opened_up i r h')),
              (λ l. carry l ((p s.0 s.1).1 (omega arith))),
              (λ l. done (omega arith) ((p s.0 s.1).1 (omega arith))),
            )
              where
                carry : k + 1 ≤ lag → State k h' → State (k + 1) (r ++ h')
                carry l (inl x) = inl (x.0, x.1, all_book some r h' full s.0 v s.1 s.2 (p s.0 s.1).0 x x.0 x.1)
                carry l (inr be) = next_state some r h' full s.0 v s.1 s.2 (p s.0 s.1).0 k (omega arith) be

                done : k ≡ lag → State k h' → Goal (r ++ h')
                done e (inl x) = all_book some r h' full s.0 v s.1 s.2 (p s.0 s.1).0 x
                done e (inr be) = finish some r h' full s.0 v s.1 s.2 (p s.0 s.1).0 (subst (λ (n : ℕ). Behind n h') e be)
