-- The claim: a hall of lawful terms keeps the law over every list of calls.
use Rattle.std.proofs.Common.{◌≡◌, ℕ, ◌+◌, ◌*◌, ◌^◌, ◌<◌, ◌≤◌, Bool, true, false, List, ◌∷◌, length, Err, sym, refl, ap, ◌∙◌, subst, subst₂, arith}
use Rattle.std.specs.List.{AllByRecursion}
use Rattle.std.proofs.lemmas.Bool.{eq-eqb, both_ways}
use Rattle.base.specs.declared.book.Batch.{Batch}
use Rattle.base.specs.declared.fault.Fault.{Fault}
use Rattle.frames.specs.Certificates.{Fits}
use Rattle.protocol.specs.Law.{Terms, Call, History, works, SoundInTurn, Law}
use Rattle.protocol.specs.Steps.{World, Acted, act, in_range, fitting, whole_call}
use Rattle.protocol.specs.Run.{size, Lawful, Empty, New, Run, fresh, called, strayed, Agreement}
use Rattle.protocol.proofs.Usable.{Usable, Begun, Played, begun, acted, barred}
use Rattle.protocol.proofs.Rules.{reaches, refused_6, refused_7}
use Rattle.protocol.proofs.History.{Inv}
use Rattle.protocol.proofs.Calls.{call_keeps}
use Rattle.protocol.proofs.Runs.{run_inv, one_book, true_certificates, booked_certified}
use Rattle.protocol.proofs.Progress.{rounds_book}
use Rattle.protocol.proofs.Refusing.{Refused, refusals_law}
use Rattle.protocol.proofs.Passed.{ranged, fitted}

-- where calls are not refused 6 or 7
played_law : (d : Terms) → Usable d → SoundInTurn d → (intake : List Batch) (start : World) → Begun d intake start
    → (h : History) (w : World) → Played d intake start h w → Law d intake w.books h
played_law d law sound_turn intake start new h w run =
    let inv = run_inv d intake law start new h w run in
    record {
      one_book = one_book d intake law new.intake_size h w inv;
      true_certificates = true_certificates d intake law new.intake_size h w inv;
      booked_certified = booked_certified d intake law new.intake_size h w inv;
      sound_in_turn = sound_turn;
      booked_in_rounds = λ b c lag before open_all behind sound rs.
          let (low, high, least, lag_is) = behind in
          let top = high.reached in
          rounds_book d intake law start new b c lag sound before h w run (omega (arith, top.1.2)) open_all
          (top.0, top.1.0, omega (arith, top.2)) high.bounds (λ i at. omega (arith, least.bounds i at)) rs;
      lazy = inv.lazy;
    }

module _ (d : Terms) (intake : List Batch) where
  fits_still : (w v : World) → fitting d intake w ≡ true → length v.pool ≡ length w.pool → length v.books ≡ d.n * d.batches → fitting d intake v ≡ true
  unfolding fitting
  fits_still w v e p q = let s = fitted d intake w e in rw (eq-eqb (length intake) d.batches s.intake_places, eq-eqb (length v.pool) d.slots (p ∙ s.pool_places), eq-eqb (length v.books) (d.n * d.batches) q) refl

  module _ (law : Lawful d) (start : World) (new : New d start) where
    -- a committee without a faulty member comes in every turn
    sound_in_turn : SoundInTurn d
    sound_in_turn a l =
        let x = law.covers d.faulty (subst₂ (λ (n t : ℕ). size d.faulty n ≤ t) (sym new.one_n) (sym new.one_t) law.few_faulty) a l in
        (x.0, x.1, x.2, λ i small. x.3 i (omega (arith, new.one_n)))

    fit_entry : (carry : ℕ) (b : Batch) → carry < 2 ^ 32 → d.lawful b ≡ true → Fits (works d carry b)
    unfolding works
    fit_entry carry b small l = let o = law.fits carry b small l in (law.growers b l, o.0, o.2, o.1)

    usable : in_range d ≡ true → Usable d
    usable a = record {
      some_fault = law.some_fault;
      majority = law.majority;
      few_stations = law.few_stations;
      few_faulty = law.few_faulty;
      few_batches = (ranged d a).few_batches;
      full = λ c l. subst₂ (λ (n t : ℕ). size (d.seats c) n ≡ t + 1) new.one_n new.one_t (law.full c l);
      never_idle = law.never_idle;
      fits = fit_entry;
      tags = law.tags;
    }

    -- a run in which the buffers fit is one of `act`
    module _ (a : in_range d ≡ true) (b : fitting d intake start ≡ true) where
      starts : Begun d intake start
      starts = let s = fitted d intake start b in record { idle = new.idle; empty = new.empty; intake_size = s.intake_places; book_size = s.book_places }

      plays : (h : History) (w : World) → Run d intake start h w → Played d intake start h w × (fitting d intake w ≡ true)
      plays h w fresh = (begun, b)
      plays h w (called {h = h₀} {w = w₀} r c) = step (plays h₀ w₀ r)
        where
          step : Played d intake start h₀ w₀ × (fitting d intake w₀ ≡ true)
              → Played d intake start (record { call = c; answer = (whole_call d intake c w₀).1; pool = (whole_call d intake c w₀).0.pool } ∷ h₀) (whole_call d intake c w₀).0
              × (fitting d intake (whole_call d intake c w₀).0 ≡ true)
          step y =
              let next = call_keeps d intake (usable a) starts.intake_size (run_inv d intake (usable a) start starts h₀ w₀ y.0) c in
              subst (λ (x : Acted). Played d intake start (record { call = c; answer = x.1; pool = x.0.pool } ∷ h₀) x.0 × (fitting d intake x.0 ≡ true))
              (sym (reaches d intake c w₀ a y.1))
              (acted y.0 c, fits_still w₀ (act d intake c w₀).0 y.1 next.1.grows.size next.0.safe.books)
      plays h w (strayed {h = h₀} {w = w₀} r c other v x s q o) = let y = plays h₀ w₀ r in (barred y.0 c x o, y.1)

    -- a run in which every call is refused 6 or 7
    module _ (stops : (c : Call) → (x : Fault) × (whole_call d intake c start ≡ (start, Err x))) where
      all_refused : (h : History) (w : World) → Run d intake start h w → (w ≡ start) × AllByRecursion Refused h
      all_refused h w fresh = (refl, tt)
      all_refused h w (called {h = h₀} {w = w₀} r c) =
          let y = all_refused h₀ w₀ r in
          let x = stops c in
          let q : whole_call d intake c w₀ ≡ (start, Err x.0) = ap (whole_call d intake c) y.0 ∙ x.1 in (
            ap (λ (v : Acted). v.0) q,
            (record { fault = x.0; answer_is = ap (λ (v : Acted). v.1) q; empty = subst (λ (v : Acted). Empty v.0.pool) (sym q) new.empty }, y.1),
          )
      all_refused h w (strayed {h = h₀} {w = w₀} r c other v x s q o) =
          let y = all_refused h₀ w₀ r in
          (y.0, (record { fault = x; answer_is = refl; empty = subst (λ (u : World). Empty u.pool) (sym y.0) new.empty }, y.1))

      refused_law : (h : History) (w : World) → Run d intake start h w → Law d intake w.books h
      refused_law h w run = refusals_law d intake w.books sound_in_turn h (all_refused h w run).1

    -- the invariant holds wherever a call is refused neither 6 nor 7
    pub run_state : (h : History) (w : World) → Run d intake start h w → in_range d ≡ true → fitting d intake w ≡ true → Inv d intake h w
    run_state h w run a e = go (fitting d intake start) refl
      where
        go : (v : Bool) → fitting d intake start ≡ v → Inv d intake h w
        go true b = run_inv d intake (usable a) start (starts a b) h w (plays a b h w run).0
        go false b = absurd (both_ways (fitting d intake w) (ap (fitting d intake) (all_refused (λ c. refused_7 d intake c start a b) h w run).0 ∙ b) e)

    pub run_law : (h : History) (w : World) → Run d intake start h w → Law d intake w.books h
    run_law = range (in_range d) refl
      where
        sizes : (v : Bool) → fitting d intake start ≡ v → in_range d ≡ true → (h : History) (w : World) → Run d intake start h w → Law d intake w.books h
        sizes true b a h w run = played_law d (usable a) sound_in_turn intake start (starts a b) h w (plays a b h w run).0
        sizes false b a h w run = refused_law (λ c. refused_7 d intake c start a b) h w run

        range : (v : Bool) → in_range d ≡ v → (h : History) (w : World) → Run d intake start h w → Law d intake w.books h
        range true a = sizes (fitting d intake start) refl a
        range false a = refused_law (λ c. refused_6 d intake c start a)

pub holds : Agreement
holds d law intake start new = run_law d intake law start new
