-- Every call keeps a world within its bounds, from any world that is within them.
use Rattle.std.proofs.Common.{◌≡◌, ℕ, ◌<◌, ◌≤◌, Bool, true, false, not, eqb, ltb, ◌⊎◌, List, [], ◌∷◌, length, get_or, set, sym, refl, ap, ◌∙◌, subst, inl, inr, arith}
use Rattle.std.proofs.lemmas.Bool.{ltb-true, cases_eq, both_ways}
use Rattle.std.proofs.lemmas.List.{get_or-set_same, get_or-set_other, length-set}
use Rattle.base.specs.declared.book.Batch.{Batch}
use Rattle.base.specs.declared.book.Entry.{Entry}
use Rattle.frames.specs.declared.slot.Slot.{Slot}
use Rattle.frames.specs.Slots.{frame_at, enter}
use Rattle.frames.specs.Frames.{◌and◌, sender_of, entry_of, tag_of}
use Rattle.protocol.specs.declared.station.Vote.{Vote}
use Rattle.protocol.specs.declared.station.Station.{Station}
use Rattle.protocol.specs.Law.{Terms, Call, History, opening, delivery, ringing, injection}
use Rattle.protocol.specs.Steps.{World, no_batch, no_station, station_at, with_station, take_up, store, next_number, mark_taken, issue, propose, decide, join, reselect, differs, same_entry, own_entry, act, whole_call}
use Rattle.protocol.specs.Bounds.{BoundedStation, Bounded}
use Rattle.protocol.specs.Claims.{StaysBounded}
use Rattle.protocol.specs.Run.{New, Run, fresh, called, strayed}
use Rattle.frames.proofs.Basics.{and_true}
use Rattle.frames.proofs.Codec.{says-reselect}
use Rattle.protocol.proofs.Records.{taken_stations, idle_station}
use Rattle.protocol.proofs.Rules.{open_rule, ring_rule, deliver_rule, inject_rule, settle-rule, announce-rule, reselect-rule, proposal_rule, moved_on, Delivering, whole-rule}

pub length-enter : (x : Slot) (p : List Slot) → length (enter x p) ≡ length p
length-enter x [] = refl
length-enter x (s ∷ ss) = go (eqb s.len 0) refl (length-enter x ss)
  where
    go : (b : Bool) → eqb s.len 0 ≡ b → length (enter x ss) ≡ length ss → length (enter x (s ∷ ss)) ≡ length (s ∷ ss)
    go true e ih = rw (e, enter) refl
    go false e ih = rw (e, enter) (omega arith)

module _ (d : Terms) (few : d.n ≤ 16) (idle : d.lawful no_batch ≡ false) (slots entries : ℕ) where
  -- one record changes
  changed : {w : World} → Bounded d slots entries w → (i : ℕ) → i < d.n → (s : Station) → BoundedStation d s → (pool : List Slot) → length pool ≡ length w.pool
      → (books : List Entry) → length books ≡ length w.books → Bounded d slots entries (record { stations = set w.stations i s; pool = pool; books = books })
  changed {w} b i small s ok pool same books long = record {
    station_places = length-set w.stations i s ∙ b.station_places;
    pool_places = same ∙ b.pool_places;
    book_places = long ∙ b.book_places;
    each = λ j. at j (cases_eq j i);
  }
    where
      at : (j : ℕ) → (j ≡ i) ⊎ (j ≡ i → ⊥) → BoundedStation d (get_or (set w.stations i s) j no_station)
      at j (inl e) = rw (e, get_or-set_same w.stations i s no_station (omega (arith, small, few, b.station_places))) ok
      at j (inr n) = rw (get_or-set_other w.stations i j s no_station n) (b.each j)

  -- within bounds, and station i has a batch left to book
  record Busy (i : ℕ) (w : World) : Type 0 where
    bounded : Bounded d slots entries w
    small : i < d.n
    left : (station_at w i).booked < d.batches

  busy_changed : {w : World} {i : ℕ} → Busy i w → (s : Station) → BoundedStation d s → s.booked < d.batches → (pool : List Slot) → length pool ≡ length w.pool
      → Busy i (record { stations = set w.stations i s; pool = pool; books = w.books })
  busy_changed {w} {i} b s ok less pool same = record {
    bounded = changed b.bounded i b.small s ok pool same w.books refl;
    small = b.small;
    left = rw (get_or-set_same w.stations i s no_station (omega (arith, b.small, few, b.bounded.station_places))) less;
  }

  take_busy : {w : World} → Bounded d slots entries w → (i : ℕ) → i < d.n → (station_at w i).booked < d.batches → (next : Batch) → Busy i (take_up next i w)
  unfolding take_up with_station
  take_busy {w} b i small left next =
      busy_changed (record { bounded = b; small = small; left = left }) _
      (record { booked_most = (b.each i).booked_most; booked_less = λ _. left; number_most = omega arith; vote_places = refl }) left w.pool refl

  propose_busy : {w : World} {i : ℕ} → Busy i w → Busy i (propose d i w)
  unfolding propose issue with_station
  propose_busy {w} {i} b =
      let s = b.bounded.each i in
      busy_changed b _ (record { booked_most = s.booked_most; booked_less = s.booked_less; number_most = s.number_most; vote_places = length-set (station_at w i).votes i _ ∙ s.vote_places })
      b.left _ (length-enter _ w.pool)

  store_busy : {w : World} {i : ℕ} → Busy i w → (q : ℕ) (v : Vote) → Busy i (store i q v w)
  unfolding store with_station
  store_busy {w} {i} b q v =
      let s = b.bounded.each i in
      busy_changed b _ (record { booked_most = s.booked_most; booked_less = s.booked_less; number_most = s.number_most; vote_places = length-set (station_at w i).votes q _ ∙ s.vote_places })
      b.left w.pool refl

  next_busy : {w : World} {i : ℕ} → Busy i w → (station_at w i).number < 20000 → Busy i (next_number i w)
  unfolding next_number with_station
  next_busy {w} {i} b l =
      let s = b.bounded.each i in
      busy_changed b _ (record { booked_most = s.booked_most; booked_less = s.booked_less; number_most = omega arith; vote_places = s.vote_places }) b.left w.pool refl

  pool_busy : {w : World} {i : ℕ} → Busy i w → (pool : List Slot) → length pool ≡ length w.pool → Busy i (record { stations = w.stations; pool = pool; books = w.books })
  pool_busy b pool same = record {
    bounded = record { station_places = b.bounded.station_places; pool_places = same ∙ b.bounded.pool_places; book_places = b.bounded.book_places; each = b.bounded.each };
    small = b.small;
    left = b.left;
  }

  taken_busy : {w : World} {i : ℕ} → Busy i w → (f : ℕ) → Busy i (mark_taken f w)
  unfolding mark_taken
  taken_busy {w} b f = pool_busy b _ (length-set w.pool f _)

  moved_busy : {w : World} {i : ℕ} → Busy i w → (station_at w i).number < 20000 → (proof : List (ℕ × ℕ)) → Busy i (moved_on d i proof w)
  unfolding moved_on issue
  moved_busy {w} {i} b l proof =
      let n = next_busy b l in
      announce-rule d (Busy i) i _ _ proof (next_number i w) (λ _. pool_busy n _ (length-enter _ _)) (λ _ _. pool_busy n _ (length-enter _ _)) (λ _ _. n)

  decide_bounded : {w : World} {i : ℕ} → Busy i w → (e : Entry) (pairs : List (ℕ × ℕ)) → Bounded d slots entries (decide d i e pairs w)
  unfolding decide issue
  decide_bounded {w} {i} b e pairs =
      let s = b.bounded.each i in
      let left = b.left in
      changed b.bounded i b.small _
      (record { booked_most = omega arith; booked_less = λ z. absurd (both_ways (d.lawful no_batch) idle z); number_most = s.number_most; vote_places = s.vote_places })
      _ (length-enter _ w.pool) _ (length-set w.books _ e)

  join_bounded : {w : World} {i : ℕ} → Busy i w → Bounded d slots entries (join d i w).0
  unfolding join
  join_bounded {w} {i} b =
      let p = propose_busy b in
      settle-rule d (λ r. Bounded d slots entries r.0) i _ (propose d i w) (λ _. decide_bounded p _ _) (λ _. p.bounded)

  reselect_bounded : {w : World} {i : ℕ} → Busy i w → (station_at w i).number < 20000 → (proof : List (ℕ × ℕ)) → Bounded d slots entries (reselect d i proof w).0
  reselect_bounded {w} {i} b l proof =
      let m = moved_busy b l proof in
      reselect-rule d (λ r. Bounded d slots entries r.0) i proof w (λ _ _. join_bounded m) (λ _. m.bounded)

  differs_below : (w : World) (i q : ℕ) (e : Entry) → differs d i q e w ≡ true → (station_at w i).number < 20000
  unfolding differs
  differs_below w i q e h =
      let c : ℕ = (station_at w i).number in
      let x = and_true (d.seats c i) (ltb c 20000 and (station_at w i).proposed and d.seats c q and not (same_entry e (own_entry w i))) h in
      ltb-true c 20000 (and_true (ltb c 20000) ((station_at w i).proposed and d.seats c q and not (same_entry e (own_entry w i))) x.1).0

  pub act_bounded : (intake : List Batch) (c : Call) (w : World) → Bounded d slots entries w → Bounded d slots entries (act d intake c w).0
  act_bounded intake (opening i) w b =
      open_rule d (λ r. Bounded d slots entries r.0) intake i w (λ _. b)
      (λ o _. (propose_busy (take_busy b i o.small o.left _)).bounded) (λ o _. (take_busy b i o.small o.left _).bounded)
  act_bounded intake (ringing i) w b =
      ring_rule d (λ r. Bounded d slots entries r.0) i w (λ _. b)
      (λ r. reselect_bounded (record { bounded = b; small = r.small; left = (b.each i).booked_less r.busy }) r.below [])
  act_bounded intake (delivery i f) w b =
      deliver_rule d (λ r. Bounded d slots entries r.0) i f w (λ _. b)
      (λ t _ _. let st = store_busy (here t) (sender_of bs) (record { entry = entry_of bs; tag = tag_of bs }) in
      proposal_rule d (λ r. Bounded d slots entries r.0) i bs (mark_taken f w)
      (λ _. decide_bounded st _ _) (λ _ di. reselect_bounded st (differs_below _ i _ _ di) []) (λ _ _. st.bounded))
      (λ t _ _. decide_bounded (here t) _ _)
      (λ t fo. reselect_bounded (here t) (rw taken_stations (omega (arith, fo.next, (says-reselect d.n d.t d.batches d.tag bs t.formed fo.not_proposal fo.not_decision).1))) _)
    where
      bs : List ℕ
      bs = frame_at w.pool f

      here : Delivering d i f w → Busy i (mark_taken f w)
      here t = taken_busy (record { bounded = b; small = t.small; left = (b.each i).booked_less t.busy }) f
  act_bounded intake (injection l) w b =
      inject_rule d (λ r. Bounded d slots entries r.0) l w (λ _. b)
      (λ _ _ _. record { station_places = b.station_places; pool_places = length-enter _ w.pool ∙ b.pool_places; book_places = b.book_places; each = b.each })

  pub call_bounded : (intake : List Batch) (c : Call) (w : World) → Bounded d slots entries w → Bounded d slots entries (whole_call d intake c w).0
  call_bounded intake c w b = whole-rule d (λ r. Bounded d slots entries r.0) intake c w (λ _. b) (λ _ _. act_bounded intake c w b)

  pub run_bounded : (intake : List Batch) (start : World) → New d start → length start.pool ≡ slots → length start.books ≡ entries
      → (h : History) (w : World) → Run d intake start h w → Bounded d slots entries w
  run_bounded intake start new p q h w fresh = record {
    station_places = ap length new.idle;
    pool_places = p;
    book_places = q;
    each = λ i. subst (BoundedStation d) (sym (ap (λ (s : List Station). get_or s i no_station) new.idle ∙ idle_station i)) (record
        { booked_most = omega arith; booked_less = λ z. absurd (both_ways (d.lawful no_batch) idle z); number_most = omega arith; vote_places = refl });
  }
  run_bounded intake start new p q h w (called {h = h₀} {w = w₀} r c) = call_bounded intake c w₀ (run_bounded intake start new p q h₀ w₀ r)
  run_bounded intake start new p q h w (strayed {h = h₀} {w = w₀} r c other v x s a o) = run_bounded intake start new p q h₀ w₀ r

pub stays_bounded : StaysBounded
stays_bounded d few idle intake = (
  λ slots entries c w. call_bounded d few idle slots entries intake c w,
  λ start new. run_bounded d few idle (length start.pool) (length start.books) intake start new refl refl,
)
