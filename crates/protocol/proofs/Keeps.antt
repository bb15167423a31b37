-- Each step inside a call keeps a world safe.
use Rattle.std.proofs.Common.{◌≡◌, ℕ, zero, suc, ◌+◌, ◌-◌, ◌*◌, ◌<◌, ◌≤◌, Bool, true, false, cond, eqb, ◌⊎◌, List, [], ◌∷◌, length, get_or, set, Some, None, Option, sym, refl, ap, ◌∙◌, subst, ap₂, subst₂, inl, inr, mul-le-mul_right, suc-mul, arith}
use Rattle.std.specs.List.{AllByRecursion}
use Rattle.std.proofs.lemmas.Bool.{ne_eqb, cases_eq, both_ways, cases_lt}
use Rattle.std.proofs.lemmas.List.{get_or-set_same, get_or-set_other, length-set}
use Rattle.base.specs.declared.book.Batch.{Batch}
use Rattle.base.specs.declared.book.Entry.{Entry}
use Rattle.frames.specs.declared.slot.Slot.{Slot}
use Rattle.frames.specs.Bytes.{statement, proposes, entry_bytes}
use Rattle.frames.specs.Certificates.{Fits}
use Rattle.frames.specs.Slots.{free, enter, slot_of}
use Rattle.protocol.specs.declared.station.Vote.{Vote}
use Rattle.protocol.specs.declared.station.Station.{Station}
use Rattle.protocol.specs.Law.{Terms, Correct, clerk, Rising, Certifies, works}
use Rattle.protocol.specs.Steps.{World, no_batch, no_entry, no_station, station_at, at_work, last_carry, propose, decide, issue, with_station, next_number, store, held}
use Rattle.frames.proofs.Slots.{Issued, Grows, grows_refl, grows_trans}
use Rattle.protocol.proofs.Usable.{Usable}
use Rattle.protocol.proofs.Framed.{Within, sealed_frame, reads_proposal}
use Rattle.protocol.proofs.Clerk.{clerk_next, clerk_short, carry_at}
use Rattle.protocol.proofs.Safe.{Ghost, Entered, PoolSafe, Voted, BatchWork, current, Decided, StationSafe, Safe, station_grows, Added, issued_added, entered_fits, entered_within, add_proposal, add_decision, certified}

-- places of different stations in the books differ
pub apart : (B i j k l : ℕ) → k < B → l < B → (j ≡ i → ⊥) → j * B + l ≡ i * B + k → ⊥
apart B i j k l kB lB ne e = go (cases_lt i j)
  where
    more : (a b : ℕ) → a < b → a * B + B ≤ b * B
    more a b h = omega (arith, mul-le-mul_right {m = suc a} {n = b} B h, suc-mul a B)

    go : (i < j) ⊎ (j ≤ i) → ⊥
    go (inl h) = omega (arith, more i j h)
    go (inr h) = let q : j < i = omega arith in omega (arith, more j i q)

-- a vote held stays held
pub held-set : (vs : List (Option Vote)) (q j : ℕ) (v : Vote) → held (get_or vs j None) ≡ true → held (get_or (set vs q (Some v)) j None) ≡ true
held-set [] q j v h = h
held-set (x ∷ xs) zero zero v h = refl
held-set (x ∷ xs) zero (suc j) v h = h
held-set (x ∷ xs) (suc q) zero v h = h
held-set (x ∷ xs) (suc q) (suc j) v h = held-set xs q j v h

module _ (d : Terms) (intake : List Batch) where
  -- what a step of station i does: its number rises by r, its booked batches by x, and it takes at most k slots
  pub record Step (g : Ghost) (i r x k : ℕ) (w v : World) : Type 0 where
    pub safe : Safe d intake g v
    pub others : (j : ℕ) → (j ≡ i → ⊥) → station_at v j ≡ station_at w j
    pub booked : (station_at v i).booked ≡ (station_at w i).booked + x
    pub number : (station_at v i).number ≡ (station_at w i).number + r
    pub same : current d intake (station_at v i) ≡ current d intake (station_at w i)
    pub held_on : (q : ℕ) → held (get_or (station_at w i).votes q None) ≡ true → held (get_or (station_at v i).votes q None) ≡ true
    pub grows : Grows w.pool v.pool
    pub room : free w.pool ≤ free v.pool + k

  pub ◌then◌ : {g : Ghost} {i r x k r' x' k' : ℕ} {w v u : World} → Step g i r x k w v → Step g i r' x' k' v u → Step g i (r + r') (x + x') (k + k') w u
  ◌then◌ a b = record {
    safe = b.safe;
    others = λ j n. b.others j n ∙ a.others j n;
    booked = omega (arith, a.booked, b.booked);
    number = omega (arith, a.number, b.number);
    same = b.same ∙ a.same;
    held_on = λ q h. b.held_on q (a.held_on q h);
    grows = grows_trans a.grows b.grows;
    room = omega (arith, a.room, b.room);
  }

  -- a pool that grows
  pub pool_step : {g : Ghost} {w : World} → Safe d intake g w → (i k : ℕ) (q : List Slot) → Grows w.pool q → PoolSafe d intake g q → free w.pool ≤ free q + k
      → Step g i 0 0 k w (record { stations = w.stations; pool = q; books = w.books })
  pool_step s i k q gr kept room = record {
    safe = record { stations = s.stations; books = s.books; fine = λ j c. station_grows d intake gr (s.fine j c); pool = kept };
    others = λ j n. refl;
    booked = omega arith;
    number = omega arith;
    same = refl;
    held_on = λ q h. h;
    grows = gr;
    room = room;
  }

  -- what a decision rests on
  pub record Certain (b : ℕ) (e : Entry) (pairs : List (ℕ × ℕ)) (p : List Slot) : Type 0 where
    pub within : Within d b
    pub fits : Fits e
    pub quorum : length pairs ≡ d.t + 1
    pub rising : Rising d 0 pairs
    pub sealed : AllByRecursion (λ x. x.1 ≡ d.tag x.0 (proposes x.0 b e)) pairs
    pub known : AllByRecursion (λ x. d.faulty x.0 ≡ false → Issued (proposes x.0 b e) p) pairs

  module _ (law : Usable d) (sized : length intake ≡ d.batches) where
    place_small : (i : ℕ) → Correct d i → (w : World) {g : Ghost} → Safe d intake g w → i < length w.stations
    place_small i c w s = omega (arith, c.0, law.few_stations, s.stations)

    -- station i changes, with its book and the pool
    pub put_here : {g : Ghost} {w : World} → Safe d intake g w → (i : ℕ) → Correct d i → (t : Station) → get_or (set w.stations i t) i no_station ≡ t
    put_here {g} {w} s i c t = get_or-set_same w.stations i t no_station (place_small i c w s)

    pub put_safe : {g : Ghost} {w : World} → Safe d intake g w → (i : ℕ) → Correct d i → (t : Station) (books : List Entry) (q : List Slot)
        → Grows w.pool q → PoolSafe d intake g q → StationSafe d intake g i t books q → length books ≡ length w.books
        → ((j l : ℕ) → Correct d j → (j ≡ i → ⊥) → l < d.batches → get_or books (j * d.batches + l) no_entry ≡ get_or w.books (j * d.batches + l) no_entry)
        → Safe d intake g (record { stations = set w.stations i t; pool = q; books = books })
    put_safe {g} {w} s i c t books q gr kept fine len others =
        record { stations = length-set w.stations i t ∙ s.stations; books = len ∙ s.books; fine = λ j cj. each j cj (cases_eq j i); pool = kept }
      where
        rest : (j : ℕ) → Correct d j → (j ≡ i → ⊥) → StationSafe d intake g j (station_at w j) books q
        rest j cj n =
            let f = station_grows d intake gr (s.fine j cj) in record
            { few = f.few; booked = λ l h. others j l cj n (omega (arith, h, f.few, clerk_short d 0 intake, sized)) ∙ f.booked l h; work = f.work; short = f.short; batch_work = f.batch_work; kept = f.kept }

        each : (j : ℕ) → Correct d j → (j ≡ i) ⊎ (j ≡ i → ⊥) → StationSafe d intake g j (get_or (set w.stations i t) j no_station) books q
        each j cj (inl e) = subst (λ (m : ℕ). StationSafe d intake g m (get_or (set w.stations i t) m no_station) books q) (sym e) (rw (put_here s i c t) fine)
        each j cj (inr n) = rw (get_or-set_other w.stations i j t no_station n) (rest j cj n)

    pub change : {g : Ghost} {w : World} → Safe d intake g w → (i r x k : ℕ) → Correct d i → (t : Station) (books : List Entry) (q : List Slot)
        → Grows w.pool q → PoolSafe d intake g q → StationSafe d intake g i t books q → length books ≡ length w.books
        → ((j l : ℕ) → Correct d j → (j ≡ i → ⊥) → l < d.batches → get_or books (j * d.batches + l) no_entry ≡ get_or w.books (j * d.batches + l) no_entry)
        → t.booked ≡ (station_at w i).booked + x → t.number ≡ (station_at w i).number + r → current d intake t ≡ current d intake (station_at w i)
        → ((q : ℕ) → held (get_or (station_at w i).votes q None) ≡ true → held (get_or t.votes q None) ≡ true) → free w.pool ≤ free q + k
        → Step g i r x k w (record { stations = set w.stations i t; pool = q; books = books })
    change {g} {w} s i r x k c t books q gr kept fine len others bk nu same on room = record {
      safe = put_safe s i c t books q gr kept fine len others;
      others = λ j n. get_or-set_other w.stations i j t no_station n;
      booked = ap (λ (u : Station). u.booked) (put_here s i c t) ∙ bk;
      number = ap (λ (u : Station). u.number) (put_here s i c t) ∙ nu;
      same = ap (λ (u : Station). current d intake u) (put_here s i c t) ∙ same;
      held_on = λ q h. subst (λ (u : Station). held (get_or u.votes q None) ≡ true) (sym (put_here s i c t)) (on q h);
      grows = gr;
      room = room;
    }

    current_busy : (s : Station) → at_work d s ≡ true → current d intake s ≡ s.booked + 1
    current_busy s h = rw h refl

    carry_is : (i k : ℕ) (books K : List Entry) → ((l : ℕ) → l < k → get_or books (i * d.batches + l) no_entry ≡ get_or K l no_entry)
        → carry_at d 0 K k ≡ cond (eqb k 0) 0 (get_or books (i * d.batches + k - 1) no_entry).carry
    carry_is i zero books K h = refl
    carry_is i (suc k) books K h =
        let e : eqb (suc k) 0 ≡ false = ne_eqb (suc k) 0 (λ z. omega arith) in
        let m : i * d.batches + suc k - 1 ≡ i * d.batches + k = omega arith in
        rw (e, m) (ap (λ (x : Entry). x.carry) (sym (h k (omega arith))))

    -- the entry that a station at work proposes is the clerk's
    pub works-clerk : {g : Ghost} (w : World) → Safe d intake g w → (i : ℕ) → Correct d i → at_work d (station_at w i) ≡ true
        → Entered d intake (station_at w i).booked (works d (last_carry d w i) (station_at w i).work)
    unfolding last_carry
    works-clerk w s i c busy =
        let f = s.fine i c in
        let x = clerk_next d law.never_idle 0 intake (station_at w i).booked f.few (rw (f.work busy, at_work) at busy) in
        let y = carry_is i (station_at w i).booked w.books (clerk d 0 intake) f.booked in
        record { below = x.0; is = x.1 ∙ ap₂ (λ (a : ℕ) (b : Batch). works d a b) y (sym (f.work busy)) }

    -- a vote more
    work_vote : {g : Ghost} {i b n : ℕ} {pr pr' : Bool} {vs : List (Option Vote)} {p : List Slot} → BatchWork d intake g i b n pr vs p → (q : ℕ) (v : Vote) → Voted d intake b q v p
        → i < 16 → q < 16 → (pr' ≡ true → (pr ≡ true) ⊎ (q ≡ i)) → BatchWork d intake g i b n pr' (set vs q (Some v)) p
    work_vote {i = i} {b} {pr = pr} {pr'} {vs} {p} r q v x i16 q16 why = record {
      size = length-set vs q (Some v) ∙ r.size;
      voted = λ j u e. vote j u e (cases_eq j q);
      own = λ e. mine (why e) (cases_eq i q);
      excuses = r.excuses;
    }
      where
        here : get_or (set vs q (Some v)) q None ≡ Some v
        here = get_or-set_same vs q (Some v) None (omega (arith, r.size))

        vote : (j : ℕ) (u : Vote) → get_or (set vs q (Some v)) j None ≡ Some u → (j ≡ q) ⊎ (j ≡ q → ⊥) → Voted d intake b j u p
        vote j u e (inl z) =
            let e' : get_or (set vs q (Some v)) q None ≡ Some u = rw z at e in
            let y : v ≡ u = cc here in
            subst₂ (λ (k : ℕ) (t : Vote). Voted d intake b k t p) (sym z) y x
        vote j u e (inr z) = r.voted j u (sym (get_or-set_other vs q j (Some v) None z) ∙ e)

        mine : (pr ≡ true) ⊎ (q ≡ i) → (i ≡ q) ⊎ (i ≡ q → ⊥) → (u : Vote) × (get_or (set vs q (Some v)) i None ≡ Some u)
        mine y (inl z) = (v, rw z here)
        mine (inl y) (inr z) = let o = r.own y in (o.0, get_or-set_other vs q i (Some v) None z ∙ o.1)
        mine (inr y) (inr z) = absurd (z (sym y))

    -- the station proposes
    pub propose_step : {g : Ghost} (w : World) → Safe d intake g w → (i : ℕ) → Correct d i → at_work d (station_at w i) ≡ true → 1 ≤ free w.pool
        → g.worked i ((station_at w i).booked + 1) → Step g i 0 0 1 w (propose d i w)
    unfolding propose issue with_station Rattle.frames.proofs.Codec.sealed_frame
    propose_step {g} w s i c busy room wk =
        let st : Station = station_at w i in
        let e : Entry = works d (last_carry d w i) st.work in
        let en = works-clerk w s i c busy in
        let a = add_proposal d intake law sized g w.pool s.pool room i st.booked e c en wk in
        let f = station_grows d intake a.grows (s.fine i c) in
        let cur : current d intake st ≡ st.booked + 1 = current_busy st busy in
        let rd = reads_proposal d law i (st.booked + 1) e c.0 (entered_within d intake law sized en) in
        let v : Vote = record { entry = e; tag = d.tag i (proposes i (st.booked + 1) e) } in
        let q : List Slot = enter (slot_of 0 (sealed_frame d i (proposes i (st.booked + 1) e) [])) w.pool in
        let vo : Voted d intake (current d intake st) i v q = rw cur (record {
          station = c.0;
          fits = entered_fits d intake law sized en;
          tag_is = refl;
          issued = λ z. subst (λ (x : List ℕ). Issued x q) rd.begins (issued_added d intake a);
        }) in
        change s i 0 0 1 c _ w.books _ a.grows a.kept
        (record {
          few = f.few;
          booked = f.booked;
          work = f.work;
          short = f.short;
          batch_work = work_vote f.batch_work i v vo (omega (arith, c.0, law.few_stations)) (omega (arith, c.0, law.few_stations)) (λ z. inr refl);
          kept = f.kept;
        })
        refl (λ j l cj n h. refl) (omega arith) (omega arith) refl (λ q h. held-set (station_at w i).votes i q v h) (omega (arith, a.room))

    -- the station stores a vote
    pub store_step : {g : Ghost} (w : World) → Safe d intake g w → (i q : ℕ) (v : Vote) → Correct d i → Voted d intake (current d intake (station_at w i)) q v w.pool
        → Step g i 0 0 0 w (store i q v w)
    unfolding store with_station
    store_step {g} w s i q v c vo =
        let f = s.fine i c in
        change s i 0 0 0 c _ w.books w.pool (grows_refl w.pool) s.pool
        (record {
          few = f.few;
          booked = f.booked;
          work = f.work;
          short = f.short;
          batch_work = work_vote f.batch_work q v vo (omega (arith, c.0, law.few_stations)) (omega (arith, vo.station, law.few_stations)) (λ z. inl z);
          kept = f.kept;
        })
        refl (λ j l cj n h. refl) (omega arith) (omega arith) refl (λ j h. held-set (station_at w i).votes q j v h) (omega arith)

    -- the number rises
    pub next_step : {g : Ghost} (w : World) → Safe d intake g w → (i : ℕ) → Correct d i → (station_at w i).number < 20000
        → g.excused (station_at w i).number (current d intake (station_at w i)) → Step g i 1 0 0 w (next_number i w)
    unfolding next_number with_station
    next_step {g} w s i c sm ex =
        let f = s.fine i c in
        change s i 1 0 0 c _ w.books w.pool (grows_refl w.pool) s.pool
        (record {
          few = f.few;
          booked = f.booked;
          work = f.work;
          short = omega arith;
          batch_work = record { size = f.batch_work.size; voted = f.batch_work.voted; own = f.batch_work.own; excuses = λ k l. more k l (cases_eq k (station_at w i).number) };
          kept = f.kept;
        })
        refl (λ j l cj n h. refl) (omega arith) refl refl (λ q h. h) (omega arith)
      where
        more : (k : ℕ) → k < (station_at w i).number + 1 → (k ≡ (station_at w i).number) ⊎ (k ≡ (station_at w i).number → ⊥) → g.excused k (current d intake (station_at w i))
        more k l (inl e) = rw e ex
        more k l (inr e) = (s.fine i c).batch_work.excuses k (omega arith)

    -- station i books e, with a decision in the pool q
    decide_change : {g : Ghost} (w : World) → Safe d intake g w → (i : ℕ) → Correct d i → at_work d (station_at w i) ≡ true → (e : Entry) (pairs : List (ℕ × ℕ)) (q : List Slot) {bs : List ℕ}
        → Certifies d bs i ((station_at w i).booked + 1) e pairs → Added d intake g bs w.pool q → Entered d intake (station_at w i).booked e
        → Step g i 0 1 1 w (record {
          stations = set w.stations i (record { booked = (station_at w i).booked + 1; work = no_batch; number = (station_at w i).number; proposed = (station_at w i).proposed; votes = (station_at w i).votes });
          pool = q;
          books = set w.books (i * d.batches + (station_at w i).booked) e;
        })
    decide_change {g} w s i c busy e pairs q {bs} cert a en =
        change s i 0 1 1 c _ _ q a.grows a.kept
        (record {
          few = omega (arith, en.below);
          booked = λ k l. book k l (cases_eq k (station_at w i).booked);
          work = λ z. absurd (both_ways (d.lawful no_batch) law.never_idle z);
          short = f.short;
          batch_work = subst (λ (b : ℕ). BatchWork d intake g i b (station_at w i).number (station_at w i).proposed (station_at w i).votes q) (sym same) f.batch_work;
          kept = λ k l. keep k l (cases_eq k (station_at w i).booked);
        })
        (length-set w.books _ e)
        (λ j l cj n h. get_or-set_other w.books (i * d.batches + (station_at w i).booked) (j * d.batches + l) e no_entry (apart d.batches i j (station_at w i).booked l low h n))
        refl (omega arith) same (λ q h. h) (omega (arith, a.room))
      where
        f : StationSafe d intake g i (station_at w i) w.books q
        f = station_grows d intake a.grows (s.fine i c)

        low : (station_at w i).booked < d.batches
        low = omega (arith, en.below, clerk_short d 0 intake, sized)

        idle : current d intake (record { booked = (station_at w i).booked + 1; work = no_batch; number = (station_at w i).number; proposed = (station_at w i).proposed; votes = (station_at w i).votes }) ≡ (station_at w i).booked + 1
        idle = rw law.never_idle refl

        same : current d intake (record { booked = (station_at w i).booked + 1; work = no_batch; number = (station_at w i).number; proposed = (station_at w i).proposed; votes = (station_at w i).votes }) ≡ current d intake (station_at w i)
        same = idle ∙ sym (current_busy (station_at w i) busy)

        inside : i * d.batches + (station_at w i).booked < length w.books
        inside = rw s.books (omega (arith, mul-le-mul_right {m = suc i} {n = d.n} d.batches c.0, suc-mul i d.batches, low))

        book : (k : ℕ) → k < (station_at w i).booked + 1 → (k ≡ (station_at w i).booked) ⊎ (k ≡ (station_at w i).booked → ⊥)
            → get_or (set w.books (i * d.batches + (station_at w i).booked) e) (i * d.batches + k) no_entry ≡ get_or (clerk d 0 intake) k no_entry
        book k l (inl z) = rw z (get_or-set_same w.books (i * d.batches + (station_at w i).booked) e no_entry inside ∙ sym en.is)
        book k l (inr z) = get_or-set_other w.books (i * d.batches + (station_at w i).booked) (i * d.batches + k) e no_entry (λ y. z (omega arith)) ∙ f.booked k (omega arith)

        keep : (k : ℕ) → k < (station_at w i).booked + 1 → (k ≡ (station_at w i).booked) ⊎ (k ≡ (station_at w i).booked → ⊥) → Decided d intake i k q
        keep k l (inl z) = subst (λ (m : ℕ). Decided d intake i m q) (sym z) (record {
          place = a.place;
          filled = a.filled;
          mine = a.mine;
          entry = e;
          pairs = pairs;
          certifies = subst (λ (r : List ℕ). Certifies d r i ((station_at w i).booked + 1) e pairs) (sym a.reads) cert;
        })
        keep k l (inr z) = f.kept k (omega arith)

    -- the station decides
    pub decide_step : {g : Ghost} (w : World) → Safe d intake g w → (i : ℕ) → Correct d i → at_work d (station_at w i) ≡ true → 1 ≤ free w.pool → (e : Entry) (pairs : List (ℕ × ℕ))
        → Certain ((station_at w i).booked + 1) e pairs w.pool → Step g i 0 1 1 w (decide d i e pairs w)
    unfolding decide issue Rattle.frames.proofs.Codec.sealed_frame
    decide_step {g} w s i c busy room e pairs ce =
        let st : Station = station_at w i in
        let text : List ℕ = statement 2 i (st.booked + 1) 0 (d.t + 1) (entry_bytes e) in
        let cert : Certifies d (sealed_frame d i text pairs) i (st.booked + 1) e pairs = record
        { sends = c.0; within = ce.within; fits = ce.fits; quorum = ce.quorum; rising = ce.rising; sealed = ce.sealed; reads = refl } in
        let a = add_decision d intake law sized g w.pool s.pool room (sealed_frame d i text pairs) i (st.booked + 1) e pairs c cert ce.known in
        let en₀ = certified d intake law sized g w.pool s.pool (st.booked + 1) e pairs ce.within ce.fits ce.rising ce.quorum ce.known in
        decide_change w s i c busy e pairs _ cert a (subst (λ (k : ℕ). Entered d intake k e) (omega arith) en₀)
