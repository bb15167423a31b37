-- The steps between a call and its inner steps: reselecting, settling, taking a frame, Inject and Open,
-- and what a taken frame says.
use Rattle.std.proofs.Common.{◌≡◌, ℕ, ◌+◌, ◌-◌, ◌<◌, ◌≤◌, Bool, true, false, cond, not, eqb, ltb, ◌⊎◌, List, [], ◌∷◌, length, get_or, take, set, replicate, Some, None, Option, sym, refl, ap, ◌∙◌, subst, ap₂, subst₂, inl, inr, arith}
use Rattle.std.specs.List.{AllByRecursion}
use Rattle.std.proofs.lemmas.Bool.{eqb-true, ltb-true, not-true, not-false, eq-eqb, ne_eqb, both_ways}
use Rattle.std.proofs.lemmas.List.{get_or-set_other, length-take-le}
use Rattle.std.proofs.ByRecursion.{All-weaker, All-take}
use Rattle.base.specs.declared.book.Batch.{Batch}
use Rattle.base.specs.declared.book.Entry.{Entry}
use Rattle.frames.specs.declared.slot.Slot.{Slot}
use Rattle.frames.specs.Bytes.{statement, proposes, reselects}
use Rattle.frames.specs.Slots.{framed, frame_at, free, enter, slot_of, issued}
use Rattle.frames.specs.Certificates.{Fits}
use Rattle.frames.specs.Frames.{kind_of, sender_of, batch_of, number_of, count_of, tag_of, pairs_of, pair_states, entry_of, first_pair, ◌and◌, unhex, line_fault}
use Rattle.protocol.specs.declared.station.Vote.{Vote}
use Rattle.protocol.specs.declared.station.Station.{Station}
use Rattle.protocol.specs.Law.{Terms, Correct, clerk}
use Rattle.protocol.specs.Steps.{World, no_batch, no_entry, no_station, station_at, at_work, sender_sealed, pair_sealed, malformed, propose, decide, issue, with_station, next_number, announce, take_up, mark_taken, own_entry, join, forged, forgery, differs, same_entry, shows, pair_left, support}
use Rattle.frames.proofs.Numbers.{Bytes}
use Rattle.frames.proofs.Codec.{line_bytes, batch_within, sealed_tag, says_decision, says_paired, sender_small, pair_tag, says_proposal, says_plain, says-reselect}
use Rattle.frames.proofs.Slots.{slot_at, Place, place_of, Issued, Grows, grows_refl, grows_trans, issued_later, grows_set, framed_slot, grows_taken, free_taken, shown, taken_slot, issued_true, filled}
use Rattle.frames.proofs.Basics.{and_true, all_both, cond_cases, never}
use Rattle.frames.proofs.Frames.{states_proposal, states_reselect}
use Rattle.frames.proofs.Formed.{first_pair_all}
use Rattle.protocol.proofs.Usable.{Usable}
use Rattle.protocol.proofs.Framed.{Within}
use Rattle.protocol.proofs.Clerk.{rising-take, take_vote, backers_each, backers_rise, same_entry_refl}
use Rattle.protocol.proofs.Safe.{Ghost, Own, Known, Sealed, PoolSafe, Voted, current, StationSafe, Safe, known_grows, pool_safe_set, entered_within, add_plain, add_paired, issued_proposal, issued-reselect}
use Rattle.protocol.proofs.Basics.{no_votes}
use Rattle.protocol.proofs.Rules.{settle-rule, announce-rule, moved_on, Delivering, Following}
use Rattle.protocol.proofs.Keeps.{Step, ◌then◌, pool_step, put_here, put_safe, works-clerk, propose_step, next_step, Certain, decide_step}
use Rattle.protocol.proofs.Records.{own_is}

module _ (d : Terms) (intake : List Batch) where
  -- a slot marked as taken
  pub taken_step : {g : Ghost} (w : World) → Safe d intake g w → (i f : ℕ) → Step d intake g i 0 0 0 w (mark_taken f w)
  unfolding mark_taken
  taken_step {g} w s i f =
      pool_step d intake s i 0 _ (grows_taken w.pool f)
      (record {
        own = λ j a b. subst (λ (bs : List ℕ). Own d intake g bs) (sym (shown w.pool f j).1) (s.pool.own j (sym (shown w.pool f j).2 ∙ a) (rw (shown w.pool f j).0 at b));
        known = λ j b. subst (λ (bs : List ℕ). Known d intake bs (set w.pool f (taken_slot (slot_at w.pool f)))) (sym (shown w.pool f j).1) (known_grows d intake (grows_taken w.pool f) (s.pool.known j (rw (shown w.pool f j).0 at b)));
      })
      (omega (arith, free_taken w.pool f))

  pub busy_after : {g : Ghost} {i r k : ℕ} {w v : World} → Step d intake g i r 0 k w v → at_work d (station_at w i) ≡ true → at_work d (station_at v i) ≡ true
  busy_after {i = i} {w = w} {v = v} st busy = go (d.lawful (station_at v i).work) refl
    where
      now : current d intake (station_at w i) ≡ (station_at w i).booked + 1
      now = rw busy refl

      go : (b : Bool) → d.lawful (station_at v i).work ≡ b → d.lawful (station_at v i).work ≡ true
      go true e = e
      go false e = absurd (let z : current d intake (station_at v i) ≡ (station_at v i).booked = rw e refl in omega (arith, z, now, st.same, st.booked))

  -- what a member of the new committee alone can show
  pub record Evidence (b c : ℕ) (proof : List (ℕ × ℕ)) (p : List Slot) : Type 0 where
    pub station : ℕ
    pub tag : ℕ
    pub shows : proof ≡ (station, tag) ∷ []
    pub small : station < d.n
    pub tag_is : tag ≡ d.tag station (reselects station b (c + 1))
    pub known : d.faulty station ≡ false → Issued (reselects station b (c + 1)) p

  -- ghosts in which a faulty member excuses its committee
  pub record FaultsExcuse (g : Ghost) : Type 0 where
    pub faulty : (c b q : ℕ) → q < d.n → d.seats c q ≡ true → d.faulty q ≡ true → g.excused c b

  pub record Start (g : Ghost) (i k : ℕ) (w v : World) : Type 0 where
    pub safe : Safe d intake g v
    pub others : (j : ℕ) → (j ≡ i → ⊥) → station_at v j ≡ station_at w j
    pub booked : (station_at v i).booked ≡ (station_at w i).booked
    pub number : (station_at v i).number ≡ 0
    pub rises : current d intake (station_at v i) ≡ current d intake (station_at w i) + 1
    pub busy : at_work d (station_at v i) ≡ true
    pub grows : Grows w.pool v.pool
    pub room : free w.pool ≤ free v.pool + k

  pub start_then : {g : Ghost} {i k l : ℕ} {w v u : World} → Start g i k w v → Step d intake g i 0 0 l v u → Start g i (k + l) w u
  start_then a b = record {
    safe = b.safe;
    others = λ j n. b.others j n ∙ a.others j n;
    booked = omega (arith, a.booked, b.booked);
    number = omega (arith, a.number, b.number);
    rises = b.same ∙ a.rises;
    busy = busy_after b a.busy;
    grows = grows_trans a.grows b.grows;
    room = omega (arith, a.room, b.room);
  }

  module _ (law : Usable d) (sized : length intake ≡ d.batches) where
    pub announce_step : {g : Ghost} (w : World) → Safe d intake g w → (i b c : ℕ) (proof : List (ℕ × ℕ)) → Correct d i → Within d b → c < 20000 → 1 ≤ free w.pool
        → g.excused c b → g.left i c b → (d.seats c i ≡ false → Evidence b c proof w.pool) → Step d intake g i 0 0 1 w (announce d i b c proof w)
    unfolding issue Rattle.frames.proofs.Codec.sealed_frame
    announce_step {g} w s i b c proof co wi sm room ex le pr =
        announce-rule d (λ v. Step d intake g i 0 0 1 w v) i b c proof w
        (λ se. let a = add_plain d intake law sized g w.pool s.pool room i b c co wi sm se ex le in pool_step d intake s i 1 _ a.grows a.kept (omega (arith, a.room)))
        (λ se sn. paired (pr se))
        (λ se sn. pool_step d intake s i 1 w.pool (grows_refl w.pool) s.pool (omega arith))
      where
        paired : Evidence b c proof w.pool → Step d intake g i 0 0 1 w (issue d (statement 3 i b (c + 1) 1 (replicate 16 0)) proof i w)
        paired p =
            let a = add_paired d intake law sized g w.pool s.pool room i b c p.station p.tag co wi sm p.small p.tag_is p.known in
            rw p.shows (pool_step d intake s i 1 _ a.grows a.kept (omega (arith, a.room)))

    pub moved_step : {g : Ghost} (w : World) → Safe d intake g w → (i : ℕ) (proof : List (ℕ × ℕ)) → Correct d i → at_work d (station_at w i) ≡ true → (station_at w i).number < 20000 → 1 ≤ free w.pool
        → g.excused (station_at w i).number ((station_at w i).booked + 1) → g.left i (station_at w i).number ((station_at w i).booked + 1)
        → (d.seats (station_at w i).number i ≡ false → Evidence ((station_at w i).booked + 1) (station_at w i).number proof w.pool) → Step d intake g i 1 0 1 w (moved_on d i proof w)
    unfolding moved_on
    moved_step {g} w s i proof co busy sm room ex le pr =
        let now : current d intake (station_at w i) ≡ (station_at w i).booked + 1 = rw busy refl in
        let en = works-clerk d intake law sized w s i co busy in
        let a = next_step d intake law sized w s i co sm (rw now ex) in
        ◌then◌ d intake a (announce_step (next_number i w) a.safe i ((station_at w i).booked + 1) (station_at w i).number proof co (entered_within d intake law sized en) sm (omega (arith, a.room)) ex le
        (λ z. let p = pr z in record { station = p.station; tag = p.tag; shows = p.shows; small = p.small; tag_is = p.tag_is; known = λ y. issued_later a.grows (p.known y) }))

    pub settle_step : {g : Ghost} (w : World) → Safe d intake g w → (i : ℕ) → Correct d i → at_work d (station_at w i) ≡ true → 1 ≤ free w.pool → (e : Entry) → Fits e
        → d.t + 1 ≤ length (support d e (station_at w i)) → Step d intake g i 0 1 1 w (decide d i e (take (d.t + 1) (support d e (station_at w i))) w)
    settle_step {g} w s i co busy room e fits enough =
        decide_step d intake law sized w s i co busy room e _ (record {
          within = entered_within d intake law sized (works-clerk d intake law sized w s i co busy);
          fits = fits;
          quorum = length-take-le (d.t + 1) (support d e (station_at w i)) enough;
          rising = rising-take d 0 (d.t + 1) _ (backers_rise d e 0 (take d.n (station_at w i).votes) (λ k v x. omega (arith, (f.batch_work.voted k v (take_vote d d.n (station_at w i).votes k v x)).station)));
          sealed = All-take _ (d.t + 1) _ (All-weaker _ _ (λ p b. b.1 ∙ b.2.0) _ votes);
          known = All-take _ (d.t + 1) _ (All-weaker _ _ (λ p b. b.2.1) _ votes);
        })
      where
        f : StationSafe d intake g i (station_at w i) w.books w.pool
        f = s.fine i co

        now : current d intake (station_at w i) ≡ (station_at w i).booked + 1
        now = rw busy refl

        says : (q : ℕ) (v : Vote) → Voted d intake (current d intake (station_at w i)) q v w.pool → v.entry ≡ e
            → (v.tag ≡ d.tag q (proposes q ((station_at w i).booked + 1) e)) × (d.faulty q ≡ false → Issued (proposes q ((station_at w i).booked + 1) e) w.pool)
        says q v x y = (
          x.tag_is ∙ ap₂ (λ (b : ℕ) (a : Entry). d.tag q (proposes q b a)) now y,
          λ z. subst₂ (λ (b : ℕ) (a : Entry). Issued (proposes q b a) w.pool) now y (x.issued z),
        )

        votes : AllByRecursion (λ p. (v : Vote) × (p.1 ≡ v.tag) × ((v.tag ≡ d.tag p.0 (proposes p.0 ((station_at w i).booked + 1) e)) × (d.faulty p.0 ≡ false → Issued (proposes p.0 ((station_at w i).booked + 1) e) w.pool)))
            (support d e (station_at w i))
        votes = backers_each d (λ q v. (v.tag ≡ d.tag q (proposes q ((station_at w i).booked + 1) e)) × (d.faulty q ≡ false → Issued (proposes q ((station_at w i).booked + 1) e) w.pool)) e 0 (take d.n (station_at w i).votes)
            (λ k v x y. let z : k ≡ 0 + k = omega arith in rw (← z) (says k v (f.batch_work.voted k v (take_vote d d.n (station_at w i).votes k v x)) y))

    own_fits : {g : Ghost} (w : World) → Safe d intake g w → (i : ℕ) → Correct d i → Fits (own_entry w i)
    unfolding own_entry
    own_fits {g} w s i co = go (get_or (station_at w i).votes i None) refl
      where
        go : (o : Option Vote) → get_or (station_at w i).votes i None ≡ o → Fits (elim o [ None ↦ no_entry | Some v ↦ v.entry ])
        go None e = omega arith
        go (Some v) e = ((s.fine i co).batch_work.voted i v e).fits

    -- propose, then settle
    pub join_step : {g : Ghost} (w : World) → Safe d intake g w → (i : ℕ) → Correct d i → at_work d (station_at w i) ≡ true → 2 ≤ free w.pool
        → g.worked i ((station_at w i).booked + 1) → Step d intake g i 0 (cond (join d i w).1 1 0) 2 w (join d i w).0
    unfolding join
    join_step {g} w s i co busy room wk =
        let a = propose_step d intake law sized w s i co busy (omega arith) wk in
        settle-rule d (λ r. Step d intake g i 0 (cond r.1 1 0) 2 w r.0) i (own_entry (propose d i w) i) (propose d i w)
        (λ l. ◌then◌ d intake a (settle_step (propose d i w) a.safe i co (busy_after a busy) (omega (arith, a.room)) (own_entry (propose d i w) i) (own_fits (propose d i w) a.safe i co) l))
        (λ l. ◌then◌ d intake a (pool_step d intake a.safe i 1 (propose d i w).pool (grows_refl (propose d i w).pool) a.safe.pool (omega arith)))

    -- a frame that a station takes

    shows-plain : (bs : List ℕ) → count_of bs ≡ 0 → shows bs ≡ (sender_of bs, tag_of bs) ∷ []
    unfolding shows
    shows-plain bs e = rw (eq-eqb (count_of bs) 0 e) refl

    shows_paired : (bs : List ℕ) → count_of bs ≡ 1 → shows bs ≡ pairs_of bs
    unfolding shows
    shows_paired bs e = rw (ne_eqb (count_of bs) 0 (λ z. omega arith)) refl

    module _ {g : Ghost} (w : World) (s : Safe d intake g w) (i f : ℕ) (t : Delivering d i f w) where
      abbrev taken : List ℕ
      taken = frame_at w.pool f

      -- what a reselect frame that is taken shows, of a member of the committee left
      abbrev Followed : Type 0
      Followed = (p : Evidence ((station_at w i).booked + 1) (station_at w i).number (shows taken) w.pool) × (d.seats (station_at w i).number p.station ≡ true) × ((station_at w i).number < 20000)

      known_here : Known d intake taken w.pool
      known_here = s.pool.known f (filled w.pool f t.some)

      pub taken_vote : kind_of taken ≡ 1
          → Voted d intake (current d intake (station_at w i)) (sender_of taken) (record { entry = entry_of taken; tag = tag_of taken }) w.pool
      taken_vote k =
          let now : batch_of taken ≡ current d intake (station_at w i) = rw (t.busy, current) t.batch in
          let says = says_proposal d.n d.t d.batches d.tag taken t.formed known_here.bytes k in
          let text : take 24 taken ≡ proposes (sender_of taken) (current d intake (station_at w i)) (entry_of taken) = rw (← now) says.0 in
          record {
            station = sender_small d.n d.t d.batches d.tag taken t.formed;
            fits = says.1;
            tag_is = sealed_tag d.n d.t d.batches d.tag taken t.sealed ∙ ap (d.tag (sender_of taken)) text;
            issued = λ z. subst (λ (x : List ℕ). Issued x w.pool) text ((known_here.sealed t.formed).sender z t.sealed);
          }

      pub taken_decision : kind_of taken ≡ 2 → first_pair (pair_sealed d taken) 32 (pairs_of taken) ≡ None
          → Certain d intake ((station_at w i).booked + 1) (entry_of taken) (pairs_of taken) w.pool
      taken_decision k ps =
          let says = says_decision d.n d.t d.batches d.tag taken t.formed known_here.bytes k in
          let each = first_pair_all (pair_sealed d taken) 32 (pairs_of taken) ps in
          record {
            within = rw (← t.batch) (batch_within d.n d.t d.batches d.tag taken t.formed);
            fits = says.0;
            quorum = says.1;
            rising = says.2;
            sealed = All-weaker _ _ (λ p h. pair_tag d.n d.t d.batches d.tag taken p h ∙ ap (d.tag p.0) (text p.0)) (pairs_of taken) each;
            known = all_both _ _ _ (λ p h x a. subst (λ (y : List ℕ). Issued y w.pool) (text p.0) (x a h)) (pairs_of taken) each (known_here.sealed t.formed).pairs;
          }
        where
          text : (q : ℕ) → pair_states taken q ≡ proposes q ((station_at w i).booked + 1) (entry_of taken)
          text q = states_proposal taken q k ∙ ap (λ (b : ℕ). proposes q b (entry_of taken)) t.batch

      -- a station of the committee left whose reselect statement the frame bears, in a pair or as its own
      pub taken_reselect : Following d i taken w
          → Followed
      taken_reselect fo =
          go (cond_cases (d.seats (number_of taken - 1) (sender_of taken)) (eqb (count_of taken) 0)
          (d.seats (number_of taken) (sender_of taken) and eqb (count_of taken) 1) fo.shown)
        where
          small : (station_at w i).number < 20000
          small = omega (arith, fo.next, (says-reselect d.n d.t d.batches d.tag taken t.formed fo.not_proposal fo.not_decision).1)

          back : number_of taken - 1 ≡ (station_at w i).number
          back = omega (arith, fo.next)

          text : (q : ℕ) → reselects q (batch_of taken) (number_of taken) ≡ reselects q ((station_at w i).booked + 1) ((station_at w i).number + 1)
          text q = ap₂ (λ (b c : ℕ). reselects q b c) t.batch fo.next

          one : count_of taken ≡ 1 → (q x : ℕ) → pairs_of taken ≡ (q, x) ∷ [] → q < d.n
              → AllByRecursion (λ p. pair_left d taken p ≡ true) ((q, x) ∷ [])
              → AllByRecursion (λ p. d.faulty p.0 ≡ false → pair_sealed d taken p ≡ true → Issued (pair_states taken p.0) w.pool) ((q, x) ∷ [])
              → Followed
          one c q x ps qn good iss =
              let ok = and_true (pair_sealed d taken (q, x)) (d.seats (number_of taken - 1) q) good.0 in
              let says : pair_states taken q ≡ reselects q ((station_at w i).booked + 1) ((station_at w i).number + 1) = states_reselect taken q fo.not_decision ∙ text q in (
                record {
                  station = q;
                  tag = x;
                  shows = shows_paired taken c ∙ ps;
                  small = qn;
                  tag_is = pair_tag d.n d.t d.batches d.tag taken (q, x) ok.0 ∙ ap (d.tag q) says;
                  known = λ a. subst (λ (y : List ℕ). Issued y w.pool) says (iss.0 a ok.0);
                },
                ap (λ (c : ℕ). d.seats c q) (sym back) ∙ ok.1,
                small,
              )

          go : ((d.seats (number_of taken - 1) (sender_of taken) ≡ true) × (eqb (count_of taken) 0 ≡ true))
              ⊎ ((d.seats (number_of taken - 1) (sender_of taken) ≡ false) × ((d.seats (number_of taken) (sender_of taken) and eqb (count_of taken) 1) ≡ true))
              → Followed
          go (inl h) =
              let c : count_of taken ≡ 0 = eqb-true (count_of taken) 0 h.1 in
              let q : ℕ = sender_of taken in
              let says : take 24 taken ≡ reselects q ((station_at w i).booked + 1) ((station_at w i).number + 1) =
              says_plain d.n d.t d.batches d.tag taken t.formed known_here.bytes fo.not_proposal fo.not_decision c ∙ text q in (
                record {
                  station = q;
                  tag = tag_of taken;
                  shows = shows-plain taken c;
                  small = sender_small d.n d.t d.batches d.tag taken t.formed;
                  tag_is = sealed_tag d.n d.t d.batches d.tag taken t.sealed ∙ ap (d.tag q) says;
                  known = λ a. subst (λ (y : List ℕ). Issued y w.pool) says ((known_here.sealed t.formed).sender a t.sealed);
                },
                ap (λ (c : ℕ). d.seats c q) (sym back) ∙ h.0,
                small,
              )
          go (inr h) =
              let c : count_of taken ≡ 1 = eqb-true (count_of taken) 1 (and_true (d.seats (number_of taken) (sender_of taken)) (eqb (count_of taken) 1) h.1).1 in
              let y = says_paired d.n d.t d.batches d.tag taken t.formed c in
              one c y.0 y.1 y.2 y.3
              (subst (λ (ps : List (ℕ × ℕ)). AllByRecursion (λ p. pair_left d taken p ≡ true) ps) y.2
              (first_pair_all (pair_left d taken) 32 (pairs_of taken) fo.tags))
              (subst (λ (ps : List (ℕ × ℕ)). AllByRecursion (λ p. d.faulty p.0 ≡ false → pair_sealed d taken p ≡ true → Issued (pair_states taken p.0) w.pool) ps) y.2
              (known_here.sealed t.formed).pairs)

    -- so a taken reselect frame is an excuse
    pub evidence_excuses : {g : Ghost} (w : World) → Safe d intake g w → FaultsExcuse g → (b c : ℕ) → Within d b → c < 20000 → {proof : List (ℕ × ℕ)} (p : Evidence b c proof w.pool) → d.seats c p.station ≡ true → g.excused c b
    evidence_excuses {g} w s fair b c wi sm p se = go (d.faulty p.station) refl
      where
        go : (v : Bool) → d.faulty p.station ≡ v → g.excused c b
        go true e = fair.faulty c b p.station p.small se e
        go false e = (issued-reselect d intake law sized g w.pool s.pool p.station b c wi sm (p.known e)).0

    -- a correct station's vote is the clerk's entry
    pub vote_clerk : {g : Ghost} (w : World) → Safe d intake g w → (i : ℕ) → Correct d i → at_work d (station_at w i) ≡ true → (q : ℕ) (v : Vote) → get_or (station_at w i).votes q None ≡ Some v
        → d.faulty q ≡ false → get_or (clerk d 0 intake) (station_at w i).booked no_entry ≡ v.entry
    vote_clerk {g} w s i co busy q v held right =
        let now : current d intake (station_at w i) ≡ (station_at w i).booked + 1 = rw busy refl in
        let x = (s.fine i co).batch_work.voted q v held in
        let wi = entered_within d intake law sized (works-clerk d intake law sized w s i co busy) in
        let y = issued_proposal d intake law sized g w.pool s.pool q ((station_at w i).booked + 1) v.entry wi x.fits (rw now at (x.issued right)) in
        let k : (station_at w i).booked + 1 - 1 ≡ (station_at w i).booked = omega arith in
        ap (λ (m : ℕ). get_or (clerk d 0 intake) m no_entry) (sym k) ∙ y.0.is

    -- and so is a fellow member whose entry differs
    pub differs_excuses : {g : Ghost} (w : World) → Safe d intake g w → FaultsExcuse g → (i q : ℕ) (e : Entry) (v : Vote) → Correct d i → at_work d (station_at w i) ≡ true
        → get_or (station_at w i).votes q None ≡ Some v → v.entry ≡ e → differs d i q e w ≡ true
        → (d.seats (station_at w i).number i ≡ true) × ((station_at w i).number < 20000) × g.excused (station_at w i).number ((station_at w i).booked + 1) × ((station_at w i).proposed ≡ true)
    unfolding differs
    differs_excuses {g} w s fair i q e v co busy held en h =
        let c : ℕ = (station_at w i).number in
        let x₁ = and_true (d.seats c i) (ltb c 20000 and (station_at w i).proposed and d.seats c q and not (same_entry e (own_entry w i))) h in
        let x₂ = and_true (ltb c 20000) ((station_at w i).proposed and d.seats c q and not (same_entry e (own_entry w i))) x₁.1 in
        let x₃ = and_true (station_at w i).proposed (d.seats c q and not (same_entry e (own_entry w i))) x₂.1 in
        let x₄ = and_true (d.seats c q) (not (same_entry e (own_entry w i))) x₃.1 in
        (x₁.0, ltb-true c 20000 x₂.0, go x₃.0 x₄.0 (not-true (same_entry e (own_entry w i)) x₄.1) (d.faulty q) refl, x₃.0)
      where
        go : (station_at w i).proposed ≡ true → d.seats (station_at w i).number q ≡ true → same_entry e (own_entry w i) ≡ false → (b : Bool) → d.faulty q ≡ b
            → g.excused (station_at w i).number ((station_at w i).booked + 1)
        go pr se ne true f = fair.faulty (station_at w i).number ((station_at w i).booked + 1) q ((s.fine i co).batch_work.voted q v held).station se f
        go pr se ne false f =
            let o = (s.fine i co).batch_work.own pr in
            let same : own_entry w i ≡ e = own_is w i o.0 o.1 ∙ sym (vote_clerk w s i co busy i o.0 o.1 co.1) ∙ vote_clerk w s i co busy q v held f ∙ en in
            absurd (both_ways (same_entry e e) (rw same at ne) (same_entry_refl d e))

    -- Inject

    forged_none : (bs : List ℕ) (p : List Slot) → forged d bs p ≡ None → Sealed d intake bs p
    unfolding forged
    forged_none bs p h = go (not (d.faulty (sender_of bs)) and sender_sealed d bs and not (issued (take 24 bs) p)) refl
      where
        three : (a b c : Bool) → (not a and b and not c) ≡ false → a ≡ false → b ≡ true → c ≡ true
        three true b c h x y = absurd (both_ways true x refl)
        three false true c h x y = not-false c h
        three false false c h x y = never y

        go : (b : Bool) → (not (d.faulty (sender_of bs)) and sender_sealed d bs and not (issued (take 24 bs) p)) ≡ b → Sealed d intake bs p
        go true e = absurd (let x : Some 24 ≡ None = rw (e, forged) at h in let z : ◌≡◌ {A = ℕ} 0 1 = cc in omega arith)
        go false e = record {
          sender = λ a b. issued_true (take 24 bs) p (three (d.faulty (sender_of bs)) (sender_sealed d bs) (issued (take 24 bs) p) e a b);
          pairs = All-weaker _ _
              (λ q x a b. issued_true (pair_states bs q.0) p (three (d.faulty q.0) (pair_sealed d bs q) (issued (pair_states bs q.0) p) (not-true _ x) a b))
              (pairs_of bs)
              (first_pair_all (λ q. not (not (d.faulty q.0) and pair_sealed d bs q and not (issued (pair_states bs q.0) p))) 32 (pairs_of bs) (rw (e, forged) at h));
        }

    forgery_none : (bs : List ℕ) (p : List Slot) → forgery d bs p ≡ None → malformed d bs ≡ None → Sealed d intake bs p
    unfolding forgery
    forgery_none bs p h m = forged_none bs p (rw (m, forgery) at h)

    pub inject_step : {g : Ghost} (w : World) → Safe d intake g w → (i : ℕ) (l : List ℕ) → line_fault l ≡ None → 3 ≤ free w.pool → forgery d (unhex l) w.pool ≡ None
        → Step d intake g i 0 0 1 w (record { stations = w.stations; pool = enter (slot_of 1 (unhex l)) w.pool; books = w.books })
    inject_step {g} w s i l line room fo = go (place_of (slot_of 1 (unhex l)) ok.1 w.pool (omega arith))
      where
        ok : Bytes (unhex l) × (1 ≤ length (unhex l)) × (length (unhex l) ≤ 104)
        ok = line_bytes l line

        is : framed (slot_of 1 (unhex l)) ≡ unhex l
        is = framed_slot 1 (unhex l) ok.2

        go : Place (slot_of 1 (unhex l)) w.pool → Step d intake g i 0 0 1 w (record { stations = w.stations; pool = enter (slot_of 1 (unhex l)) w.pool; books = w.books })
        go at =
            let gr = grows_set w.pool at.place (slot_of 1 (unhex l)) at.empty in
            let kn : Known d intake (unhex l) w.pool = record { bytes = ok.0; sealed = λ m. forgery_none (unhex l) w.pool fo m } in
            let ke : PoolSafe d intake g (set w.pool at.place (slot_of 1 (unhex l))) =
            pool_safe_set d intake g w.pool s.pool at.place (slot_of 1 (unhex l)) at.inside at.empty (λ z. absurd (omega (arith, z)))
            (subst (λ (r : List ℕ). Known d intake r (set w.pool at.place (slot_of 1 (unhex l)))) (sym is) (known_grows d intake gr kn)) in
            pool_step d intake s i 1 _ (rw at.entered gr) (rw at.entered ke) (omega (arith, at.freed))

    -- Open

    -- the next batch is taken up
    pub take_up_step : {g : Ghost} (w : World) → Safe d intake g w → (i : ℕ) → Correct d i → at_work d (station_at w i) ≡ false → d.lawful (get_or intake (station_at w i).booked no_batch) ≡ true
        → Start g i 0 w (take_up (get_or intake (station_at w i).booked no_batch) i w)
    unfolding take_up with_station
    take_up_step {g} w s i co idle lawful = record {
      safe = put_safe d intake law sized s i co new w.books w.pool (grows_refl w.pool) s.pool
          (record {
            few = f.few;
            booked = f.booked;
            work = λ z. refl;
            short = omega arith;
            batch_work = record {
              size = refl;
              voted = λ q v e. absurd (no_votes q v e);
              own = never;
              excuses = λ c l. absurd (omega arith);
            };
            kept = f.kept;
          })
          refl (λ j l cj n h. refl);
      others = λ j n. get_or-set_other w.stations i j new no_station n;
      booked = ap (λ (u : Station). u.booked) here;
      number = ap (λ (u : Station). u.number) here;
      rises = ap (λ (u : Station). current d intake u) here ∙ up;
      busy = ap (λ (u : Station). at_work d u) here ∙ lawful;
      grows = grows_refl w.pool;
      room = omega arith;
    }
      where
        f : StationSafe d intake g i (station_at w i) w.books w.pool
        f = s.fine i co

        new : Station
        new = record { booked = (station_at w i).booked; work = get_or intake (station_at w i).booked no_batch; number = 0; proposed = false; votes = replicate 16 None }

        here : get_or (set w.stations i new) i no_station ≡ new
        here = put_here d intake law sized s i co new

        up : current d intake new ≡ current d intake (station_at w i) + 1
        up = rw (lawful, idle) refl
