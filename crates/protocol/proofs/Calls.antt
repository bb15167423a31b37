-- Every call keeps the invariant, whatever it answers.
use Rattle.std.proofs.Common.{◌≡◌, ℕ, ◌+◌, ◌<◌, ◌≤◌, Bool, true, false, cond, not, ◌⊎◌, List, [], ◌∷◌, length, get_or, set, Some, None, Ok, sym, refl, ap, ◌∙◌, subst, ap₂, subst₂, inl, inr, arith}
use Rattle.std.proofs.lemmas.Bool.{not-false, eq-eqb, ne_eqb, cases_eq, both_ways}
use Rattle.std.proofs.lemmas.List.{get_or-set_same, get_or-set_other}
use Rattle.std.proofs.ByRecursion.{All-weaker}
use Rattle.base.specs.declared.book.Batch.{Batch}
use Rattle.base.specs.declared.book.Entry.{Entry}
use Rattle.frames.specs.declared.slot.Slot.{Slot}
use Rattle.frames.specs.Slots.{frame_at, no_slot, free, enter, slot_of}
use Rattle.frames.specs.Frames.{kind_of, sender_of, tag_of, pairs_of, entry_of, first_pair, ◌and◌, unhex, line_fault}
use Rattle.protocol.specs.declared.station.Vote.{Vote}
use Rattle.protocol.specs.declared.station.Station.{Station}
use Rattle.protocol.specs.Law.{Terms, Correct, clerk, Call, Event, History, opening, delivery, ringing, injection, rings, opened_by, committee_of, WorkedOut, has_proposed, has_reselected, marks}
use Rattle.protocol.specs.Steps.{World, no_batch, no_entry, no_station, station_at, at_work, pair_sealed, propose, decide, with_station, store, take_up, mark_taken, join, forgery, differs, same_entry, shows, Acted, stepped, reselect, act, held, take_proposal, support}
use Rattle.frames.proofs.Codec.{line_bytes}
use Rattle.frames.proofs.Slots.{slot_at, Place, place_of, Grows, grows_refl, grows_trans, issued_later, filled}
use Rattle.frames.proofs.Basics.{never}
use Rattle.protocol.proofs.Usable.{Usable}
use Rattle.protocol.proofs.Framed.{Within}
use Rattle.protocol.proofs.Safe.{Ghost, Voted, current, Safe, voted_grows, safe_later, entered_within}
use Rattle.protocol.proofs.Taken.{Start, taken_step, busy_after, Evidence, moved_step, settle_step, join_step, taken_vote, taken_decision, taken_reselect, evidence_excuses, differs_excuses, inject_step, take_up_step, start_then}
use Rattle.protocol.proofs.Rules.{moved_on, Delivering, Following, Opening, Ringing, open_rule, ring_rule, deliver_rule, inject_rule, reselect-rule, proposal_rule}
use Rattle.protocol.proofs.Ready.{Ready, Followable, Announced, followable_plain, decide_idle, join_ready, opened_ready, moved_announced, announced_grows, backers_other}
use Rattle.protocol.proofs.Records.{moved_here, store_here, taken_stations}
use Rattle.protocol.proofs.Clerk.{same_entry_true}
use Rattle.protocol.proofs.Keeps.{Step, ◌then◌, pool_step, put_here, works-clerk, propose_step, store_step, Certain, decide_step}
use Rattle.protocol.proofs.History.{once_now, Left, LeftForCause, ghost, ghost_later, fair, Inv, Next, Footprint, refused_keeps, step_keeps, open_keeps, inject_keeps, Asked}

module _ (d : Terms) (intake : List Batch) where
  -- the invariant after a call
  abbrev pub After : History → World → Call → Acted → Type 0
  After h w c r = Next d intake h w (record { call = c; answer = r.1; pool = r.0.pool }) r.0

  module _ (law : Usable d) (sized : length intake ≡ d.batches) where
    step_cast : {g : Ghost} {i k : ℕ} {w v : World} (r x r' x' : ℕ) → r ≡ r' → x ≡ x' → Step d intake g i r x k w v → Step d intake g i r' x' k w v
    step_cast r x r' x' e f st = record
        { safe = st.safe; others = st.others; booked = omega (arith, st.booked); number = omega (arith, st.number); same = st.same; held_on = st.held_on; grows = st.grows; room = st.room }

    worked_now : {h : History} {w : World} → Inv d intake h w → (c : Call) (i : ℕ) → Asked d intake c i → Correct d i → at_work d (station_at w i) ≡ true → (a z : Bool) (p : List Slot)
        → WorkedOut i ((station_at w i).booked + 1) (record { call = c; answer = Ok (a, true, z); pool = p } ∷ h)
    worked_now {h} {w} inv c i ask co busy a z p =
        let e : Event = record { call = c; answer = Ok (a, true, z); pool = p } in
        let now : current d intake (station_at w i) ≡ (station_at w i).booked + 1 = rw busy refl in
        once_now (λ e before. (marks has_proposed i e ≡ true) × (opened_by i (e ∷ before) ≡ (station_at w i).booked + 1)) e h
        (rw ask.me refl, rw ask.not_open (omega (arith, (inv.counted i co).opened_is, now)))

    left_now : {h : History} {w : World} → Inv d intake h w → (c : Call) (i : ℕ) → Asked d intake c i → Correct d i → at_work d (station_at w i) ≡ true → (a z : Bool) (p : List Slot)
        → Left i (station_at w i).number ((station_at w i).booked + 1) (record { call = c; answer = Ok (true, a, z); pool = p } ∷ h)
    left_now {h} {w} inv c i ask co busy a z p =
        let e : Event = record { call = c; answer = Ok (true, a, z); pool = p } in
        let now : current d intake (station_at w i) ≡ (station_at w i).booked + 1 = rw busy refl in
        once_now (λ e before. (marks has_reselected i e ≡ true) × (committee_of i before ≡ (station_at w i).number) × (opened_by i before ≡ (station_at w i).booked + 1)) e h
        (rw ask.me refl, (inv.counted i co).number_is, (inv.counted i co).opened_is ∙ now)

    -- a station at work reselects, in a world u that its call has led to so far
    reselect_keeps : {h : History} {w : World} → Inv d intake h w → (c : Call) (i : ℕ) → Asked d intake c i → Correct d i → (u : World)
        → ((e : Event) → Step d intake (ghost d intake (e ∷ h)) i 0 0 0 w u) → at_work d (station_at w i) ≡ true → 3 ≤ free w.pool → (station_at w i).number < 20000
        → (proof : List (ℕ × ℕ)) → ((a z : Bool) (p : List Slot) → LeftForCause d intake (station_at w i).number ((station_at w i).booked + 1) (record { call = c; answer = Ok (true, a, z); pool = p } ∷ h))
        → (d.seats (station_at w i).number i ≡ false → Evidence d intake ((station_at w i).booked + 1) (station_at w i).number proof w.pool)
        → length (support d (get_or (clerk d 0 intake) (station_at u i).booked no_entry) (station_at u i)) ≤ d.t
        → (d.seats (station_at w i).number i ≡ true) ⊎ Footprint d intake c i ((station_at w i).booked + 1) (station_at w i).number w.pool
        → After h w c (stepped (reselect d i proof u))
    reselect_keeps {h} {w} inv c i ask co u pre busy room sm proof ex pr quiet foot =
        reselect-rule d (λ r. After h w c (stepped r)) i proof u
        (λ se np. joining se
        (ex true (join d i (moved_on d i proof u)).1 (join d i (moved_on d i proof u)).0.pool)
        (left_now inv c i ask co busy true (join d i (moved_on d i proof u)).1 (join d i (moved_on d i proof u)).0.pool)
        (worked_now inv c i ask co busy true (join d i (moved_on d i proof u)).1 (join d i (moved_on d i proof u)).0.pool))
        (λ q. moving q (ex false false (moved_on d i proof u).pool) (left_now inv c i ask co busy false false (moved_on d i proof u).pool))
      where
        G : Event → Ghost
        G e = ghost d intake (e ∷ h)

        any : Event
        any = record { call = c; answer = Ok (true, true, true); pool = [] }

        nu : (station_at w i).number ≡ (station_at u i).number
        nu = omega (arith, (pre any).number)

        bo : (station_at w i).booked ≡ (station_at u i).booked
        bo = omega (arith, (pre any).booked)

        still_busy : at_work d (station_at u i) ≡ true
        still_busy = busy_after d intake (pre any) busy

        moved : (e : Event) → LeftForCause d intake (station_at w i).number ((station_at w i).booked + 1) (e ∷ h) → Left i (station_at w i).number ((station_at w i).booked + 1) (e ∷ h)
            → Step d intake (G e) i 1 0 1 w (moved_on d i proof u)
        moved e x l =
            ◌then◌ d intake (pre e) (moved_step d intake law sized u (pre e).safe i proof co still_busy (omega (arith, sm, nu)) (omega (arith, room, (pre e).room))
            (subst₂ (λ (a b : ℕ). LeftForCause d intake a (b + 1) (e ∷ h)) nu bo x) (subst₂ (λ (a b : ℕ). Left i a (b + 1) (e ∷ h)) nu bo l)
            (λ z. shift (pr (ap (λ (a : ℕ). d.seats a i) nu ∙ z))))
          where
            later : Evidence d intake ((station_at w i).booked + 1) (station_at w i).number proof w.pool → Evidence d intake ((station_at w i).booked + 1) (station_at w i).number proof u.pool
            later p = record { station = p.station; tag = p.tag; shows = p.shows; small = p.small; tag_is = p.tag_is; known = λ y. issued_later (pre any).grows (p.known y) }

            shift : Evidence d intake ((station_at w i).booked + 1) (station_at w i).number proof w.pool → Evidence d intake ((station_at u i).booked + 1) (station_at u i).number proof u.pool
            shift p = subst₂ (λ (a b : ℕ). Evidence d intake (b + 1) a proof u.pool) nu bo (later p)

        joining_part : (e : Event) → Step d intake (G e) i 1 0 1 w (moved_on d i proof u) → WorkedOut i ((station_at w i).booked + 1) (e ∷ h)
            → Step d intake (G e) i 0 (cond (join d i (moved_on d i proof u)).1 1 0) 2 (moved_on d i proof u) (join d i (moved_on d i proof u)).0
        joining_part e a k =
            let b : (station_at w i).booked ≡ (station_at (moved_on d i proof u) i).booked = omega (arith, a.booked) in
            join_step d intake law sized (moved_on d i proof u) a.safe i co (busy_after d intake a busy) (omega (arith, room, a.room)) (subst (λ (b : ℕ). WorkedOut i (b + 1) (e ∷ h)) b k)

        inside : i < length u.stations
        inside = omega (arith, co.0, law.few_stations, (pre any).safe.stations)

        wi : Within d ((station_at w i).booked + 1)
        wi = entered_within d intake law sized (works-clerk d intake law sized w inv.safe i co busy)

        printed : {p : List Slot} → Grows (moved_on d i proof u).pool p → Grows w.pool p → (d.seats (station_at w i).number i ≡ true) ⊎ Footprint d intake c i ((station_at w i).booked + 1) (station_at w i).number w.pool
            → Footprint d intake c i ((station_at w i).booked + 1) (station_at w i).number p
        printed {p} gr all (inl se) =
            let a₀ : Announced d intake i ((station_at u i).booked + 1) (station_at u i).number (moved_on d i proof u).pool =
            moved_announced d intake law sized u i proof co (subst (λ (b : ℕ). Within d (b + 1)) bo wi) (omega (arith, sm, nu)) (omega (arith, room, (pre any).room)) (ap (λ (a : ℕ). d.seats a i) (sym nu) ∙ se) in
            let a = announced_grows d intake gr (subst₂ (λ (b n : ℕ). Announced d intake i (b + 1) n (moved_on d i proof u).pool) (sym bo) (sym nu) a₀) in
            record {
              place = a.place;
              filled = a.filled;
              whose = inl a.mine;
              good = subst (λ (bs : List ℕ). Followable d intake bs ((station_at w i).booked + 1) (station_at w i).number) (sym a.reads) (followable_plain d intake law sized i ((station_at w i).booked + 1) (station_at w i).number co wi sm se);
            }
        printed {p} gr all (inr t) = record {
          place = t.place;
          filled = omega (arith, all.len t.place t.filled, t.filled);
          whose = whose' t.whose;
          good = subst (λ (bs : List ℕ). Followable d intake bs ((station_at w i).booked + 1) (station_at w i).number) (sym (all.frame t.place t.filled)) t.good;
        }
          where
            whose' : ((slot_at w.pool t.place).by ≡ 0) ⊎ (c ≡ delivery i t.place) → ((slot_at p t.place).by ≡ 0) ⊎ (c ≡ delivery i t.place)
            whose' (inl x) = inl (all.by t.place t.filled ∙ x)
            whose' (inr x) = inr x

        joining : d.seats ((station_at u i).number + 1) i ≡ true
            → LeftForCause d intake (station_at w i).number ((station_at w i).booked + 1) (record { call = c; answer = Ok (true, true, (join d i (moved_on d i proof u)).1); pool = (join d i (moved_on d i proof u)).0.pool } ∷ h)
            → Left i (station_at w i).number ((station_at w i).booked + 1) (record { call = c; answer = Ok (true, true, (join d i (moved_on d i proof u)).1); pool = (join d i (moved_on d i proof u)).0.pool } ∷ h)
            → WorkedOut i ((station_at w i).booked + 1) (record { call = c; answer = Ok (true, true, (join d i (moved_on d i proof u)).1); pool = (join d i (moved_on d i proof u)).0.pool } ∷ h)
            → After h w c ((join d i (moved_on d i proof u)).0, Ok (true, true, (join d i (moved_on d i proof u)).1))
        joining se x l k =
            let e : Event = record { call = c; answer = Ok (true, true, (join d i (moved_on d i proof u)).1); pool = (join d i (moved_on d i proof u)).0.pool } in
            let a = moved e x l in
            let b = joining_part e a k in
            step_keeps d intake law sized inv c i co ask (true, true, (join d i (moved_on d i proof u)).1) 3 (join d i (moved_on d i proof u)).0
            (step_cast _ _ 1 _ refl (omega arith) (◌then◌ d intake a b))
            (λ z. ap (λ (a : ℕ). d.seats a i) (omega (arith, a.number, b.number, nu)) ∙ se)
            busy (join_ready d intake law sized (moved_on d i proof u) a.safe i co (busy_after d intake a busy))
            (λ z. printed b.grows (grows_trans a.grows b.grows) foot)

        moving : (d.seats ((station_at u i).number + 1) i and not (station_at u i).proposed) ≡ false
            → LeftForCause d intake (station_at w i).number ((station_at w i).booked + 1) (record { call = c; answer = Ok (true, false, false); pool = (moved_on d i proof u).pool } ∷ h)
            → Left i (station_at w i).number ((station_at w i).booked + 1) (record { call = c; answer = Ok (true, false, false); pool = (moved_on d i proof u).pool } ∷ h)
            → After h w c (moved_on d i proof u, Ok (true, false, false))
        moving q x l =
            let e : Event = record { call = c; answer = Ok (true, false, false); pool = (moved_on d i proof u).pool } in
            let a = moved e x l in
            step_keeps d intake law sized inv c i co ask (true, false, false) 1 (moved_on d i proof u) a
            never busy
            (λ z. subst (Ready d intake i) (sym (moved_here d u i proof inside)) (record { seated = λ y. has (d.seats ((station_at u i).number + 1) i) (station_at u i).proposed q y; quiet = quiet }))
            (λ z. printed (grows_refl (moved_on d i proof u).pool) a.grows foot)
          where
            has : (a b : Bool) → (a and not b) ≡ false → a ≡ true → b ≡ true
            has true b h y = not-false b h
            has false b h y = never y

    asked_delivery : (i f : ℕ) → Asked d intake (delivery i f) i
    asked_delivery i f = record { me = eq-eqb i i refl; only = λ j n. ne_eqb j i n; not_open = refl; not_inject = refl }

    asked_ringing : (i : ℕ) → Asked d intake (ringing i) i
    asked_ringing i = record { me = eq-eqb i i refl; only = λ j n. ne_eqb j i n; not_open = refl; not_inject = refl }

    ring_keeps : {h : History} {w : World} → Inv d intake h w → (i : ℕ) → Ringing d i w → After h w (ringing i) (stepped (reselect d i [] w))
    ring_keeps {h} {w} inv i r =
        let co : Correct d i = (r.small, r.right) in
        let now : current d intake (station_at w i) ≡ (station_at w i).booked + 1 = rw r.busy refl in
        reselect_keeps inv (ringing i) i (asked_ringing i) co w
        (λ e. pool_step d intake (safe_later d intake (ghost_later d intake h e) inv.safe) i 0 w.pool (grows_refl w.pool) (safe_later d intake (ghost_later d intake h e) inv.safe).pool (omega arith))
        r.busy r.room r.below []
        (λ a z p. inr (
          i,
          co,
          r.member,
          once_now (λ e before. (rings i e ≡ true) × (marks has_reselected i e ≡ true) × (committee_of i before ≡ (station_at w i).number) × (opened_by i before ≡ (station_at w i).booked + 1)) _ h
              (rw (eq-eqb i i refl) refl, rw (eq-eqb i i refl) refl, (inv.counted i co).number_is, (inv.counted i co).opened_is ∙ now),
        ))
        (λ z. absurd (both_ways (d.seats (station_at w i).number i) z r.member)) (inv.ready i co r.busy).quiet (inl r.member)

    -- the safety of the world before a call, as the call's own history has it
    safe_now : {h : History} {w : World} → Inv d intake h w → (e : Event) → Safe d intake (ghost d intake (e ∷ h)) w
    safe_now {h} inv e = safe_later d intake (ghost_later d intake h e) inv.safe

    stored_vote : {g : Ghost} (w : World) → Safe d intake g w → (i q : ℕ) (v : Vote) → Correct d i → q < d.n → get_or (station_at (store i q v w) i).votes q None ≡ Some v
    unfolding store with_station
    stored_vote w s i q v co qn =
        ap (λ (t : Station). get_or t.votes q None) (put_here d intake law sized s i co _)
        ∙ get_or-set_same (station_at w i).votes q (Some v) None (omega (arith, qn, law.few_stations, (s.fine i co).batch_work.size))

    stored_here : (f : ℕ) (w : World) (i q : ℕ) (v : Vote) → i < length w.stations
        → station_at (store i q v (mark_taken f w)) i ≡ record { booked = (station_at w i).booked; work = (station_at w i).work; number = (station_at w i).number; proposed = (station_at w i).proposed; votes = set (station_at w i).votes q (Some v) }
    unfolding mark_taken
    stored_here f w i q v l = store_here (mark_taken f w) i q v l

    -- a Deliver whose tests have passed, up to the sender's tag
    module _ {h : History} {w : World} (inv : Inv d intake h w) (i f : ℕ) (t : Delivering d i f w) where
      abbrev taken : List ℕ
      taken = frame_at w.pool f

      co : Correct d i
      co = (t.small, t.right)

      ask : Asked d intake (delivery i f) i
      ask = asked_delivery i f

      proposal_keeps : kind_of taken ≡ 1
          → held (get_or (station_at w i).votes (sender_of taken) None) ≡ false
          → After h w (delivery i f) (take_proposal d i taken (mark_taken f w))
      proposal_keeps kind new =
          proposal_rule d (After h w (delivery i f)) i taken (mark_taken f w)
          (λ l. step_keeps d intake law sized inv (delivery i f) i co ask (false, false, true) 1 _
          (◌then◌ d intake (pre _) (settle_step d intake law sized u (pre _).safe i co still_busy (omega (arith, t.room, (pre any).room)) (entry_of taken) vote.fits l))
          never t.busy (λ z. absurd (both_ways _ (decide_idle d intake law sized u i _ _ inside) z)) never)
          (λ l di. reselect_keeps inv (delivery i f) i ask co u pre t.busy t.room
          (omega (arith, nu, (di_facts any di).1)) []
          (λ x z p. subst₂ (λ (a b : ℕ). LeftForCause d intake a (b + 1) (record { call = delivery i f; answer = Ok (true, x, z); pool = p } ∷ h)) (sym nu) (sym bo) (di_facts (record { call = delivery i f; answer = Ok (true, x, z); pool = p }) di).2)
          (λ z. absurd (both_ways (d.seats (station_at w i).number i) z (ap (λ (a : ℕ). d.seats a i) nu ∙ (di_facts any di).0)))
          (quiet l) (inl (ap (λ (a : ℕ). d.seats a i) nu ∙ (di_facts any di).0)))
          (λ l di. step_keeps d intake law sized inv (delivery i f) i co ask (false, false, false) 0 u (pre _) never
          t.busy (λ z. subst (Ready d intake i) (sym here) (record { seated = (inv.ready i co t.busy).seated; quiet = subst (λ (s : Station). length (support d (get_or (clerk d 0 intake) s.booked no_entry) s) ≤ d.t) here (quiet l) }))
          never)
        where
          q : ℕ
          q = sender_of taken

          v : Vote
          v = record { entry = entry_of taken; tag = tag_of taken }

          u : World
          u = store i q v (mark_taken f w)

          any : Event
          any = record { call = delivery i f; answer = Ok (true, true, true); pool = [] }

          vote : Voted d intake (current d intake (station_at w i)) q v w.pool
          vote = taken_vote d intake law sized w inv.safe i f t kind

          pre : (e : Event) → Step d intake (ghost d intake (e ∷ h)) i 0 0 0 w u
          pre e =
              let a = taken_step d intake w (safe_now inv e) i f in
              ◌then◌ d intake a (store_step d intake law sized (mark_taken f w) a.safe i q v co
              (subst (λ (b : ℕ). Voted d intake b q v (mark_taken f w).pool) (sym a.same) (voted_grows d intake a.grows vote)))

          nu : (station_at w i).number ≡ (station_at u i).number
          nu = omega (arith, (pre any).number)

          bo : (station_at w i).booked ≡ (station_at u i).booked
          bo = omega (arith, (pre any).booked)

          still_busy : at_work d (station_at u i) ≡ true
          still_busy = busy_after d intake (pre any) t.busy

          di_facts : (e : Event) → differs d i q (entry_of taken) u ≡ true
              → (d.seats (station_at u i).number i ≡ true) × ((station_at u i).number < 20000) × LeftForCause d intake (station_at u i).number ((station_at u i).booked + 1) (e ∷ h) × ((station_at u i).proposed ≡ true)
          di_facts e di = differs_excuses d intake law sized u (pre e).safe (fair d intake (e ∷ h)) i q (entry_of taken) v co still_busy
              (stored_vote (mark_taken f w) (taken_step d intake w (safe_now inv e) i f).safe i q v co vote.station) refl di

          inside : i < length u.stations
          inside = omega (arith, co.0, law.few_stations, (pre any).safe.stations)

          here : station_at u i ≡ record { booked = (station_at w i).booked; work = (station_at w i).work; number = (station_at w i).number; proposed = (station_at w i).proposed; votes = set (station_at w i).votes q (Some v) }
          here = stored_here f w i q v (omega (arith, co.0, law.few_stations, inv.safe.stations))

          quiet : length (support d (entry_of taken) (station_at u i)) ≤ d.t → length (support d (get_or (clerk d 0 intake) (station_at u i).booked no_entry) (station_at u i)) ≤ d.t
          quiet l = go (same_entry (entry_of taken) (get_or (clerk d 0 intake) (station_at w i).booked no_entry)) refl
            where
              go : (b : Bool) → same_entry (entry_of taken) (get_or (clerk d 0 intake) (station_at w i).booked no_entry) ≡ b
                  → length (support d (get_or (clerk d 0 intake) (station_at u i).booked no_entry) (station_at u i)) ≤ d.t
              go true e =
                  let x : entry_of taken ≡ get_or (clerk d 0 intake) (station_at w i).booked no_entry = same_entry_true d _ _ e in
                  subst (λ (y : Entry). length (support d y (station_at u i)) ≤ d.t) (x ∙ ap (λ (k : ℕ). get_or (clerk d 0 intake) k no_entry) bo) l
              go false e =
                  subst (λ (s : Station). length (support d (get_or (clerk d 0 intake) s.booked no_entry) s) ≤ d.t) (sym here)
                  (omega (arith, backers_other (get_or (clerk d 0 intake) (station_at w i).booked no_entry) 0 d.n q v (station_at w i).votes new e, (inv.ready i co t.busy).quiet))

      decision_keeps : kind_of taken ≡ 2
          → first_pair (pair_sealed d taken) 32 (pairs_of taken) ≡ None
          → After h w (delivery i f) (decide d i (entry_of taken) (pairs_of taken) (mark_taken f w), Ok (false, false, true))
      decision_keeps kind ps =
          step_keeps d intake law sized inv (delivery i f) i co ask (false, false, true) 1 _ (all _) never
          t.busy (λ z. absurd (both_ways _ (decide_idle d intake law sized (mark_taken f w) i _ _ (rw taken_stations (omega (arith, t.small, law.few_stations, inv.safe.stations)))) z)) never
        where
          cert : Certain d intake ((station_at w i).booked + 1) (entry_of taken) (pairs_of taken) w.pool
          cert = taken_decision d intake law sized w inv.safe i f t kind ps

          all : (e : Event) → Step d intake (ghost d intake (e ∷ h)) i 0 1 1 w (decide d i (entry_of taken) (pairs_of taken) (mark_taken f w))
          all e =
              let a = taken_step d intake w (safe_now inv e) i f in
              let bo : (station_at w i).booked ≡ (station_at (mark_taken f w) i).booked = omega (arith, a.booked) in
              let here : Certain d intake ((station_at w i).booked + 1) (entry_of taken) (pairs_of taken) (mark_taken f w).pool = record {
                within = cert.within;
                fits = cert.fits;
                quorum = cert.quorum;
                rising = cert.rising;
                sealed = cert.sealed;
                known = All-weaker _ _ (λ p x y. issued_later a.grows (x y)) (pairs_of taken) cert.known;
              } in
              ◌then◌ d intake a (decide_step d intake law sized (mark_taken f w) a.safe i co (busy_after d intake a t.busy) (omega (arith, t.room, a.room)) (entry_of taken) (pairs_of taken)
              (subst (λ (b : ℕ). Certain d intake (b + 1) (entry_of taken) (pairs_of taken) (mark_taken f w).pool) bo here))

      following_keeps : Following d i taken w
          → After h w (delivery i f) (stepped (reselect d i (shows taken) (mark_taken f w)))
      following_keeps fo =
          let p = taken_reselect d intake law sized w inv.safe i f t fo in
          let wi = entered_within d intake law sized (works-clerk d intake law sized w inv.safe i co t.busy) in
          reselect_keeps inv (delivery i f) i ask co (mark_taken f w) (λ e. taken_step d intake w (safe_now inv e) i f) t.busy t.room p.2 (shows taken)
          (λ a z q. evidence_excuses d intake law sized w (safe_now inv _) (fair d intake _) ((station_at w i).booked + 1) (station_at w i).number wi p.2 p.0 p.1)
          (λ z. p.0)
          (subst (λ (s : List Station). length (support d (get_or (clerk d 0 intake) (get_or s i no_station).booked no_entry) (get_or s i no_station)) ≤ d.t) (sym (taken_stations f w)) (inv.ready i co t.busy).quiet)
          (inr (record {
            place = f;
            filled = filled w.pool f t.some;
            whose = inr refl;
            good = record
                { formed = t.formed; not_proposal = fo.not_proposal; not_decision = fo.not_decision; batch = t.batch; number = fo.next; sealed = t.sealed; shown = fo.shown; tags = fo.tags };
          }))

    opening_keeps : {h : History} {w : World} → Inv d intake h w → (i : ℕ) → Opening d intake i w
        → ((d.seats 0 i ≡ true → After h w (opening i) (propose d i (take_up (get_or intake (station_at w i).booked no_batch) i w), Ok (false, true, false)))
        × (d.seats 0 i ≡ false → After h w (opening i) (take_up (get_or intake (station_at w i).booked no_batch) i w, Ok (false, false, false))))
    opening_keeps {h} {w} inv i o = (
      (λ se. open_keeps d intake law sized inv i co true 1 _
          (start_then d intake (up _) (propose_step d intake law sized u (up _).safe i co (up any).busy (omega (arith, o.room, (up any).room)) (worked _)))
          (λ z. se) ((opened_ready d intake law sized w inv.safe i (get_or intake (station_at w i).booked no_batch) co).0 se)),
      (λ se. open_keeps d intake law sized inv i co false 0 u (up _) never
          ((opened_ready d intake law sized w inv.safe i (get_or intake (station_at w i).booked no_batch) co).1 se)),
    )
      where
        co : Correct d i
        co = (o.small, o.right)

        any : Event
        any = record { call = opening i; answer = Ok (true, true, true); pool = [] }

        u : World
        u = take_up (get_or intake (station_at w i).booked no_batch) i w

        up : (e : Event) → Start d intake (ghost d intake (e ∷ h)) i 0 w u
        up e = take_up_step d intake law sized w (safe_now inv e) i co o.idle o.lawful

        worked : (p : List Slot) → WorkedOut i ((station_at u i).booked + 1) (record { call = opening i; answer = Ok (false, true, false); pool = p } ∷ h)
        worked p =
            let e : Event = record { call = opening i; answer = Ok (false, true, false); pool = p } in
            let now : current d intake (station_at w i) ≡ (station_at w i).booked = rw o.idle refl in
            once_now (λ e before. (marks has_proposed i e ≡ true) × (opened_by i (e ∷ before) ≡ (station_at u i).booked + 1)) e h
            (rw (eq-eqb i i refl) refl, rw (eq-eqb i i refl) (omega (arith, (inv.counted i co).opened_is, now, (up any).booked)))

    injection_keeps : {h : History} {w : World} → Inv d intake h w → (l : List ℕ) → line_fault l ≡ None → 3 ≤ free w.pool → forgery d (unhex l) w.pool ≡ None
        → After h w (injection l) (record { stations = w.stations; pool = enter (slot_of 1 (unhex l)) w.pool; books = w.books }, Ok (false, false, false))
    injection_keeps {h} {w} inv l line room fo =
        inject_keeps d intake law sized inv l 0 1 _ (inject_step d intake law sized w (safe_now inv _) 0 l line room fo) refl
        (old (place_of (slot_of 1 (unhex l)) (line_bytes l line).1 w.pool (omega arith)))
      where
        old : Place (slot_of 1 (unhex l)) w.pool → (f : ℕ) → (slot_at (enter (slot_of 1 (unhex l)) w.pool) f).by ≡ 0 → 1 ≤ (slot_at (enter (slot_of 1 (unhex l)) w.pool) f).len → 1 ≤ (slot_at w.pool f).len
        old at f a b = go (cases_eq f at.place)
          where
            go : (f ≡ at.place) ⊎ (f ≡ at.place → ⊥) → 1 ≤ (slot_at w.pool f).len
            go (inl e) =
                let x : slot_at (enter (slot_of 1 (unhex l)) w.pool) f ≡ slot_of 1 (unhex l) =
                ap₂ (λ (p : List Slot) (g : ℕ). slot_at p g) at.entered e ∙ get_or-set_same w.pool at.place (slot_of 1 (unhex l)) no_slot at.inside in
                absurd (omega (arith, ap (λ (s : Slot). s.by) x, a))
            go (inr n) =
                let x : slot_at (enter (slot_of 1 (unhex l)) w.pool) f ≡ slot_at w.pool f =
                ap (λ (p : List Slot). slot_at p f) at.entered ∙ get_or-set_other w.pool at.place f (slot_of 1 (unhex l)) no_slot n in
                omega (arith, ap (λ (s : Slot). s.len) x, b)

    -- every call keeps the invariant
    pub call_keeps : {h : History} {w : World} → Inv d intake h w → (c : Call) → After h w c (act d intake c w)
    call_keeps {h} {w} inv (opening i) =
        open_rule d (After h w (opening i)) intake i w (λ x. refused_keeps d intake inv (opening i) x) (λ o. (opening_keeps inv i o).0) (λ o. (opening_keeps inv i o).1)
    call_keeps {h} {w} inv (delivery i f) =
        deliver_rule d (After h w (delivery i f)) i f w (λ x. refused_keeps d intake inv (delivery i f) x)
        (λ t k n. proposal_keeps inv i f t k n) (λ t k p. decision_keeps inv i f t k p) (λ t fo. following_keeps inv i f t fo)
    call_keeps {h} {w} inv (ringing i) = ring_rule d (After h w (ringing i)) i w (λ x. refused_keeps d intake inv (ringing i) x) (λ r. ring_keeps inv i r)
    call_keeps {h} {w} inv (injection l) =
        inject_rule d (After h w (injection l)) l w (λ x. refused_keeps d intake inv (injection l) x) (λ a b c. injection_keeps inv l a b c)
