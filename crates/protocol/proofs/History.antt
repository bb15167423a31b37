-- The invariant of a history and the world that it left, and what keeps it.
use Rattle.std.proofs.Common.{◌≡◌, ℕ, ◌+◌, ◌<◌, ◌≤◌, Bool, true, false, cond, eqb, ◌⊎◌, List, [], ◌∷◌, length, get_or, None, Ok, Err, sym, refl, ap, ◌∙◌, subst, subst₂, inl, inr, arith}
use Rattle.std.proofs.lemmas.Bool.{eq-eqb, ne_eqb, cases_eq, both_ways, cases_lt}
use Rattle.base.specs.declared.book.Batch.{Batch}
use Rattle.base.specs.declared.fault.Fault.{Fault}
use Rattle.frames.specs.declared.slot.Slot.{Slot}
use Rattle.frames.specs.Slots.{frame_at}
use Rattle.protocol.specs.declared.station.Station.{Station}
use Rattle.protocol.specs.Law.{Terms, Correct, Call, Event, History, Marks, opening, delivery, injection, asks, is_opening, is_injection, accepted, opens, rings, opened_by, booked_by, committee_of, Once, WorkedOut, pool_of, Live, Excused, Lazy, has_reselected, marks, has_proposed, has_decided, CalledUpon}
use Rattle.protocol.specs.Steps.{World, no_station, station_at, at_work, held}
use Rattle.frames.proofs.Slots.{slot_at, Grows, grows_refl, frame_empty}
use Rattle.frames.proofs.Basics.{never, cond_false_false}
use Rattle.protocol.proofs.Usable.{Usable}
use Rattle.protocol.proofs.Safe.{Ghost, Later, Own, proposal, decision, plain, paired, current, Safe, safe_later, entered_within}
use Rattle.protocol.proofs.Keeps.{Step}
use Rattle.protocol.proofs.Taken.{Start, FaultsExcuse}
use Rattle.protocol.proofs.Ready.{Ready, Followable, Trail}
use Rattle.protocol.proofs.Framed.{reads_paired, reads_plain, reads_proposal, reads_decision}

-- what happened once has happened later too
pub once_later : {P : Event → History → Type 0} {h : History} (e : Event) → Once P h → Once P (e ∷ h)
once_later {P} {h} e o = (e ∷ o.0, o.1, o.2, ap (λ (r : History). e ∷ r) o.3, o.4)

pub once_now : (P : Event → History → Type 0) (e : Event) (h : History) → P e h → Once P (e ∷ h)
once_now P e h p = ([], e, h, refl, p)

pub live_later : {f : ℕ} {h : History} (e : Event) → Live f h → Live f (e ∷ h)
live_later e (inl o) = inl (once_later e o)
live_later e (inr o) = inr (once_later e o)

-- station i left committee c in batch b
abbrev pub Left : ℕ → ℕ → ℕ → History → Type 0
Left i c b = Once (λ e before. (marks has_reselected i e ≡ true) × (committee_of i before ≡ c) × (opened_by i before ≡ b))

-- station i rang in committee c of batch b, and so left it
abbrev pub Rung : ℕ → ℕ → ℕ → History → Type 0
Rung i c b = Once (λ e before. (rings i e ≡ true) × (marks has_reselected i e ≡ true) × (committee_of i before ≡ c) × (opened_by i before ≡ b))

unfoldable pub event_head : Event → History → Event
event_head x [] = x
event_head x (e ∷ h) = e

unfoldable pub event_tail : History → History
event_tail [] = []
event_tail (e ∷ h) = h

marks_other : (p : Marks → Bool) (j : ℕ) (e : Event) → asks j e.call ≡ false → marks p j e ≡ false
marks_other p j e h = rw h refl

marks-refused : (p : Marks → Bool) (j : ℕ) (c : Call) (x : Fault) (pool : List Slot) → marks p j (record { call = c; answer = Err x; pool = pool }) ≡ false
marks-refused p j c x pool = cond_false_false (asks j c)

marks_here : (p : Marks → Bool) (j : ℕ) (c : Call) (m : Marks) (pool : List Slot) → asks j c ≡ true → marks p j (record { call = c; answer = Ok m; pool = pool }) ≡ p m
marks_here p j c m pool h = rw h refl

module _ (d : Terms) (intake : List Batch) where
  -- committee c has a faulty member, or a correct one that rang and left
  abbrev pub LeftForCause : ℕ → ℕ → History → Type 0
  LeftForCause c b h =
      ((i : ℕ) × (i < d.n) × (d.seats c i ≡ true) × (d.faulty i ≡ true))
      ⊎ ((i : ℕ) × Correct d i × (d.seats c i ≡ true) × Rung i c b h)

  cause_excuses : {c b : ℕ} {h : History} → LeftForCause c b h → Excused d c b h
  cause_excuses (inl x) = inl x
  cause_excuses (inr x) = let o = x.3 in inr (x.0, x.1, x.2, (o.0, o.1, o.2, o.3, (o.4.0, o.4.2, o.4.3)))

  abbrev pub ghost : History → Ghost
  ghost h = record { worked = λ i b. WorkedOut i b h; excused = λ c b. LeftForCause c b h; left = λ i c b. Left i c b h }

  cause_later : {c b : ℕ} {h : History} (e : Event) → LeftForCause c b h → LeftForCause c b (e ∷ h)
  cause_later e (inl x) = inl x
  cause_later e (inr x) = inr (x.0, x.1, x.2, once_later e x.3)

  pub ghost_later : (h : History) (e : Event) → Later (ghost h) (ghost (e ∷ h))
  ghost_later h e = record { worked = λ i b. once_later e; excused = λ c b. cause_later e; left = λ i c b. once_later e }

  pub fair : (h : History) → FaultsExcuse d intake (ghost h)
  fair h = record { faulty = λ c b q qn se f. inl (q, qn, se, f) }

  -- what a history says of a station's record
  pub record Counted (i : ℕ) (h : History) (s : Station) : Type 0 where
    pub booked_is : booked_by i h ≡ s.booked
    pub number_is : committee_of i h ≡ s.number
    pub opened_is : opened_by i h ≡ current d intake s

  pub record Inv (h : History) (w : World) : Type 0 where
    pub safe : Safe d intake (ghost h) w
    pub counted : (i : ℕ) → Correct d i → Counted i h (station_at w i)
    pub shows : (f : ℕ) → frame_at (pool_of h) f ≡ frame_at w.pool f
    pub live : (f : ℕ) → (slot_at w.pool f).by ≡ 0 → 1 ≤ (slot_at w.pool f).len → Live f h
    pub lazy : Lazy d h
    pub ready : (i : ℕ) → Correct d i → at_work d (station_at w i) ≡ true → Ready d intake i (station_at w i)
    pub trail : (i : ℕ) → Correct d i → at_work d (station_at w i) ≡ true → (c : ℕ) → c < (station_at w i).number
        → Trail d intake ((station_at w i).booked + 1) c h w.pool

  -- from one world to the next, over a call
  pub record CarriesOn (h : History) (w : World) (e : Event) (v : World) : Type 0 where
    pub grows : Grows w.pool v.pool
    pub held_on : (i : ℕ) → Correct d i → opened_by i (e ∷ h) ≡ opened_by i h → (q : ℕ) → held (get_or (station_at w i).votes q None) ≡ true → held (get_or (station_at v i).votes q None) ≡ true

  abbrev pub Next : History → World → Event → World → Type 0
  Next h w e v = Inv (e ∷ h) v × CarriesOn h w e v

  trail_later : {b c : ℕ} {h : History} {p q : List Slot} (e : Event) → Grows p q → Trail d intake b c h p → Trail d intake b c (e ∷ h) q
  trail_later {b} {c} e gr t = record {
    place = t.place;
    filled = omega (arith, gr.len t.place t.filled, t.filled);
    live = live_later e t.live;
    good = subst (λ (bs : List ℕ). Followable d intake bs b c) (sym (gr.frame t.place t.filled)) t.good;
  }

  -- laziness at one call more
  lazy_more : (e : Event) (h : History) → Lazy d h → ((i : ℕ) → Correct d i → marks has_proposed i e ≡ true → CalledUpon d i (e ∷ h)) → Lazy d (e ∷ h)
  unfolding event_head event_tail
  lazy_more e h l at [] x before q =
      let p : e ≡ x = ap (event_head e) q in
      let r : h ≡ before = ap event_tail q in
      subst₂ (λ (y : Event) (z : History). (i : ℕ) → Correct d i → marks has_proposed i y ≡ true → CalledUpon d i (y ∷ z)) p r at
  lazy_more e h l at (y ∷ later) x before q = l later x before (ap event_tail q)

  still : (j : ℕ) (e : Event) (h : History) (s : Station) → marks (λ _. true) j e ≡ false → marks has_reselected j e ≡ false → marks has_decided j e ≡ false → Counted j h s → Counted j (e ∷ h) s
  still j e h s a b c x =
      let o : opens j e ≡ false = rw a (cond_false_false (is_opening e.call)) in
      record
      { booked_is = rw c (omega (arith, x.booked_is)); number_is = rw (o, committee_of) (rw b (omega (arith, x.number_is))); opened_is = rw o (omega (arith, x.opened_is)) }

  -- a refusal changes nothing
  pub refused_keeps : {h : History} {w : World} → Inv h w → (c : Call) (x : Fault) → Next h w (record { call = c; answer = Err x; pool = w.pool }) w
  refused_keeps {h} {w} v c x =
      let e : Event = record { call = c; answer = Err x; pool = w.pool } in (
        record {
          safe = safe_later d intake (ghost_later h e) v.safe;
          counted = λ i co. still i e h (station_at w i) (marks-refused (λ _. true) i c x w.pool) (marks-refused has_reselected i c x w.pool) (marks-refused has_decided i c x w.pool) (v.counted i co);
          shows = λ f. refl;
          live = λ f a b. live_later e (v.live f a b);
          lazy = lazy_more e h v.lazy (λ i co m. absurd (both_ways (marks has_proposed i e) (marks-refused has_proposed i c x w.pool) m));
          ready = v.ready;
          trail = λ i co bu k l. trail_later e (grows_refl w.pool) (v.trail i co bu k l);
        },
        record { grows = grows_refl w.pool; held_on = λ i co op q z. z },
      )

  -- a call of station i alone, and neither an Open nor an Inject
  pub record Asked (c : Call) (i : ℕ) : Type 0 where
    pub me : asks i c ≡ true
    pub only : (j : ℕ) → (j ≡ i → ⊥) → asks j c ≡ false
    pub not_open : is_opening c ≡ false
    pub not_inject : is_injection c ≡ false

  -- what a station leaves behind when it leaves a committee
  pub record Footprint (c : Call) (i b n : ℕ) (pool : List Slot) : Type 0 where
    pub place : ℕ
    pub filled : 1 ≤ (slot_at pool place).len
    pub good : Followable d intake (frame_at pool place) b n
    pub whose : ((slot_at pool place).by ≡ 0) ⊎ (c ≡ delivery i place)

  module _ (law : Usable d) (sized : length intake ≡ d.batches) where
    -- frames that steps put into the pool are not empty
    pub own_some : {g : Ghost} {bs : List ℕ} → Own d intake g bs → 1 ≤ length bs
    own_some (proposal j k e c en wk x) = rw x (reads_proposal d law j (k + 1) e c.0 (entered_within d intake law sized en)).some
    own_some (decision j b e ps c ce) = (reads_decision d law _ j b e ps ce).some
    own_some (plain j b c co wi sm se ex le x) = rw x (reads_plain d law j b (c + 1) co.0 wi (omega arith, omega arith)).some
    own_some (paired j b c q y co wi sm qn tg x) =
        rw x (reads_paired d law j b (c + 1) q y co.0 wi (omega arith, omega arith) qn tg).some

    -- what steps put into the pool is live
    live_more : {h : History} {w v : World} {g : Ghost} → Inv h w → Safe d intake g v → Grows w.pool v.pool → (c : Call) (m : Marks) → is_injection c ≡ false
        → (f : ℕ) → (slot_at v.pool f).by ≡ 0 → 1 ≤ (slot_at v.pool f).len → Live f (record { call = c; answer = Ok m; pool = v.pool } ∷ h)
    live_more {h} {w} {v} inv sv gr c m ni f a b = go (cases_lt (slot_at w.pool f).len 1)
      where
        e : Event
        e = record { call = c; answer = Ok m; pool = v.pool }

        go : ((slot_at w.pool f).len < 1) ⊎ (1 ≤ (slot_at w.pool f).len) → Live f (e ∷ h)
        go (inr l) = live_later e (inv.live f (sym (gr.by f l) ∙ a) l)
        go (inl l) =
            inl (once_now (λ e before. (is_injection e.call ≡ false) × (frame_at (pool_of before) f ≡ []) × (frame_at e.pool f ≡ [] → ⊥)) e h
            (ni, inv.shows f ∙ frame_empty w.pool f (omega arith), λ z. let x = own_some (sv.pool.own f a b) in let y : length (frame_at v.pool f) ≡ 0 = ap length z in omega arith))

    -- a call that a station at work accepts
    pub step_keeps : {h : History} {w : World} → Inv h w → (c : Call) (i : ℕ) → Correct d i → Asked c i
        → (m : Marks) (k : ℕ) (v : World) → Step d intake (ghost (record { call = c; answer = Ok m; pool = v.pool } ∷ h)) i (cond m.0 1 0) (cond m.2 1 0) k w v
        → (m.1 ≡ true → d.seats (station_at v i).number i ≡ true)
        → at_work d (station_at w i) ≡ true → (at_work d (station_at v i) ≡ true → Ready d intake i (station_at v i))
        → (m.0 ≡ true → Footprint c i ((station_at w i).booked + 1) (station_at w i).number v.pool)
        → Next h w (record { call = c; answer = Ok m; pool = v.pool }) v
    step_keeps {h} {w} inv c i co ask m k v st se was rdy foot = (
      record {
        safe = st.safe;
        counted = λ j cj. count j cj (cases_eq j i);
        shows = λ f. refl;
        live = live_more inv st.safe st.grows c m ask.not_inject;
        lazy = lazy_more e h inv.lazy (λ j cj p. lazy_at j cj p (cases_eq j i));
        ready = λ j cj. ready_at j cj (cases_eq j i);
        trail = λ j cj. trail_at j cj (cases_eq j i);
      },
      record { grows = st.grows; held_on = λ j cj op. held_at j cj (cases_eq j i) },
    )
      where
        e : Event
        e = record { call = c; answer = Ok m; pool = v.pool }

        ready_at : (j : ℕ) → Correct d j → (j ≡ i) ⊎ (j ≡ i → ⊥) → at_work d (station_at v j) ≡ true → Ready d intake j (station_at v j)
        ready_at j cj (inl z) b = subst (λ (a : ℕ). Ready d intake a (station_at v a)) (sym z) (rdy (subst (λ (a : ℕ). at_work d (station_at v a) ≡ true) z b))
        ready_at j cj (inr n) b = subst (Ready d intake j) (sym (st.others j n)) (inv.ready j cj (ap (λ (s : Station). at_work d s) (sym (st.others j n)) ∙ b))

        held_at : (j : ℕ) → Correct d j → (j ≡ i) ⊎ (j ≡ i → ⊥) → (q : ℕ) → held (get_or (station_at w j).votes q None) ≡ true → held (get_or (station_at v j).votes q None) ≡ true
        held_at j cj (inl z) q x = subst (λ (a : ℕ). held (get_or (station_at v a).votes q None) ≡ true) (sym z) (st.held_on q (subst (λ (a : ℕ). held (get_or (station_at w a).votes q None) ≡ true) z x))
        held_at j cj (inr n) q x = subst (λ (s : Station). held (get_or s.votes q None) ≡ true) (sym (st.others j n)) x

        left_trail : m.0 ≡ true → Trail d intake ((station_at w i).booked + 1) (station_at w i).number (e ∷ h) v.pool
        left_trail z = let t = foot z in record { place = t.place; filled = t.filled; live = alive t.place t.filled t.whose; good = t.good }
          where
            alive : (f : ℕ) → 1 ≤ (slot_at v.pool f).len → ((slot_at v.pool f).by ≡ 0) ⊎ (c ≡ delivery i f) → Live f (e ∷ h)
            alive f l (inl y) = live_more inv st.safe st.grows c m ask.not_inject f y l
            alive f l (inr y) = inr (once_now (λ e before. (accepted e ≡ true) × ((i : ℕ) × (e.call ≡ delivery i f))) e h (refl, (i, y)))

        here_trail : at_work d (station_at v i) ≡ true → (k : ℕ) → k < (station_at v i).number → (k ≡ (station_at w i).number) ⊎ (k ≡ (station_at w i).number → ⊥) → (b : Bool) → m.0 ≡ b
            → Trail d intake ((station_at v i).booked + 1) k (e ∷ h) v.pool
        here_trail bu k l o b mb = subst (λ (n : ℕ). Trail d intake n k (e ∷ h) v.pool) bk (go o b mb)
          where
            bk : (station_at w i).booked + 1 ≡ (station_at v i).booked + 1
            bk =
                let x : current d intake (station_at v i) ≡ (station_at v i).booked + 1 = rw bu refl in
                let y : current d intake (station_at w i) ≡ (station_at w i).booked + 1 = rw was refl in
                omega (arith, x, y, st.same)

            go : (k ≡ (station_at w i).number) ⊎ (k ≡ (station_at w i).number → ⊥) → (b : Bool) → m.0 ≡ b → Trail d intake ((station_at w i).booked + 1) k (e ∷ h) v.pool
            go (inl z) true mb = subst (λ (n : ℕ). Trail d intake ((station_at w i).booked + 1) n (e ∷ h) v.pool) (sym z) (left_trail mb)
            go (inl z) false mb = absurd (let x : (station_at v i).number ≡ (station_at w i).number + 0 = subst (λ (b : Bool). (station_at v i).number ≡ (station_at w i).number + cond b 1 0) mb st.number in omega arith)
            go (inr n) true mb =
                let x : (station_at v i).number ≡ (station_at w i).number + 1 = subst (λ (b : Bool). (station_at v i).number ≡ (station_at w i).number + cond b 1 0) mb st.number in
                trail_later e st.grows (inv.trail i co was k (omega arith))
            go (inr n) false mb =
                let x : (station_at v i).number ≡ (station_at w i).number + 0 = subst (λ (b : Bool). (station_at v i).number ≡ (station_at w i).number + cond b 1 0) mb st.number in
                trail_later e st.grows (inv.trail i co was k (omega arith))

        trail_at : (j : ℕ) → Correct d j → (j ≡ i) ⊎ (j ≡ i → ⊥) → at_work d (station_at v j) ≡ true → (k : ℕ) → k < (station_at v j).number → Trail d intake ((station_at v j).booked + 1) k (e ∷ h) v.pool
        trail_at j cj (inl z) b k l =
            subst (λ (a : ℕ). Trail d intake ((station_at v a).booked + 1) k (e ∷ h) v.pool) (sym z)
            (here_trail (subst (λ (a : ℕ). at_work d (station_at v a) ≡ true) z b) k (subst (λ (a : ℕ). k < (station_at v a).number) z l) (cases_eq k (station_at w i).number) m.0 refl)
        trail_at j cj (inr n) b k l =
            subst (λ (s : Station). Trail d intake (s.booked + 1) k (e ∷ h) v.pool) (sym (st.others j n))
            (trail_later e st.grows (inv.trail j cj (ap (λ (s : Station). at_work d s) (sym (st.others j n)) ∙ b) k (subst (λ (s : Station). k < s.number) (st.others j n) l)))

        here : Counted i (e ∷ h) (station_at v i)
        here =
            let x = inv.counted i co in
            record {
              booked_is = rw ask.me (omega (arith, x.booked_is, st.booked));
              number_is = rw (ask.not_open, committee_of) (rw ask.me (omega (arith, x.number_is, st.number)));
              opened_is = rw ask.not_open (omega (arith, x.opened_is, st.same));
            }

        count : (j : ℕ) → Correct d j → (j ≡ i) ⊎ (j ≡ i → ⊥) → Counted j (e ∷ h) (station_at v j)
        count j cj (inl z) = subst (λ (a : ℕ). Counted a (e ∷ h) (station_at v a)) (sym z) here
        count j cj (inr n) =
            rw (st.others j n) (still j e h (station_at w j) (marks_other (λ _. true) j e (ask.only j n)) (marks_other has_reselected j e (ask.only j n)) (marks_other has_decided j e (ask.only j n)) (inv.counted j cj))

        excuses : (c : ℕ) → c < committee_of i (e ∷ h) → Excused d c (opened_by i (e ∷ h)) (e ∷ h)
        excuses c l = subst (λ (b : ℕ). Excused d c b (e ∷ h)) (sym here.opened_is) (cause_excuses ((st.safe.fine i co).batch_work.excuses c (omega (arith, l, here.number_is))))

        lazy_at : (j : ℕ) → Correct d j → marks has_proposed j e ≡ true → (j ≡ i) ⊎ (j ≡ i → ⊥) → CalledUpon d j (e ∷ h)
        lazy_at j cj p (inl z) =
            subst (λ (a : ℕ). CalledUpon d a (e ∷ h)) (sym z) (record {
              member = ap (λ (a : ℕ). d.seats a i) here.number_is ∙ se (sym (marks_here has_proposed i c m v.pool ask.me) ∙ subst (λ (a : ℕ). marks has_proposed a e ≡ true) z p);
              excused = excuses;
            })
        lazy_at j cj p (inr n) = absurd (both_ways (marks has_proposed j e) (marks_other has_proposed j e (ask.only j n)) p)

    -- an Open that is accepted
    pub open_keeps : {h : History} {w : World} → Inv h w → (i : ℕ) → Correct d i → (p : Bool) (k : ℕ) (v : World)
        → Start d intake (ghost (record { call = opening i; answer = Ok (false, p, false); pool = v.pool } ∷ h)) i k w v
        → (p ≡ true → d.seats 0 i ≡ true) → Ready d intake i (station_at v i) → Next h w (record { call = opening i; answer = Ok (false, p, false); pool = v.pool }) v
    open_keeps {h} {w} inv i co p k v st se rdy = (
      record {
        safe = st.safe;
        counted = λ j cj. count j cj (cases_eq j i);
        shows = λ f. refl;
        live = live_more inv st.safe st.grows (opening i) (false, p, false) refl;
        lazy = lazy_more e h inv.lazy (λ j cj q. lazy_at j cj q (cases_eq j i));
        ready = λ j cj. ready_at j cj (cases_eq j i);
        trail = λ j cj. trail_at j cj (cases_eq j i);
      },
      record { grows = st.grows; held_on = λ j cj op. held_at j cj (cases_eq j i) op },
    )
      where
        ready_at : (j : ℕ) → Correct d j → (j ≡ i) ⊎ (j ≡ i → ⊥) → at_work d (station_at v j) ≡ true → Ready d intake j (station_at v j)
        ready_at j cj (inl z) b = subst (λ (a : ℕ). Ready d intake a (station_at v a)) (sym z) rdy
        ready_at j cj (inr n) b = subst (Ready d intake j) (sym (st.others j n)) (inv.ready j cj (ap (λ (s : Station). at_work d s) (sym (st.others j n)) ∙ b))

        held_at : (j : ℕ) → Correct d j → (j ≡ i) ⊎ (j ≡ i → ⊥) → opened_by j (record { call = opening i; answer = Ok (false, p, false); pool = v.pool } ∷ h) ≡ opened_by j h
            → (q : ℕ) → held (get_or (station_at w j).votes q None) ≡ true → held (get_or (station_at v j).votes q None) ≡ true
        held_at j cj (inl z) op q x = absurd (let y : 1 + opened_by j h ≡ opened_by j h = rw (eq-eqb j i z) at op in omega arith)
        held_at j cj (inr n) op q x = subst (λ (s : Station). held (get_or s.votes q None) ≡ true) (sym (st.others j n)) x

        trail_at : (j : ℕ) → Correct d j → (j ≡ i) ⊎ (j ≡ i → ⊥) → at_work d (station_at v j) ≡ true → (k : ℕ) → k < (station_at v j).number
            → Trail d intake ((station_at v j).booked + 1) k (record { call = opening i; answer = Ok (false, p, false); pool = v.pool } ∷ h) v.pool
        trail_at j cj (inl z) b k l = absurd (let y : k < (station_at v i).number = subst (λ (a : ℕ). k < (station_at v a).number) z l in omega (arith, y, st.number))
        trail_at j cj (inr n) b k l =
            subst (λ (s : Station). Trail d intake (s.booked + 1) k (record { call = opening i; answer = Ok (false, p, false); pool = v.pool } ∷ h) v.pool) (sym (st.others j n))
            (trail_later _ st.grows (inv.trail j cj (ap (λ (s : Station). at_work d s) (sym (st.others j n)) ∙ b) k (subst (λ (s : Station). k < s.number) (st.others j n) l)))

        e : Event
        e = record { call = opening i; answer = Ok (false, p, false); pool = v.pool }

        me : eqb i i ≡ true
        me = eq-eqb i i refl

        zeroed : committee_of i (e ∷ h) ≡ 0
        zeroed = rw (me, committee_of) refl

        here : Counted i (e ∷ h) (station_at v i)
        here =
            let x = inv.counted i co in
            record { booked_is = rw me (omega (arith, x.booked_is, st.booked)); number_is = zeroed ∙ sym st.number; opened_is = rw me (omega (arith, x.opened_is, st.rises)) }

        only : (j : ℕ) → (j ≡ i → ⊥) → asks j (opening i) ≡ false
        only j n = ne_eqb j i n

        count : (j : ℕ) → Correct d j → (j ≡ i) ⊎ (j ≡ i → ⊥) → Counted j (e ∷ h) (station_at v j)
        count j cj (inl z) = subst (λ (a : ℕ). Counted a (e ∷ h) (station_at v a)) (sym z) here
        count j cj (inr n) =
            rw (st.others j n) (still j e h (station_at w j) (marks_other (λ _. true) j e (only j n)) (marks_other has_reselected j e (only j n)) (marks_other has_decided j e (only j n)) (inv.counted j cj))

        lazy_at : (j : ℕ) → Correct d j → marks has_proposed j e ≡ true → (j ≡ i) ⊎ (j ≡ i → ⊥) → CalledUpon d j (e ∷ h)
        lazy_at j cj q (inl z) =
            subst (λ (a : ℕ). CalledUpon d a (e ∷ h)) (sym z) (record {
              member = ap (λ (a : ℕ). d.seats a i) zeroed ∙ se (sym (marks_here has_proposed i (opening i) (false, p, false) v.pool me) ∙ subst (λ (a : ℕ). marks has_proposed a e ≡ true) z q);
              excused = λ c l. absurd (omega (arith, l, zeroed));
            })
        lazy_at j cj q (inr n) = absurd (both_ways (marks has_proposed j e) (marks_other has_proposed j e (only j n)) q)

    -- an Inject that is accepted
    pub inject_keeps : {h : History} {w : World} → Inv h w → (l : List ℕ) (i k : ℕ) (v : World)
        → Step d intake (ghost (record { call = injection l; answer = Ok (false, false, false); pool = v.pool } ∷ h)) i 0 0 k w v → v.stations ≡ w.stations
        → ((f : ℕ) → (slot_at v.pool f).by ≡ 0 → 1 ≤ (slot_at v.pool f).len → 1 ≤ (slot_at w.pool f).len)
        → Next h w (record { call = injection l; answer = Ok (false, false, false); pool = v.pool }) v
    inject_keeps {h} {w} inv l i k v st same old = (
      record {
        safe = st.safe;
        counted = λ j cj. subst (λ (s : List Station). Counted j (e ∷ h) (get_or s j no_station)) (sym same) (still j e h (station_at w j) refl refl refl (inv.counted j cj));
        shows = λ f. refl;
        live = λ f a b. live_later e (inv.live f (sym (st.grows.by f (old f a b)) ∙ a) (old f a b));
        lazy = lazy_more e h inv.lazy (λ j cj q. never q);
        ready = λ j cj b. subst (Ready d intake j) (sym (at j)) (inv.ready j cj (ap (λ (s : Station). at_work d s) (sym (at j)) ∙ b));
        trail = λ j cj b k l.
            subst (λ (s : Station). Trail d intake (s.booked + 1) k (e ∷ h) v.pool) (sym (at j))
            (trail_later e st.grows (inv.trail j cj (ap (λ (s : Station). at_work d s) (sym (at j)) ∙ b) k (subst (λ (s : Station). k < s.number) (at j) l)));
      },
      record { grows = st.grows; held_on = λ j cj op q x. subst (λ (s : Station). held (get_or s.votes q None) ≡ true) (sym (at j)) x },
    )
      where
        at : (j : ℕ) → station_at v j ≡ station_at w j
        at j = ap (λ (s : List Station). get_or s j no_station) same

        e : Event
        e = record { call = injection l; answer = Ok (false, false, false); pool = v.pool }
