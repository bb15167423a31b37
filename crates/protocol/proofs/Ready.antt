-- What a station at work keeps so that rounds bring it on.
use Rattle.std.proofs.Common.{◌≡◌, ℕ, zero, suc, ◌+◌, ◌-◌, ◌<◌, ◌≤◌, Bool, true, false, cond, List, [], ◌∷◌, length, get_or, take, set, replicate, Some, None, Option, sym, refl, ap, ◌∙◌, subst, ap₂, arith}
use Rattle.std.proofs.lemmas.Bool.{eq-eqb, both_ways}
use Rattle.std.proofs.lemmas.List.{get_or-set_same, get_or-take, length-take-le}
use Rattle.base.specs.declared.book.Batch.{Batch}
use Rattle.base.specs.declared.book.Entry.{Entry}
use Rattle.frames.specs.declared.slot.Slot.{Slot}
use Rattle.frames.specs.Bytes.{proposes, reselects}
use Rattle.frames.specs.Slots.{framed, frame_at, no_slot, free, enter, slot_of}
use Rattle.frames.specs.Frames.{kind_of, sender_of, batch_of, number_of, count_of, pairs_of, first_pair}
use Rattle.protocol.specs.declared.station.Vote.{Vote}
use Rattle.protocol.specs.declared.station.Station.{Station}
use Rattle.protocol.specs.Law.{Terms, Correct, clerk, History, Live, works}
use Rattle.protocol.specs.Steps.{World, no_entry, no_station, station_at, at_work, last_carry, sender_sealed, malformed, propose, decide, issue, with_station, next_number, announce, take_up, backers, own_entry, join, same_entry, held, rightly_sent, pair_left, support}
use Rattle.protocol.specs.Run.{size}
use Rattle.frames.proofs.Slots.{slot_at, Place, place_of, Grows, framed_slot}
use Rattle.frames.proofs.Codec.{reads_sealed}
use Rattle.protocol.proofs.Usable.{Usable}
use Rattle.protocol.proofs.Framed.{Within, Reads, reads_plain, sealed_frame}
use Rattle.protocol.proofs.Safe.{Ghost, Safe}
use Rattle.protocol.proofs.Rules.{settle-rule, announce-rule, moved_on}
use Rattle.protocol.proofs.Keeps.{works-clerk}
use Rattle.protocol.proofs.Basics.{size_le, size_shift}
use Rattle.protocol.proofs.Records.{own_is, proposed_record, taken_record, propose_here, take_here, take-length, propose-length}

-- votes for an entry, counted by place

abbrev backs : Entry → Option Vote → Bool
backs e None = false
backs e (Some v) = same_entry v.entry e

backers_cons : (e : Entry) (q : ℕ) (o : Option Vote) (vs : List (Option Vote)) → length (backers e q (o ∷ vs)) ≡ cond (backs e o) 1 0 + length (backers e (q + 1) vs)
unfolding backers
backers_cons e q None vs = omega arith
backers_cons e q (Some v) vs = go (same_entry v.entry e) refl
  where
    go : (b : Bool) → same_entry v.entry e ≡ b → length (backers e q (Some v ∷ vs)) ≡ cond (same_entry v.entry e) 1 0 + length (backers e (q + 1) vs)
    go true h = rw (h, backers) (omega arith)
    go false h = rw (h, backers) (omega arith)

backers_nil : (e : Entry) (q : ℕ) → length (backers e q []) ≡ 0
unfolding backers
backers_nil e q = refl

pub backers-size : (e : Entry) (q : ℕ) (vs : List (Option Vote)) → length (backers e q vs) ≡ size (λ k. backs e (get_or vs k None)) (length vs)
backers-size e q [] = backers_nil e q
backers-size e q (o ∷ vs) =
    let ih = backers-size e (q + 1) vs in
    let s = size_shift (λ k. backs e (get_or (o ∷ vs) k None)) (length vs) in
    backers_cons e q o vs ∙ ap (λ (k : ℕ). cond (backs e o) 1 0 + k) ih ∙ sym s

-- as many backers as a committee has members, where each member's vote is for the entry
pub backers_all : (s : ℕ → Bool) (n : ℕ) (e : Entry) (vs : List (Option Vote)) → n ≤ length vs
    → ((q : ℕ) → q < n → s q ≡ true → (v : Vote) × (get_or vs q None ≡ Some v) × (same_entry v.entry e ≡ true)) → size s n ≤ length (backers e 0 (take n vs))
backers_all s n e vs l h =
    let a = size_le s (λ k. backs e (get_or (take n vs) k None)) n (λ q m x. let y = h q m x in rw (get_or-take n vs q None m, y.1) y.2) in
    let long : length (take n vs) ≡ n = length-take-le n vs l in
    omega (arith, a, backers-size e 0 (take n vs) ∙ ap (size (λ k. backs e (get_or (take n vs) k None))) long)

-- one vote more
pub backers_more : (e : Entry) (k n q : ℕ) (v : Vote) (vs : List (Option Vote)) → length (backers e k (take n (set vs q (Some v)))) ≤ length (backers e k (take n vs)) + 1
backers_more e k n q v [] = omega arith
backers_more e k zero q v (o ∷ vs) = omega arith
backers_more e k (suc n) zero v (o ∷ vs) = rw (backers_cons e k (Some v) (take n vs), backers_cons e k o (take n vs)) (at_most (same_entry v.entry e) (backs e o))
  where
    at_most : (a b : Bool) → cond a 1 0 + length (backers e (k + 1) (take n vs)) ≤ cond b 1 0 + length (backers e (k + 1) (take n vs)) + 1
    at_most true true = omega arith
    at_most true false = omega arith
    at_most false true = omega arith
    at_most false false = omega arith
backers_more e k (suc n) (suc q) v (o ∷ vs) =
    let ih = backers_more e (k + 1) n q v vs in rw (backers_cons e k o (take n vs), backers_cons e k o (take n (set vs q (Some v)))) (omega arith)

-- a vote for another entry
pub backers_other : (e : Entry) (k n q : ℕ) (v : Vote) (vs : List (Option Vote)) → held (get_or vs q None) ≡ false → same_entry v.entry e ≡ false
    → length (backers e k (take n (set vs q (Some v)))) ≡ length (backers e k (take n vs))
backers_other e k n q v [] h d = refl
backers_other e k zero q v (o ∷ vs) h d = refl
backers_other e k (suc n) zero v (None ∷ vs) h d = rw (backers_cons e k (Some v) (take n vs), backers_cons e k None (take n vs), d) refl
backers_other e k (suc n) zero v (Some u ∷ vs) h d = absurd (both_ways true h refl)
backers_other e k (suc n) (suc q) v (o ∷ vs) h d =
    let ih = backers_other e (k + 1) n q v vs h d in rw (backers_cons e k o (take n vs), backers_cons e k o (take n (set vs q (Some v)))) (omega arith)

-- no vote at all
backers-empty : (e : Entry) (k n m : ℕ) → length (backers e k (take n (replicate m None))) ≡ 0
backers-empty e k zero m = backers_nil e k
backers-empty e k (suc n) zero = backers_nil e k
backers-empty e k (suc n) (suc m) = omega (arith, backers_cons e k None (take n (replicate m None)), backers-empty e (k + 1) n m)

module _ (d : Terms) (intake : List Batch) where
  -- a station at work that is seated has proposed, and it holds fewer than t + 1 votes for the clerk's entry
  pub record Ready (i : ℕ) (s : Station) : Type 0 where
    pub seated : d.seats s.number i ≡ true → s.proposed ≡ true
    pub quiet : length (support d (get_or (clerk d 0 intake) s.booked no_entry) s) ≤ d.t

  -- a reselect frame that every station at work on batch b with number c takes
  pub record Followable (bs : List ℕ) (b c : ℕ) : Type 0 where
    pub formed : malformed d bs ≡ None
    pub not_proposal : kind_of bs ≡ 1 → ⊥
    pub not_decision : kind_of bs ≡ 2 → ⊥
    pub batch : batch_of bs ≡ b
    pub number : number_of bs ≡ c + 1
    pub sealed : sender_sealed d bs ≡ true
    pub shown : rightly_sent d bs ≡ true
    pub tags : first_pair (pair_left d bs) 32 (pairs_of bs) ≡ None

  pub record Trail (b c : ℕ) (h : History) (pool : List Slot) : Type 0 where
    pub place : ℕ
    pub filled : 1 ≤ (slot_at pool place).len
    pub live : Live place h
    pub good : Followable (frame_at pool place) b c

  -- the frame of a member that leaves
  pub record Announced (i b c : ℕ) (pool : List Slot) : Type 0 where
    pub place : ℕ
    pub filled : 1 ≤ (slot_at pool place).len
    pub mine : (slot_at pool place).by ≡ 0
    pub reads : frame_at pool place ≡ sealed_frame d i (reselects i b (c + 1)) []

  pub announced_grows : {i b c : ℕ} {p q : List Slot} → Grows p q → Announced i b c p → Announced i b c q
  announced_grows gr a = record
      { place = a.place; filled = omega (arith, gr.len a.place a.filled, a.filled); mine = gr.by a.place a.filled ∙ a.mine; reads = gr.frame a.place a.filled ∙ a.reads }

  module _ (law : Usable d) (sized : length intake ≡ d.batches) where
    pub followable_plain : (j b c : ℕ) → Correct d j → Within d b → c < 20000 → d.seats c j ≡ true → Followable (sealed_frame d j (reselects j b (c + 1)) []) b c
    followable_plain j b c co wi sm se =
        let bs : List ℕ = sealed_frame d j (reselects j b (c + 1)) [] in
        let r = reads_plain d law j b (c + 1) co.0 wi (omega arith, omega arith) in
        let back : number_of bs - 1 ≡ c = omega (arith, r.number_is) in
        let seat : d.seats (number_of bs - 1) (sender_of bs) ≡ true = ap₂ (λ (x y : ℕ). d.seats x y) back r.sender_is ∙ se in
        record {
          formed = r.formed;
          not_proposal = λ z. omega (arith, r.kind_is, z);
          not_decision = λ z. omega (arith, r.kind_is, z);
          batch = r.batch_is;
          number = r.number_is;
          sealed = reads_sealed d.n d.t d.batches d.tag r;
          shown = rw seat (eq-eqb (count_of bs) 0 r.count_is);
          tags = ap (λ (ps : List (ℕ × ℕ)). first_pair (pair_left d bs) 32 ps) r.pairs_are;
        }

    pub decide_idle : (w : World) (i : ℕ) (e : Entry) (ps : List (ℕ × ℕ)) → i < length w.stations → at_work d (station_at (decide d i e ps w) i) ≡ false
    unfolding decide issue
    decide_idle w i e ps l = ap (λ (s : Station). at_work d s) (get_or-set_same w.stations i _ no_station l) ∙ law.never_idle

    -- after a proposal the station is ready
    pub join_ready : {g : Ghost} (w : World) → Safe d intake g w → (i : ℕ) → Correct d i → at_work d (station_at w i) ≡ true
        → at_work d (station_at (join d i w).0 i) ≡ true → Ready i (station_at (join d i w).0 i)
    unfolding join
    join_ready {g} w s i co busy =
        settle-rule d (λ r. at_work d (station_at r.0 i) ≡ true → Ready i (station_at r.0 i)) i (own_entry (propose d i w) i) (propose d i w)
        (λ l z. absurd (both_ways _ (decide_idle (propose d i w) i _ _ inside) z))
        (λ l z. record { seated = λ y. ap (λ (t : Station). t.proposed) here; quiet = subst (λ (e : Entry). length (support d e (station_at (propose d i w) i)) ≤ d.t) own l })
      where
        low : i < length w.stations
        low = omega (arith, co.0, law.few_stations, s.stations)

        inside : i < length (propose d i w).stations
        inside = omega (arith, low, propose-length d w i)

        here : station_at (propose d i w) i ≡ proposed_record d w i
        here = propose_here d w i low

        own : own_entry (propose d i w) i ≡ get_or (clerk d 0 intake) (station_at (propose d i w) i).booked no_entry
        own =
            let v : Vote = record { entry = works d (last_carry d w i) (station_at w i).work; tag = d.tag i (proposes i ((station_at w i).booked + 1) (works d (last_carry d w i) (station_at w i).work)) } in
            let x : get_or (station_at (propose d i w) i).votes i None ≡ Some v =
            ap (λ (t : Station). get_or t.votes i None) here ∙ get_or-set_same (station_at w i).votes i (Some v) None (omega (arith, co.0, law.few_stations, (s.fine i co).batch_work.size)) in
            own_is (propose d i w) i v x ∙ sym (works-clerk d intake law sized w s i co busy).is ∙ ap (λ (t : Station). get_or (clerk d 0 intake) t.booked no_entry) (sym here)

    -- after an Open the station is ready
    empty_votes : (e : Entry) → length (backers e 0 (take d.n (replicate 16 None))) ≡ 0
    empty_votes e = backers-empty e 0 d.n 16

    pub opened_ready : {g : Ghost} (w : World) → Safe d intake g w → (i : ℕ) (next : Batch) → Correct d i
        → ((d.seats 0 i ≡ true → Ready i (station_at (propose d i (take_up next i w)) i)) × (d.seats 0 i ≡ false → Ready i (station_at (take_up next i w) i)))
    opened_ready {g} w s i next co = (
      (λ se. subst (Ready i) (sym (propose_here d (take_up next i w) i (omega (arith, low, take-length w i next)))) (record {
        seated = λ z. refl;
        quiet =
            let v : Vote = record {
              entry = works d (last_carry d (take_up next i w) i) (station_at (take_up next i w) i).work;
              tag = d.tag i (proposes i ((station_at (take_up next i w) i).booked + 1) (works d (last_carry d (take_up next i w) i) (station_at (take_up next i w) i).work));
            } in
            let e : Entry = get_or (clerk d 0 intake) (station_at (take_up next i w) i).booked no_entry in
            let m = backers_more e 0 d.n i v (station_at (take_up next i w) i).votes in
            let z : length (support d e (station_at (take_up next i w) i)) ≡ 0 = ap (λ (t : Station). length (support d e t)) here ∙ empty_votes e in
            omega (arith, m, z, law.some_fault);
      })),
      (λ se. subst (Ready i) (sym here) (record { seated = λ z. absurd (both_ways (d.seats 0 i) se z); quiet = rw empty_votes (omega arith) })),
    )
      where
        low : i < length w.stations
        low = omega (arith, co.0, law.few_stations, s.stations)

        here : station_at (take_up next i w) i ≡ taken_record w i next
        here = take_here w i next low

    announce-plain : (w : World) (i b c : ℕ) (proof : List (ℕ × ℕ)) → Correct d i → Within d b → c < 20000 → 1 ≤ free w.pool → d.seats c i ≡ true → Announced i b c (announce d i b c proof w).pool
    unfolding issue Rattle.frames.proofs.Codec.sealed_frame
    announce-plain w i b c proof co wi sm room se =
        announce-rule d (λ v. Announced i b c v.pool) i b c proof w
        (λ _. go (place_of slot r.some w.pool room))
        (λ z _. absurd (both_ways (d.seats c i) z se)) (λ z _. absurd (both_ways (d.seats c i) z se))
      where
        r : Reads d (sealed_frame d i (reselects i b (c + 1)) []) 3 i b (c + 1) 0 [] (reselects i b (c + 1))
        r = reads_plain d law i b (c + 1) co.0 wi (omega arith, omega arith)

        slot : Slot
        slot = slot_of 0 (sealed_frame d i (reselects i b (c + 1)) [])

        go : Place slot w.pool → Announced i b c (enter slot w.pool)
        go at = subst (Announced i b c) (sym at.entered) (record
            { place = at.place; filled = rw same r.some; mine = rw same refl; reads = ap framed same ∙ framed_slot 0 (sealed_frame d i (reselects i b (c + 1)) []) r.short })
          where
            same : slot_at (set w.pool at.place slot) at.place ≡ slot
            same = get_or-set_same w.pool at.place slot no_slot at.inside

    pub moved_announced : (w : World) (i : ℕ) (proof : List (ℕ × ℕ)) → Correct d i → Within d ((station_at w i).booked + 1) → (station_at w i).number < 20000 → 1 ≤ free w.pool
        → d.seats (station_at w i).number i ≡ true → Announced i ((station_at w i).booked + 1) (station_at w i).number (moved_on d i proof w).pool
    unfolding moved_on next_number with_station
    moved_announced w i proof co wi sm room se = announce-plain (next_number i w) i ((station_at w i).booked + 1) (station_at w i).number proof co wi sm room se
