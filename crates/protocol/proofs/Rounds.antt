-- One full round: decisions reach all, a station behind comes on, and a sound committee ends the batch.
use Rattle.std.proofs.Common.{◌≡◌, ℕ, ◌+◌, ◌<◌, ◌≤◌, Bool, true, false, cond, eqb, ◌⊎◌, List, [], ◌∷◌, ◌++◌, length, get_or, Some, None, Ok, Err, Option, Result, sym, refl, ap, ◌∙◌, subst, ap₂, subst₂, inl, inr, ⊎_elim, arith}
use Rattle.std.specs.List.{AllByRecursion}
use Rattle.std.proofs.lemmas.Bool.{eq-eqb, both_ways, cases_lt}
use Rattle.std.proofs.ByRecursion.{All-weaker}
use Rattle.base.specs.declared.book.Batch.{Batch}
use Rattle.base.specs.declared.book.Entry.{Entry}
use Rattle.base.specs.declared.fault.Fault.{Fault}
use Rattle.base.specs.Refusals.{number_of}
use Rattle.frames.specs.Bytes.{statement, proposes, entry_bytes}
use Rattle.frames.specs.Slots.{frame_at}
use Rattle.frames.specs.Frames.{sender_of, pairs_of, first_pair}
use Rattle.protocol.specs.declared.station.Vote.{Vote}
use Rattle.protocol.specs.Law.{Terms, Correct, clerk, Certifies, Call, Event, History, Marks, delivery, marked, opened_by, booked_by, committee_of, Once, Live, Calm, Full, Sound, refused_with, has_reselected, marks, has_decided}
use Rattle.protocol.specs.Steps.{World, no_entry, station_at, at_work, pair_sealed, mark_taken, same_entry, act, held, deliver_call, support}
use Rattle.protocol.specs.Run.{size}
use Rattle.frames.proofs.Slots.{slot_at, Issued}
use Rattle.frames.proofs.Frames.{states_proposal}
use Rattle.frames.proofs.Formed.{first_pair_none}
use Rattle.frames.proofs.Basics.{never}
use Rattle.frames.proofs.Codec.{sealed_pair, reads_sealed}
use Rattle.protocol.proofs.Usable.{Usable}
use Rattle.protocol.proofs.Framed.{Within, Reads, entry_decision, sealed_frame, reads_proposal, reads_decision}
use Rattle.protocol.proofs.Safe.{current, Decided, entered_within, issued_proposal}
use Rattle.protocol.proofs.Ready.{Followable, Trail, backers_all}
use Rattle.protocol.proofs.Keeps.{works-clerk}
use Rattle.protocol.proofs.History.{ghost, Inv}
use Rattle.protocol.proofs.Clerk.{same_entry_refl}
use Rattle.protocol.proofs.Taken.{vote_clerk}
use Rattle.protocol.proofs.Accepts.{full, ripe_rule, meets_decision, meets_proposal, meets_reselect, reselect-marks, proposal_holds}
use Rattle.protocol.proofs.Onward.{booked_more, calm_at, inv_of, formed_some, at-batch, Since, Onward, since_of, number_more, Inside, inside_of, OneCall}
use Rattle.protocol.proofs.Records.{taken_stations}

module _ (d : Terms) (intake : List Batch) (law : Usable d) (sized : length intake ≡ d.batches) where
  -- a round from h₀ to r ++ h₀
  module _ (h₀ : History) (w₀ : World) (inv₀ : Inv d intake h₀ w₀) (r : History) (w : World) (on : Onward d intake h₀ w₀ r w) (round : Full d r h₀) where
    -- a delivery inside the round
    record Tried (i f : ℕ) : Type 0 where
      event : Event
      before : History
      at : Inside d intake h₀ w₀ (r ++ h₀) w event before
      called_is : event.call ≡ delivery i f
      answer_is : event.answer ≡ (deliver_call d i f at.from).1
      world_is : at.to ≡ (deliver_call d i f at.from).0
      not_full : full d (deliver_call d i f at.from).1 ≡ false

    tried : (i f : ℕ) → Correct d i → Live f h₀ → Tried i f
    tried i f co live = go (round.tries i f co live)
      where
        not_refused : (k : ℕ) (e : Event) (x : Fault) → e.answer ≡ Err x → number_of x.refusal ≡ k → refused_with k e ≡ false → ⊥
        not_refused k e x p q n = both_ways (eqb (number_of x.refusal) k) (rw p at n) (eq-eqb (number_of x.refusal) k q)

        roomy : (a : Result Marks Fault) → elim a [ Ok m ↦ false | Err x ↦ eqb (number_of x.refusal) 13 ] ≡ false → full d a ≡ false
        roomy (Ok m) h = refl
        roomy (Err x) h = h

        go : Once (λ e _. e.call ≡ delivery i f) r → Tried i f
        go o = found (inside_of d intake h₀ w₀ r w on o.0 o.1 o.2 o.3) (calm_at r round.calm o.0 o.1 o.2 o.3)
          where
            found : Inside d intake h₀ w₀ (r ++ h₀) w o.1 o.2 → Calm o.1 → Tried i f
            found at calm = case at.call
              where
                case : OneCall d intake at.from o.1 at.to → Tried i f
                case (inr x) = absurd (⊎_elim (λ q. not_refused 6 o.1 x.0 x.1 q calm.no_6) (λ q. not_refused 7 o.1 x.0 x.1 q calm.no_7) x.2)
                case (inl x) =
                    let c : x.0 ≡ delivery i f = sym (ap (λ (e : Event). e.call) x.1) ∙ o.4 in
                    let an : o.1.answer ≡ (deliver_call d i f at.from).1 = ap (λ (e : Event). e.answer) x.1 ∙ ap (λ (c : Call). (act d intake c at.from).1) c in
                    record {
                      event = o.1;
                      before = o.2;
                      at = at;
                      called_is = o.4;
                      answer_is = an;
                      world_is = x.2 ∙ ap (λ (c : Call). (act d intake c at.from).0) c;
                      not_full = subst (λ (a : Result Marks Fault). full d a ≡ false) an (roomy o.1.answer calm.no_13);
                    }

    module _ (i f : ℕ) (co : Correct d i) (t : Tried i f) where
      abbrev mid_inv : Inv d intake (t.before ++ h₀) t.at.from
      mid_inv = inv_of d intake h₀ w₀ inv₀ t.before t.at.from t.at.first

      abbrev mid_since : Since d intake h₀ w₀ (t.before ++ h₀) t.at.from
      mid_since = since_of d intake h₀ w₀ t.before t.at.from t.at.first

      -- a mark of the answer counts
      marked_by : (p : Marks → Bool) → marked p (deliver_call d i f t.at.from).1 ≡ true → marks p i t.event ≡ true
      marked_by p m = rw (t.called_is, eq-eqb i i refl) (ap (marked p) t.answer_is ∙ m)

      not_opening : opened_by i (t.event ∷ (t.before ++ h₀)) ≡ opened_by i (t.before ++ h₀)
      not_opening = rw t.called_is (omega arith)

    end_inv : Inv d intake (r ++ h₀) w
    end_inv = inv_of d intake h₀ w₀ inv₀ r w on

    -- a decision that one station has made reaches all
    pub round_decides : (j k : ℕ) → Correct d j → k < booked_by j h₀ → (i : ℕ) → Correct d i → k + 1 ≤ opened_by i h₀ → k < booked_by i (r ++ h₀)
    round_decides j k cj has i co op = go (tried i x.place co (inv₀.live x.place x.mine x.filled))
      where
        x : Decided d intake j k w₀.pool
        x = (inv₀.safe.fine j cj).kept k (omega (arith, has, (inv₀.counted j cj).booked_is))

        go : Tried i x.place → k < booked_by i (r ++ h₀)
        go t = cases (cases_lt k (booked_by i (t.before ++ h₀)))
          where
            bs : List ℕ
            bs = frame_at t.at.from.pool x.place

            cert : Certifies d bs j (k + 1) x.entry x.pairs
            cert = subst (λ (b : List ℕ). Certifies d b j (k + 1) x.entry x.pairs) (sym ((mid_since i x.place co t).grows.frame x.place x.filled)) x.certifies

            rd : Reads d bs 2 j (k + 1) 0 (d.t + 1) x.pairs (statement 2 j (k + 1) 0 (d.t + 1) (entry_bytes x.entry))
            rd = reads_decision d law bs j (k + 1) x.entry x.pairs cert

            right : (p : ℕ × ℕ) → p.1 ≡ d.tag p.0 (proposes p.0 (k + 1) x.entry) → pair_sealed d bs p ≡ true
            right p z = sealed_pair d.n d.t d.batches d.tag bs p
                (z ∙ ap (d.tag p.0) (sym (states_proposal bs p.0 rd.kind_is
                ∙ ap₂ (λ (b : ℕ) (e : Entry). proposes p.0 b e) rd.batch_is (entry_decision d law bs j (k + 1) x.entry x.pairs cert))))

            tags : first_pair (pair_sealed d bs) 32 (pairs_of bs) ≡ None
            tags = first_pair_none (pair_sealed d bs) 32 (pairs_of bs)
                (subst (λ (ps : List (ℕ × ℕ)). AllByRecursion (λ p. pair_sealed d bs p ≡ true) ps) (sym rd.pairs_are) (All-weaker _ _ right x.pairs cert.sealed))

            accepts : booked_by i (t.before ++ h₀) < k + 1 → marks has_decided i t.event ≡ true
            accepts l =
                let a = at-batch d intake (mid_inv i x.place co t) i co (k + 1) (omega (arith, op, (mid_since i x.place co t).opened_up i)) l in
                marked_by i x.place co t has_decided
                (ripe_rule d (λ a. marked has_decided a.1 ≡ true) i x.place t.at.from
                (record {
                  small = co.0;
                  right = co.1;
                  busy = a.0;
                  some = rd.some;
                  formed = rd.formed;
                  batch = rd.batch_is ∙ sym a.1;
                  sealed = reads_sealed d.n d.t d.batches d.tag rd;
                })
                t.not_full
                (λ _. meets_decision d (λ a. marked has_decided a.1 ≡ true) i x.place bs t.at.from rd.kind_is tags refl))

            cases : (k < booked_by i (t.before ++ h₀)) ⊎ (booked_by i (t.before ++ h₀) ≤ k) → k < booked_by i (r ++ h₀)
            cases (inl l) = omega (arith, l, booked_more i t.event (t.before ++ h₀), t.at.rest.booked_up i)
            cases (inr l) =
                let op' : k + 1 ≤ opened_by i (t.before ++ h₀) = omega (arith, op, (mid_since i x.place co t).opened_up i) in
                let y : marks has_decided i t.event ≡ true = accepts (omega arith) in
                let n : booked_by i (t.event ∷ (t.before ++ h₀)) ≡ 1 + booked_by i (t.before ++ h₀) = rw y refl in
                let m : k ≤ booked_by i (t.before ++ h₀) = low (cases_lt (booked_by i (t.before ++ h₀)) k) op' in
                omega (arith, n, m, t.at.rest.booked_up i)
              where
                low : (booked_by i (t.before ++ h₀) < k) ⊎ (k ≤ booked_by i (t.before ++ h₀)) → k + 1 ≤ opened_by i (t.before ++ h₀) → k ≤ booked_by i (t.before ++ h₀)
                low (inr z) op' = z
                low (inl z) op' = let a = at-batch d intake (mid_inv i x.place co t) i co (k + 1) op' (omega arith) in omega (arith, a.1, ((mid_inv i x.place co t).counted i co).booked_is)

    -- a station behind comes on by one committee
    pub round_moves : (b m : ℕ) → Trail d intake b m h₀ w₀.pool → (i : ℕ) → Correct d i → opened_by i h₀ ≡ b → m ≤ committee_of i h₀ → booked_by i (r ++ h₀) < b → m < committee_of i (r ++ h₀)
    round_moves b m tr i co op lo left = go (tried i tr.place co tr.live)
      where
        go : Tried i tr.place → m < committee_of i (r ++ h₀)
        go t = cases (cases_lt m (committee_of i (t.before ++ h₀)))
          where
            bs : List ℕ
            bs = frame_at t.at.from.pool tr.place

            since : Since d intake h₀ w₀ (t.before ++ h₀) t.at.from
            since = mid_since i tr.place co t

            iv : Inv d intake (t.before ++ h₀) t.at.from
            iv = mid_inv i tr.place co t

            less : booked_by i (t.before ++ h₀) < b
            less = omega (arith, left, booked_more i t.event (t.before ++ h₀), t.at.rest.booked_up i)

            here : (at_work d (station_at t.at.from i) ≡ true) × ((station_at t.at.from i).booked + 1 ≡ b) × (opened_by i (t.before ++ h₀) ≡ b)
            here = at-batch d intake iv i co b (omega (arith, op, since.opened_up i)) less

            still : opened_by i (t.event ∷ (t.before ++ h₀)) ≡ opened_by i (t.before ++ h₀)
            still = not_opening i tr.place co t

            last : opened_by i (r ++ h₀) ≡ b
            last = (at-batch d intake end_inv i co b (omega (arith, here.2, still, t.at.rest.opened_up i)) left).2

            onward : committee_of i (t.event ∷ (t.before ++ h₀)) ≤ committee_of i (r ++ h₀)
            onward = t.at.rest.number_up i (omega (arith, last, still, here.2))

            good : Followable d intake bs b m
            good = subst (λ (bs : List ℕ). Followable d intake bs b m) (sym (since.grows.frame tr.place tr.filled)) tr.good

            some : 1 ≤ length bs
            some = formed_some d bs good.formed

            cases : (m < committee_of i (t.before ++ h₀)) ⊎ (committee_of i (t.before ++ h₀) ≤ m) → m < committee_of i (r ++ h₀)
            cases (inl l) = omega (arith, l, number_more i t.event (t.before ++ h₀) still, onward)
            cases (inr l) =
                let e : committee_of i (t.before ++ h₀) ≡ m = omega (arith, l, lo, since.number_up i (here.2 ∙ sym op)) in
                let y : marks has_reselected i t.event ≡ true =
                marked_by i tr.place co t has_reselected
                (ripe_rule d (λ a. marked has_reselected a.1 ≡ true) i tr.place t.at.from
                (record { small = co.0; right = co.1; busy = here.0; some = some; formed = good.formed; batch = good.batch ∙ sym here.1; sealed = good.sealed })
                t.not_full
                (λ _. meets_reselect d (λ a. marked has_reselected a.1 ≡ true) i tr.place bs t.at.from good.not_proposal good.not_decision good.shown good.tags
                (omega (arith, good.number, e, (iv.counted i co).number_is)) (reselect-marks d i _ _))) in
                let n = number_more i t.event (t.before ++ h₀) still in
                let z : ◌≡◌ {A = ℕ} (cond (marks has_reselected i t.event) 1 0) 1 = rw y refl in
                omega (arith, n, z, e, onward)

    -- a proposal that is live is held at the end, by all that still work
    round_holds : (b q : ℕ) (f : ℕ) → Live f h₀ → 1 ≤ (slot_at w₀.pool f).len → (e : Entry) → q < d.n → Within d b → frame_at w₀.pool f ≡ sealed_frame d q (proposes q b e) []
        → (i : ℕ) → Correct d i → opened_by i h₀ ≡ b → booked_by i (r ++ h₀) < b → held (get_or (station_at w i).votes q None) ≡ true
    round_holds b q f live fl e qn wi is i co op left = go (tried i f co live)
      where
        go : Tried i f → held (get_or (station_at w i).votes q None) ≡ true
        go t = t.at.rest.held_on i co (omega (arith, last, still, here.2)) q after
          where
            bs : List ℕ
            bs = frame_at t.at.from.pool f

            since : Since d intake h₀ w₀ (t.before ++ h₀) t.at.from
            since = mid_since i f co t

            iv : Inv d intake (t.before ++ h₀) t.at.from
            iv = mid_inv i f co t

            less : booked_by i (t.before ++ h₀) < b
            less = omega (arith, left, booked_more i t.event (t.before ++ h₀), t.at.rest.booked_up i)

            here : (at_work d (station_at t.at.from i) ≡ true) × ((station_at t.at.from i).booked + 1 ≡ b) × (opened_by i (t.before ++ h₀) ≡ b)
            here = at-batch d intake iv i co b (omega (arith, op, since.opened_up i)) less

            still : opened_by i (t.event ∷ (t.before ++ h₀)) ≡ opened_by i (t.before ++ h₀)
            still = not_opening i f co t

            last : opened_by i (r ++ h₀) ≡ b
            last = (at-batch d intake end_inv i co b (omega (arith, here.2, still, t.at.rest.opened_up i)) left).2

            same : bs ≡ sealed_frame d q (proposes q b e) []
            same = since.grows.frame f fl ∙ is

            rd : Reads d bs 1 q b 0 0 [] (proposes q b e)
            rd = subst (λ (bs : List ℕ). Reads d bs 1 q b 0 0 [] (proposes q b e)) (sym same) (reads_proposal d law q b e qn wi)

            low : i < length t.at.from.stations
            low = omega (arith, co.0, law.few_stations, iv.safe.stations)

            wide : q < length (station_at t.at.from i).votes
            wide = omega (arith, qn, law.few_stations, (iv.safe.fine i co).batch_work.size)

            taken : held (get_or (station_at (deliver_call d i f t.at.from).0 i).votes (sender_of bs) None) ≡ true
            taken = ripe_rule d (λ a. held (get_or (station_at a.0 i).votes (sender_of bs) None) ≡ true) i f t.at.from
                (record {
                  small = co.0;
                  right = co.1;
                  busy = here.0;
                  some = rd.some;
                  formed = rd.formed;
                  batch = rd.batch_is ∙ sym here.1;
                  sealed = reads_sealed d.n d.t d.batches d.tag rd;
                })
                t.not_full
                (λ _. meets_proposal d (λ a. held (get_or (station_at a.0 i).votes (sender_of bs) None) ≡ true) i f bs t.at.from rd.kind_is
                (λ h x. h)
                (λ h. proposal_holds d intake law sized (mark_taken f t.at.from) i bs (rw taken_stations low) (rw (taken_stations, rd.sender_is) wide)))

            after : held (get_or (station_at t.at.to i).votes q None) ≡ true
            after = subst₂ (λ (v : World) (p : ℕ). held (get_or (station_at v i).votes p None) ≡ true) (sym t.world_is) rd.sender_is taken

    -- once all work on the batch in a committee without faulty members, the round books it
    pub round_finishes : (b c : ℕ) → Sound d c → ((j : ℕ) → Correct d j → (opened_by j h₀ ≡ b) × (booked_by j h₀ < b) × (committee_of j h₀ ≡ c)) → (i : ℕ) → Correct d i → b ≤ booked_by i (r ++ h₀)
    round_finishes b c sound all i co = cases (cases_lt (booked_by i (r ++ h₀)) b)
      where
        vote : (q : ℕ) → q < d.n → d.seats c q ≡ true → booked_by i (r ++ h₀) < b → held (get_or (station_at w i).votes q None) ≡ true
        vote q qn se left = given ((inv₀.safe.fine q cq).batch_work.own ((inv₀.ready q cq aq.0).seated (ap (λ (n : ℕ). d.seats n q) (sym (inv₀.counted q cq).number_is ∙ (all q cq).2) ∙ se)))
          where
            cq : Correct d q
            cq = (qn, sound q qn se)

            aq : (at_work d (station_at w₀ q) ≡ true) × ((station_at w₀ q).booked + 1 ≡ b) × (opened_by q h₀ ≡ b)
            aq = at-batch d intake inv₀ q cq b (omega (arith, (all q cq).0)) (all q cq).1

            now : current d intake (station_at w₀ q) ≡ b
            now = sym (inv₀.counted q cq).opened_is ∙ aq.2

            wi : Within d b
            wi = subst (Within d) aq.1 (entered_within d intake law sized (works-clerk d intake law sized w₀ inv₀.safe q cq aq.0))

            given : (v : Vote) × (get_or (station_at w₀ q).votes q None ≡ Some v) → held (get_or (station_at w i).votes q None) ≡ true
            given o =
                let v = (inv₀.safe.fine q cq).batch_work.voted q o.0 o.1 in
                let iss : Issued (proposes q b o.0.entry) w₀.pool = subst (λ (k : ℕ). Issued (proposes q k o.0.entry) w₀.pool) now (v.issued cq.1) in
                round_holds b q iss.place (inv₀.live iss.place iss.own iss.filled) iss.filled o.0.entry qn wi
                (issued_proposal d intake law sized (ghost d intake h₀) w₀.pool inv₀.safe.pool q b o.0.entry wi v.fits iss).2 i co (all i co).0 left

        cases : (booked_by i (r ++ h₀) < b) ⊎ (b ≤ booked_by i (r ++ h₀)) → b ≤ booked_by i (r ++ h₀)
        cases (inr l) = l
        cases (inl l) = absurd (omega (arith, law.full c few, many, (end_inv.ready i co ai.0).quiet))
          where
            ai : (at_work d (station_at w i) ≡ true) × ((station_at w i).booked + 1 ≡ b) × (opened_by i (r ++ h₀) ≡ b)
            ai = at-batch d intake end_inv i co b (omega (arith, (all i co).0, (since_of d intake h₀ w₀ r w on).opened_up i)) l

            few : c ≤ 20000
            few = omega (arith, (inv₀.safe.fine i co).short, (inv₀.counted i co).number_is, (all i co).2)

            some_vote : (o : Option Vote) → held o ≡ true → (v : Vote) × (o ≡ Some v)
            some_vote None h = never h
            some_vote (Some v) h = (v, refl)

            many : size (d.seats c) d.n ≤ length (support d (get_or (clerk d 0 intake) (station_at w i).booked no_entry) (station_at w i))
            many = backers_all (d.seats c) d.n (get_or (clerk d 0 intake) (station_at w i).booked no_entry) (station_at w i).votes
                (omega (arith, law.few_stations, (end_inv.safe.fine i co).batch_work.size))
                (λ q qn se.
                let u = some_vote (get_or (station_at w i).votes q None) (vote q qn se l) in
                (u.0, u.1, subst (λ (e : Entry). same_entry u.0.entry e ≡ true) (sym (vote_clerk d intake law sized w end_inv.safe i co ai.0 q u.0 u.1 (sound q qn se))) (same_entry_refl d u.0.entry)))
