-- What a step at a desk leaves as it was: lengths, and numbers but for what its marks say.
use Rattle.std.proofs.Common.{◌≡◌, ℕ, ◌+◌, ◌<◌, ◌≤◌, Bool, true, false, cond, not, ltb, leb, List, [], length, take, replicate, sym, refl, ap, ◌∙◌, subst, arith}
use Rattle.std.proofs.lemmas.Bool.{ltb-true, both_ways}
use Rattle.std.proofs.lemmas.List.{length-set}
use Rattle.base.specs.declared.book.Batch.{Batch}
use Rattle.base.specs.declared.book.Entry.{Entry}
use Rattle.frames.specs.declared.slot.Slot.{Slot}
use Rattle.frames.specs.declared.frame.Frame.{Frame}
use Rattle.frames.specs.declared.frame.Kind.{Kind}
use Rattle.frames.specs.declared.frame.Kind.TheVariants.{Propose, Decision, Reselect}
use Rattle.frames.specs.Bytes.{statement, reselects}
use Rattle.frames.specs.Frames.{◌and◌}
use Rattle.frames.proofs.Basics.{by_test, and_true}
use Rattle.protocol.specs.declared.station.Vote.{Vote}
use Rattle.protocol.specs.declared.station.Station.{Station}
use Rattle.protocol.specs.Law.{Terms, Marks, has_reselected, has_decided}
use Rattle.protocol.specs.Bounds.{BoundedStation}
use Rattle.protocol.specs.Steps.{no_batch, same_entry, support}
use Rattle.protocol.specs.Desk.{Desk, with_record, begun, holds_vote, own_vote, sent, propose_on, decide_on, settle_on, join_on, announced, moved_on, reselect_on, differs_on, vote_on}
use Rattle.protocol.specs.Ready.{pairs_in, vote_in, shown_by, marked_taken, taken_on, open_on, deliver_on}
use Rattle.protocol.proofs.Bounds.{length-enter}
use Rattle.protocol.proofs.Passed.{Opens, Rings, Delivers}

-- from one desk to the next, with the marks for what was done
pub record Steady (k k' : Desk) (reselected decided : Bool) : Type 0 where
  pub pool_places : length k'.pool ≡ length k.pool
  pub book_places : length k'.books ≡ length k.books
  pub vote_places : length k'.station.votes ≡ length k.station.votes
  pub booked : k'.station.booked ≡ k.station.booked + cond decided 1 0
  pub number : k'.station.number ≡ k.station.number + cond reselected 1 0
  pub work : k'.station.work ≡ cond decided no_batch k.station.work

pub steady_refl : (k : Desk) → Steady k k false false
steady_refl k = record { pool_places = refl; book_places = refl; vote_places = refl; booked = omega arith; number = omega arith; work = refl }

-- after a step that decides nothing another one; one of them at most reselects
pub steady_trans : {k k₁ k₂ : Desk} {a b c : Bool} (e : Bool) → cond a 1 0 + cond c 1 0 ≡ cond e 1 0 → Steady k k₁ a false → Steady k₁ k₂ c b → Steady k k₂ e b
steady_trans {b = b} e sum x y = record {
  pool_places = y.pool_places ∙ x.pool_places;
  book_places = y.book_places ∙ x.book_places;
  vote_places = y.vote_places ∙ x.vote_places;
  booked = omega (arith, x.booked, y.booked);
  number = omega (arith, x.number, y.number, sum);
  work = y.work ∙ ap (cond b no_batch) x.work;
}

-- after a step without marks
steady_after : {k k₁ k₂ : Desk} {b c : Bool} → Steady k k₁ false false → Steady k₁ k₂ c b → Steady k k₂ c b
steady_after {c = c} x y = steady_trans c (omega arith) x y

pub stored_steady : (q : ℕ) (v : Vote) (k : Desk) → Steady k (with_record (holds_vote q v) k) false false
stored_steady q v k = record
    { pool_places = refl; book_places = refl; vote_places = length-set k.station.votes q _; booked = omega arith; number = omega arith; work = refl }

pub taken_steady : (place : ℕ) (k : Desk) → Steady k (taken_on place k) false false
unfolding marked_taken
taken_steady place k = record
    { pool_places = length-set k.pool place _; book_places = refl; vote_places = refl; booked = omega arith; number = omega arith; work = refl }

-- the same by the marks of a step
abbrev pub Marked : Desk → Desk × Marks → Type 0
Marked k r = Steady k r.0 (has_reselected r.1) (has_decided r.1)

-- a number after a step that may have raised it
abbrev pub Most : ℕ → Desk × Marks → Type 0
Most number r = number + cond (has_reselected r.1) 1 0 ≤ 20000

module _ (d : Terms) (i : ℕ) where
  length-sent : (s : List ℕ) (pairs : List (ℕ × ℕ)) (pool : List Slot) → length (sent d i s pairs pool) ≡ length pool
  unfolding sent
  length-sent s pairs pool = length-enter _ pool

  length-announced : (b c : ℕ) (proof : List (ℕ × ℕ)) (pool : List Slot) → length (announced d i b c proof pool) ≡ length pool
  unfolding announced
  length-announced b c proof pool =
      go (d.seats c i) (d.seats (c + 1) i) (sent d i (reselects i b (c + 1)) [] pool) (sent d i (statement 3 i b (c + 1) 1 (replicate 16 0)) proof pool)
      (length-sent _ [] pool) (length-sent _ proof pool)
    where
      go : (u v : Bool) (x y : List Slot) → length x ≡ length pool → length y ≡ length pool
          → length (elim u as (λ _. List Slot) [ true ↦ x | false ↦ elim v [ true ↦ y | false ↦ pool ] ]) ≡ length pool
      go true v x y p q = p
      go false true x y p q = q
      go false false x y p q = refl

  pub propose_steady : (k : Desk) → Steady k (propose_on d i k) false false
  unfolding propose_on
  propose_steady k = record {
    pool_places = length-sent _ [] k.pool;
    book_places = refl;
    vote_places = length-set k.station.votes i _;
    booked = omega arith;
    number = omega arith;
    work = refl;
  }

  pub decide_steady : (e : Entry) (pairs : List (ℕ × ℕ)) (k : Desk) → Steady k (decide_on d i e pairs k) false true
  unfolding decide_on
  decide_steady e pairs k = record {
    pool_places = length-sent _ pairs k.pool;
    book_places = length-set k.books _ e;
    vote_places = refl;
    booked = omega arith;
    number = omega arith;
    work = refl;
  }

  pub settle_steady : (e : Entry) (k : Desk) → Steady k (settle_on d i e k).0 false (settle_on d i e k).1
  unfolding settle_on
  settle_steady e k =
      let ps : List (ℕ × ℕ) = support d e k.station in
      let whole : Bool → Desk × Bool = λ v. elim v [ true ↦ (decide_on d i e (take (d.t + 1) ps) k, true) | false ↦ (k, false) ] in
      by_test (λ v. Steady k (whole v).0 false (whole v).1) (leb (d.t + 1) (length ps)) (λ _. decide_steady e _ k) (λ _. steady_refl k)

  pub join_steady : (k : Desk) → Steady k (join_on d i k).0 false (join_on d i k).1
  unfolding join_on
  join_steady k = steady_after (propose_steady k) (settle_steady (own_vote i (propose_on d i k).station) (propose_on d i k))

  pub moved_steady : (proof : List (ℕ × ℕ)) (k : Desk) → Steady k (moved_on d i proof k) true false
  moved_steady proof k = record
      { pool_places = length-announced _ _ proof k.pool; book_places = refl; vote_places = refl; booked = omega arith; number = omega arith; work = refl }

  pub reselect_steady : (proof : List (ℕ × ℕ)) (k : Desk) → Steady k (reselect_on d i proof k).0 true (has_decided (reselect_on d i proof k).1)
  unfolding reselect_on
  reselect_steady proof k =
      let r : Desk × Bool = join_on d i (moved_on d i proof k) in
      let whole : Bool → Desk × Marks = λ v. elim v [ true ↦ (r.0, (true, true, r.1)) | false ↦ (moved_on d i proof k, (true, false, false)) ] in
      by_test (λ v. Steady k (whole v).0 true (has_decided (whole v).1)) (d.seats (k.station.number + 1) i and not k.station.proposed)
      (λ _. steady_trans true refl (moved_steady proof k) (join_steady (moved_on d i proof k))) (λ _. moved_steady proof k)

  pub reselect-marked : (proof : List (ℕ × ℕ)) (k : Desk) → has_reselected (reselect_on d i proof k).1 ≡ true
  unfolding reselect_on
  reselect-marked proof k =
      let r : Desk × Bool = join_on d i (moved_on d i proof k) in
      let whole : Bool → Desk × Marks = λ v. elim v [ true ↦ (r.0, (true, true, r.1)) | false ↦ (moved_on d i proof k, (true, false, false)) ] in
      by_test (λ v. has_reselected (whole v).1 ≡ true) (d.seats (k.station.number + 1) i and not k.station.proposed) (λ _. refl) (λ _. refl)

  pub reselect-marks : (proof : List (ℕ × ℕ)) (k : Desk) → Marked k (reselect_on d i proof k)
  reselect-marks proof k = subst (λ (a : Bool). Steady k (reselect_on d i proof k).0 a (has_decided (reselect_on d i proof k).1)) (sym (reselect-marked proof k)) (reselect_steady proof k)

  pub vote_steady : (q : ℕ) (v : Vote) (k : Desk) → Marked k (vote_on d i q v k)
  unfolding vote_on
  vote_steady q v k = go (settle_on d i v.entry k₁).0 (settle_on d i v.entry k₁).1 (differs_on d i q v.entry k₁.station) (settle_steady v.entry k₁)
    where
      k₁ : Desk
      k₁ = with_record (holds_vote q v) k

      go : (k₂ : Desk) (settled differs : Bool) → Steady k₁ k₂ false settled
          → Marked k (elim settled as (λ _. Desk × Marks) [ true ↦ (k₂, (false, false, true)) | false ↦ elim differs [ true ↦ reselect_on d i [] k₁ | false ↦ (k₁, (false, false, false)) ] ])
      go k₂ true b h = steady_after (stored_steady q v k) h
      go k₂ false true h = steady_after (stored_steady q v k) (reselect-marks [] k₁)
      go k₂ false false h = stored_steady q v k

  pub open_steady : (next : Batch) (k : Desk) → Marked (with_record (begun next) k) (open_on d i next k)
  unfolding open_on
  open_steady next k =
      let k₁ : Desk = with_record (begun next) k in
      by_test (λ v. Marked k₁ (elim v as (λ _. Desk × Marks) [ true ↦ (propose_on d i k₁, (false, true, false)) | false ↦ (k₁, (false, false, false)) ]))
      (d.seats 0 i) (λ _. propose_steady k₁) (λ _. steady_refl k₁)

  pub deliver_steady : (place : ℕ) (f : Frame) (k : Desk) → Marked k (deliver_on d i place f k)
  unfolding deliver_on
  deliver_steady place f k = go f.kind
    where
      k₁ : Desk
      k₁ = taken_on place k

      go : (kind : Kind) → Marked k (elim kind as (λ _. Desk × Marks) [
        | Propose ↦ vote_on d i f.sender (vote_in f) k₁
        | Decision ↦ (decide_on d i f.entry (pairs_in f) k₁, (false, false, true))
        | Reselect ↦ reselect_on d i (shown_by f) k₁
      ])
      go Propose = steady_after (taken_steady place k) (vote_steady f.sender (vote_in f) k₁)
      go Decision = steady_after (taken_steady place k) (decide_steady f.entry (pairs_in f) k₁)
      go Reselect = steady_after (taken_steady place k) (reselect-marks (shown_by f) k₁)

  -- A record stays within bounds

  differs_below : (q : ℕ) (e : Entry) (s : Station) → differs_on d i q e s ≡ true → s.number < 20000
  unfolding differs_on
  differs_below q e s h =
      let c : ℕ = s.number in
      let rest : Bool = s.proposed and d.seats c q and not (same_entry e (own_vote i s)) in
      ltb-true c 20000 (and_true (ltb c 20000) rest (and_true (d.seats c i) (ltb c 20000 and rest) h).1).0

  raised_most : (proof : List (ℕ × ℕ)) (k : Desk) (number : ℕ) → number < 20000 → Most number (reselect_on d i proof k)
  raised_most proof k number l = rw (reselect-marked proof k) (omega arith)

  vote_most : (q : ℕ) (v : Vote) (k : Desk) → k.station.number ≤ 20000 → Most k.station.number (vote_on d i q v k)
  unfolding vote_on
  vote_most q v k most = go (settle_on d i v.entry k₁).0 (settle_on d i v.entry k₁).1 (differs_on d i q v.entry k₁.station) (differs_below q v.entry k₁.station)
    where
      k₁ : Desk
      k₁ = with_record (holds_vote q v) k

      go : (k₂ : Desk) (settled differs : Bool) → (differs ≡ true → k.station.number < 20000)
          → Most k.station.number (elim settled as (λ _. Desk × Marks) [ true ↦ (k₂, (false, false, true)) | false ↦ elim differs [ true ↦ reselect_on d i [] k₁ | false ↦ (k₁, (false, false, false)) ] ])
      go k₂ true b h = omega arith
      go k₂ false true h = raised_most [] k₁ k.station.number (h refl)
      go k₂ false false h = omega arith

  deliver_most : (place : ℕ) (f : Frame) (k : Desk) → k.station.number ≤ 20000 → (f.kind ≡ Reselect → k.station.number < 20000) → Most k.station.number (deliver_on d i place f k)
  unfolding deliver_on
  deliver_most place f k most below = go f.kind below
    where
      k₁ : Desk
      k₁ = taken_on place k

      go : (kind : Kind) → (kind ≡ Reselect → k.station.number < 20000) → Most k.station.number (elim kind as (λ _. Desk × Marks) [
        | Propose ↦ vote_on d i f.sender (vote_in f) k₁
        | Decision ↦ (decide_on d i f.entry (pairs_in f) k₁, (false, false, true))
        | Reselect ↦ reselect_on d i (shown_by f) k₁
      ])
      go Propose h = vote_most f.sender (vote_in f) k₁ most
      go Decision h = omega arith
      go Reselect h = raised_most (shown_by f) k₁ k.station.number (h refl)

  module _ (idle : d.lawful no_batch ≡ false) where
    pub steady_bounded : (k : Desk) (r : Desk × Marks) → BoundedStation d k.station → k.station.booked < d.batches → Most k.station.number r → Marked k r → BoundedStation d r.0.station
    steady_bounded k r b left most m = record {
      booked_most = go (has_decided r.1) m.booked;
      booked_less = λ h. less (has_decided r.1) m.booked (sym (ap d.lawful m.work) ∙ h);
      number_most = omega (arith, m.number);
      vote_places = m.vote_places ∙ b.vote_places;
    }
      where
        go : (decided : Bool) → r.0.station.booked ≡ k.station.booked + cond decided 1 0 → r.0.station.booked ≤ d.batches
        go true e = omega arith
        go false e = omega arith

        less : (decided : Bool) → r.0.station.booked ≡ k.station.booked + cond decided 1 0 → d.lawful (cond decided no_batch k.station.work) ≡ true → r.0.station.booked < d.batches
        less true e h = absurd (both_ways (d.lawful no_batch) idle h)
        less false e h = omega arith

    pub open_bounded : (intake : List Batch) (next : Batch) (k : Desk) → BoundedStation d k.station → Opens d intake i k.station k.pool next
        → BoundedStation d (open_on d i next k).0.station
    open_bounded intake next k b o =
        steady_bounded (with_record (begun next) k) (open_on d i next k)
        (record { booked_most = b.booked_most; booked_less = λ _. o.left; number_most = omega arith; vote_places = refl })
        o.left (opened_most (has_reselected (open_on d i next k).1)) (open_steady next k)
      where
        opened_most : (a : Bool) → 0 + cond a 1 0 ≤ 20000
        opened_most true = omega arith
        opened_most false = omega arith

    pub ring_bounded : (k : Desk) → BoundedStation d k.station → Rings d i k.station k.pool → BoundedStation d (reselect_on d i [] k).0.station
    ring_bounded k b o =
        steady_bounded k (reselect_on d i [] k) b (b.booked_less o.busy) (raised_most [] k k.station.number o.below) (reselect-marks [] k)

    pub deliver_bounded : (place : ℕ) (f : Frame) (k : Desk) → BoundedStation d k.station → Delivers d i place k.station k.pool f
        → BoundedStation d (deliver_on d i place f k).0.station
    deliver_bounded place f k b o =
        steady_bounded k (deliver_on d i place f k) b (b.booked_less o.busy)
        (deliver_most place f k b.number_most (λ e. omega (arith, o.next e, o.most e))) (deliver_steady place f k)
