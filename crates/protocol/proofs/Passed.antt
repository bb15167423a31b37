-- What is known where the tests of a call have passed.
use Rattle.std.proofs.Common.{◌≡◌, ℕ, suc, ◌+◌, ◌*◌, ◌<◌, ◌≤◌, Bool, true, false, not, eqb, ltb, leb, List, length, get_or, Some, None, Ok, Err, Option, Result, sym, refl, ap, ◌∙◌, subst, ⊎_elim, mul-le-mul_right, suc-mul, arith}
use Rattle.std.proofs.lemmas.Bool.{eqb-true, ltb-true, leb-true, not-true, cases_lt}
use Rattle.std.proofs.lemmas.List.{get_or_past}
use Rattle.base.specs.declared.book.Batch.{Batch}
use Rattle.base.specs.declared.fault.Fault.{Fault}
use Rattle.base.specs.declared.refusal.Refusal.{Refusal}
use Rattle.base.specs.declared.refusal.Refusal.TheVariants.{NoStation, FaultyStation, AtWork, IntakeUsedUp, UnlawfulBatch, PoolFull, Idle, NoFrame, EarlierBatch, LaterBatch, SenderTag, VoteHeld, PairTag, WronglySent, NumberPassed, NumberAhead, NotMember, LastNumber, Forged, BadLine}
use Rattle.base.specs.Refusals.{fault_at}
use Rattle.frames.specs.declared.frame.Frame.{Frame}
use Rattle.frames.specs.declared.frame.Kind.{Kind}
use Rattle.frames.specs.declared.frame.Kind.TheVariants.{Propose, Decision, Reselect}
use Rattle.frames.specs.declared.slot.Slot.{Slot}
use Rattle.frames.specs.declared.bytes.FrameBytes.{FrameBytes}
use Rattle.frames.specs.Slots.{no_slot, framed, frame_at, free}
use Rattle.frames.specs.Frames.{kind_of, first_pair, line_fault, unhex}
use Rattle.frames.specs.Packed.{packed, unpacked, line_read}
use Rattle.frames.specs.Typed.{kind_number, frame_of, decoded}
use Rattle.frames.proofs.Basics.{and_true}
use Rattle.frames.proofs.Codec.{line_bytes}
use Rattle.frames.proofs.Decoding.{held as held_frame, named}
use Rattle.frames.proofs.Formed.{Formed, none_formed}
use Rattle.protocol.specs.declared.station.Station.{Station}
use Rattle.protocol.specs.Law.{Terms}
use Rattle.protocol.specs.Steps.{World, in_range, fitting, no_batch, held, passing, at_work, malformed}
use Rattle.protocol.specs.Ready.{passing_at, and_then, unless_at, pairs_in, sender_right, rightly_from, pair_leaves, open_ready, ring_ready, kind_ready, deliver_ready, forgery_at, inject_ready}
use Rattle.protocol.proofs.Fields.{few_pairs}

-- one test after the other
module _ {A : Type 0} where
  refused_never : {P : Type 0} (e : Fault) (x : A) → ◌≡◌ {A = Result A Fault} (Err e) (Ok x) → P
  refused_never e x h = absurd (let z : ◌≡◌ {A = ℕ} 0 1 = cc in omega arith)

  pub passing_ok : (b : Bool) (why : Refusal) (r : Result A Fault) (x : A) → passing b why r ≡ Ok x → (b ≡ true) × (r ≡ Ok x)
  passing_ok true why r x h = (refl, h)
  passing_ok false why r x h = refused_never (fault_at why 0) x h

  pub passing_at_ok : (b : Bool) (why : Refusal) (place : ℕ) (r : Result A Fault) (x : A) → passing_at b why place r ≡ Ok x → (b ≡ true) × (r ≡ Ok x)
  passing_at_ok true why place r x h = (refl, h)
  passing_at_ok false why place r x h = refused_never (fault_at why place) x h

  pub unless_ok : (o : Option ℕ) (why : Refusal) (r : Result A Fault) (x : A) → unless_at o why r ≡ Ok x → (o ≡ None) × (r ≡ Ok x)
  unless_ok None why r x h = (refl, h)
  unless_ok (Some place) why r x h = refused_never (fault_at why place) x h

  pub then_ok : {B : Type 0} (r : Result B Fault) (f : B → Result A Fault) (x : A) → and_then r f ≡ Ok x → (y : B) × (r ≡ Ok y) × (f y ≡ Ok x)
  then_ok (Ok y) f x h = (y, refl, h)
  then_ok (Err e) f x h = refused_never e x h

-- a frame stands in a slot of the pool
pub place_inside : (pool : List Slot) (f : ℕ) → 1 ≤ length (frame_at pool f) → f < length pool
place_inside pool f h = ⊎_elim (λ l. l) (λ l. let n : length (frame_at pool f) ≡ 0 = ap (λ (s : Slot). length (framed s)) (get_or_past pool f no_slot l) in absurd (omega (arith, n))) (cases_lt f (length pool))

module _ (d : Terms) where
  -- what the tests tell that all calls share
  pub record Ranged : Type 0 where
    pub same_n : d.policy_n ≡ d.n
    pub same_t : d.policy_t ≡ d.t
    pub some_batches : 1 ≤ d.batches
    pub few_batches : d.batches ≤ 1000
    pub some_slots : 3 ≤ d.slots
    pub few_slots : d.slots ≤ 65536

  pub ranged : in_range d ≡ true → Ranged
  unfolding in_range
  ranged h =
      let a = and_true (eqb d.policy_n d.n) _ h in
      let b = and_true (eqb d.policy_t d.t) _ a.1 in
      let c = and_true (leb 1 d.batches) _ b.1 in
      let e = and_true (leb d.batches 1000) _ c.1 in
      let f = and_true (leb 3 d.slots) (leb d.slots 65536) e.1 in
      record {
        same_n = eqb-true d.policy_n d.n a.0;
        same_t = eqb-true d.policy_t d.t b.0;
        some_batches = leb-true 1 d.batches c.0;
        few_batches = leb-true d.batches 1000 e.0;
        some_slots = leb-true 3 d.slots f.0;
        few_slots = leb-true d.slots 65536 f.1;
      }

  pub record Fitted (intake : List Batch) (w : World) : Type 0 where
    pub intake_places : length intake ≡ d.batches
    pub pool_places : length w.pool ≡ d.slots
    pub book_places : length w.books ≡ d.n * d.batches

  pub fitted : (intake : List Batch) (w : World) → fitting d intake w ≡ true → Fitted intake w
  unfolding fitting
  fitted intake w h =
      let a = and_true (eqb (length intake) d.batches) _ h in
      let b = and_true (eqb (length w.pool) d.slots) (eqb (length w.books) (d.n * d.batches)) a.1 in
      record { intake_places = eqb-true _ _ a.0; pool_places = eqb-true _ _ b.0; book_places = eqb-true _ _ b.1 }

  -- a place of station i in the books
  pub book_inside : (i k entries : ℕ) → i < d.n → k < d.batches → entries ≡ d.n * d.batches → i * d.batches + k < entries
  book_inside i k entries low left size =
      let more : suc i * d.batches ≤ d.n * d.batches = mul-le-mul_right d.batches low in
      omega (arith, more, suc-mul i d.batches, left, size)

  pub record Opens (intake : List Batch) (i : ℕ) (s : Station) (pool : List Slot) (next : Batch) : Type 0 where
    pub small : i < d.n
    pub correct : d.faulty i ≡ false
    pub idle : at_work d s ≡ false
    pub left : s.booked < d.batches
    pub lawful : d.lawful next ≡ true
    pub room : 3 ≤ free pool
    pub found : next ≡ get_or intake s.booked no_batch

  pub open_passed : (intake : List Batch) (i : ℕ) (s : Station) (pool : List Slot) (next : Batch) → open_ready d intake i s pool ≡ Ok next → Opens intake i s pool next
  unfolding open_ready
  open_passed intake i s pool next h =
      let first : Batch = get_or intake s.booked no_batch in
      let a = passing_ok (ltb i d.n) NoStation _ next h in
      let b = passing_ok (not (d.faulty i)) FaultyStation _ next a.1 in
      let c = passing_ok (not (at_work d s)) AtWork _ next b.1 in
      let e = passing_ok (ltb s.booked d.batches) IntakeUsedUp _ next c.1 in
      let l = passing_ok (d.lawful first) UnlawfulBatch _ next e.1 in
      let r = passing_ok (leb 3 (free pool)) PoolFull (Ok first) next l.1 in
      let same : first ≡ next = let g : ◌≡◌ {A = Result Batch Fault} (Ok first) (Ok next) = r.1 in cc in
      record {
        small = ltb-true i d.n a.0;
        correct = not-true (d.faulty i) b.0;
        idle = not-true (at_work d s) c.0;
        left = ltb-true s.booked d.batches e.0;
        lawful = ap d.lawful (sym same) ∙ l.0;
        room = leb-true 3 (free pool) r.0;
        found = sym same;
      }

  pub record Rings (i : ℕ) (s : Station) (pool : List Slot) : Type 0 where
    pub small : i < d.n
    pub correct : d.faulty i ≡ false
    pub busy : at_work d s ≡ true
    pub member : d.seats s.number i ≡ true
    pub below : s.number < 20000
    pub room : 3 ≤ free pool

  pub ring_passed : (i : ℕ) (s : Station) (pool : List Slot) (u : Unit {0}) → ring_ready d i s pool ≡ Ok u → Rings i s pool
  unfolding ring_ready
  ring_passed i s pool u h =
      let a = passing_ok (ltb i d.n) NoStation _ u h in
      let b = passing_ok (not (d.faulty i)) FaultyStation _ u a.1 in
      let c = passing_ok (at_work d s) Idle _ u b.1 in
      let e = passing_ok (d.seats s.number i) NotMember _ u c.1 in
      let l = passing_ok (ltb s.number 20000) LastNumber _ u e.1 in
      let r = passing_ok (leb 3 (free pool)) PoolFull (Ok tt) u l.1 in
      record {
        small = ltb-true i d.n a.0;
        correct = not-true (d.faulty i) b.0;
        busy = c.0;
        member = e.0;
        below = ltb-true s.number 20000 l.0;
        room = leb-true 3 (free pool) r.0;
      }

  -- the tests of each kind
  pub new_vote : (s : Station) (f : Frame) (u : Unit {0}) → kind_ready d s f ≡ Ok u → f.kind ≡ Propose → held (get_or s.votes f.sender None) ≡ false
  unfolding kind_ready
  new_vote s f u h e =
      let g : passing {A = Unit {0}} (not (held (get_or s.votes f.sender None))) VoteHeld (Ok tt) ≡ Ok u = rw (e, kind_ready) at h in
      not-true (held (get_or s.votes f.sender None)) (passing_ok (not (held (get_or s.votes f.sender None))) VoteHeld (Ok tt) u g).0

  pub next_number : (s : Station) (f : Frame) (u : Unit {0}) → kind_ready d s f ≡ Ok u → f.kind ≡ Reselect → f.number ≡ s.number + 1
  unfolding kind_ready
  next_number s f u h e =
      let g : passing {A = Unit {0}} (rightly_from d f) WronglySent
      (unless_at (first_pair (pair_leaves d f) 32 (pairs_in f)) PairTag
      (passing (ltb s.number f.number) NumberPassed (passing (leb f.number (s.number + 1)) NumberAhead (Ok tt)))) ≡ Ok u = rw (e, kind_ready) at h in
      let a = passing_ok (rightly_from d f) WronglySent _ u g in
      let b = unless_ok (first_pair (pair_leaves d f) 32 (pairs_in f)) PairTag _ u a.1 in
      let c = passing_ok (ltb s.number f.number) NumberPassed _ u b.1 in
      let l = passing_ok (leb f.number (s.number + 1)) NumberAhead (Ok tt) u c.1 in
      omega (arith, ltb-true s.number f.number c.0, leb-true f.number (s.number + 1) l.0)

  pub record Delivers (i place : ℕ) (s : Station) (pool : List Slot) (f : Frame) : Type 0 where
    pub small : i < d.n
    pub correct : d.faulty i ≡ false
    pub busy : at_work d s ≡ true
    pub inside : place < length pool
    pub room : 3 ≤ free pool
    pub well : malformed d (frame_at pool place) ≡ None
    pub found : f ≡ frame_of (frame_at pool place)
    pub batch : f.batch ≡ s.booked + 1
    pub sender : f.sender < d.n
    pub sealed : sender_right d f ≡ true
    -- there is room for its pairs
    pub few : d.t ≤ 7 → f.pairs.count ≤ 8
    -- by kind
    pub unheld : f.kind ≡ Propose → held (get_or s.votes f.sender None) ≡ false
    pub quorum : f.kind ≡ Decision → f.pairs.count ≡ d.t + 1
    pub next : f.kind ≡ Reselect → f.number ≡ s.number + 1
    pub most : f.kind ≡ Reselect → f.number ≤ 20000
    pub one : f.kind ≡ Reselect → f.pairs.count ≤ 1

  -- what the form of a frame says by its kind
  module _ (bs : List ℕ) (well : malformed d bs ≡ None) where
    formed : Formed d.n d.t d.batches bs
    formed = none_formed d.n d.t d.batches bs well

    numbered : (k : Kind) → (frame_of bs).kind ≡ k → kind_of bs ≡ kind_number k
    unfolding frame_of
    numbered k e = sym (named (kind_of bs) formed.kinds.0 formed.kinds.1) ∙ ap kind_number e

  pub deliver_passed : (i place : ℕ) (s : Station) (pool : List Slot) (f : Frame) → deliver_ready d i place s pool ≡ Ok f → Delivers i place s pool f
  unfolding deliver_ready decoded frame_of
  deliver_passed i place s pool f h =
      let bs : List ℕ = frame_at pool place in
      let a = passing_ok (ltb i d.n) NoStation _ f h in
      let b = passing_ok (not (d.faulty i)) FaultyStation _ f a.1 in
      let c = passing_ok (at_work d s) Idle _ f b.1 in
      let e = passing_ok (leb 1 (length bs)) NoFrame _ f c.1 in
      let r = passing_ok (leb 3 (free pool)) PoolFull _ f e.1 in
      let y = then_ok (decoded d.n d.t d.batches bs) _ f r.1 in
      let g = held_frame (malformed d bs) (frame_of bs) y.0 (sym y.1) in
      let lo = passing_ok (leb (s.booked + 1) y.0.batch) EarlierBatch _ f y.2 in
      let hi = passing_ok (leb y.0.batch (s.booked + 1)) LaterBatch _ f lo.1 in
      let t = passing_at_ok (sender_right d y.0) SenderTag 24 _ f hi.1 in
      let k = then_ok (kind_ready d s y.0) (λ _. Ok y.0) f t.1 in
      let same : y.0 ≡ f = let q : ◌≡◌ {A = Result Frame Fault} (Ok y.0) (Ok f) = k.2 in cc in
      subst (Delivers i place s pool) same (record {
        small = ltb-true i d.n a.0;
        correct = not-true (d.faulty i) b.0;
        busy = c.0;
        inside = place_inside pool place (leb-true 1 (length bs) e.0);
        room = leb-true 3 (free pool) r.0;
        well = g.0;
        found = g.1;
        batch = omega (arith, leb-true (s.booked + 1) y.0.batch lo.0, leb-true y.0.batch (s.booked + 1) hi.0);
        sender = subst (λ (x : Frame). x.sender < d.n) (sym g.1) (formed bs g.0).sends;
        sealed = t.0;
        few = λ l. subst (λ (x : Frame). x.pairs.count ≤ 8) (sym g.1) (few_pairs d.n d.t d.batches bs g.0 l);
        unheld = new_vote s y.0 k.0 k.1;
        quorum = subst (λ (x : Frame). x.kind ≡ Decision → x.pairs.count ≡ d.t + 1) (sym g.1) (λ z. ((formed bs g.0).decision (numbered bs g.0 Decision z)).1);
        next = next_number s y.0 k.0 k.1;
        most = subst (λ (x : Frame). x.kind ≡ Reselect → x.number ≤ 20000) (sym g.1) (λ z. ((formed bs g.0).reselection (numbered bs g.0 Reselect z)).1);
        one = subst (λ (x : Frame). x.kind ≡ Reselect → x.pairs.count ≤ 1) (sym g.1) (λ z. ((formed bs g.0).reselection (numbered bs g.0 Reselect z)).2);
      })

  pub record Injects (line : List ℕ) (pool : List Slot) (bytes : FrameBytes) : Type 0 where
    pub right : line_fault line ≡ None
    pub found : bytes ≡ packed (unhex line)
    pub some : 1 ≤ bytes.len
    pub short : bytes.len ≤ 104
    pub room : 3 ≤ free pool

  pub inject_passed : (line : List ℕ) (pool : List Slot) (bytes : FrameBytes) → inject_ready d line pool ≡ Ok bytes → Injects line pool bytes
  unfolding inject_ready line_read
  inject_passed line pool bytes h =
      let y = then_ok (line_read line) _ bytes h in
      let r = passing_ok (leb 3 (free pool)) PoolFull _ bytes y.2 in
      let g = unless_ok (forgery_at d (decoded d.n d.t d.batches (unpacked y.0)) pool) Forged (Ok y.0) bytes r.1 in
      let same : y.0 ≡ bytes = let q : ◌≡◌ {A = Result FrameBytes Fault} (Ok y.0) (Ok bytes) = g.1 in cc in
      subst (Injects line pool) same (go (line_fault line) refl y.0 y.1 (leb-true 3 (free pool) r.0))
    where
      go : (o : Option ℕ) → line_fault line ≡ o → (x : FrameBytes)
          → ◌≡◌ {A = Result FrameBytes Fault} (elim o [ None ↦ Ok (packed (unhex line)) | Some place ↦ Err (fault_at BadLine place) ]) (Ok x)
          → 3 ≤ free pool → Injects line pool x
      go None e x q room =
          let b = line_bytes line e in
          let same : packed (unhex line) ≡ x = cc in
          subst (Injects line pool) same (record { right = e; found = refl; some = b.1; short = b.2; room = room })
      go (Some place) e x q room = refused_never (fault_at BadLine place) x q
