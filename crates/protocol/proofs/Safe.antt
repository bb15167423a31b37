-- The safety of a world: what its records, books and pool are known to hold. Time stands in a ghost,
-- what the calls so far have done.
use Rattle.std.proofs.Common.{◌≡◌, ℕ, ◌+◌, ◌-◌, ◌*◌, ◌<◌, ◌≤◌, Bool, true, false, cond, ◌⊎◌, List, [], ◌∷◌, length, get_or, take, set, replicate, Some, None, Option, sym, refl, ap, ◌∙◌, subst, ap₂, subst₂, inl, inr, arith}
use mathlib.Core.Path.{subst₃}
use Rattle.std.specs.List.{AllByRecursion}
use Rattle.std.proofs.lemmas.Bool.{cases_eq}
use Rattle.std.proofs.lemmas.List.{get_or-set_same, get_or-set_other}
use Rattle.std.proofs.ByRecursion.{All-weaker, All-get_or}
use Rattle.base.specs.declared.book.Batch.{Batch}
use Rattle.base.specs.declared.book.Entry.{Entry}
use Rattle.frames.specs.declared.slot.Slot.{Slot}
use Rattle.frames.specs.Bytes.{statement, proposes, reselects, entry_bytes}
use Rattle.frames.specs.Slots.{framed, frame_at, no_slot, free, enter, slot_of}
use Rattle.frames.specs.Certificates.{Fits}
use Rattle.frames.specs.Frames.{sender_of, pairs_of, pair_states, entry_of}
use Rattle.protocol.specs.declared.station.Vote.{Vote}
use Rattle.protocol.specs.declared.station.Station.{Station}
use Rattle.protocol.specs.Law.{Terms, Correct, clerk, Rising, Certifies}
use Rattle.protocol.specs.Steps.{World, no_batch, no_entry, station_at, sender_sealed, pair_sealed, malformed}
use Rattle.frames.proofs.Numbers.{Bytes}
use Rattle.frames.proofs.Codec.{paired_statement, kind_apart, count-apart, reselect_once, propose_once}
use Rattle.frames.proofs.Slots.{slot_at, Place, place_of, Issued, Grows, issued_later, grows_set, framed_slot}
use Rattle.frames.proofs.Frames.{states_reselect, states_proposal}
use Rattle.protocol.proofs.Usable.{Usable}
use Rattle.protocol.proofs.Framed.{Within, Reads, reads_paired, reads_plain, entry_decision, sealed_frame, reads_proposal, reads_decision, room}
use Rattle.protocol.proofs.Clerk.{clerk-fits, clerk_short, outside}

-- what the calls so far are known to hold: who worked what out, which committees are excused, who left which
pub record Ghost : Type 1 where
  pub worked : ℕ → ℕ → Type 0
  pub excused : ℕ → ℕ → Type 0
  pub left : ℕ → ℕ → ℕ → Type 0

pub record Later (g h : Ghost) : Type 0 where
  pub worked : (i b : ℕ) → g.worked i b → h.worked i b
  pub excused : (c b : ℕ) → g.excused c b → h.excused c b
  pub left : (i c b : ℕ) → g.left i c b → h.left i c b

module _ (d : Terms) (intake : List Batch) where
  -- the clerk's entry of the batch behind k others
  pub record Entered (k : ℕ) (e : Entry) : Type 0 where
    pub below : k < length (clerk d 0 intake)
    pub is : get_or (clerk d 0 intake) k no_entry ≡ e

  -- a frame that a correct station issued
  pub data Own (g : Ghost) (bs : List ℕ) : Type 0 where
    proposal : (j k : ℕ) (e : Entry) → Correct d j → Entered k e → g.worked j (k + 1) → bs ≡ sealed_frame d j (proposes j (k + 1) e) [] → Own g bs
    decision : (j b : ℕ) (e : Entry) (pairs : List (ℕ × ℕ)) → Correct d j → Certifies d bs j b e pairs → Own g bs
    plain : (j b c : ℕ) → Correct d j → Within d b → c < 20000 → d.seats c j ≡ true → g.excused c b → g.left j c b
        → bs ≡ sealed_frame d j (reselects j b (c + 1)) [] → Own g bs
    paired : (j b c q x : ℕ) → Correct d j → Within d b → c < 20000 → q < d.n → x ≡ d.tag q (reselects q b (c + 1))
        → bs ≡ sealed_frame d j (paired_statement j b (c + 1)) ((q, x) ∷ []) → Own g bs

  -- right tags of correct stations in a well-formed frame are on issued statements
  pub record Sealed (bs : List ℕ) (pool : List Slot) : Type 0 where
    pub sender : d.faulty (sender_of bs) ≡ false → sender_sealed d bs ≡ true → Issued (take 24 bs) pool
    pub pairs : AllByRecursion (λ p. d.faulty p.0 ≡ false → pair_sealed d bs p ≡ true → Issued (pair_states bs p.0) pool) (pairs_of bs)

  pub record Known (bs : List ℕ) (pool : List Slot) : Type 0 where
    pub bytes : Bytes bs
    pub sealed : malformed d bs ≡ None → Sealed bs pool

  pub record PoolSafe (g : Ghost) (pool : List Slot) : Type 0 where
    pub own : (f : ℕ) → (slot_at pool f).by ≡ 0 → 1 ≤ (slot_at pool f).len → Own g (frame_at pool f)
    pub known : (f : ℕ) → 1 ≤ (slot_at pool f).len → Known (frame_at pool f) pool

  -- a vote of station q in batch b
  pub record Voted (b q : ℕ) (v : Vote) (pool : List Slot) : Type 0 where
    pub station : q < d.n
    pub fits : Fits v.entry
    pub tag_is : v.tag ≡ d.tag q (proposes q b v.entry)
    pub issued : d.faulty q ≡ false → Issued (proposes q b v.entry) pool

  -- a station's work on batch b
  pub record BatchWork (g : Ghost) (i b number : ℕ) (proposed : Bool) (votes : List (Option Vote)) (pool : List Slot) : Type 0 where
    pub size : length votes ≡ 16
    pub voted : (q : ℕ) (v : Vote) → get_or votes q None ≡ Some v → Voted b q v pool
    pub own : proposed ≡ true → (v : Vote) × (get_or votes i None ≡ Some v)
    pub excuses : (c : ℕ) → c < number → g.excused c b

  -- the batch at work, or the last one booked
  abbrev pub current : Station → ℕ
  current s = cond (d.lawful s.work) (s.booked + 1) s.booked

  -- a decision of station i on batch k + 1 in the pool
  pub record Decided (i k : ℕ) (pool : List Slot) : Type 0 where
    pub place : ℕ
    pub filled : 1 ≤ (slot_at pool place).len
    pub mine : (slot_at pool place).by ≡ 0
    pub entry : Entry
    pub pairs : List (ℕ × ℕ)
    pub certifies : Certifies d (frame_at pool place) i (k + 1) entry pairs

  pub record StationSafe (g : Ghost) (i : ℕ) (s : Station) (books : List Entry) (pool : List Slot) : Type 0 where
    pub few : s.booked ≤ length (clerk d 0 intake)
    pub booked : (k : ℕ) → k < s.booked → get_or books (i * d.batches + k) no_entry ≡ get_or (clerk d 0 intake) k no_entry
    pub work : d.lawful s.work ≡ true → s.work ≡ get_or intake s.booked no_batch
    pub short : s.number ≤ 20000
    pub batch_work : BatchWork g i (current s) s.number s.proposed s.votes pool
    pub kept : (k : ℕ) → k < s.booked → Decided i k pool

  pub record Safe (g : Ghost) (w : World) : Type 0 where
    pub stations : length w.stations ≡ 16
    pub books : length w.books ≡ d.n * d.batches
    pub fine : (i : ℕ) → Correct d i → StationSafe g i (station_at w i) w.books w.pool
    pub pool : PoolSafe g w.pool

  -- all of it lasts as the pool grows and the ghost comes to know more

  sealed_grows : {bs : List ℕ} {p q : List Slot} → Grows p q → Sealed bs p → Sealed bs q
  sealed_grows {bs} gr s = record {
    sender = λ a b. issued_later gr (s.sender a b);
    pairs = All-weaker _ _ (λ p f a b. issued_later gr (f a b)) (pairs_of bs) s.pairs;
  }

  pub known_grows : {bs : List ℕ} {p q : List Slot} → Grows p q → Known bs p → Known bs q
  known_grows gr k = record { bytes = k.bytes; sealed = λ m. sealed_grows gr (k.sealed m) }

  pub voted_grows : {b q : ℕ} {v : Vote} {p r : List Slot} → Grows p r → Voted b q v p → Voted b q v r
  voted_grows gr v = record { station = v.station; fits = v.fits; tag_is = v.tag_is; issued = λ a. issued_later gr (v.issued a) }

  work_grows : {g : Ghost} {i b n : ℕ} {pr : Bool} {vs : List (Option Vote)} {p q : List Slot} → Grows p q → BatchWork g i b n pr vs p → BatchWork g i b n pr vs q
  work_grows gr r = record { size = r.size; voted = λ q v x. voted_grows gr (r.voted q v x); own = r.own; excuses = r.excuses }

  decided_grows : {i k : ℕ} {p q : List Slot} → Grows p q → Decided i k p → Decided i k q
  decided_grows {i} {k} {p} {q} gr x = record {
    place = x.place;
    filled = omega (arith, gr.len x.place x.filled, x.filled);
    mine = gr.by x.place x.filled ∙ x.mine;
    entry = x.entry;
    pairs = x.pairs;
    certifies = subst (λ (bs : List ℕ). Certifies d bs i (k + 1) x.entry x.pairs) (sym (gr.frame x.place x.filled)) x.certifies;
  }

  pub station_grows : {g : Ghost} {i : ℕ} {s : Station} {books : List Entry} {p q : List Slot} → Grows p q → StationSafe g i s books p → StationSafe g i s books q
  station_grows gr x = record
      { few = x.few; booked = x.booked; work = x.work; short = x.short; batch_work = work_grows gr x.batch_work; kept = λ k l. decided_grows gr (x.kept k l) }

  own_later : {g h : Ghost} {bs : List ℕ} → Later g h → Own g bs → Own h bs
  own_later l (proposal j k e a b c x) = proposal j k e a b (l.worked j (k + 1) c) x
  own_later l (decision j b e ps a c) = decision j b e ps a c
  own_later l (plain j b c a w s t x y z) = plain j b c a w s t (l.excused c b x) (l.left j c b y) z
  own_later l (paired j b c q x a w s t u z) = paired j b c q x a w s t u z

  pub safe_later : {g h : Ghost} {w : World} → Later g h → Safe g w → Safe h w
  safe_later l s = record {
    stations = s.stations;
    books = s.books;
    fine = λ i c. let x = s.fine i c in record {
      few = x.few;
      booked = x.booked;
      work = x.work;
      short = x.short;
      batch_work = record { size = x.batch_work.size; voted = x.batch_work.voted; own = x.batch_work.own; excuses = λ k m. l.excused k _ (x.batch_work.excuses k m) };
      kept = x.kept;
    };
    pool = record { own = λ f a b. own_later l (s.pool.own f a b); known = s.pool.known };
  }

  -- an empty slot filled
  pub pool_safe_set : (g : Ghost) (p : List Slot) → PoolSafe g p → (f : ℕ) (x : Slot) → f < length p → (slot_at p f).len ≡ 0 → (x.by ≡ 0 → Own g (framed x))
      → Known (framed x) (set p f x) → PoolSafe g (set p f x)
  pool_safe_set g p k f x inside z own known = record { own = λ j. mine j (cases_eq j f); known = λ j. all j (cases_eq j f) }
    where
      at_f : slot_at (set p f x) f ≡ x
      at_f = get_or-set_same p f x no_slot inside

      mine : (j : ℕ) → (j ≡ f) ⊎ (j ≡ f → ⊥) → (slot_at (set p f x) j).by ≡ 0 → 1 ≤ (slot_at (set p f x) j).len → Own g (frame_at (set p f x) j)
      mine j (inl e) a b = rw (e, at_f) (own (rw (e, at_f) at a))
      mine j (inr e) a b = rw (get_or-set_other p f j x no_slot e) (k.own j (rw (get_or-set_other p f j x no_slot e) at a) (rw (get_or-set_other p f j x no_slot e) at b))

      all : (j : ℕ) → (j ≡ f) ⊎ (j ≡ f → ⊥) → 1 ≤ (slot_at (set p f x) j).len → Known (frame_at (set p f x) j) (set p f x)
      all j (inl e) b = subst (λ (bs : List ℕ). Known bs (set p f x)) (ap framed (sym (ap (λ (i : ℕ). slot_at (set p f x) i) e ∙ at_f))) known
      all j (inr e) b =
          subst (λ (bs : List ℕ). Known bs (set p f x)) (ap framed (sym (get_or-set_other p f j x no_slot e)))
          (known_grows (grows_set p f x z) (k.known j (rw (get_or-set_other p f j x no_slot e) at b)))

  -- a frame of a step enters
  pub record Added (g : Ghost) (bs : List ℕ) (p q : List Slot) : Type 0 where
    pub kept : PoolSafe g q
    pub grows : Grows p q
    pub room : free p ≡ free q + 1
    pub place : ℕ
    pub filled : 1 ≤ (slot_at q place).len
    pub mine : (slot_at q place).by ≡ 0
    pub reads : frame_at q place ≡ bs

  pub issued_added : {g : Ghost} {bs : List ℕ} {p q : List Slot} → Added g bs p q → Issued (take 24 bs) q
  issued_added a = record { place = a.place; own = a.mine; filled = a.filled; begins = ap (take 24) a.reads }

  pub add_own : (g : Ghost) (p : List Slot) → PoolSafe g p → 1 ≤ free p → (bs : List ℕ) → 1 ≤ length bs → length bs ≤ 104 → Own g bs
      → ((q : List Slot) → Grows p q → Issued (take 24 bs) q → Known bs q) → Added g bs p (enter (slot_of 0 bs) p)
  add_own g p k room bs some short own known = go (place_of (slot_of 0 bs) some p room)
    where
      is : framed (slot_of 0 bs) ≡ bs
      is = framed_slot 0 bs short

      go : Place (slot_of 0 bs) p → Added g bs p (enter (slot_of 0 bs) p)
      go at = subst (λ (q : List Slot). Added g bs p q) (sym at.entered) (record {
        kept = pool_safe_set g p k at.place (slot_of 0 bs) at.inside at.empty (λ z. rw is own) (subst (λ (r : List ℕ). Known r q) (sym is) (known q gr iss));
        grows = gr;
        room = at.freed ∙ ap (λ (r : List Slot). free r + 1) at.entered;
        place = at.place;
        filled = rw same some;
        mine = rw same refl;
        reads = ap framed same ∙ is;
      })
        where
          q : List Slot
          q = set p at.place (slot_of 0 bs)

          same : slot_at q at.place ≡ slot_of 0 bs
          same = get_or-set_same p at.place (slot_of 0 bs) no_slot at.inside

          gr : Grows p q
          gr = grows_set p at.place (slot_of 0 bs) at.empty

          iss : Issued (take 24 bs) q
          iss = record { place = at.place; own = rw same refl; filled = rw same some; begins = ap (take 24) (ap framed same ∙ is) }

  known_of : {bs : List ℕ} {kind j b c m : ℕ} {pairs : List (ℕ × ℕ)} {s : List ℕ} → Reads d bs kind j b c m pairs s → (q : List Slot) → Issued (take 24 bs) q
      → AllByRecursion (λ p. d.faulty p.0 ≡ false → Issued (pair_states bs p.0) q) pairs → Known bs q
  known_of {bs} {pairs = pairs} r q i ps = record {
    bytes = r.bytes;
    sealed = λ m. record {
      sender = λ a b. i;
      pairs = subst (λ (ps : List (ℕ × ℕ)). AllByRecursion (λ p. d.faulty p.0 ≡ false → pair_sealed d bs p ≡ true → Issued (pair_states bs p.0) q) ps) (sym r.pairs_are)
          (All-weaker _ _ (λ p f a b. f a) pairs ps);
    };
  }

  module _ (law : Usable d) (sized : length intake ≡ d.batches) where
    pub entered_fits : {k : ℕ} {e : Entry} → Entered k e → Fits e
    entered_fits {k} {e} x = subst (λ (y : Entry). Fits y) x.is (clerk-fits d law.fits 0 (omega arith) intake k x.below)

    pub entered_within : {k : ℕ} {e : Entry} → Entered k e → Within d (k + 1)
    entered_within {k} x = (omega arith, omega (arith, x.below, clerk_short d 0 intake, sized))

    -- the frames that steps issue

    pub add_proposal : (g : Ghost) (p : List Slot) → PoolSafe g p → 1 ≤ free p → (j k : ℕ) (e : Entry) → Correct d j → Entered k e → g.worked j (k + 1)
        → Added g (sealed_frame d j (proposes j (k + 1) e) []) p (enter (slot_of 0 (sealed_frame d j (proposes j (k + 1) e) [])) p)
    add_proposal g p kept room j k e c en wk =
        let r = reads_proposal d law j (k + 1) e c.0 (entered_within en) in
        add_own g p kept room _ r.some r.short (proposal j k e c en wk refl) (λ q gr i. known_of r q i tt)

    pub add_decision : (g : Ghost) (p : List Slot) → PoolSafe g p → 1 ≤ free p → (bs : List ℕ) (j b : ℕ) (e : Entry) (pairs : List (ℕ × ℕ)) → Correct d j
        → Certifies d bs j b e pairs → AllByRecursion (λ x. d.faulty x.0 ≡ false → Issued (proposes x.0 b e) p) pairs
        → Added g bs p (enter (slot_of 0 bs) p)
    add_decision g p kept room bs j b e pairs c ce known =
        let r = reads_decision d law bs j b e pairs ce in
        let en : entry_of bs ≡ e = entry_decision d law bs j b e pairs ce in
        add_own g p kept room bs r.some r.short (decision j b e pairs c ce)
        (λ q gr i. known_of r q i (All-weaker _ _
        (λ x f a. subst (λ (s : List ℕ). Issued s q) (sym (states_proposal bs x.0 r.kind_is ∙ (λ i. proposes x.0 (r.batch_is i) (en i)))) (issued_later gr (f a))) pairs known))

    pub add_plain : (g : Ghost) (p : List Slot) → PoolSafe g p → 1 ≤ free p → (j b c : ℕ) → Correct d j → Within d b → c < 20000 → d.seats c j ≡ true → g.excused c b → g.left j c b
        → Added g (sealed_frame d j (reselects j b (c + 1)) []) p (enter (slot_of 0 (sealed_frame d j (reselects j b (c + 1)) [])) p)
    add_plain g p kept room j b c co wi sm se ex le =
        let r = reads_plain d law j b (c + 1) co.0 wi (omega arith, omega arith) in
        add_own g p kept room _ r.some r.short (plain j b c co wi sm se ex le refl) (λ q gr i. known_of r q i tt)

    pub add_paired : (g : Ghost) (p : List Slot) → PoolSafe g p → 1 ≤ free p → (j b c q x : ℕ) → Correct d j → Within d b → c < 20000 → q < d.n → x ≡ d.tag q (reselects q b (c + 1))
        → (d.faulty q ≡ false → Issued (reselects q b (c + 1)) p)
        → Added g (sealed_frame d j (paired_statement j b (c + 1)) ((q, x) ∷ [])) p (enter (slot_of 0 (sealed_frame d j (paired_statement j b (c + 1)) ((q, x) ∷ []))) p)
    add_paired g p kept room j b c q x co wi sm qn tg known =
        let r = reads_paired d law j b (c + 1) q x co.0 wi (omega arith, omega arith) qn tg in
        add_own g p kept room _ r.some r.short (paired j b c q x co wi sm qn tg refl)
        (λ pool gr i. known_of r pool i (
          (λ a. subst (λ (s : List ℕ). Issued s pool)
              (sym (states_reselect (sealed_frame d j (paired_statement j b (c + 1)) ((q, x) ∷ [])) q (λ z. omega (arith, r.kind_is)) ∙ (λ i. reselects q (r.batch_is i) (r.number_is i))))
              (issued_later gr (known a))),
          tt,
        ))

    -- what an issued statement tells

    kind_clash : (k j b c m k' j' b' c' m' : ℕ) (x y : List ℕ) {bs : List ℕ} → bs ≡ statement k j b c m x → bs ≡ statement k' j' b' c' m' y → k ≡ k'
    kind_clash k j b c m k' j' b' c' m' x y p q = kind_apart k j b c m k' j' b' c' m' x y (sym p ∙ q)

    pub issued_proposal : (g : Ghost) (p : List Slot) → PoolSafe g p → (j b : ℕ) (e : Entry) → Within d b → Fits e → (iss : Issued (proposes j b e) p)
        → Entered (b - 1) e × g.worked j b × (frame_at p iss.place ≡ sealed_frame d j (proposes j b e) [])
    issued_proposal g p kept j b e wi fi iss = go (kept.own iss.place iss.own iss.filled)
      where
        go : Own g (frame_at p iss.place) → Entered (b - 1) e × g.worked j b × (frame_at p iss.place ≡ sealed_frame d j (proposes j b e) [])
        go (proposal j' k e' c en wk x) =
            let r = reads_proposal d law j' (k + 1) e' c.0 (entered_within en) in
            let s : proposes j' (k + 1) e' ≡ proposes j b e = sym r.begins ∙ ap (take 24) (sym x) ∙ iss.begins in
            let o = propose_once d.n d.t d.batches d.tag (room d law) j' (k + 1) j b e' e (entered_within en) wi (entered_fits en) fi s in
            let kb : k ≡ b - 1 = omega (arith, o.1) in
            (record { below = rw (← kb) en.below; is = rw (← kb) (en.is ∙ o.2) }, subst₂ (λ (y z : ℕ). g.worked y z) o.0 o.1 wk, x ∙ ap₂ (λ (a : ℕ) (t : List ℕ). sealed_frame d a t []) o.0 s)
        go (decision j' b' e' ps c ce) =
            absurd (omega (arith, kind_clash 2 j' b' 0 (d.t + 1) 1 j b 0 0 (entry_bytes e') (entry_bytes e) (reads_decision d law _ j' b' e' ps ce).begins iss.begins))
        go (plain j' b' c co wi' sm se ex le x) =
            let r = reads_plain d law j' b' (c + 1) co.0 wi' (omega arith, omega arith) in
            absurd (omega (arith, kind_clash 3 j' b' (c + 1) 0 1 j b 0 0 (replicate 16 0) (entry_bytes e) (ap (take 24) x ∙ r.begins) iss.begins))
        go (paired j' b' c q y co wi' sm qn tg x) =
            let r = reads_paired d law j' b' (c + 1) q y co.0 wi' (omega arith, omega arith) qn tg in
            absurd (omega (arith, kind_clash 3 j' b' (c + 1) 1 1 j b 0 0 (replicate 16 0) (entry_bytes e) (ap (take 24) x ∙ r.begins) iss.begins))

    -- a reselect that a correct station issued without pair
    pub issued-reselect : (g : Ghost) (p : List Slot) → PoolSafe g p → (j b c : ℕ) → Within d b → c < 20000 → Issued (reselects j b (c + 1)) p
        → g.excused c b × g.left j c b
    issued-reselect g p kept j b c wi sm iss = go (kept.own iss.place iss.own iss.filled)
      where
        go : Own g (frame_at p iss.place) → g.excused c b × g.left j c b
        go (proposal j' k e' co en wk x) =
            let r = reads_proposal d law j' (k + 1) e' co.0 (entered_within en) in
            absurd (omega (arith, kind_clash 1 j' (k + 1) 0 0 3 j b (c + 1) 0 (entry_bytes e') (replicate 16 0) (ap (take 24) x ∙ r.begins) iss.begins))
        go (decision j' b' e' ps co ce) =
            absurd (omega (arith, kind_clash 2 j' b' 0 (d.t + 1) 3 j b (c + 1) 0 (entry_bytes e') (replicate 16 0) (reads_decision d law _ j' b' e' ps ce).begins iss.begins))
        go (plain j' b' c' co wi' sm' se ex le x) =
            let r = reads_plain d law j' b' (c' + 1) co.0 wi' (omega arith, omega arith) in
            let o = reselect_once d.n d.t d.batches d.tag (room d law) j' b' (c' + 1) j b (c + 1) wi' wi (omega arith) (omega arith) (sym r.begins ∙ ap (take 24) (sym x) ∙ iss.begins) in
            let cc' : c' ≡ c = omega (arith, o.2) in
            (subst₂ (λ (y z : ℕ). g.excused y z) cc' o.1 ex, subst₃ (λ (y z u : ℕ). g.left y z u) o.0 cc' o.1 le)
        go (paired j' b' c' q y co wi' sm' qn tg x) =
            let r = reads_paired d law j' b' (c' + 1) q y co.0 wi' (omega arith, omega arith) qn tg in
            absurd (omega (arith, count-apart 3 j' b' (c' + 1) 1 3 j b (c + 1) 0 (replicate 16 0) (replicate 16 0) (sym r.begins ∙ ap (take 24) (sym x) ∙ iss.begins)))

    -- t + 1 different stations whose right tags are known hold the clerk's entry
    pub certified : (g : Ghost) (p : List Slot) → PoolSafe g p → (b : ℕ) (e : Entry) (pairs : List (ℕ × ℕ)) → Within d b → Fits e → Rising d 0 pairs → length pairs ≡ d.t + 1
        → AllByRecursion (λ x. d.faulty x.0 ≡ false → Issued (proposes x.0 b e) p) pairs → Entered (b - 1) e
    certified g p kept b e pairs wi fi ri le ks =
        let o = outside d d.faulty 0 pairs (omega arith) ri (omega (arith, law.few_faulty, le)) in
        (issued_proposal g p kept _ b e wi fi (All-get_or (λ x. d.faulty x.0 ≡ false → Issued (proposes x.0 b e) p) pairs o.0 (0, 0) o.1 ks o.2)).0
