-- Every run of calls on a new hall keeps the invariant, and so the law.
use Rattle.std.proofs.Common.{◌≡◌, ℕ, suc, ◌+◌, ◌-◌, ◌*◌, ◌<◌, ◌≤◌, true, false, List, [], ◌∷◌, ◌++◌, length, get_or, take, drop, sym, refl, ap, ◌∙◌, subst, ap₂, subst₂, mul-le-mul_right, suc-mul, arith}
use Rattle.std.specs.List.{AllByRecursion}
use Rattle.std.proofs.lemmas.Bool.{both_ways}
use Rattle.std.proofs.lemmas.List.{length-take-le, same_lists, length-drop, get_or-take, get_or-drop, get_or_default}
use Rattle.std.proofs.ByRecursion.{All-weaker}
use Rattle.base.specs.declared.book.Batch.{Batch}
use Rattle.base.specs.declared.book.Entry.{Entry}
use Rattle.frames.specs.Bytes.{statement, proposes, entry_bytes}
use Rattle.frames.specs.Slots.{frame_at}
use Rattle.frames.specs.Frames.{pair_states}
use Rattle.protocol.specs.declared.station.Station.{Station}
use Rattle.protocol.specs.Law.{Terms, clerk, Certifies, Event, History, Once, BookedCertified, OneBook, TrueCertificates}
use Rattle.protocol.specs.Steps.{World, no_batch, no_entry, no_station, station_at, at_work, pair_sealed}
use Rattle.frames.proofs.Slots.{Issued, shown, frame_empty, filled}
use Rattle.frames.proofs.Frames.{states_proposal}
use Rattle.frames.proofs.Basics.{all_both, never}
use Rattle.frames.proofs.Codec.{sealed_pair}
use Rattle.protocol.proofs.Usable.{Usable, Begun, Played, begun, acted, barred}
use Rattle.protocol.proofs.Framed.{Reads, entry_decision, reads_decision}
use Rattle.protocol.proofs.Safe.{Ghost, Known, StationSafe, issued_proposal, certified}
use Rattle.protocol.proofs.History.{ghost, Counted, Inv, refused_keeps}
use Rattle.protocol.proofs.Calls.{call_keeps}
use Rattle.protocol.proofs.Basics.{no_votes}
use Rattle.protocol.proofs.Clerk.{clerk_short}
use Rattle.protocol.proofs.Records.{idle_station}

module _ (d : Terms) (intake : List Batch) (law : Usable d) where
  nothing : {P : Event → History → Type 0} → Once P [] → ⊥
  nothing o = none o.0 o.1 o.2 o.3
    where
      none : (later : History) (e : Event) (before : History) → [] ≡ later ++ e ∷ before → ⊥
      none [] e before q = let z : ◌≡◌ {A = ℕ} 0 1 = cc in omega arith
      none (x ∷ later) e before q = let z : ◌≡◌ {A = ℕ} 0 1 = cc in omega arith

  pub new_inv : (start : World) (new : Begun d intake start) → Inv d intake [] start
  new_inv start new = record {
    safe = record {
      stations = ap length new.idle;
      books = new.book_size;
      fine = λ i c. subst (λ (s : Station). StationSafe d intake (ghost d intake []) i s start.books start.pool) (sym (at i)) (record {
        few = omega arith;
        booked = λ k l. absurd (omega arith);
        work = λ z. absurd (both_ways (d.lawful no_batch) law.never_idle z);
        short = omega arith;
        batch_work = record { size = refl; voted = λ q v e. absurd (no_votes q v e); own = never; excuses = λ c l. absurd (omega arith) };
        kept = λ k l. absurd (omega arith);
      });
      pool = record { own = λ f a b. absurd (omega (arith, new.empty f)); known = λ f b. absurd (omega (arith, new.empty f)) };
    };
    counted = λ i c. subst (λ (s : Station). Counted d intake i [] s) (sym (at i)) (record { booked_is = refl; number_is = refl; opened_is = rw law.never_idle refl });
    shows = λ f. sym (frame_empty start.pool f (new.empty f));
    live = λ f a b. absurd (omega (arith, new.empty f));
    lazy = λ later e before q. absurd (nothing {P = λ e before. Unit {0}} (later, e, before, q, tt));
    ready = λ i c b. absurd (both_ways (at_work d (station_at start i)) (idle i) b);
    trail = λ i c b. absurd (both_ways (at_work d (station_at start i)) (idle i) b);
  }
    where
      at : (i : ℕ) → station_at start i ≡ no_station
      at i = ap (λ (s : List Station). get_or s i no_station) new.idle ∙ idle_station i

      idle : (i : ℕ) → at_work d (station_at start i) ≡ false
      idle i = ap (λ (s : Station). at_work d s) (at i) ∙ law.never_idle

  pub run_inv : (start : World) (new : Begun d intake start) (h : History) (w : World) → Played d intake start h w → Inv d intake h w
  run_inv start new h w begun = new_inv start new
  run_inv start new h w (acted {h = h₀} {w = w₀} r c) = (call_keeps d intake law new.intake_size (run_inv start new h₀ w₀ r) c).0
  run_inv start new h w (barred {h = h₀} {w = w₀} r c x o) = (refused_keeps d intake (run_inv start new h₀ w₀ r) c x).0

  module _ (sized : length intake ≡ d.batches) (h : History) (w : World) (inv : Inv d intake h w) where
    pub one_book : OneBook d intake w.books h
    one_book i c = rw (inv.counted i c).booked_is (f.few, same_lists _ _ (long ∙ sym short) same)
      where
        f : StationSafe d intake (ghost d intake h) i (station_at w i) w.books w.pool
        f = inv.safe.fine i c

        most : length (clerk d 0 intake) ≤ d.batches
        most = omega (arith, clerk_short d 0 intake, sized)

        room : i * d.batches + d.batches ≤ length w.books
        room = rw inv.safe.books (omega (arith, mul-le-mul_right {m = suc i} {n = d.n} d.batches c.0, suc-mul i d.batches))

        long : length (take (station_at w i).booked (drop (i * d.batches) w.books)) ≡ (station_at w i).booked
        long = length-take-le (station_at w i).booked (drop (i * d.batches) w.books) (omega (arith, length-drop (i * d.batches) w.books, room, f.few, most))

        short : length (take (station_at w i).booked (clerk d 0 intake)) ≡ (station_at w i).booked
        short = length-take-le (station_at w i).booked (clerk d 0 intake) f.few

        same : (k : ℕ) (x : Entry) → k < length (take (station_at w i).booked (drop (i * d.batches) w.books))
            → get_or (take (station_at w i).booked (drop (i * d.batches) w.books)) k x ≡ get_or (take (station_at w i).booked (clerk d 0 intake)) k x
        same k x l =
            let m : k < (station_at w i).booked = omega (arith, l, long) in
            get_or-take (station_at w i).booked (drop (i * d.batches) w.books) k x m ∙ get_or-drop (i * d.batches) w.books k x
            ∙ get_or_default w.books (i * d.batches + k) x no_entry (omega (arith, room, m, f.few, most)) ∙ f.booked k m
            ∙ get_or_default (clerk d 0 intake) k no_entry x (omega (arith, m, f.few)) ∙ sym (get_or-take (station_at w i).booked (clerk d 0 intake) k x m)

    pub true_certificates : TrueCertificates d intake h
    true_certificates f sender b e pairs shown =
        let en = certified d intake law sized g w.pool inv.safe.pool b e pairs ce.within ce.fits ce.rising ce.quorum issues in (
          omega (arith, en.below, ce.within.0),
          get_or_default (clerk d 0 intake) (b - 1) e no_entry en.below ∙ en.is,
          All-weaker _ _ (λ p x a. (issued_proposal d intake law sized g w.pool inv.safe.pool p.0 b e ce.within ce.fits (x a)).1) pairs issues,
        )
      where
        ce : Certifies d (frame_at w.pool f) sender b e pairs
        ce = subst (λ (bs : List ℕ). Certifies d bs sender b e pairs) (inv.shows f) shown

        g : Ghost
        g = ghost d intake h

        r : Reads d (frame_at w.pool f) 2 sender b 0 (d.t + 1) pairs (statement 2 sender b 0 (d.t + 1) (entry_bytes e))
        r = reads_decision d law (frame_at w.pool f) sender b e pairs ce

        known : Known d intake (frame_at w.pool f) w.pool
        known = inv.safe.pool.known f (filled w.pool f r.some)

        states : (q : ℕ) → pair_states (frame_at w.pool f) q ≡ proposes q b e
        states q = states_proposal (frame_at w.pool f) q r.kind_is ∙ ap₂ (λ (x : ℕ) (y : Entry). proposes q x y) r.batch_is (entry_decision d law (frame_at w.pool f) sender b e pairs ce)

        right : (p : ℕ × ℕ) → p.1 ≡ d.tag p.0 (proposes p.0 b e) → pair_sealed d (frame_at w.pool f) p ≡ true
        right p x = sealed_pair d.n d.t d.batches d.tag (frame_at w.pool f) p (x ∙ ap (d.tag p.0) (sym (states p.0)))

        issues : AllByRecursion (λ p. d.faulty p.0 ≡ false → Issued (proposes p.0 b e) w.pool) pairs
        issues = all_both _ _ _ (λ p x y a. subst (λ (s : List ℕ). Issued s w.pool) (states p.0) (y a (right p x))) pairs ce.sealed
            (subst (λ (ps : List (ℕ × ℕ)). AllByRecursion (λ p. d.faulty p.0 ≡ false → pair_sealed d (frame_at w.pool f) p ≡ true → Issued (pair_states (frame_at w.pool f) p.0) w.pool) ps) r.pairs_are
            (known.sealed r.formed).pairs)

    pub booked_certified : BookedCertified d h
    booked_certified i b c lo hi =
        let x = (inv.safe.fine i c).kept (b - 1) (omega (arith, (inv.counted i c).booked_is)) in
        let z : b - 1 + 1 ≡ b = omega arith in
        (x.place, x.entry, x.pairs, subst₂ (λ (bs : List ℕ) (k : ℕ). Certifies d bs i k x.entry x.pairs) (sym (inv.shows x.place)) z x.certifies)
