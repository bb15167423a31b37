-- What Read answers, and that what Write wrote is the one line of its frame.
use Rattle.std.proofs.Common.{◌≡◌, ℕ, ◌+◌, ◌-◌, ◌*◌, ◌≤◌, true, not, ltb, leb, List, ◌++◌, length, get_or, take, drop, Ok, Err, Result, sym, refl, ap, ◌∙◌, arith}
use Rattle.std.proofs.lemmas.Bool.{ltb-true, leb-true, not-true}
use Rattle.std.proofs.lemmas.List.{take_at, drop_at, length-append, length-drop}
use Rattle.base.specs.declared.book.Batch.{Batch}
use Rattle.base.specs.declared.book.Entry.{Entry}
use Rattle.base.specs.declared.fault.Fault.{Fault}
use Rattle.base.specs.declared.refusal.Refusal.TheVariants.{OutOfRange, WrongLength, NoStation, FaultyStation, NotBooked, NoFrame, ShortBuffer}
use Rattle.frames.specs.Slots.{frame_at}
use Rattle.frames.specs.Frames.{◌and◌, hex, unhex, line_fault}
use Rattle.protocol.specs.Law.{Terms, Correct}
use Rattle.protocol.specs.Steps.{World, station_at, no_entry, passing, written, in_range, fitting, read_call, write_call}
use Rattle.protocol.specs.Claims.{ReadsClerk, Wrote, WritesLine}
use Rattle.frames.proofs.Basics.{and_true}
use Rattle.frames.proofs.Numbers.{Bytes}
use Rattle.frames.proofs.Lines.{unhex-hex, line_hex, hex_of_line}
use Rattle.frames.proofs.Slots.{framed_short}
use Rattle.protocol.proofs.Agreement.{run_state}
use Rattle.protocol.proofs.Passed.{passing_ok}

-- an accepted Read
pub record ReadOut (d : Terms) (intake : List Batch) (i k : ℕ) (w : World) (e : Entry) : Type 0 where
  pub range : in_range d ≡ true
  pub lengths : fitting d intake w ≡ true
  pub station : Correct d i
  pub counted : (1 ≤ k) × (k ≤ (station_at w i).booked)
  pub entry_is : get_or w.books (i * d.batches + k - 1) no_entry ≡ e

pub read_out : (d : Terms) (intake : List Batch) (i k : ℕ) (w : World) (e : Entry) → read_call d intake i k w ≡ Ok e → ReadOut d intake i k w e
unfolding read_call
read_out d intake i k w e q =
    let a = passing_ok (in_range d) OutOfRange _ e q in
    let b = passing_ok (fitting d intake w) WrongLength _ e a.1 in
    let c = passing_ok (ltb i d.n) NoStation _ e b.1 in
    let f = passing_ok (not (d.faulty i)) FaultyStation _ e c.1 in
    let g = passing_ok (leb 1 k and leb k (station_at w i).booked) NotBooked _ e f.1 in
    let m = and_true (leb 1 k) (leb k (station_at w i).booked) g.0 in
    record {
      range = a.0;
      lengths = b.0;
      station = (ltb-true i d.n c.0, not-true (d.faulty i) f.0);
      counted = (leb-true 1 k m.0, leb-true k (station_at w i).booked m.1);
      entry_is = cc g.1;
    }

pub reads-clerk : ReadsClerk
reads-clerk d law intake start new h w run i k e q =
    let r = read_out d intake i k w e q in
    let inv = run_state d intake law start new h w run r.range r.lengths in
    let booked = (inv.counted i r.station).booked_is in
    let place : i * d.batches + k - 1 ≡ i * d.batches + (k - 1) = omega (arith, r.counted.0) in (
      r.counted.0,
      omega (arith, r.counted.1),
      sym ((inv.safe.fine i r.station).booked (k - 1) (omega (arith, r.counted.0, r.counted.1)))
          ∙ ap (λ (f : ℕ). get_or w.books f no_entry) (sym place) ∙ r.entry_is,
    )

write_stays : (d : Terms) (intake : List Batch) (f : ℕ) (buffer : List ℕ) (w : World) (x : Fault)
    → (write_call d intake f buffer w).1 ≡ Err x → (write_call d intake f buffer w).0 ≡ buffer
unfolding write_call
write_stays d intake f buffer w x q = go _ q
  where
    go : (r : Result ℕ Fault) → (written (hex (frame_at w.pool f)) buffer r).1 ≡ Err x → (written (hex (frame_at w.pool f)) buffer r).0 ≡ buffer
    go (Ok n) e = absurd (let z : ◌≡◌ {A = ℕ} 0 1 = cc in omega arith)
    go (Err y) e = refl

wrote : (d : Terms) (intake : List Batch) (f : ℕ) (buffer : List ℕ) (w : World) (n : ℕ) → Bytes (frame_at w.pool f)
    → (write_call d intake f buffer w).1 ≡ Ok n → Wrote (frame_at w.pool f) buffer n (write_call d intake f buffer w).0
unfolding write_call
wrote d intake f buffer w n h q = go _ refl q
  where
    bs : List ℕ
    bs = frame_at w.pool f

    line : List ℕ
    line = hex bs

    answers : Result ℕ Fault
    answers = passing (in_range d) OutOfRange (passing (fitting d intake w) WrongLength (passing (leb 1 (length bs)) NoFrame (passing (leb (length line) (length buffer)) ShortBuffer (Ok (length line)))))

    go : (r : Result ℕ Fault) → answers ≡ r → (written line buffer r).1 ≡ Ok n → Wrote bs buffer n (written line buffer r).0
    go (Err x) e p = absurd (let z : ◌≡◌ {A = ℕ} 0 1 = cc in omega arith)
    go (Ok m) e p =
        let a = passing_ok (in_range d) OutOfRange _ m e in
        let b = passing_ok (fitting d intake w) WrongLength _ m a.1 in
        let c = passing_ok (leb 1 (length bs)) NoFrame _ m b.1 in
        let g = passing_ok (leb (length line) (length buffer)) ShortBuffer _ m c.1 in
        let some = leb-true 1 (length bs) c.0 in
        let room = leb-true (length line) (length buffer) g.0 in
        let is : length line ≡ n = cc (g.1, p) in
        let front : take n (line ++ drop (length line) buffer) ≡ line = take_at line (drop (length line) buffer) n is in
        record {
          size = length-append line (drop (length line) buffer) ∙ omega (arith, length-drop (length line) buffer);
          line_is = front;
          behind = drop_at line (drop (length line) buffer) n is ∙ ap (λ (k : ℕ). drop k buffer) is;
          passes = ap line_fault front ∙ line_hex bs h some (framed_short w.pool f);
          reads = ap unhex front ∙ unhex-hex bs h;
          only = λ l t u. sym (hex_of_line l t) ∙ ap hex u ∙ sym front;
        }

pub writes_line : WritesLine
writes_line d intake f buffer w = (write_stays d intake f buffer w, wrote d intake f buffer w)
