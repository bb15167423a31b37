-- Smaller claims beside the law: what every call keeps, what Read and Write answer, and what the law excludes.
use Rattle.std.specs.Prelude.{◌≡◌, ℕ, ◌+◌, ◌-◌, ◌*◌, ◌<◌, ◌≤◌, true, false, List, [], ◌∷◌, length, take, drop, None, Ok, Err, ◌≢◌, slice_index_or, slice_set}
use Rattle.std.specs.List.{AllByRecursion}
use Rattle.base.specs.declared.book.Batch.{Batch}
use Rattle.base.specs.declared.book.Entry.{Entry}
use Rattle.base.specs.declared.fault.Fault.{Fault}
use Rattle.frames.specs.Frames.{hex, unhex, line_fault}
use Rattle.frames.specs.Slots.{frame_at, free, slot_of}
use Rattle.frames.specs.Certificates.{Passes, Certificate}
use Rattle.protocol.specs.Law.{Terms, Call, injection, Marks, Event, History, has_proposed, marks, booked_by, committee_of, pool_of, Correct, clerk, Certifies, Law}
use Rattle.protocol.specs.Steps.{World, no_batch, no_entry, whole_call, read_call, write_call}
use Rattle.protocol.specs.Bounds.{Bounded}
use Rattle.protocol.specs.Run.{Lawful, New, Run}

-- Calls

-- a refused call leaves the world as it was
abbrev pub RefusalsStay : Type 0
RefusalsStay = (d : Terms) (intake : List Batch) (c : Call) (w : World) (x : Fault) → (whole_call d intake c w).1 ≡ Err x → (whole_call d intake c w).0 ≡ w

-- from w to v one frame came in from outside, the one that the line spells, and nothing else changed
pub record AddsOne (l : List ℕ) (w v : World) : Type 0 where
  pub place : ℕ
  pub before : frame_at w.pool place ≡ []
  pub after : frame_at v.pool place ≡ unhex l
  pub pool : v.pool ≡ slice_set w.pool place (slot_of 1 (unhex l))
  pub room : free w.pool ≡ free v.pool + 1
  pub stations : v.stations ≡ w.stations
  pub books : v.books ≡ w.books

-- an accepted Inject adds one frame and nothing else, and bears no mark
abbrev pub InjectsOne : Type 0
InjectsOne = (d : Terms) (intake : List Batch) (l : List ℕ) (w : World) (m : Marks) → (whole_call d intake (injection l) w).1 ≡ Ok m
    → AddsOne l w (whole_call d intake (injection l) w).0 × (m ≡ (false, false, false))

-- every call keeps a world within its bounds, and so they hold all along from a new hall on
abbrev pub StaysBounded : Type 0
StaysBounded = (d : Terms) → d.n ≤ 16 → d.lawful no_batch ≡ false → (intake : List Batch)
    → ((slots entries : ℕ) (c : Call) (w : World) → Bounded d slots entries w → Bounded d slots entries (whole_call d intake c w).0)
    × ((start : World) → New d start → (h : History) (w : World) → Run d intake start h w → Bounded d (length start.pool) (length start.books) w)

-- Certificates

-- the checks of a delivered decision let a frame pass exactly when it is a certificate, by its own fields
abbrev pub ChecksCertify : Type 0
ChecksCertify = (d : Terms) → Lawful d → (bs : List ℕ) → AllByRecursion (λ x. x < 256) bs
    → (Passes d.n d.t d.batches d.tag bs → Certificate d.n d.t d.batches d.tag bs)
    × (Certificate d.n d.t d.batches d.tag bs → Passes d.n d.t d.batches d.tag bs)

-- Read and Write

-- what Read answers, after any list of calls, is the clerk's entry of a batch that the station has booked
abbrev pub ReadsClerk : Type 0
ReadsClerk = (d : Terms) → Lawful d → (intake : List Batch) (start : World) → New d start → (h : History) (w : World) → Run d intake start h w
    → (i k : ℕ) (e : Entry) → read_call d intake i k w ≡ Ok e → (1 ≤ k) × (k ≤ booked_by i h) × (slice_index_or (clerk d 0 intake) (k - 1) no_entry ≡ e)

-- an accepted Write of a frame: n characters in front of the buffer are its line, and those behind stay
pub record Wrote (frame buffer : List ℕ) (n : ℕ) (out : List ℕ) : Type 0 where
  pub size : length out ≡ length buffer
  pub line_is : take n out ≡ hex frame
  pub behind : drop n out ≡ drop n buffer
  -- it reads back as the frame, and no other line does
  pub passes : line_fault (take n out) ≡ None
  pub reads : unhex (take n out) ≡ frame
  pub only : (l : List ℕ) → line_fault l ≡ None → unhex l ≡ frame → l ≡ take n out

abbrev pub WritesLine : Type 0
WritesLine = (d : Terms) (intake : List Batch) (f : ℕ) (buffer : List ℕ) (w : World)
    → ((x : Fault) → (write_call d intake f buffer w).1 ≡ Err x → (write_call d intake f buffer w).0 ≡ buffer)
    × ((n : ℕ) → AllByRecursion (λ x. x < 256) (frame_at w.pool f) → (write_call d intake f buffer w).1 ≡ Ok n → Wrote (frame_at w.pool f) buffer n (write_call d intake f buffer w).0)

-- What the law excludes

-- halls that book, certify or work otherwise
pub record Excluded (d : Terms) (intake : List Batch) (books : List Entry) (h : History) : Type 0 where
  -- an entry in a correct station's book that differs from the clerk's
  pub other_booking : (i k : ℕ) → Correct d i → k < booked_by i h → (slice_index_or books (i * d.batches + k) no_entry ≢ slice_index_or (clerk d 0 intake) k no_entry) → ⊥
  -- a booking past the first unlawful batch
  pub booking_beyond : (i : ℕ) → Correct d i → length (clerk d 0 intake) < booked_by i h → ⊥
  -- two certificates of one batch with different entries
  pub two_entries : (f g q r b : ℕ) (e e' : Entry) (ps ps' : List (ℕ × ℕ)) → Certifies d (frame_at (pool_of h) f) q b e ps
      → Certifies d (frame_at (pool_of h) g) r b e' ps' → (e ≢ e') → ⊥
  -- a correct station that works a batch out without a seat
  pub unseated_work : (e : Event) (before : History) → h ≡ e ∷ before → (i : ℕ) → Correct d i → marks has_proposed i e ≡ true → d.seats (committee_of i h) i ≢ false

-- and the clerk, whose book is the measure, books every batch of a lawful intake
abbrev pub LawExcludes : Type 0
LawExcludes = (d : Terms) (intake : List Batch)
    → ((books : List Entry) (h : History) → Law d intake books h → Excluded d intake books h)
    × (AllByRecursion (λ b. d.lawful b ≡ true) intake → length (clerk d 0 intake) ≡ length intake)
