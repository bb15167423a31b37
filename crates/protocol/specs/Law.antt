-- What a hall owes over any list of calls. It is said of the calls, their answers and the buffers
-- alone: nothing here looks into a station's record or repeats a step.
--
-- In a hall a table of stations, some of them faulty, books one intake of batches, each station into a book
-- of its own. What stations send each other are frames in slots of one pool. What faulty stations send
-- comes in from outside, by Inject.
use Rattle.std.specs.Prelude.{◌≡◌, ℕ, ◌+◌, ◌-◌, ◌*◌, ◌<◌, ◌≤◌, Bool, true, false, cond, ◌⊎◌, List, [], ◌∷◌, ◌++◌, length, take, drop, Ok, Err, Result, ◌==◌, ◌≢◌, nat_eq, slice_index_or}
use Rattle.std.specs.List.{AllByRecursion}
use Rattle.base.specs.declared.book.Batch.{Batch}
use Rattle.base.specs.declared.book.Entry.{Entry}
use Rattle.base.specs.declared.fault.Fault.{Fault}
use Rattle.base.specs.Refusals.{number_of}
use Rattle.rules.specs.declared.rule.Outcome.{Outcome}
use Rattle.rules.specs.Clerk.{worked, clerk_book}
use Rattle.frames.specs.declared.slot.Slot.{Slot}
use Rattle.frames.specs.Slots.{frame_at}
use Rattle.frames.specs.Certificates.{Rising as RisingBelow, Certifies as CertifiesBy}

-- the terms that a hall is joined from, by their meanings; stations are numbered from 0, batches from 1
pub record Terms : Type 0 where
  -- the table: the number of stations, how many may be faulty, and which are
  pub n : ℕ
  pub t : ℕ
  pub faulty : ℕ → Bool
  -- the policy: the n and t it is for, its turn, and whether a station sits in a numbered committee; a
  -- committee is the t + 1 stations that are to work a batch out while its number stands, and the turn is
  -- how many committees in a row are sure to have one without faulty members
  pub policy_n : ℕ
  pub policy_t : ℕ
  pub turn : ℕ
  pub seats : ℕ → ℕ → Bool
  -- the rule: which batches are lawful, and amount, figure and carry after of a batch, from a carry, which
  -- is what the entry before hands on
  pub lawful : Batch → Bool
  pub rule : ℕ → Batch → Outcome
  -- the seal: the tag of a station on a statement
  pub tag : ℕ → List ℕ → ℕ
  -- how many batches the intake has, and how many slots the pool
  pub batches : ℕ
  pub slots : ℕ

-- Calls and what they leave

-- A call, by its words. Open: the station takes the next batch up. Deliver: it is handed a frame, by its
-- number in the pool. Ring: its time for this committee is out. Inject: a line from outside is to enter the pool.
pub data Call : Type 0 where
  opening : ℕ → Call
  delivery : ℕ → ℕ → Call
  ringing : ℕ → Call
  injection : List ℕ → Call

-- The marks of an accepted call. Reselected: the station left its committee for that of the next number.
-- Proposed: it worked its batch out and said so in a frame. Decided: it booked the batch.
abbrev pub Marks : Type 0
Marks = Bool × Bool × Bool

abbrev pub has_reselected : Marks → Bool
has_reselected m = m.0

abbrev pub has_proposed : Marks → Bool
has_proposed m = m.1

abbrev pub has_decided : Marks → Bool
has_decided m = m.2

-- a call that was made: its answer, and the pool after it
pub record Event : Type 0 where
  pub call : Call
  pub answer : Result Marks Fault
  pub pool : List Slot

-- the calls so far, the newest first
abbrev pub History : Type 0
History = List Event

-- the call is one of station i
abbrev pub asks : ℕ → Call → Bool
asks i (opening j) = i == j
asks i (delivery j f) = i == j
asks i (ringing j) = i == j
asks i (injection l) = false

abbrev pub is_opening : Call → Bool
is_opening c = elim c [ opening j ↦ true | delivery j f ↦ false | ringing j ↦ false | injection l ↦ false ]

abbrev pub is_ringing : Call → Bool
is_ringing c = elim c [ opening j ↦ false | delivery j f ↦ false | ringing j ↦ true | injection l ↦ false ]

abbrev pub is_injection : Call → Bool
is_injection c = elim c [ opening j ↦ false | delivery j f ↦ false | ringing j ↦ false | injection l ↦ true ]

-- a mark of an answer: a refusal has none
abbrev pub marked : (Marks → Bool) → Result Marks Fault → Bool
marked p (Ok m) = p m
marked p (Err x) = false

abbrev pub accepted : Event → Bool
accepted e = marked (λ m. true) e.answer

-- the call was refused with this number
abbrev pub refused_with : ℕ → Event → Bool
refused_with k e = elim e.answer [ Ok m ↦ false | Err x ↦ nat_eq (number_of x.refusal) k ]

-- an accepted call of station i bears this mark
abbrev pub marks : (Marks → Bool) → ℕ → Event → Bool
marks p i e = cond (asks i e.call) (marked p e.answer) false

-- an accepted Open of station i
abbrev pub opens : ℕ → Event → Bool
opens i e = cond (is_opening e.call) (marks (λ m. true) i e) false

-- an accepted Ring of station i
abbrev pub rings : ℕ → Event → Bool
rings i e = cond (is_ringing e.call) (marks (λ m. true) i e) false

-- What a history tells of a station

abbrev pub tally : (Event → Bool) → History → ℕ
tally p [] = 0
tally p (e ∷ h) = cond (p e) 1 0 + tally p h

-- how many batches it has opened
abbrev pub opened_by : ℕ → History → ℕ
opened_by i h = tally (opens i) h

-- how many batches it has booked
abbrev pub booked_by : ℕ → History → ℕ
booked_by i h = tally (marks has_decided i) h

-- its committee number: the reselections, that is, the reselected marks, since its last Open
abbrev pub committee_of : ℕ → History → ℕ
committee_of i [] = 0
committee_of i (e ∷ h) = elim (opens i e) [ true ↦ 0 | false ↦ cond (marks has_reselected i e) 1 0 + committee_of i h ]

-- some call of a history is such a one, after what went before it
abbrev pub Once : (Event → History → Type 0) → History → Type 0
Once P h = (later : History) × (e : Event) × (before : History) × (h ≡ later ++ e ∷ before) × P e before

-- every call of a history is such a one, after what went before it
abbrev pub Always : (Event → History → Type 0) → History → Type 0
Always P h = (later : History) (e : Event) (before : History) → h ≡ later ++ e ∷ before → P e before

-- it worked batch b out
abbrev pub WorkedOut : ℕ → ℕ → History → Type 0
WorkedOut i b = Once (λ e before. (marks has_proposed i e ≡ true) × (opened_by i (e ∷ before) ≡ b))

-- it rang in committee c of batch b: a Ring was accepted while it had that number
abbrev pub Rang : ℕ → ℕ → ℕ → History → Type 0
Rang i c b = Once (λ e before. (rings i e ≡ true) × (committee_of i before ≡ c) × (opened_by i before ≡ b))

-- The pool

-- the pool that a history left; before the first call it is empty
abbrev pub pool_of : History → List Slot
pool_of [] = []
pool_of (e ∷ h) = e.pool

-- a call other than Inject puts frame f into the pool
abbrev pub Puts : ℕ → Event → History → Type 0
Puts f e before = (is_injection e.call ≡ false) × (frame_at (pool_of before) f ≡ []) × (frame_at e.pool f ≢ [])

-- a Deliver of frame f is accepted
abbrev pub Takes : ℕ → Event → History → Type 0
Takes f e before = (accepted e ≡ true) × ((i : ℕ) × (e.call ≡ delivery i f))

-- a frame is live, so that every station may come to need it, when a call other than Inject put it there
-- or a Deliver of it was accepted
abbrev pub Live : ℕ → History → Type 0
Live f h = Once (Puts f) h ⊎ Once (Takes f) h

-- Full rounds

-- a call that a full round may hold: no Ring, and no refusal 6, 7 or 13
pub record Calm (e : Event) : Type 0 where
  pub no_ring : is_ringing e.call ≡ false
  pub no_6 : refused_with 6 e ≡ false
  pub no_7 : refused_with 7 e ≡ false
  pub no_13 : refused_with 13 e ≡ false

module _ (d : Terms) where
  abbrev pub Correct : ℕ → Type 0
  Correct i = (i < d.n) × (d.faulty i ≡ false)

  -- the calls of one full round after the history h: every correct station is handed every frame that was
  -- live at its start
  pub record Full (round h : History) : Type 0 where
    pub calm : AllByRecursion Calm round
    pub tries : (i f : ℕ) → Correct i → Live f h → Once (λ e before. e.call ≡ delivery i f) round

  -- k full rounds in a row, from one history to another
  pub data Rounds : ℕ → History → History → Type 0 where
    none : {h : History} → Rounds 0 h h
    more : {k : ℕ} {h h' : History} (round : History) → Rounds k h h' → Full round h' → Rounds (k + 1) h (round ++ h')

  -- Agreement

  -- the entry of a batch, from a carry: the rule's numbers, with the grower copied
  unfoldable pub works : ℕ → Batch → Entry
  works carry b = worked d.rule carry b

  -- the book of a lone clerk, from a carry on: each lawful batch in intake order, up to the first unlawful one
  abbrev pub clerk : ℕ → List Batch → List Entry
  clerk carry bs = clerk_book d.lawful d.rule carry bs

  -- pairs of different stations of the table, in rising order from `low` on
  abbrev pub Rising : ℕ → List (ℕ × ℕ) → Type 0
  Rising low ps = RisingBelow d.n low ps

  -- A certificate shows that a batch was decided upon: a well-formed decision of its sender whose tags are
  -- all right, those of t + 1 different stations that proposed its entry.
  abbrev pub Certifies : List ℕ → ℕ → ℕ → Entry → List (ℕ × ℕ) → Type 0
  Certifies frame sender b e pairs = CertifiesBy d.n d.t d.batches d.tag frame sender b e pairs

  -- what a correct station has booked is the clerk's book, up to some batch
  abbrev pub OneBook : List Batch → List Entry → History → Type 0
  OneBook intake books h = (i : ℕ) → Correct i
      → (booked_by i h ≤ length (clerk 0 intake))
      × (take (booked_by i h) (drop (i * d.batches) books) ≡ take (booked_by i h) (clerk 0 intake))

  -- a certificate in the pool has the clerk's entry, and each correct station in its pairs worked the batch out
  abbrev pub TrueCertificates : List Batch → History → Type 0
  TrueCertificates intake h = (f sender b : ℕ) (e : Entry) (pairs : List (ℕ × ℕ)) → Certifies (frame_at (pool_of h) f) sender b e pairs
      → (b ≤ length (clerk 0 intake))
      × (slice_index_or (clerk 0 intake) (b - 1) e ≡ e)
      × AllByRecursion (λ p. d.faulty p.0 ≡ false → WorkedOut p.0 b h) pairs

  -- for each batch that a correct station has booked, the pool has a certificate of its own
  abbrev pub BookedCertified : History → Type 0
  BookedCertified h = (i b : ℕ) → Correct i → 1 ≤ b → b ≤ booked_by i h
      → (f : ℕ) × (e : Entry) × (pairs : List (ℕ × ℕ)) × Certifies (frame_at (pool_of h) f) i b e pairs

  -- Progress

  -- no member of committee c is faulty
  abbrev pub Sound : ℕ → Type 0
  Sound c = (i : ℕ) → i < d.n → d.seats c i ≡ true → d.faulty i ≡ false

  -- every turn of committee numbers up to 20,000 has a sound committee
  abbrev pub SoundInTurn : Type 0
  SoundInTurn = (a : ℕ) → a + d.turn ≤ 20001 → (c : ℕ) × (a ≤ c) × (c < a + d.turn) × Sound c

  -- a correct station has opened batch b and not booked it
  abbrev pub IsAtWork : ℕ → ℕ → History → Type 0
  IsAtWork i b h = Correct i × (opened_by i h ≡ b) × (booked_by i h < b)

  -- the highest number among the correct stations at work on batch b
  pub record Highest (b c : ℕ) (h : History) : Type 0 where
    pub reached : (i : ℕ) × IsAtWork i b h × (committee_of i h ≡ c)
    pub bounds : (i : ℕ) → IsAtWork i b h → committee_of i h ≤ c

  -- the lowest number among them
  pub record Lowest (b c : ℕ) (h : History) : Type 0 where
    pub reached : (i : ℕ) × IsAtWork i b h × (committee_of i h ≡ c)
    pub bounds : (i : ℕ) → IsAtWork i b h → c ≤ committee_of i h

  -- the lag in batch b, which is how far some stations are behind: the highest of those numbers minus the lowest
  abbrev pub Lag : ℕ → ℕ → ℕ → History → Type 0
  Lag b high lag h = (low : ℕ) × Highest b high h × Lowest b low h × (lag ≡ high - low)

  -- once every correct station has opened batch b and the highest committee at work on it is sound,
  -- as many full rounds as the lag, and one, let every correct station book it
  abbrev pub BookedInRounds : History → Type 0
  BookedInRounds h = (b c lag : ℕ) (before : History)
      → ((i : ℕ) → Correct i → b ≤ opened_by i before) → Lag b c lag before → Sound c → Rounds (lag + 1) before h
      → (i : ℕ) → Correct i → b ≤ booked_by i h

  -- Laziness

  -- committee c has a faulty member, or a correct one that rang in it in batch b
  abbrev pub Excused : ℕ → ℕ → History → Type 0
  Excused c b h = ((i : ℕ) × (i < d.n) × (d.seats c i ≡ true) × (d.faulty i ≡ true))
      ⊎ ((i : ℕ) × Correct i × (d.seats c i ≡ true) × Rang i c b h)

  -- after the history h station i is called upon: it sits in its committee, and each one before is excused
  pub record CalledUpon (i : ℕ) (h : History) : Type 0 where
    pub member : d.seats (committee_of i h) i ≡ true
    pub excused : (c : ℕ) → c < committee_of i h → Excused c (opened_by i h) h

  -- a correct station works a batch out only where it is called upon
  abbrev pub Lazy : History → Type 0
  Lazy = Always (λ e before. (i : ℕ) → Correct i → marks has_proposed i e ≡ true → CalledUpon i (e ∷ before))

  -- what holds of the calls so far, the intake and the books
  pub record Law (intake : List Batch) (books : List Entry) (h : History) : Type 0 where
    pub one_book : OneBook intake books h
    pub true_certificates : TrueCertificates intake h
    pub booked_certified : BookedCertified h
    pub sound_in_turn : SoundInTurn
    pub booked_in_rounds : BookedInRounds h
    pub lazy : Lazy h
