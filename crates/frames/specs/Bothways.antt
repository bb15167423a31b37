-- Decoding and encoding, both ways: what a decoded frame has to do with its bytes, which frames are
-- read back as they were written, and which decisions are certificates.
use Rattle.std.specs.Prelude.{◌≡◌, ℕ, ◌+◌, ◌-◌, ◌^◌, ◌<◌, ◌≤◌, List, ◌++◌, map, take, replicate, Ok}
use Rattle.std.specs.List.{AllByRecursion}
use Rattle.base.specs.declared.book.Entry.{Entry}
use Rattle.frames.specs.declared.frame.Kind.{Kind}
use Rattle.frames.specs.declared.frame.Kind.TheVariants.{Propose, Decision, Reselect}
use Rattle.frames.specs.declared.frame.Frame.{Frame}
use Rattle.frames.specs.Frames.{pairs_of, pair_states}
use Rattle.frames.specs.Certificates.{Rising, Certificate}
use Rattle.frames.specs.Typed.{no_pair, plain, listed, stated, pair_stated, encoded, decoded}

-- a frame is what some bytes say: it is written as they are, as far as eight pairs go, and so are its statements
pub record Says (f : Frame) (bs : List ℕ) : Type 0 where
  pub written : encoded f ≡ take 104 bs
  pub states : stated f ≡ take 24 bs
  pub seals : (q : ℕ) → pair_stated f q ≡ pair_states bs q
  pub shows : map plain (listed f.pairs) ≡ take 8 (pairs_of bs)

abbrev pub no_entry : Entry
no_entry = record { grower = 0; amount = 0; carry = 0; figure = 0 }

-- the number, the count of pairs and the entry that a frame of a kind may have
abbrev pub Fields : ℕ → Kind → ℕ → ℕ → Entry → Type 0
Fields t Propose number count e = (number ≡ 0) × (count ≡ 0)
Fields t Decision number count e = (number ≡ 0) × (count ≡ t + 1)
Fields t Reselect number count e = (1 ≤ number) × (number ≤ 20000) × (count ≤ 1) × (e ≡ no_entry)

-- a well-formed frame, for n stations of which t may be faulty and a number of batches
pub record WellFormed (n t batches : ℕ) (f : Frame) : Type 0 where
  pub sends : f.sender < n
  pub within : (1 ≤ f.batch) × (f.batch ≤ batches)
  pub fields : Fields t f.kind f.number f.pairs.count f.entry
  pub rises : Rising n 0 (map plain (listed f.pairs))
  -- its pairs have room, and nothing stands behind them
  pub room : f.pairs.count ≤ 8
  pub blank : f.pairs.each ≡ listed f.pairs ++ replicate (8 - f.pairs.count) no_pair

-- some bytes decode as a decision, and every tag of it is right
pub record Accepted (n t batches : ℕ) (tag : ℕ → List ℕ → ℕ) (bs : List ℕ) : Type 0 where
  pub frame : Frame
  pub decodes : decoded n t batches bs ≡ Ok frame
  pub decision : frame.kind ≡ Decision
  pub sender_right : frame.tag ≡ tag frame.sender (stated frame)
  pub pairs_right : AllByRecursion (λ p. p.1 ≡ tag p.0 (pair_stated frame p.0)) (pairs_of bs)

-- what holds of some bytes, whatever they are
pub record BothWays (n t batches : ℕ) (bs : List ℕ) : Type 0 where
  -- a frame that they decode as is what they say
  pub says : (f : Frame) → decoded n t batches bs ≡ Ok f → Says f bs
  -- for every seal, an accepted decision is a certificate by its own fields
  pub accepts : (tag : ℕ → List ℕ → ℕ) → Accepted n t batches tag bs → Certificate n t batches tag bs
  -- and back, since tags are numbers of 64 bits
  pub certifies : (tag : ℕ → List ℕ → ℕ) → ((i : ℕ) (s : List ℕ) → tag i s < 2 ^ 64) → Certificate n t batches tag bs → Accepted n t batches tag bs

-- what holds of a frame, whatever it is: it decodes from its bytes wherever it is well formed
abbrev pub ReadsBack : Frame → Type 0
ReadsBack f = (n t batches : ℕ) → WellFormed n t batches f → decoded n t batches (encoded f) ≡ Ok f
