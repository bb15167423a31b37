-- Frames that pass the checks, for n stations of which t may be faulty, a number of batches and the
-- tag of each station on each statement; and what a certificate is, as an equation of its bytes.
use Rattle.std.specs.Prelude.{◌≡◌, ℕ, ◌+◌, ◌^◌, ◌<◌, ◌≤◌, Bool, true, List, [], ◌∷◌, ◌++◌, length, take, None, Option, ◌==◌}
use Rattle.std.specs.List.{AllByRecursion}
use Rattle.base.specs.declared.book.Entry.{Entry}
use Rattle.frames.specs.Bytes.{be8, statement, entry_bytes, proposes, pair_bytes}
use Rattle.frames.specs.Frames.{kind_of, sender_of, batch_of, entry_of, tag_of, pairs_of, pair_states, first_fault, form_tests, first_pair}

-- every number of an entry is one of 32 bits
abbrev pub Fits : Entry → Type 0
Fits e = (e.grower < 2 ^ 32) × (e.amount < 2 ^ 32) × (e.carry < 2 ^ 32) × (e.figure < 2 ^ 32)

-- pairs of different stations below n, in rising order from `low` on
abbrev pub Rising : ℕ → ℕ → List (ℕ × ℕ) → Type 0
Rising n low [] = Unit {0}
Rising n low (p ∷ ps) = (low ≤ p.0) × (p.0 < n) × Rising n (p.0 + 1) ps

-- why a frame is malformed: the place of the first field that fails
abbrev pub malformed : ℕ → ℕ → ℕ → List ℕ → Option ℕ
malformed n t batches bs = first_fault (form_tests n t batches bs)

module _ (tag : ℕ → List ℕ → ℕ) where
  -- the sender's tag is right
  abbrev pub sender_sealed : List ℕ → Bool
  sender_sealed bs = tag_of bs == tag (sender_of bs) (take 24 bs)

  -- a pair's tag is right
  abbrev pub pair_sealed : List ℕ → ℕ × ℕ → Bool
  pair_sealed bs p = p.1 == tag p.0 (pair_states bs p.0)

module _ (n t batches : ℕ) (tag : ℕ → List ℕ → ℕ) where
  -- a frame is a certificate of batch b: a decision of its sender with the right tags of t + 1 stations
  pub record Certifies (frame : List ℕ) (sender b : ℕ) (e : Entry) (pairs : List (ℕ × ℕ)) : Type 0 where
    pub sends : sender < n
    pub within : (1 ≤ b) × (b ≤ batches)
    pub fits : Fits e
    pub quorum : length pairs ≡ t + 1
    pub rising : Rising n 0 pairs
    pub sealed : AllByRecursion (λ p. p.1 ≡ tag p.0 (proposes p.0 b e)) pairs
    pub reads : let s : List ℕ = statement 2 sender b 0 (t + 1) (entry_bytes e) in
        frame ≡ s ++ be8 (tag sender s) ++ pair_bytes pairs

  -- a certificate by its own fields
  abbrev pub Certificate : List ℕ → Type 0
  Certificate bs = Certifies bs (sender_of bs) (batch_of bs) (entry_of bs) (pairs_of bs)

  -- a well-formed decision, and every tag is right
  pub record Passes (bs : List ℕ) : Type 0 where
    pub formed : malformed n t batches bs ≡ None
    pub decision : kind_of bs ≡ 2
    pub sender : sender_sealed tag bs ≡ true
    pub pairs : first_pair (pair_sealed tag bs) 32 (pairs_of bs) ≡ None
