-- What is known of frames, at the terms of a hall.
use Rattle.std.proofs.Common.{◌≡◌, ℕ, ◌+◌, ◌<◌, ◌≤◌, List, [], ◌∷◌, arith}
use Rattle.base.specs.declared.book.Entry.{Entry}
use Rattle.frames.specs.Bytes.{statement, entry_bytes, proposes, reselects}
use Rattle.frames.specs.Frames.{entry_of}
use Rattle.frames.proofs.Codec
use Rattle.protocol.specs.Law.{Terms, Certifies}
use Rattle.protocol.proofs.Usable.{Usable}

module _ (d : Terms) where
  -- the frame that a station issues on a statement
  abbrev pub sealed_frame : ℕ → List ℕ → List (ℕ × ℕ) → List ℕ
  sealed_frame j s pairs = Codec.sealed_frame d.n d.t d.batches d.tag j s pairs

  abbrev pub Within : ℕ → Type 0
  Within b = Codec.Within d.n d.t d.batches d.tag b

  -- what a frame reads back as
  abbrev pub Reads : List ℕ → ℕ → ℕ → ℕ → ℕ → ℕ → List (ℕ × ℕ) → List ℕ → Type 0
  Reads bs kind j b c m pairs s = Codec.Reads d.n d.t d.batches d.tag bs kind j b c m pairs s

  module _ (law : Usable d) where
    -- a frame has room for its stations, batches and tags
    pub room : Codec.Encodable d.n d.t d.batches d.tag
    room = record {
      few_stations = law.few_stations;
      few_faults = omega (arith, law.majority, law.few_stations);
      few_batches = omega (arith, law.few_batches);
      tags = law.tags;
    }

    pub reads_proposal : (j b : ℕ) (e : Entry) → j < d.n → Within b → Reads (sealed_frame j (proposes j b e) []) 1 j b 0 0 [] (proposes j b e)
    reads_proposal = Codec.reads_proposal d.n d.t d.batches d.tag room

    pub reads_plain : (j b c : ℕ) → j < d.n → Within b → (1 ≤ c) × (c ≤ 20000) → Reads (sealed_frame j (reselects j b c) []) 3 j b c 0 [] (reselects j b c)
    reads_plain = Codec.reads_plain d.n d.t d.batches d.tag room

    pub reads_paired : (j b c q x : ℕ) → j < d.n → Within b → (1 ≤ c) × (c ≤ 20000) → q < d.n → x ≡ d.tag q (reselects q b c)
        → Reads (sealed_frame j (Codec.paired_statement j b c) ((q, x) ∷ [])) 3 j b c 1 ((q, x) ∷ []) (Codec.paired_statement j b c)
    reads_paired = Codec.reads_paired d.n d.t d.batches d.tag room

    pub reads_decision : (bs : List ℕ) (j b : ℕ) (e : Entry) (ps : List (ℕ × ℕ)) → Certifies d bs j b e ps
        → Reads bs 2 j b 0 (d.t + 1) ps (statement 2 j b 0 (d.t + 1) (entry_bytes e))
    reads_decision = Codec.reads_decision d.n d.t d.batches d.tag room

    pub entry_decision : (bs : List ℕ) (j b : ℕ) (e : Entry) (ps : List (ℕ × ℕ)) → Certifies d bs j b e ps → entry_of bs ≡ e
    entry_decision = Codec.entry_decision d.n d.t d.batches d.tag room
