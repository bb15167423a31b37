-- Votes: how many stations back a subject, and the pairs that show enough of them.
use Rattle.std.specs.Prelude.{ℕ, Bool, false, cond, List, take, Some, None, sum_by, Option, nat_eq, nat_le, slice_index_or}
use Rattle.base.specs.declared.book.Entry.{Entry}
use Rattle.frames.specs.declared.frame.Pair.{Pair}
use Rattle.frames.specs.declared.frame.Pairs.{Pairs}
use Rattle.frames.specs.Frames.{◌and◌}
use Rattle.frames.specs.Typed.{holding}
use Rattle.protocol.specs.declared.station.Vote.{Vote}
use Rattle.protocol.specs.Steps.{no_entry, backers}

-- there is a vote, and it is for the subject
abbrev pub is_for : {V S : Type 0} → (V → S → Bool) → S → Option V → Bool
is_for backs what None = false
is_for backs what (Some v) = backs v what

-- what a station adds to the support of the subject
abbrev pub weight_of : {V S : Type 0} → (V → S → Bool) → S → Option V → ℕ
weight_of backs what o = cond (is_for backs what o) 1 0

-- how many of some stations back a subject
abbrev pub support_of : {V S : Type 0} → (V → S → Bool) → S → List (Option V) → ℕ
support_of backs what votes = sum_by (weight_of backs what) votes

-- the two entries agree in all four fields
abbrev pub equal_entries : Entry → Entry → Bool
equal_entries a b = nat_eq a.grower b.grower and nat_eq a.amount b.amount and nat_eq a.carry b.carry and nat_eq a.figure b.figure

-- a vote on entries is for the entry that it holds
abbrev pub backs_entry : Vote → Entry → Bool
backs_entry v e = equal_entries v.entry e

-- a station's pair, if its vote is for the entry
abbrev pub pair_backed : Entry → ℕ → Option Vote → Option Pair
pair_backed e q None = None
pair_backed e q (Some v) = cond (backs_entry v e) (Some (record { station = q; tag = v.tag })) None

-- the lowest `size` of the stations that back an entry, with their tags; eight of them where they are more
abbrev pub lowest_of : ℕ → List (ℕ × ℕ) → Pairs
lowest_of size backed = holding size (take size backed)

-- they, where an entry has so much support
abbrev pub quorum_of : ℕ → Entry → List (Option Vote) → Option Pairs
quorum_of size e votes = cond (nat_le size (support_of backs_entry e votes)) (Some (lowest_of size (backers e 0 votes))) None

-- the entry of station i's vote
abbrev pub entry_held : ℕ → List (Option Vote) → Entry
entry_held i votes = elim (slice_index_or votes i None) [ None ↦ no_entry | Some v ↦ v.entry ]
