-- What a step may count on: the station works on a batch, its row of the books and its vote have their places.
use Rattle.std.specs.Prelude.{◌≡◌, ℕ, ◌+◌, ◌*◌, ◌<◌, ◌≤◌, true, length}
use Rattle.frames.specs.declared.frame.Frame.{Frame}
use Rattle.frames.specs.declared.frame.Kind.TheVariants.{Decision, Reselect}
use Rattle.protocol.specs.declared.station.Station.{Station}
use Rattle.protocol.specs.Law.{Terms}

-- station i and the books, whether it works or not
pub record Placed (d : Terms) (i : ℕ) (s : Station) (entries : ℕ) : Type 0 where
  pub there : i < d.n
  pub few : d.n ≤ 16
  pub quorum : d.t ≤ 7
  pub short : d.batches ≤ 1000
  pub left : s.booked < d.batches
  pub votes : length s.votes ≡ 16
  pub shape : entries ≡ d.n * d.batches

-- a station at work
pub record Working (d : Terms) (i : ℕ) (s : Station) (entries : ℕ) : Type 0 where
  pub placed : Placed d i s entries
  pub busy : d.lawful s.work ≡ true

-- one that may go on to the next committee
pub record Moving (d : Terms) (i : ℕ) (s : Station) (entries : ℕ) : Type 0 where
  pub working : Working d i s entries
  pub low : s.number < 20000

-- a frame that a station may take: it stands in the pool, its sender has a place, a decision has t + 1 pairs, and a reselect
-- that is shown by somebody else than a member of the committee left has one pair to show
pub record Delivered (d : Terms) (i : ℕ) (s : Station) (place slots : ℕ) (f : Frame) : Type 0 where
  pub within : place < slots
  pub sender : f.sender < 16
  pub quorum : f.kind ≡ Decision → f.pairs.count ≡ d.t + 1
  pub few : f.kind ≡ Reselect → f.pairs.count ≤ 1
  pub low : f.kind ≡ Reselect → s.number < 20000
