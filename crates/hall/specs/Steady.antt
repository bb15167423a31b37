-- What holds of the records of every hall, whatever was called.
use Rattle.std.specs.Prelude.{◌≡◌, ℕ, ◌<◌, ◌≤◌, true, List, length, slice_index_or}
use Rattle.rules.specs.Lawful.{lawful}
use Rattle.protocol.specs.declared.station.Station.{Station}
use Rattle.protocol.specs.Steps.{no_station}

-- one record: at most all batches are booked, fewer while one is at work; the committee number is at most 20,000; every
-- station has a place for its vote
abbrev pub SteadyStation : ℕ → Station → Type 0
SteadyStation batches s =
    (s.booked ≤ batches) × (lawful s.work ≡ true → s.booked < batches) × (s.number ≤ 20000) × (length s.votes ≡ 16)

abbrev pub Steady : ℕ → List Station → Type 0
Steady batches l = (length l ≡ 16) × ((i : ℕ) → SteadyStation batches (slice_index_or l i no_station))
