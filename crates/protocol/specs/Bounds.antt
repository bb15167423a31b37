-- What every world of a hall keeps, whatever its calls: numbers stay small and lists keep their lengths.
-- It is no part of the law; it is what code that keeps the records in machine numbers can carry along.
use Rattle.std.specs.Prelude.{◌≡◌, ℕ, ◌<◌, ◌≤◌, true, length}
use Rattle.protocol.specs.declared.station.Station.{Station}
use Rattle.protocol.specs.Law.{Terms}
use Rattle.protocol.specs.Steps.{World, station_at, at_work}

module _ (d : Terms) where
  pub record BoundedStation (s : Station) : Type 0 where
    pub booked_most : s.booked ≤ d.batches
    pub booked_less : at_work d s ≡ true → s.booked < d.batches
    pub number_most : s.number ≤ 20000
    pub vote_places : length s.votes ≡ 16

  -- for buffers of any lengths
  pub record Bounded (slots entries : ℕ) (w : World) : Type 0 where
    pub station_places : length w.stations ≡ 16
    pub pool_places : length w.pool ≡ slots
    pub book_places : length w.books ≡ entries
    pub each : (i : ℕ) → BoundedStation (station_at w i)
