-- What the proof needs of a hall whose own calls are refused neither 6 nor 7, and the runs of `act` on it.
use Rattle.std.proofs.Common.{◌≡◌, ℕ, ◌+◌, ◌*◌, ◌^◌, ◌<◌, ◌≤◌, true, false, ◌⊎◌, List, [], ◌∷◌, length, replicate, Err}
use Rattle.std.specs.List.{AllByRecursion}
use Rattle.base.specs.declared.book.Batch.{Batch}
use Rattle.base.specs.declared.fault.Fault.{Fault}
use Rattle.base.specs.Refusals.{number_of}
use Rattle.frames.specs.Certificates.{Fits}
use Rattle.protocol.specs.Law.{Terms, Call, History, works}
use Rattle.protocol.specs.Steps.{World, act, no_station, no_batch}
use Rattle.protocol.specs.Run.{size, Empty}

-- lawful terms whose policy and table agree and whose batches are few
pub record Usable (d : Terms) : Type 0 where
  pub some_fault : 1 ≤ d.t
  pub majority : 2 * d.t + 1 ≤ d.n
  pub few_stations : d.n ≤ 16
  pub few_faulty : size d.faulty d.n ≤ d.t
  pub few_batches : d.batches ≤ 1000
  pub full : (c : ℕ) → c ≤ 20000 → size (d.seats c) d.n ≡ d.t + 1
  pub never_idle : d.lawful no_batch ≡ false
  pub fits : (carry : ℕ) (b : Batch) → carry < 2 ^ 32 → d.lawful b ≡ true → Fits (works d carry b)
  pub tags : (i : ℕ) (s : List ℕ) → i < 16 → length s ≡ 24 → AllByRecursion (λ x. x < 256) s → d.tag i s < 2 ^ 64

-- a hall just made, with buffers of the right lengths
pub record Begun (d : Terms) (intake : List Batch) (w : World) : Type 0 where
  pub idle : w.stations ≡ replicate 16 no_station
  pub empty : Empty w.pool
  pub intake_size : length intake ≡ d.batches
  pub book_size : length w.books ≡ d.n * d.batches

-- runs in which a call reaches `act`, or brings other buffers and is refused 6 or 7
pub data Played (d : Terms) (intake : List Batch) (start : World) : History → World → Type 0 where
  begun : Played d intake start [] start
  acted : {h : History} {w : World} → Played d intake start h w → (c : Call)
      → Played d intake start (record { call = c; answer = (act d intake c w).1; pool = (act d intake c w).0.pool } ∷ h) (act d intake c w).0
  barred : {h : History} {w : World} → Played d intake start h w → (c : Call) (x : Fault) → (number_of x.refusal ≡ 6) ⊎ (number_of x.refusal ≡ 7)
      → Played d intake start (record { call = c; answer = Err x; pool = w.pool } ∷ h) w
