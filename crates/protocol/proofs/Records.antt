-- The record of a station after each inner step.
use Rattle.std.proofs.Common.{◌≡◌, ℕ, ◌+◌, ◌<◌, ◌≤◌, true, false, ◌⊎◌, List, length, get_or, set, replicate, Some, None, refl, ap, ◌∙◌, inl, inr}
use Rattle.std.proofs.lemmas.Bool.{cases_lt}
use Rattle.std.proofs.lemmas.List.{get_or-set_same, length-set, get_or-replicate, get_or_past}
use Rattle.base.specs.declared.book.Batch.{Batch}
use Rattle.base.specs.declared.book.Entry.{Entry}
use Rattle.frames.specs.Bytes.{proposes}
use Rattle.protocol.specs.declared.station.Vote.{Vote}
use Rattle.protocol.specs.declared.station.Station.{Station}
use Rattle.protocol.specs.Law.{Terms, works}
use Rattle.protocol.specs.Steps.{World, no_station, station_at, propose, decide, issue, with_station, next_number, announce, store, take_up, mark_taken, last_carry, own_entry}
use Rattle.protocol.proofs.Rules.{announce-rule, moved_on}

abbrev pub moved_record : World → ℕ → Station
moved_record w i =
    let s : Station = station_at w i in
    record { booked = s.booked; work = s.work; number = s.number + 1; proposed = s.proposed; votes = s.votes }

abbrev pub stored_record : World → ℕ → ℕ → Vote → Station
stored_record w i q v =
    let s : Station = station_at w i in
    record { booked = s.booked; work = s.work; number = s.number; proposed = s.proposed; votes = set s.votes q (Some v) }

pub store_here : (w : World) (i q : ℕ) (v : Vote) → i < length w.stations → station_at (store i q v w) i ≡ stored_record w i q v
unfolding store with_station
store_here w i q v l = get_or-set_same w.stations i _ no_station l

pub store_length : (w : World) (i q : ℕ) (v : Vote) → length (store i q v w).stations ≡ length w.stations
unfolding store with_station
store_length w i q v = length-set w.stations i _

abbrev pub taken_record : World → ℕ → Batch → Station
taken_record w i next = record { booked = (station_at w i).booked; work = next; number = 0; proposed = false; votes = replicate 16 None }

pub take_here : (w : World) (i : ℕ) (next : Batch) → i < length w.stations → station_at (take_up next i w) i ≡ taken_record w i next
unfolding take_up with_station
take_here w i next l = get_or-set_same w.stations i _ no_station l

pub take-length : (w : World) (i : ℕ) (next : Batch) → length (take_up next i w).stations ≡ length w.stations
unfolding take_up with_station
take-length w i next = length-set w.stations i _

module _ (d : Terms) where
  abbrev pub proposed_record : World → ℕ → Station
  proposed_record w i =
      let s : Station = station_at w i in
      let e : Entry = works d (last_carry d w i) s.work in
      record { booked = s.booked; work = s.work; number = s.number; proposed = true; votes = set s.votes i (Some (record { entry = e; tag = d.tag i (proposes i (s.booked + 1) e) })) }

  pub propose_here : (w : World) (i : ℕ) → i < length w.stations → station_at (propose d i w) i ≡ proposed_record w i
  unfolding propose issue with_station
  propose_here w i l = get_or-set_same w.stations i _ no_station l

  pub propose-length : (w : World) (i : ℕ) → length (propose d i w).stations ≡ length w.stations
  unfolding propose issue with_station
  propose-length w i = length-set w.stations i _

  pub announce_stations : (w : World) (i b c : ℕ) (proof : List (ℕ × ℕ)) → (announce d i b c proof w).stations ≡ w.stations
  unfolding issue
  announce_stations w i b c proof = announce-rule d (λ v. v.stations ≡ w.stations) i b c proof w (λ _. refl) (λ _ _. refl) (λ _ _. refl)

  pub moved_here : (w : World) (i : ℕ) (proof : List (ℕ × ℕ)) → i < length w.stations → station_at (moved_on d i proof w) i ≡ moved_record w i
  unfolding moved_on next_number with_station
  moved_here w i proof l =
      ap (λ (s : List Station). get_or s i no_station) (announce_stations (next_number i w) i ((station_at w i).booked + 1) (station_at w i).number proof) ∙ get_or-set_same w.stations i _ no_station l

  pub moved_length : (w : World) (i : ℕ) (proof : List (ℕ × ℕ)) → length (moved_on d i proof w).stations ≡ length w.stations
  unfolding moved_on next_number with_station
  moved_length w i proof = ap length (announce_stations (next_number i w) i ((station_at w i).booked + 1) (station_at w i).number proof) ∙ length-set w.stations i _

  pub decide_votes : (w : World) (i : ℕ) (e : Entry) (ps : List (ℕ × ℕ)) → i < length w.stations → (station_at (decide d i e ps w) i).votes ≡ (station_at w i).votes
  unfolding decide issue
  decide_votes w i e ps l = ap (λ (s : Station). s.votes) (get_or-set_same w.stations i _ no_station l)

pub own_is : (w : World) (i : ℕ) (u : Vote) → get_or (station_at w i).votes i None ≡ Some u → own_entry w i ≡ u.entry
unfolding own_entry
own_is w i u e = rw (e, own_entry) refl

pub taken_stations : (f : ℕ) (w : World) → (mark_taken f w).stations ≡ w.stations
unfolding mark_taken
taken_stations f w = refl

pub idle_station : (i : ℕ) → get_or (replicate 16 no_station) i no_station ≡ no_station
idle_station i = go (cases_lt i 16)
  where
    go : (i < 16) ⊎ (16 ≤ i) → get_or (replicate 16 no_station) i no_station ≡ no_station
    go (inl l) = get_or-replicate 16 i no_station no_station l
    go (inr l) = get_or_past (replicate 16 no_station) i no_station l
