-- A step of the world is the step at the station's desk, put back.
use Rattle.std.proofs.Common.{◌≡◌, ℕ, ◌+◌, ◌<◌, Bool, true, false, not, leb, List, [], length, take, Ok, sym, refl, ap, ◌∙◌}
use Rattle.std.proofs.lemmas.List.{get_or-set_same, length-set, set-get_or, set-set}
use Rattle.base.specs.declared.book.Batch.{Batch}
use Rattle.base.specs.declared.book.Entry.{Entry}
use Rattle.frames.specs.Frames.{◌and◌, sender_of, entry_of, tag_of}
use Rattle.frames.proofs.Basics.{by_test}
use Rattle.protocol.specs.declared.station.Vote.{Vote}
use Rattle.protocol.specs.declared.station.Station.{Station}
use Rattle.protocol.specs.Law.{Terms, Marks}
use Rattle.protocol.specs.Steps.{World, Acted, Stepped, stepped, no_station, station_at, with_station, own_entry, support, mark_taken, take_up, next_number, store, last_carry, issue, propose, decide, settle, join, announce, reselect, differs, take_proposal}
use Rattle.protocol.specs.Desk.{Desk, desk_at, put_back, with_record, begun, raised, holds_vote, own_vote, sent, propose_on, decide_on, settle_on, join_on, announced, moved_on, reselect_on, differs_on, vote_on}
use Rattle.protocol.specs.Ready.{marked_taken, taken_on, answered}

-- a desk with an answer, put back
abbrev pub lifted : {A : Type 0} → ℕ → World → Desk × A → World × A
lifted i w r = (put_back i w r.0, r.1)

-- Desks

-- a desk put back as it is changes nothing
pub put_back-same : (i : ℕ) (w : World) → put_back i w (desk_at w i) ≡ w
put_back-same i w = λ j. record { stations = set-get_or w.stations i no_station j; pool = w.pool; books = w.books }

-- it is the last one put back that counts
pub put_back-twice : (i : ℕ) (w : World) (k k' : Desk) → put_back i (put_back i w k) k' ≡ put_back i w k'
put_back-twice i w k k' = λ j. record { stations = set-set w.stations i k.station k'.station j; pool = k'.pool; books = k'.books }

module _ (i : ℕ) (w : World) (inside : i < length w.stations) where
  -- and it is found again
  pub desk_again : (k : Desk) → desk_at (put_back i w k) i ≡ k
  desk_again k = λ j. record { station = get_or-set_same w.stations i k.station no_station inside j; pool = k.pool; books = k.books }

  pub inside_again : (k : Desk) → i < length (put_back i w k).stations
  inside_again k = rw (length-set w.stations i k.station) inside

  -- a step that is a step at the desk, on a desk put back
  pub lifted_again : {A : Type 0} (F : World → World × A) (G : Desk → Desk × A) → ((v : World) → i < length v.stations → F v ≡ lifted i v (G (desk_at v i)))
      → (k : Desk) → F (put_back i w k) ≡ lifted i w (G k)
  lifted_again F G is k =
      is (put_back i w k) (inside_again k)
      ∙ ap (λ (x : Desk). lifted i (put_back i w k) (G x)) (desk_again k)
      ∙ ap (λ (v : World). (v, (G k).1)) (put_back-twice i w k (G k).0)

  pub put_again : (F : World → World) (G : Desk → Desk) → ((v : World) → F v ≡ put_back i v (G (desk_at v i)))
      → (k : Desk) → F (put_back i w k) ≡ put_back i w (G k)
  put_again F G is k =
      ap (λ (r : World × Unit {0}). r.0)
      (lifted_again {A = Unit {0}} (λ v. (F v, tt)) (λ x. (G x, tt)) (λ v _. ap (λ (u : World). (u, tt)) (is v)) k)

-- a function of what two tests pick
two_tests : {X Y : Type 0} (f : X → Y) (a b : Bool) (x y z : X)
    → ◌≡◌ {A = Y} (elim a [ true ↦ f x | false ↦ elim b [ true ↦ f y | false ↦ f z ] ])
    (f (elim a as (λ _. X) [ true ↦ x | false ↦ elim b [ true ↦ y | false ↦ z ] ]))
two_tests f true b x y z = refl
two_tests f false true x y z = refl
two_tests f false false x y z = refl

-- Records and the pool

pub take_up_is : (next : Batch) (i : ℕ) (w : World) → take_up next i w ≡ put_back i w (with_record (begun next) (desk_at w i))
unfolding take_up with_station
take_up_is next i w = refl

pub store_is : (i q : ℕ) (v : Vote) (w : World) → store i q v w ≡ put_back i w (with_record (holds_vote q v) (desk_at w i))
unfolding store with_station
store_is i q v w = refl

-- the mark on a frame touches no record
pub mark_taken_is : (i f : ℕ) (w : World) → mark_taken f w ≡ put_back i w (taken_on f (desk_at w i))
unfolding mark_taken marked_taken
mark_taken_is i f w = ap (λ (l : List Station). record { stations = l; pool = marked_taken f w.pool; books = w.books }) (sym (set-get_or w.stations i no_station))

-- Steps
module _ (d : Terms) where
  pub propose_is : (i : ℕ) (w : World) → propose d i w ≡ put_back i w (propose_on d i (desk_at w i))
  unfolding propose issue with_station last_carry propose_on sent
  propose_is i w = refl

  pub decide_is : (i : ℕ) (e : Entry) (pairs : List (ℕ × ℕ)) (w : World) → decide d i e pairs w ≡ put_back i w (decide_on d i e pairs (desk_at w i))
  unfolding decide issue decide_on sent
  decide_is i e pairs w = refl

  pub moved_is : (i : ℕ) (proof : List (ℕ × ℕ)) (w : World)
      → announce d i ((station_at w i).booked + 1) (station_at w i).number proof (next_number i w) ≡ put_back i w (moved_on d i proof (desk_at w i))
  unfolding announce next_number with_station issue announced sent
  moved_is i proof w =
      let s : Station = station_at w i in
      two_tests (λ pool. put_back i w (record { station = raised s; pool = pool; books = w.books }))
      (d.seats s.number i) (d.seats (s.number + 1) i) _ _ _

  pub settle_is : (i : ℕ) (e : Entry) (w : World) → settle d i e w ≡ lifted i w (settle_on d i e (desk_at w i))
  unfolding settle settle_on
  settle_is i e w =
      let ps : List (ℕ × ℕ) = support d e (station_at w i) in
      by_test
      (λ v. ◌≡◌ {A = World × Bool} (elim v [ true ↦ (decide d i e (take (d.t + 1) ps) w, true) | false ↦ (w, false) ])
      (lifted i w (elim v as (λ _. Desk × Bool) [ true ↦ (decide_on d i e (take (d.t + 1) ps) (desk_at w i), true) | false ↦ (desk_at w i, false) ])))
      (leb (d.t + 1) (length ps))
      (λ _. ap (λ (v : World). (v, true)) (decide_is i e (take (d.t + 1) ps) w))
      (λ _. ap (λ (v : World). (v, false)) (sym (put_back-same i w)))

  pub differs_is : (i q : ℕ) (e : Entry) (w : World) → differs d i q e w ≡ differs_on d i q e (station_at w i)
  unfolding differs differs_on own_entry
  differs_is i q e w = refl

  module _ (i : ℕ) where
    abbrev pub Lifts : {A : Type 0} → (World → World × A) → (Desk → Desk × A) → Type 0
    Lifts F G = (w : World) → i < length w.stations → F w ≡ lifted i w (G (desk_at w i))

    pub join_is : Lifts (join d i) (join_on d i)
    unfolding join join_on own_entry
    join_is w inside =
        let k : Desk = propose_on d i (desk_at w i) in
        ap (λ (v : World). settle d i (own_entry v i) v) (propose_is i w)
        ∙ ap (λ (s : Station). settle d i (own_vote i s) (put_back i w k)) (ap (λ (k : Desk). k.station) (desk_again i w inside k))
        ∙ lifted_again i w inside (settle d i (own_vote i k.station)) (settle_on d i (own_vote i k.station)) (λ v _. settle_is i _ v) k

    pub reselect_is : (proof : List (ℕ × ℕ)) → Lifts (reselect d i proof) (reselect_on d i proof)
    unfolding reselect reselect_on
    reselect_is proof w inside =
        let s : Station = station_at w i in
        let k : Desk = moved_on d i proof (desk_at w i) in
        let w₂ : World = announce d i (s.booked + 1) s.number proof (next_number i w) in
        by_test
        (λ v. ◌≡◌ {A = Stepped} (elim v [ true ↦ ((join d i w₂).0, (true, true, (join d i w₂).1)) | false ↦ (w₂, (true, false, false)) ])
        (lifted i w (elim v as (λ _. Desk × Marks) [ true ↦ ((join_on d i k).0, (true, true, (join_on d i k).1)) | false ↦ (k, (true, false, false)) ])))
        (d.seats (s.number + 1) i and not s.proposed)
        (λ _. ap (λ (r : World × Bool). (r.0, (true, true, r.1))) (ap (join d i) (moved_is i proof w) ∙ lifted_again i w inside (join d i) (join_on d i) join_is k))
        (λ _. ap (λ (v : World). (v, (true, false, false))) (moved_is i proof w))

    -- a proposal that is taken is a vote that is taken
    pub vote_is : (bs : List ℕ) (w : World) → i < length w.stations
        → take_proposal d i bs w ≡ answered i w (vote_on d i (sender_of bs) (record { entry = entry_of bs; tag = tag_of bs }) (desk_at w i))
    unfolding take_proposal vote_on
    vote_is bs w inside =
        let q : ℕ = sender_of bs in
        let e : Entry = entry_of bs in
        let v : Vote = record { entry = e; tag = tag_of bs } in
        let k : Desk = with_record (holds_vote q v) (desk_at w i) in
        let whole : World × Bool → Bool → Stepped → World → Acted = λ r b s u.
        elim r.1 [ true ↦ (r.0, Ok (false, false, true)) | false ↦ elim b [ true ↦ stepped s | false ↦ (u, Ok (false, false, false)) ] ] in
        let settled : settle d i e (put_back i w k) ≡ lifted i w (settle_on d i e k) =
        lifted_again i w inside (settle d i e) (settle_on d i e) (λ u _. settle_is i e u) k in
        let other : differs d i q e (put_back i w k) ≡ differs_on d i q e k.station =
        differs_is i q e (put_back i w k) ∙ ap (λ (x : Desk). differs_on d i q e x.station) (desk_again i w inside k) in
        let moved : reselect d i [] (put_back i w k) ≡ lifted i w (reselect_on d i [] k) =
        lifted_again i w inside (reselect d i []) (reselect_on d i []) (reselect_is []) k in
        ap (λ (u : World). whole (settle d i e u) (differs d i q e u) (reselect d i [] u) u) (store_is i q v w)
        ∙ (λ j. whole (settled j) (other j) (moved j) (put_back i w k))
        ∙ two_tests (answered i w) (settle_on d i e k).1 (differs_on d i q e k.station) ((settle_on d i e k).0, (false, false, true)) (reselect_on d i [] k) (k, (false, false, false))
