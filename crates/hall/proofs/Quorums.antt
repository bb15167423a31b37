-- A quorum that was found, or was not, comes to the definition of settling.
use Rattle.std.proofs.Common.{◌≡◌, ℕ, ◌+◌, ◌≤◌, Bool, true, false, cond, leb, List, map, length, take, Some, None, Option, sym, refl, ap, ◌∙◌, arith}
use Rattle.std.proofs.lemmas.List.{length-take}
use Rattle.std.proofs.lemmas.Bool.{leb-true}
use Rattle.base.specs.declared.book.Entry.{Entry}
use Rattle.frames.specs.declared.frame.Pairs.{Pairs}
use Rattle.frames.specs.Typed.{plain, listed}
use Rattle.evidence.specs.Votes.{lowest_of, quorum_of}
use Rattle.evidence.proofs.Meets.{support_is}
use Rattle.protocol.specs.Law.{Terms}
use Rattle.protocol.specs.Steps.{support}
use Rattle.protocol.specs.Desk.{Desk, decide_on, settle_on}
use Rattle.protocol.proofs.Fields.{held_pairs}

-- as many of some pairs as make a quorum, where there are so many
abbrev quorum_in : ℕ → List (ℕ × ℕ) → Option Pairs
quorum_in size ps = cond (leb size (length ps)) (Some (lowest_of size ps)) None

pub found : (size : ℕ) (ps : List (ℕ × ℕ)) (pairs : Pairs) → Some pairs ≡ quorum_in size ps → (leb size (length ps) ≡ true) × (pairs ≡ lowest_of size ps)
found size ps pairs e = go (leb size (length ps)) e
  where
    go : (b : Bool) → Some pairs ≡ cond b (Some (lowest_of size ps)) None → (b ≡ true) × (pairs ≡ lowest_of size ps)
    go true h = (refl, cc)
    go false h = let z : ◌≡◌ {A = ℕ} 0 1 = cc in let w : ⊥ = omega arith in absurd w

pub missed : (size : ℕ) (ps : List (ℕ × ℕ)) → None ≡ quorum_in size ps → leb size (length ps) ≡ false
missed size ps e = go (leb size (length ps)) e
  where
    go : (b : Bool) → None ≡ cond b (Some (lowest_of size ps)) None → b ≡ false
    go true h = let z : ◌≡◌ {A = ℕ} 0 1 = cc in let w : ⊥ = omega arith in absurd w
    go false h = refl

-- its pairs are the lowest of those who back the entry
pub lowest_pairs : (size : ℕ) (ps : List (ℕ × ℕ)) → size ≤ 8 → size ≤ length ps → map plain (listed (lowest_of size ps)) ≡ take size ps
lowest_pairs size ps few enough = held_pairs size (take size ps) (omega (arith, length-take size ps)) few

-- by the numbers that the code has at hand
module _ (d : Terms) (i : ℕ) (e : Entry) (k : Desk) (size n : ℕ) (sized : size ≡ d.t + 1) (all : n ≡ d.n) where
  abbrev ps : List (ℕ × ℕ)
  ps = support d e k.station

  by_table : quorum_of size e (take n k.station.votes) ≡ quorum_in (d.t + 1) ps
  by_table =
      let most : ℕ → Option Pairs = λ m. cond (leb (d.t + 1) m) (Some (lowest_of (d.t + 1) ps)) None in
      ap (λ m. quorum_of size e (take m k.station.votes)) all
      ∙ ap (λ m. quorum_of m e (take d.n k.station.votes)) sized
      ∙ ap most (support_is d e k.station)

  abbrev after : Bool → Desk × Bool
  after b = elim b [ true ↦ (decide_on d i e (take (d.t + 1) ps) k, true) | false ↦ (k, false) ]

  pub settles : (pairs : Pairs) (k' : Desk) → d.t ≤ 7 → Some pairs ≡ quorum_of size e (take n k.station.votes)
      → k' ≡ decide_on d i e (map plain (listed pairs)) k → ◌≡◌ {A = Desk × Bool} (k', true) (settle_on d i e k)
  unfolding settle_on
  settles pairs k' few q step =
      let (enough, is) = found (d.t + 1) ps pairs (q ∙ by_table) in
      ap (λ (x : Desk). (x, true)) (step ∙ ap (λ x. decide_on d i e x k) (ap (λ x. map plain (listed x)) is ∙ lowest_pairs (d.t + 1) ps (omega arith) (leb-true _ _ enough)))
      ∙ ap after (sym enough)

  pub waits : None ≡ quorum_of size e (take n k.station.votes) → ◌≡◌ {A = Desk × Bool} (k, false) (settle_on d i e k)
  unfolding settle_on
  waits q = ap after (sym (missed (d.t + 1) ps (q ∙ by_table)))
