-- Runs of calls on a new hall, and the claim about them all.
use Rattle.std.specs.Prelude.{◌≡◌, ℕ, zero, suc, ◌+◌, ◌*◌, ◌^◌, ◌<◌, ◌≤◌, Bool, true, false, cond, ◌⊎◌, List, [], ◌∷◌, length, replicate, Err, slice_index_or}
use Rattle.std.specs.List.{AllByRecursion}
use Rattle.base.specs.declared.book.Batch.{Batch}
use Rattle.base.specs.declared.fault.Fault.{Fault}
use Rattle.base.specs.Refusals.{number_of}
use Rattle.rules.specs.declared.rule.Outcome.{Outcome}
use Rattle.frames.specs.declared.slot.Slot.{Slot}
use Rattle.frames.specs.Slots.{no_slot}
use Rattle.protocol.specs.Law.{Terms, Call, History, Law}
use Rattle.protocol.specs.Steps.{World, whole_call, no_station, no_batch}

-- how many of the stations below n a set has
abbrev pub size : (ℕ → Bool) → ℕ → ℕ
size s n = elim n [ zero ↦ 0 | suc (m → k) ↦ cond (s m) 1 0 + k ]

-- each number that a rule gives is one of 32 bits
abbrev pub Of32Bits : Outcome → Type 0
Of32Bits o = (o.amount < 2 ^ 32) × (o.figure < 2 ^ 32) × (o.carry < 2 ^ 32)

-- the laws that the terms of a hall keep, each part for itself
pub record Lawful (d : Terms) : Type 0 where
  -- the table: at least one station may be faulty, a majority never is, and no more are than may be
  pub some_fault : 1 ≤ d.t
  pub majority : 2 * d.t + 1 ≤ d.n
  pub few_stations : d.n ≤ 16
  pub few_faulty : size d.faulty d.n ≤ d.t
  -- the policy, up to number 20,000: a committee has t + 1 members, and for any t stations
  -- every turn has a committee without them
  pub some_turn : 1 ≤ d.turn
  pub short_turn : d.turn ≤ 20000
  pub full : (c : ℕ) → c ≤ 20000 → size (d.seats c) d.policy_n ≡ d.policy_t + 1
  pub covers : (s : ℕ → Bool) → size s d.policy_n ≤ d.policy_t → (a : ℕ) → a + d.turn ≤ 20001
      → (c : ℕ) × (a ≤ c) × (c < a + d.turn) × ((i : ℕ) → i < d.policy_n → d.seats c i ≡ true → s i ≡ false)
  -- lawful batches: an idle station's numbers are none, and growers are of 32 bits
  pub never_idle : d.lawful no_batch ≡ false
  pub growers : (b : Batch) → d.lawful b ≡ true → b.grower < 2 ^ 32
  -- the rule: from a carry of 32 bits, amount, figure and carry after of a lawful batch are of 32 bits
  pub fits : (carry : ℕ) (b : Batch) → carry < 2 ^ 32 → d.lawful b ≡ true → Of32Bits (d.rule carry b)
  -- the seal: the tag of a station from 0 to 15 on a statement of 24 bytes is of 64 bits
  pub tags : (i : ℕ) (s : List ℕ) → i < 16 → length s ≡ 24 → AllByRecursion (λ x. x < 256) s → d.tag i s < 2 ^ 64

-- every slot is empty
abbrev pub Empty : List Slot → Type 0
Empty pool = (f : ℕ) → (slice_index_or pool f no_slot).len ≡ 0

-- a hall just made whose policy and table agree in n and t
pub record New (d : Terms) (w : World) : Type 0 where
  pub one_n : d.policy_n ≡ d.n
  pub one_t : d.policy_t ≡ d.t
  pub idle : w.stations ≡ replicate 16 no_station
  pub empty : Empty w.pool

-- the histories that calls on a new hall can leave, with the world after them
pub data Run (d : Terms) (intake : List Batch) (start : World) : History → World → Type 0 where
  fresh : Run d intake start [] start
  -- any call, with the hall's buffers
  called : {h : History} {w : World} → Run d intake start h w → (c : Call)
      → Run d intake start (record { call = c; answer = (whole_call d intake c w).1; pool = (whole_call d intake c w).0.pool } ∷ h) (whole_call d intake c w).0
  -- a call that brings other buffers and is refused 6 or 7 on them; the hall's own stay as they are
  strayed : {h : History} {w : World} → Run d intake start h w → (c : Call) (other : List Batch) (v : World) (x : Fault)
      → v.stations ≡ w.stations → (whole_call d other c v).1 ≡ Err x → (number_of x.refusal ≡ 6) ⊎ (number_of x.refusal ≡ 7)
      → Run d intake start (record { call = c; answer = Err x; pool = w.pool } ∷ h) w

-- what one hall owes: after any list of calls on it, from its making on, the law holds
abbrev pub Owes : Terms → Type 0
Owes d = (intake : List Batch) (start : World) → New d start → (h : History) (w : World) → Run d intake start h w → Law d intake w.books h

-- the claim: a hall of lawful terms never breaks agreement, progress or laziness
abbrev pub Agreement : Type 0
Agreement = (d : Terms) → Lawful d → Owes d
