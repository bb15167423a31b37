-- Worked examples as one table: what each row says, and a test that tells whether it holds.
use Rattle.std.specs.Prelude.{◌≡◌, ℕ, zero, suc, Bool, true, false, cond, ◌&&◌, List, [], ◌∷◌, ◌++◌, replicate, Ok, Err, Result, ◌==◌}
use Rattle.std.specs.List.{AllByRecursion}
use Rattle.base.specs.declared.book.Batch.{Batch}
use Rattle.base.specs.declared.fault.Fault.{Fault}
use Rattle.base.specs.Refusals.{number_of}
use Rattle.rules.specs.declared.rule.Outcome.{Outcome}
use Rattle.rules.specs.Lawful.{lawful}
use Rattle.rules.specs.Oil.{oil_outcome}
use Rattle.rules.specs.Levy.{levy_outcome}
use Rattle.policies.specs.Tables.{PlainOpen, PlainLocked, locking}
use Rattle.policies.specs.Rotating.{rotating_seats, rotating_turn, rotating_of}
use Rattle.policies.specs.Masks.{full_seats}
use Rattle.seals.specs.Keyed.{keyed_tag}
use Rattle.frames.specs.Slots.{no_slot}
use Rattle.protocol.specs.Law.{Terms, Call, Marks, opening, delivery, ringing}
use Rattle.protocol.specs.Steps.{World, no_station, no_entry}
use Rattle.protocol.specs.Three.{play}

-- an open table of n correct stations, and a locked one
abbrev pub table_of : ℕ → PlainOpen
table_of n = record { n = n; marks = replicate 16 0 }

abbrev pub locked_of : ℕ → ℕ → PlainLocked
locked_of n t = record { n = n; t = t; marks = replicate 16 0 }

abbrev pub bit : Bool → ℕ
bit b = cond b 1 0

-- the number of the refusal, 0 where there is none
abbrev pub refusal_of : {A B : Type 0} → (B → Fault) → Result A B → ℕ
refusal_of f (Ok x) = 0
refusal_of f (Err e) = number_of (f e).refusal

-- the stations below n that pass a test, the highest first
abbrev pub who : (ℕ → Bool) → ℕ → List ℕ
who f zero = []
who f (suc n) = cond (f n) (n ∷ who f n) (who f n)

-- an answer in four numbers: the marks reselected, proposed and decided, and the number of the refusal or 0
abbrev pub said : Result Marks Fault → List ℕ
said (Ok m) = bit m.0 ∷ bit m.1 ∷ bit m.2 ∷ 0 ∷ []
said (Err x) = 0 ∷ 0 ∷ 0 ∷ number_of x.refusal ∷ []

abbrev pub all_said : List (Result Marks Fault) → List ℕ
all_said [] = []
all_said (a ∷ rest) = said a ++ all_said rest

-- one worked example
pub data Example : Type 0 where
  -- the oil rule gives this outcome from a carry and a batch
  oil : ℕ → Batch → Outcome → Example
  -- the levy rule does
  levy : ℕ → Batch → Outcome → Example
  -- the rotating policy for n and t seats these stations in committee c, the highest first
  rotates : ℕ → ℕ → ℕ → List ℕ → Example
  -- the full policy does
  fills : ℕ → ℕ → ℕ → List ℕ → Example
  -- building a rotating policy on a locked table of n and t is refused with this number, or not at all at 0
  builds : ℕ → ℕ → ℕ → Example
  -- locking n correct stations for t is
  locks : ℕ → ℕ → ℕ → Example
  -- calls in a row on a hall are answered so, four numbers a call: the three marks and the refusal
  plays : Terms → List Batch → World → List Call → List ℕ → Example

-- what an example says
abbrev pub Holds : Example → Type 0
Holds (oil c b o) = oil_outcome c b ≡ o
Holds (levy c b o) = levy_outcome c b ≡ o
Holds (rotates n t c l) = who (rotating_seats n t c) n ≡ l
Holds (fills n t c l) = who (full_seats n t c) n ≡ l
Holds (builds n t k) = refusal_of (λ f. f) (rotating_of (locked_of n t)) ≡ k
Holds (plays d intake w calls l) = all_said (play d intake calls w) ≡ l
Holds (locks n t k) = refusal_of (λ e. e.1) (locking (table_of n) t) ≡ k

abbrev pub same_outcome : Outcome → Outcome → Bool
same_outcome a b = a.amount == b.amount && (a.figure == b.figure && a.carry == b.carry)

abbrev pub same_list : List ℕ → List ℕ → Bool
same_list [] [] = true
same_list [] (y ∷ ys) = false
same_list (x ∷ xs) [] = false
same_list (x ∷ xs) (y ∷ ys) = x == y && same_list xs ys

-- whether it holds
abbrev pub passes : Example → Bool
passes (oil c b o) = same_outcome (oil_outcome c b) o
passes (levy c b o) = same_outcome (levy_outcome c b) o
passes (rotates n t c l) = same_list (who (rotating_seats n t c) n) l
passes (fills n t c l) = same_list (who (full_seats n t c) n) l
passes (builds n t k) = refusal_of (λ f. f) (rotating_of (locked_of n t)) == k
passes (plays d intake w calls l) = same_list (all_said (play d intake calls w)) l
passes (locks n t k) = refusal_of (λ e. e.1) (locking (table_of n) t) == k

abbrev pub all_pass : List Example → Bool
all_pass [] = true
all_pass (x ∷ xs) = passes x && all_pass xs

abbrev pub batch : ℕ → ℕ → ℕ → Batch
batch grower fruit grams = record { grower = grower; fruit = fruit; oil = grams }

abbrev pub gives : ℕ → ℕ → ℕ → Outcome
gives amount figure carry = record { amount = amount; figure = figure; carry = carry }

-- three stations of which station 0 is faulty, the oil rule, rotating committees, keyed tags, one batch and eight slots
abbrev pub three : Terms
three = record {
  n = 3;
  t = 1;
  faulty = λ i. (i == 0);
  policy_n = 3;
  policy_t = 1;
  turn = rotating_turn 1;
  seats = rotating_seats 3 1;
  lawful = lawful;
  rule = oil_outcome;
  tag = keyed_tag (7 ∷ 8 ∷ 9 ∷ []);
  batches = 1;
  slots = 8;
}

abbrev pub new_hall : World
new_hall = record { stations = replicate 16 no_station; pool = replicate 8 no_slot; books = replicate 3 no_entry }

abbrev pub examples : List Example
examples =
    oil 0 (batch 4711 500 93400) (gives 93 1860 400)
    ∷ oil 400 (batch 12 300 600) (gives 1 33 0)
    ∷ levy 199900 (batch 1 250 0) (gives 2550 150 200150)
    ∷ rotates 3 1 2 (2 ∷ 0 ∷ [])
    ∷ fills 4 1 3 (3 ∷ 0 ∷ [])
    ∷ fills 4 1 6 (1 ∷ 0 ∷ [])
    ∷ builds 6 2 5
    ∷ builds 7 2 0
    ∷ locks 4 2 3
    ∷ locks 3 1 0
    ∷ plays three (batch 4711 500 93400 ∷ []) new_hall
    (opening 1 ∷ opening 2 ∷ ringing 1 ∷ delivery 2 1 ∷ delivery 1 3 ∷ delivery 2 0 ∷ ringing 1 ∷ [])
    (0 ∷ 1 ∷ 0 ∷ 0 ∷ 0 ∷ 0 ∷ 0 ∷ 0 ∷ 1 ∷ 0 ∷ 0 ∷ 0 ∷ 1 ∷ 1 ∷ 0 ∷ 0 ∷ 0 ∷ 0 ∷ 1 ∷ 0 ∷ 0 ∷ 0 ∷ 1 ∷ 0 ∷ 0 ∷ 0 ∷ 0 ∷ 14 ∷ [])
    ∷ []

-- every example of the table holds
abbrev pub AllHold : Type 0
AllHold = AllByRecursion Holds examples
