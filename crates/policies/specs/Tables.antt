-- The tables in plain numbers, and what adding and locking answer.
use Rattle.std.specs.Prelude.{ℕ, ◌+◌, ◌*◌, cond, ◌||◌, List, replicate, Ok, Err, Result, nat_le, nat_lt, slice_set}
use Rattle.base.specs.declared.fault.Fault.{Fault}
use Rattle.base.specs.declared.refusal.Refusal.TheVariants.{TableFull, UnknownMark, WrongThreshold, TooManyFaulty}
use Rattle.base.specs.Refusals.{fault_at}
use Rattle.policies.specs.declared.table.OpenTable.{OpenTable}
use Rattle.policies.specs.declared.table.Locked.{Locked}
use Rattle.policies.specs.Sound.{faulty}

-- an open table in plain numbers; station i has mark i
pub record PlainOpen : Type 0 where
  pub n : ℕ
  pub marks : List ℕ

-- a locked table in plain numbers
pub record PlainLocked : Type 0 where
  pub n : ℕ
  pub t : ℕ
  pub marks : List ℕ

abbrev pub open_plain : OpenTable → PlainOpen
open_plain o = record { n = o.n; marks = o.marks }

abbrev pub locked_plain : Locked → PlainLocked
locked_plain l = record { n = l.n; t = l.t; marks = l.marks }

-- a refusal: the open table that comes back, and why
abbrev pub handed_back : OpenTable × Fault → PlainOpen × Fault
handed_back e = (open_plain e.0, e.1)

abbrev pub empty : PlainOpen
empty = record { n = 0; marks = replicate 16 0 }

abbrev pub adding : PlainOpen → ℕ → Result PlainOpen (PlainOpen × Fault)
adding o mark =
    cond (nat_le 16 o.n) (Err (o, fault_at TableFull 0))
    (cond (nat_lt 1 mark) (Err (o, fault_at UnknownMark 0)) (Ok (record { n = o.n + 1; marks = slice_set o.marks o.n mark })))

abbrev pub locking : PlainOpen → ℕ → Result PlainLocked (PlainOpen × Fault)
locking o t =
    cond ((nat_lt t 1 || nat_lt 7 t) || nat_lt o.n (2 * t + 1)) (Err (o, fault_at WrongThreshold 0))
    (cond (nat_lt t (faulty o.n o.marks)) (Err (o, fault_at TooManyFaulty 0)) (Ok (record { n = o.n; t = t; marks = o.marks })))
