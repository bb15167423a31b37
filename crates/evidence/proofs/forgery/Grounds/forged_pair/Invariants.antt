use Rattle.std.proofs.Common.{◌≡◌, false, take}
use Rattle.std.specs.List.{list_any}
use Rattle.evidence.specs.Forgery.{faulty_in, step_begins, unforged}
use Rattle.evidence.proofs.Search.{from}
use Rattle.evidence.proofs.forgery.Grounds.forged_pair.Given as goal

abbrev pub invariant-pairs : goal.invariant-pairs
invariant-pairs g l =
    let good = unforged (faulty_in l.self.table.now) (g.S.Check.tag l.self.seal.now) l.f l.self.pool.now in
    from good 0 l.pairs ≡ from good l.k l.pairs

abbrev pub invariant-loop-slot : goal.invariant-loop-slot
invariant-loop-slot g l = list_any (step_begins l.statement) (take l.slot-index l.self.pool.now) ≡ false
