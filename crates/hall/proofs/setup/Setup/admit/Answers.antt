use Rattle.std.proofs.Common.{sym, ◌∙◌, arith}
use Rattle.hall.specs.Join.{terms}
use Rattle.hall.proofs.Lawful.{sound_table}
use Rattle.protocol.proofs.Passed.{passing_ok}
use Rattle.hall.proofs.Ranges.{few_batches, entries_fit}
use Rattle.hall.proofs.setup.Setup.admit.Goals as goal

pub overflow_mul-entries : goal.overflow_mul-entries
overflow_mul-entries g c =
    let j = c.args.self.now in
    let table = sound_table j.table.n j.table.t j.table.marks j.table.ok in
    let few = table.few in
    let d = terms g.R.Rule g.P.Policy g.S.Check j in
    let held = c.in_range.ensures in
    let short = few_batches d (sym held ∙ (passing_ok _ _ _ _ (sym c.in_ok-ensure.ensures)).0) in
    let n = c.stations.ensures in
    omega (arith, entries_fit c.stations.result j.batches (omega arith) short)
