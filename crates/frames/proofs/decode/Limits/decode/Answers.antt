use Rattle.frames.proofs.Numbers.{bytes_from}
use Rattle.frames.proofs.Bothways.{both_ways}
use Rattle.frames.proofs.decode.Limits.decode.Goals as goal

pub returns-clause-both : goal.returns-clause-both
returns-clause-both c =
    let s = c.args.self.now in
    both_ways s.stations s.faults s.batches c.args.bytes.now (bytes_from c.args.bytes.now (λ i. (c.type_inv.bytes i).fits))
