use Rattle.std.proofs.Common.{not, ap, ◌∙◌}
use Rattle.evidence.specs.Forgery.{faulty_in}
use Rattle.evidence.proofs.Search.{sender_bound, sender_unbound}
use Rattle.evidence.proofs.forgery.Grounds.is_sender_forged.Goals as goal

pub returns-then-is_bound : goal.returns-then-is_bound
returns-then-is_bound g c =
    sender_bound (faulty_in c.args.self.now.table.now) (g.S.Check.tag c.args.self.now.seal.now) c.args.f.now c.args.self.now.pool.now c.statement-statement.result c.statement-statement.ensures.is _
    c.if-is_bound.ensures (ap not c.is_issued.ensures)

pub returns-else-is_bound : goal.returns-else-is_bound
returns-else-is_bound g c =
    c.if-is_bound.false
    ∙ sender_unbound (faulty_in c.args.self.now.table.now) (g.S.Check.tag c.args.self.now.seal.now) c.args.f.now c.args.self.now.pool.now c.statement-statement.result c.statement-statement.ensures.is
    c.if-is_bound.ensures
