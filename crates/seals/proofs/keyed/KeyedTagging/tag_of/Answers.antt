use Rattle.std.proofs.Common.{rules}
use Rattle.seals.proofs.Words.{chunks_folded}
use Rattle.seals.proofs.keyed.KeyedTagging.tag_of.Goals as goal

pub returns : goal.returns
returns c =
    let e = chunks_folded c.in-Some.key.now c.args.statement.now c.told-statement in
    search rules
