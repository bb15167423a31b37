use Rattle.std.proofs.Common.{rules}
use Rattle.frames.proofs.Reading.{read_unsized}
use Rattle.frames.proofs.line.check_length.Goals as goal
use Rattle.frames.proofs.line.check_length.Goals.{else-contains-via-then-contains+else-is_multiple_of, else-contains-via-else-contains}

pub returns-else-contains : goal.returns-else-contains
returns-else-contains c =
    read_unsized c.args.line.now c.new-else-contains.result c.new-else-contains.ensures
    (λ s. elim c.else-contains.branch [
      | else-contains-via-then-contains+else-is_multiple_of w ↦ let e = s.even in search rules
      | else-contains-via-else-contains w ↦ let l = s.low in let h = s.high in search rules
    ])
