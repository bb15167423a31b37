-- The plain numbers of a checked batch, and what comes of making one.
use Rattle.std.specs.Prelude.{cond, Some, None, Option}
use Rattle.base.specs.declared.book.Batch.{Batch}
use Rattle.rules.specs.Lawful.{lawful}
use Rattle.rules.specs.declared.batch.Checked.{Checked}

abbrev pub plain : Checked → Batch
plain c = c.batch

abbrev pub checked_of : Batch → Option Batch
checked_of b = cond (lawful b) (Some b) None
