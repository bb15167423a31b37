-- A batch that is checked.
use Rattle.std.proofs.Common.{◌≡◌, true, Some, sym}
use Rattle.std.proofs.lemmas.Option.{cond_some}
use Rattle.base.specs.declared.book.Batch.{Batch}
use Rattle.rules.specs.Lawful.{lawful}
use Rattle.rules.specs.Plain.{checked_of}

-- a batch that is checked is lawful, and stays what it was
pub passes : (p b : Batch) → Some p ≡ checked_of b → (p ≡ b) × (lawful b ≡ true)
passes p b e = let s = cond_some (lawful b) b p (sym e) in (sym s.1, s.0)
