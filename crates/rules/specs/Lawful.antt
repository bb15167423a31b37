-- When a batch is lawful.
use Rattle.std.specs.Prelude.{Bool, ◌&&◌, nat_le}
use Rattle.base.specs.declared.book.Batch.{Batch}

abbrev pub lawful : Batch → Bool
lawful b =
    nat_le 1 b.grower && (nat_le b.grower 9999999 && (nat_le 1 b.fruit && (nat_le b.fruit 30000 && nat_le b.oil 9000000)))
