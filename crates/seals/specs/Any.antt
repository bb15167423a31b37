-- A chosen seal has the tags of the seal that was chosen.
use Rattle.std.specs.Prelude.{ℕ, List, vec_items}
use Rattle.seals.specs.declared.any.AnySeal.{AnySeal}
use Rattle.seals.specs.declared.any.AnySeal.TheVariants.{ByKeys, BySheet}
use Rattle.seals.specs.Keyed.{keyed_tag}
use Rattle.seals.specs.Sheet.{sheet_tag}

abbrev pub any_tag : AnySeal → ℕ → List ℕ → ℕ
any_tag (ByKeys k) i l = keyed_tag k.keys i l
any_tag (BySheet s) i l = sheet_tag (vec_items s.words) i l
