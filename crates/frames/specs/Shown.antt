-- What is printed of kinds, frames and slots.
use Rattle.std.specs.Prelude.{ℕ, ◌-◌, ◌^◌, cond, false, List, [], ◌++◌, length, codes}
use Rattle.std.specs.Fmt.{decimal, digits, padded_integral, format_spec}
use Rattle.std.specs.List.{flat_map}
use Rattle.base.specs.Shown.{entry_text}
use Rattle.frames.specs.declared.frame.Kind.{Kind}
use Rattle.frames.specs.declared.frame.Kind.TheVariants.{Propose, Decision, Reselect}
use Rattle.frames.specs.declared.frame.Pair.{Pair}
use Rattle.frames.specs.declared.frame.Pairs.{Pairs}
use Rattle.frames.specs.declared.frame.Frame.{Frame}
use Rattle.frames.specs.declared.slot.Slot.{Slot}
use Rattle.frames.specs.Typed.{listed}

abbrev pub kind_text : Kind → List ℕ
kind_text Propose = codes "propose"
kind_text Decision = codes "decision"
kind_text Reselect = codes "reselect"

-- hexadecimal digits with zeros in front, up to a width
abbrev pub hex_padded : ℕ → ℕ → List ℕ
hex_padded width n = padded_integral (format_spec 32 0 4 width (2 ^ 64 - 1)) false [] (digits 16 false n)

abbrev pub byte_text : ℕ → List ℕ
byte_text b = hex_padded 2 b

abbrev pub tag_text : ℕ → List ℕ
tag_text t = hex_padded 16 t

abbrev pub pair_text : Pair → List ℕ
pair_text p = codes "pair " ++ decimal p.station ++ codes " " ++ tag_text p.tag

-- each behind a blank
abbrev pub pairs_text : Pairs → List ℕ
pairs_text ps = flat_map (λ p. codes " " ++ pair_text p) (listed ps)

abbrev pub front_text : Frame → List ℕ
front_text x = kind_text x.kind ++ codes " sender " ++ decimal x.sender ++ codes " batch " ++ decimal x.batch ++ codes " number " ++ decimal x.number

abbrev pub back_text : Frame → List ℕ
back_text x = codes " pairs " ++ decimal (length (listed x.pairs)) ++ codes " entry " ++ entry_text x.entry ++ codes " tag " ++ tag_text x.tag ++ pairs_text x.pairs

abbrev pub frame_text : Frame → List ℕ
frame_text x = front_text x ++ back_text x

-- its length, who put it there, whether it was taken, and all of its bytes
abbrev pub slot_text : Slot → List ℕ
slot_text s = decimal s.len ++ codes " " ++ decimal s.by ++ codes " " ++ decimal (cond s.taken 1 0) ++ codes " " ++ flat_map byte_text s.bytes
