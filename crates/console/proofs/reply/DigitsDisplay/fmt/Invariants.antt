use Rattle.std.proofs.Common.{◌++◌, length, take}
use Rattle.std.specs.Prelude.{codes}
use Rattle.std.specs.Fmt.{HasWritten, IsPlainFormatter, decimal}
use Rattle.std.specs.List.{flat_map}
use Rattle.std.proofs.Math.Utf8.{encode}
use Rattle.console.proofs.reply.DigitsDisplay.fmt.Given as goal

abbrev pub invariant-loop-digit : goal.invariant-loop-digit
invariant-loop-digit g l = IsPlainFormatter l.fn.f → HasWritten g.W.Write.write_str_gives l.fn.f ((decimal (length l.fn.self.0.items) ++ codes " ") ++ flat_map encode (take l.digit-index l.digit-items)) l.f
