use Rattle.std.proofs.Common.{rules}
use Rattle.console.proofs.Values.{garbled, number_read}
use Rattle.console.proofs.words.number.Goals as goal

pub returns-in_err-ok : goal.returns-in_err-ok
returns-in_err-ok c = search (rules, garbled c.args.word.now)

pub returns : goal.returns
returns c = search (rules, number_read c.in_ok-ok.field-0.now c.parse.result c.parse.ensures.value.0)
