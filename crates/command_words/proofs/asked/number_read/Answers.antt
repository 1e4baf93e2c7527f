use Rattle.std.proofs.Common.{sym, ◌∙◌}
use Rattle.command_words.proofs.NumberLemmas.{word_read}
use Rattle.command_words.proofs.asked.number_read.Goals as goal

pub returns : goal.returns
returns c = word_read c.args.word.now c.parse.result c.ok.result (sym c.has_digits.ensures ∙ c.if-not-has_digits.false) c.parse.ensures.value.0 c.ok.ensures.value
