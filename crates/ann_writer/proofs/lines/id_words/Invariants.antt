use Rattle.std.proofs.Common.{◌≡◌, map, take}
use Rattle.ann_writer.specs.Words.{id_word}
use Rattle.ann_writer.proofs.lines.id_words.Given as goal

abbrev pub invariant-loop-id : goal.invariant-loop-id
invariant-loop-id l = l.words.items ≡ map id_word (take l.id-index l.ids)
