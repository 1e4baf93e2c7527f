use Rattle.std.proofs.Common.{◌≡◌, drop}
use Rattle.std.specs.Prelude.{map}
use Rattle.std.specs.List.{list_any}
use Rattle.ann_reader.specs.LineIds.{has_no_letter}
use Rattle.ann_reader.specs.FormShows.{seen_id_word}
use Rattle.ann_reader.proofs.line_ids.some_without_letter.Given as goal

abbrev pub invariant-loop-id_word : goal.invariant-loop-id_word
invariant-loop-id_word l = list_any has_no_letter (map seen_id_word (drop l.id_word-index l.id_words)) ≡ list_any has_no_letter (map seen_id_word l.id_words)
