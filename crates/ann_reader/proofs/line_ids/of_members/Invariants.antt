use Rattle.std.proofs.Common.{◌≡◌, ◌++◌, drop}
use Rattle.std.specs.Prelude.{map}
use Rattle.ann_reader.specs.declared.id_letters.Letters.TheVariants.{Spans}
use Rattle.ann_reader.specs.LineIds.{of_letters}
use Rattle.ann_reader.specs.FormShows.{seen_text, seen_id_word}
use Rattle.ann_reader.proofs.line_ids.of_members.Given as goal

abbrev pub invariant-loop-word : goal.invariant-loop-word
invariant-loop-word l =
    map seen_id_word l.all.items ++ map (of_letters Spans) (map seen_text (drop l.word-index l.ids)) ≡ map (of_letters Spans) (map seen_text l.ids)
