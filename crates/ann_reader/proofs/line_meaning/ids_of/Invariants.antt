use Rattle.std.proofs.Common.{◌≡◌, ◌++◌, drop}
use Rattle.std.specs.Prelude.{map, option_map}
use Rattle.mark_base.specs.ReadIds.{id_read}
use Rattle.ann_reader.specs.Words.{all_of}
use Rattle.ann_reader.specs.FormShows.{seen_text}
use Rattle.ann_reader.proofs.line_meaning.ids_of.Given as goal

abbrev pub invariant-loop-word : goal.invariant-loop-word
invariant-loop-word l =
    all_of (map id_read (map seen_text l.words)) ≡ option_map (λ more. l.ids.items ++ more) (all_of (map id_read (map seen_text (drop l.word-index l.words))))
