use Rattle.std.proofs.Common.{◌≡◌, ◌++◌, drop}
use Rattle.std.specs.Prelude.{map, option_map}
use Rattle.ann_reader.specs.LineForms.{pairs_read}
use Rattle.ann_reader.specs.FormShows.{seen_text, seen_pair}
use Rattle.ann_reader.proofs.pairs.pairs_read.Given as goal

abbrev pub invariant-loop-word : goal.invariant-loop-word
invariant-loop-word l =
    pairs_read (map seen_text l.words) ≡ option_map (λ more. map seen_pair l.pairs.items ++ more) (pairs_read (map seen_text (drop l.word-index l.words)))
