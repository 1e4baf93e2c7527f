use Rattle.std.proofs.Common.{◌≡◌, drop}
use Rattle.std.specs.Prelude.{map}
use Rattle.ann_reader.specs.LineFaults.{first_unfit}
use Rattle.ann_reader.specs.FormShows.{seen_id_word}
use Rattle.ann_reader.proofs.line_fault.first_unfit.Given as goal

abbrev pub invariant-loop-id_word : goal.invariant-loop-id_word
invariant-loop-id_word l = first_unfit (map seen_id_word (drop l.id_word-index l.named)) ≡ first_unfit (map seen_id_word l.named)
