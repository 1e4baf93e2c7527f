use Rattle.std.proofs.Common.{◌≡◌, ◌++◌, ◌∷◌, drop}
use Rattle.std.specs.Prelude.{map}
use Rattle.ann_reader.specs.declared.id_letters.Letters.TheVariants.{Spans, SpansOrEvents}
use Rattle.ann_reader.specs.LineIds.{of_letters}
use Rattle.ann_reader.specs.FormShows.{seen_pair, seen_id_word}
use Rattle.ann_reader.proofs.line_ids.of_event.Given as goal

abbrev pub invariant-loop-pair : goal.invariant-loop-pair
invariant-loop-pair l =
    map seen_id_word l.all.items ++ map (λ pair. of_letters SpansOrEvents pair.target) (map seen_pair (drop l.pair-index l.pairs))
    ≡ of_letters Spans l.trigger ∷ map (λ pair. of_letters SpansOrEvents pair.target) (map seen_pair l.pairs)
