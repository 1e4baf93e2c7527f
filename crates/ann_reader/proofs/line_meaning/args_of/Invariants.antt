use Rattle.std.proofs.Common.{◌≡◌, ◌++◌, drop}
use Rattle.std.specs.Prelude.{map, option_map}
use Rattle.ann_reader.specs.LineMeanings.{args_of}
use Rattle.ann_reader.specs.FormShows.{seen_pair}
use Rattle.ann_reader.proofs.line_meaning.args_of.Given as goal

abbrev pub invariant-loop-pair : goal.invariant-loop-pair
invariant-loop-pair l =
    args_of l.conf l.kind (map seen_pair l.pairs) ≡ option_map (λ more. l.args.items ++ more) (args_of l.conf l.kind (map seen_pair (drop l.pair-index l.pairs)))
