use Rattle.std.proofs.Common.{◌≡◌, ◌++◌, take}
use Rattle.std.specs.Prelude.{string_bytes}
use Rattle.std.specs.List.{flat_map}
use Rattle.demo_project.specs.Summary.{pair_text}
use Rattle.demo_project.proofs.figures.push_pairs.Given as goal

abbrev pub invariant-loop-pair : goal.invariant-loop-pair
invariant-loop-pair l = string_bytes l.lines ≡ string_bytes l.initial.lines ++ flat_map (pair_text l.names) (take l.pair-index l.pairs)
