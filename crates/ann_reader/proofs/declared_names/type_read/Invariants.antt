use Rattle.std.proofs.Common.{◌≡◌, drop}
use Rattle.std.specs.List.{position_from}
use Rattle.type_hierarchy.specs.TypeTrees.{is_named}
use Rattle.ann_reader.proofs.declared_names.type_read.Given as goal

abbrev pub invariant-loop-n : goal.invariant-loop-n
invariant-loop-n l = position_from (is_named l.word) 0 l.conf.types ≡ position_from (is_named l.word) l.n (drop l.n l.conf.types)
