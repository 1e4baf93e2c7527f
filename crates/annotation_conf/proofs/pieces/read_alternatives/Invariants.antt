use Rattle.std.proofs.Common.{◌≡◌, ◌++◌, drop}
use Rattle.std.specs.Prelude.{map}
use Rattle.conf_model.specs.ConfPairs.{alternative_of}
use Rattle.annotation_conf.specs.FileShows.{seen_alternative}
use Rattle.annotation_conf.proofs.pieces.read_alternatives.Given as goal

abbrev pub invariant-loop-part : goal.invariant-loop-part
invariant-loop-part l =
    map seen_alternative l.all.items ++ map alternative_of (map (λ part. part.now) (drop l.part-index l.part-items)) ≡ map alternative_of (map (λ part. part.now) l.part-items)
