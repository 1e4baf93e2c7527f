use Rattle.std.proofs.Common.{◌∙◌, sym, ap, length, arith}
use Rattle.annotation_conf.specs.FileShows.{seen_alternative}
use Rattle.annotation_conf.specs.BuildPlaces.{inserted, names_in, places_by}
use Rattle.annotation_conf.proofs.BuildOrder.{places_of_none}
use Rattle.annotation_conf.proofs.BuildHeld.{places_push}
use Rattle.annotation_conf.proofs.build_places.gather_places.Goals as goal

pub loop-one-init : goal.loop-one-init
loop-one-init c = c.new-set.ensures.empty ∙ sym (places_of_none (names_in c.args.known.now c.args.table))

pub loop-one-preserved : goal.loop-one-preserved
loop-one-preserved c =
    c.in_ok-insert_held.ensures
    ∙ ap (λ one. inserted c.loop-one.set.keys (places_by c.args.known.now c.args.table (length c.args.lists.now) (seen_alternative one))) c.one-item.is
    ∙ places_push c.args.known.now c.args.table (length c.args.lists.now) c.args.alternatives.now c.loop-one.one-index c.one-item.result c.loop-one.set.keys (omega arith) c.loop-one.invariant
