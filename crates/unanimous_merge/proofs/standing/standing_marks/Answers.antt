use Rattle.std.proofs.Common.{ap, ◌∙◌, map, ◌∷◌, []}
use Rattle.std.proofs.lemmas.List.{map-append}
use Rattle.unanimous_merge.specs.Rows.{having}
use Rattle.unanimous_merge.proofs.StandingLemmas.{places_within, standing_more}
use Rattle.unanimous_merge.proofs.standing.standing_marks.Goals as goal

pub marked_places-requires : goal.marked_places-requires
marked_places-requires c =
    places_within c.args.count c.args.rows.now c.requires c.loop-row.row-index c.row-item.result c.loop-row-test.true c.row-item.is c.as_slice.result.now c.as_slice.ensures.value c.as_slice-in-loop-row.result.now
    (c.as_slice-in-loop-row.ensures.value ∙ c.in_ok-places.ensures)

pub loop-row-preserved : goal.loop-row-preserved
loop-row-preserved c place =
    ap (λ rs. having place (map (λ row. row.items) rs)) c.in_ok-push.ensures.items
    ∙ ap (having place) (map-append (λ row. row.items) c.loop-row.standing.items (c.in_ok-has.has ∷ []))
    ∙ standing_more c.args.rows.now c.loop-row.row-index c.row-item.result c.loop-row-test.true c.row-item.is c.as_slice.result.now c.as_slice.ensures.value c.as_slice-in-loop-row.result.now
    (c.as_slice-in-loop-row.ensures.value ∙ c.in_ok-places.ensures) c.in_ok-has.has.items place (c.in_ok-has.ensures place) (map (λ row. row.items) c.loop-row.standing.items) (c.loop-row.invariant place)
