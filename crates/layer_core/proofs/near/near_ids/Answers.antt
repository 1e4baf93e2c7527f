use Rattle.std.proofs.Common.{◌∙◌, ap}
use Rattle.std.specs.List.{count_by, insert}
use Rattle.layer_core.specs.Near.{is_below}
use Rattle.layer_core.proofs.NearIdLemmas.{placed}
use Rattle.layer_core.proofs.near.near_ids.Goals as goal

pub returns : goal.returns
returns c =
    c.in_ok-insert.ensures.items
    ∙ ap (λ n. insert c.in_ok-ids.ids.items n c.args.id) (c.count_below-place.ensures.count ∙ ap (count_by (is_below c.args.id)) c.deref.ensures.value)
    ∙ placed c.args.layer.now c.keeps.ensures c.args.id c.requires.there c.in_ok-ids.ids.items c.in_ok-ids.ensures
