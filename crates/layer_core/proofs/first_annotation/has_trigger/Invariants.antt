use Rattle.std.proofs.Common.{◌≡◌, false, drop}
use Rattle.std.specs.List.{list_any}
use Rattle.std.specs.Option.{option_map_or}
use Rattle.layer_model.specs.Layers.{mark_at}
use Rattle.layer_core.specs.Namers.{is_triggered_by}
use Rattle.layer_core.proofs.first_annotation.has_trigger.Given as goal

abbrev pub invariant-loop-id : goal.invariant-loop-id
invariant-loop-id l =
    list_any (λ other. option_map_or (is_triggered_by l.trigger) (mark_at l.layer other) false) (drop l.id-index l.ids)
    ≡ list_any (λ other. option_map_or (is_triggered_by l.trigger) (mark_at l.layer other) false) l.ids
