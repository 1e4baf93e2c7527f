use Rattle.std.proofs.Common.{◌≡◌, drop, find}
use Rattle.std.specs.Prelude.{false}
use Rattle.std.specs.Option.{option_map_or}
use Rattle.layer_model.specs.Layers.{mark_at}
use Rattle.layer_core.specs.CommandRules.{attribute_on, is_attribute_on}
use Rattle.layer_core.proofs.first_annotation.attribute_on.Given as goal

abbrev pub invariant-loop-id : goal.invariant-loop-id
invariant-loop-id l = find (λ other. option_map_or (is_attribute_on l.kind.n l.target) (mark_at l.layer other) false) (drop l.id-index l.namers) ≡ attribute_on l.layer l.kind.n l.target
