use Rattle.std.proofs.Common.{◌≡◌, ◌≤◌, [], take, length}
use Rattle.std.specs.List.{filter_map, fold}
use Rattle.layer_model.specs.Classes.{joined}
use Rattle.layer_model.specs.Layers.{with_classes}
use Rattle.curator_decisions.specs.Placing.{class_at}
use Rattle.curator_decisions.proofs.building.join_classes.Given as goal

abbrev pub invariant-loop-class : goal.invariant-loop-class
invariant-loop-class l = record {
  layer : l.layer ≡ with_classes l.initial.layer (fold (λ classes class. joined class.kind class.members classes) [] (filter_map (class_at l.names) (take l.class-index l.classes)));
  few : length l.layer.classes ≤ l.class-index;
}
