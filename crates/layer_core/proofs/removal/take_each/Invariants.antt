use Rattle.std.proofs.Common.{◌≡◌, drop}
use Rattle.layer_core.specs.Backs.{AreTaken}
use Rattle.layer_core.specs.MadeLayers.{without_all}
use Rattle.layer_core.specs.Cascade.{HoldMembers}
use Rattle.layer_core.proofs.removal.take_each.Given as goal

abbrev pub invariant-loop-id : goal.invariant-loop-id
invariant-loop-id l = record {
  same : without_all l.layer (drop l.id-index l.ids) ≡ without_all l.initial.layer l.ids;
  held : HoldMembers l.held l.layer.classes;
  taken : AreTaken l.all.items l.layer l.initial.layer;
}
