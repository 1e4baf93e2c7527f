use Rattle.std.proofs.Common.{◌∙◌, ap}
use Rattle.layer_model.specs.Annotations.{Annotations}
use Rattle.checkpoint.specs.declared.so_far.Part.{Part}
use Rattle.checkpoint.specs.declared.so_far.SoFar.{SoFar}
use Rattle.checkpoint.specs.Reading.{with_layer}
use Rattle.checkpoint.proofs.row_pieces.read_layer.Goals as goal

pub returns : goal.returns
returns c =
    let so = c.args.so_far in
    let taken = rw c.in-Some.is at c.in_ok-layer.ensures.found in
    let same = c.with_layer.ensures ∙ ap (λ (l : Annotations). with_layer so.part l) c.in_ok-layer-2.ensures.ok in
    (c.in-Some.layer, taken, ap (λ (p : Part). let o : SoFar = record { state = so.state; texts = so.texts; room = so.room; shots = so.shots; part = p } in o) same)
