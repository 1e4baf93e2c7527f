use Rattle.std.proofs.Common.{◌≡◌, ◌∙◌, List, ℕ, ap}
use Rattle.std.specs.Arc.{arc_value}
use Rattle.layer_model.specs.Annotations.{Annotations}
use Rattle.checkpoint.specs.declared.so_far.Part.{Part}
use Rattle.checkpoint.specs.declared.so_far.SoFar.{SoFar}
use Rattle.checkpoint.specs.Reading.{with_held_in}
use Rattle.checkpoint.proofs.shot_pieces.read_held.Goals as goal

pub returns : goal.returns
returns c =
    let so = c.args.so_far in
    let taken = rw c.in-Some.is at c.in_ok-layer.ensures.found in
    let next : c.in_ok-part.part ≡ with_held_in so.part c.in_ok-copy.field-0 (arc_value c.in_ok-layer-2.layer) = c.in_ok-part.ensures in
    let same = next
    ∙ (ap (λ (w : List ℕ). with_held_in so.part w (arc_value c.in_ok-layer-2.layer)) c.in_ok-copy.ensures ∙ ap (λ (l : Annotations). with_held_in so.part c.args.who.now l) c.in_ok-layer-2.ensures.ok) in
    (c.in-Some.layer, taken, ap (λ (p : Part). let o : SoFar = record { state = so.state; texts = so.texts; room = so.room; shots = so.shots; part = p } in o) same)
