use Rattle.std.proofs.Common.{◌≡◌, ℕ, List, [], ap, arith, get_or, length, sym}
use Rattle.layer_model.specs.Annotations.{Annotations, no_marks}
use Rattle.project_machine.specs.Entries.{held_piece}
use Rattle.project_book.proofs.StatePiecesProofs.RunLemmas.{get_or-same, one_each, told_each, told_more}
use Rattle.project_book.proofs.state_pieces.snapshots.put_held.Goals as goal

pub loop-place-preserved : goal.loop-place-preserved
loop-place-preserved c =
    let shot = c.args.snapshot.now in
    let k = c.loop-place.place in
    let size : length c.layers.result.now ≡ length shot.holders = ap (λ (hs : List (List ℕ × Annotations)). length hs) c.layers.ensures in
    told_more (one_each (held_piece c.args.state.now.state shot)) shot.holders c.args.run.now c.loop-place.run c.put_held_at.new.run k (get_or shot.holders k ([], no_marks)) (omega arith)
    (sym (get_or-same shot.holders k ([], no_marks) (omega arith))) c.loop-place.invariant c.in_ok-put_held_at.ensures

pub returns : goal.returns
returns c =
    let shot = c.args.snapshot.now in
    let size : length c.layers.result.now ≡ length shot.holders = ap (λ (hs : List (List ℕ × Annotations)). length hs) c.layers.ensures in
    told_each (held_piece c.args.state.now.state shot) shot.holders c.args.run.now c.loop-place.run c.loop-place.place (omega arith) c.loop-place.invariant
