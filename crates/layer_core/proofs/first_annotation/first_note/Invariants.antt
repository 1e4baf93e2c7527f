use Rattle.std.proofs.Common.{◌≡◌, false, find, drop}
use Rattle.std.specs.Option.{option_map_or}
use Rattle.mark_base.specs.declared.ann_id.Kind.TheVariants as letter
use Rattle.layer_model.specs.Layers.{mark_at}
use Rattle.layer_core.specs.MadeLayers.{is_note_on, lowest}
use Rattle.layer_core.proofs.first_annotation.first_note.Given as goal

abbrev pub invariant-loop-id : goal.invariant-loop-id
invariant-loop-id l = find (λ other. option_map_or (is_note_on l.kind l.target) (mark_at l.layer other) false) (drop l.id-index l.namers) ≡ lowest (is_note_on l.kind l.target) l.layer letter.Note
