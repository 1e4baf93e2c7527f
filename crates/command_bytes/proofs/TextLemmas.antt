-- Texts in the maps of a layer.
use Rattle.std.proofs.Common.{◌≡◌, ℕ, List, sym}
use Rattle.std.specs.List.{AllByRecursion}
use Rattle.layer_model.specs.Annotations.{Annotations}
use Rattle.layer_model.specs.declared.normal.Normal.{Normal}
use Rattle.layer_model.specs.declared.note.Note.{Note}
use Rattle.ann_writer.specs.Writable.{HasTexts, NormalTexts, NoteTexts}
use Rattle.ann_writer.proofs.MarkSteps.{of_all}
use Rattle.std.specs.FinMap as finite

pub has_texts : (layer : Annotations) → AllByRecursion (λ (e : ℕ × Normal). NormalTexts e.1) (finite.entries layer.normals) → AllByRecursion (λ (e : ℕ × Note). NoteTexts e.1) (finite.entries layer.notes) → HasTexts layer
has_texts layer normals notes = record { normals = of_all NormalTexts layer.normals normals; notes = of_all NoteTexts layer.notes notes }
