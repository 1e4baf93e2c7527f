use Rattle.std.proofs.Common.{ℕ, sym, subst}
use Rattle.std.specs.List.{AllByRecursion}
use Rattle.std.specs.Ordering.{nat_cmp}
use Rattle.std.specs.FinMap as finite
use Rattle.layer_model.specs.declared.span.Span.{Span}
use Rattle.layer_model.specs.declared.event.Event.{Event}
use Rattle.layer_model.specs.declared.relation.Relation.{Relation}
use Rattle.layer_model.specs.declared.attribute.Attribute.{Attribute}
use Rattle.layer_model.specs.declared.normal.Normal.{Normal}
use Rattle.layer_model.specs.declared.note.Note.{Note}
use Rattle.ann_writer.specs.Writable.{HasRoles, LiesIn, NormalTexts, NoteTexts}
use Rattle.ann_writer.proofs.MarkSteps.{of_all}
use Rattle.ann_writer.proofs.WritableLemmas.{of_entries, always}
use Rattle.ann_writer.proofs.ann_file.ann_text.Goals as goal

pub push_all-requires : goal.push_all-requires
push_all-requires c =
    subst (λ (m : finite.FinMap nat_cmp Span). AllByRecursion (λ (e : ℕ × Span). LiesIn c.args.doc.now e.1) (finite.entries m)) (sym c.spans.ensures)
    (of_entries (LiesIn c.args.doc.now) c.args.layer.now.spans c.requires.spans)

pub push_all-requires-2 : goal.push_all-requires-2
push_all-requires-2 c =
    subst (λ (m : finite.FinMap nat_cmp Event). AllByRecursion (λ (e : ℕ × Event). HasRoles c.args.conf.now e.1) (finite.entries m)) (sym c.events.ensures)
    (of_entries (HasRoles c.args.conf.now) c.args.layer.now.events c.requires.events)

pub push_all-requires-3 : goal.push_all-requires-3
push_all-requires-3 c = always (λ (v : Relation). Unit {0}) _ (λ v. tt)

pub push_all-requires-4 : goal.push_all-requires-4
push_all-requires-4 c = always (λ (v : Attribute). Unit {0}) _ (λ v. tt)

pub push_all-requires-5 : goal.push_all-requires-5
push_all-requires-5 c = always (λ (v : Attribute). Unit {0}) _ (λ v. tt)

pub push_all-requires-6 : goal.push_all-requires-6
push_all-requires-6 c = always (λ (v : Normal). Unit {0}) _ (λ v. tt)

pub push_all-requires-7 : goal.push_all-requires-7
push_all-requires-7 c = always (λ (v : Note). Unit {0}) _ (λ v. tt)

pub returns-clause-texts : goal.returns-clause-texts
returns-clause-texts c = record {
  normals =
      of_all NormalTexts c.args.layer.now.normals
      (subst (λ (m : finite.FinMap nat_cmp Normal). AllByRecursion (λ (e : ℕ × Normal). NormalTexts e.1) (finite.entries m)) c.normals.ensures c.in_ok-push_all-6.ensures.told);
  notes =
      of_all NoteTexts c.args.layer.now.notes
      (subst (λ (m : finite.FinMap nat_cmp Note). AllByRecursion (λ (e : ℕ × Note). NoteTexts e.1) (finite.entries m)) c.notes.ensures c.in_ok-push_all-7.ensures.told);
}
