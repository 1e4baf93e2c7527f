use Rattle.std.proofs.Common.{◌≡◌, true, ap, ◌∙◌, sym, subst, Option, option_map}
use Rattle.std.specs.Option.{IfSome}
use Rattle.mark_base.specs.declared.ann_id.AnnId.{AnnId}
use Rattle.mark_base.specs.declared.ann_id.Kind.{Kind}
use Rattle.layer_model.specs.declared.mark.Mark.{Mark}
use Rattle.layer_model.specs.Annotations.{Annotations, no_marks}
use Rattle.layer_model.specs.Layers.{is_of_kind, with_mark}
use Rattle.curator_decisions.specs.declared.numbering.NumberedEntry.{NumberedEntry}
use Rattle.curator_decisions.specs.Placing.{letter_of_entry, taken_at}
use Rattle.curator_decisions.proofs.BuildLemmas.{fold_none, fold_one}
use Rattle.curator_decisions.proofs.building.taken_layer.Goals as goal
use Rattle.curator_decisions.proofs.building.taken_layer.Goals.{in-Some+in_ok-put_over, in_default}

pub put_over-requires : goal.put_over-requires
put_over-requires c =
    let one = c.one-item.result in
    let P : NumberedEntry → Type 0 = λ x. x.id.kind ≡ letter_of_entry x.entry in
    let letter : one.id.kind ≡ letter_of_entry one.entry = subst P (sym c.one-item.is) (c.requires c.loop-one.one-index one c.loop-one-test.true) in
    let Q : Option Mark → Type 0 = λ o. IfSome o (λ m. is_of_kind (letter_of_entry one.entry) m ≡ true) in
    ap (λ (k : Kind). is_of_kind k c.in-Some.mark) letter ∙ subst Q c.in-Some.is c.in_ok-mark.ensures.fits

pub loop-one-preserved : goal.loop-one-preserved
loop-one-preserved c =
    let all = c.args.all.now in
    let snapshot = c.args.snapshot.now in
    let numbered = c.args.numbered.now in
    let put : Annotations → AnnId × Mark → Annotations = λ layer entry. with_mark layer entry.0 entry.1 in
    let i = c.loop-one.one-index in
    let one = c.one-item.result in
    let named : Option Mark → Option (AnnId × Mark) = option_map (λ m. (one.id, m)) in
    elim c.match-branch-2.branch [
      | in-Some+in_ok-put_over w ↦
          fold_one (taken_at snapshot all) put no_marks numbered i one c.loop-one-test.true c.one-item.is (one.id, w.in-Some.mark) (sym c.in_ok-mark.ensures.mark ∙ ap named w.in-Some.is) c.loop-one.layer c.match-branch-2.layer c.loop-one.invariant
          (w.layer-is ∙ w.in_ok-put_over.ensures)
      | in_default w ↦ w.layer-is ∙ fold_none (taken_at snapshot all) put no_marks numbered i one c.loop-one-test.true c.one-item.is (sym c.in_ok-mark.ensures.mark ∙ ap named w.in_default.is) c.loop-one.layer c.loop-one.invariant
    ]
