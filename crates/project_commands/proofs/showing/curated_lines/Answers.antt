use Rattle.std.proofs.Common.{List, ℕ, subst, sym}
use Rattle.std.specs.Arc.{arc_value}
use Rattle.conf_model.specs.Configurations.{Configuration}
use Rattle.layer_model.specs.Annotations.{Annotations}
use Rattle.ann_reader.specs.AnnFiles.{IsAnn}
use Rattle.project_state.specs.Values.{view_of}
use Rattle.http_answers.specs.Answers.Answers.{curated_layer}
use Rattle.project_commands.proofs.showing.curated_lines.Goals as goal

pub returns-clause-again : goal.returns-clause-again
returns-clause-again c =
    let view = c.args.view.now in
    let lines = c.in_ok-lines.lines in
    let conf = c.deref-2.result.now in
    let text = c.deref.result.now in
    let written : IsAnn conf text lines c.in_ok-layer.layer = subst (λ (bytes : List ℕ). IsAnn conf text bytes c.in_ok-layer.layer) (sym c.in_ok-lines.ensures.lines) c.in_ok-lines.ensures.again in
    let of_layer : IsAnn conf text lines (curated_layer (view_of view)) = subst (λ (layer : Annotations). IsAnn conf text lines layer) c.in_ok-layer.ensures written in
    let on_text : IsAnn conf (arc_value view.doc) lines (curated_layer (view_of view)) = subst (λ (doc : List ℕ). IsAnn conf doc lines (curated_layer (view_of view))) c.deref.ensures of_layer in
    subst (λ (by : Configuration). IsAnn by (arc_value view.doc) lines (curated_layer (view_of view))) c.deref-2.ensures on_text
