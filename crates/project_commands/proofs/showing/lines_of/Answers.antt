use Rattle.std.proofs.Common.{List, ℕ, subst, sym}
use Rattle.std.specs.Arc.{arc_value}
use Rattle.conf_model.specs.Configurations.{Configuration}
use Rattle.layer_model.specs.Annotations.{Annotations}
use Rattle.ann_reader.specs.AnnFiles.{IsAnn}
use Rattle.project_commands.proofs.showing.lines_of.Goals as goal

pub returns-clause-again : goal.returns-clause-again
returns-clause-again c =
    let read = c.args.read.now in
    let lines = c.in_ok-lines.lines in
    let conf = c.deref-3.result.now in
    let text = c.deref-2.result.now in
    let written : IsAnn conf text lines c.deref.result.now = subst (λ (bytes : List ℕ). IsAnn conf text bytes c.deref.result.now) (sym c.in_ok-lines.ensures.lines) c.in_ok-lines.ensures.again in
    let of_layer : IsAnn conf text lines (arc_value read.layer) = subst (λ (layer : Annotations). IsAnn conf text lines layer) c.deref.ensures written in
    let on_text : IsAnn conf (arc_value read.doc) lines (arc_value read.layer) = subst (λ (doc : List ℕ). IsAnn conf doc lines (arc_value read.layer)) c.deref-2.ensures of_layer in
    subst (λ (by : Configuration). IsAnn by (arc_value read.doc) lines (arc_value read.layer)) c.deref-3.ensures on_text
