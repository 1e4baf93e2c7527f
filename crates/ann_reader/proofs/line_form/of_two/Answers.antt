use Rattle.std.proofs.Common.{◌≡◌, ◌∙◌, ◌&&◌, not, sym, ap, subst}
use Rattle.std.specs.Prelude.{IfOk}
use Rattle.ann_reader.specs.Lines.{has_tab, behind_tab}
use Rattle.ann_reader.specs.LineForms.{Form}
use Rattle.ann_reader.specs.FormShows.{seen_form}
use Rattle.ann_reader.proofs.FieldLemmas.{tab_in, no_tab, two_good, two_bad}
use Rattle.ann_reader.proofs.line_form.of_two.Goals as goal

pub returns-else-has_tab : goal.returns-else-has_tab
returns-else-has_tab c =
    let short = c.without_end.result.now in
    subst (λ (f : Form). IfOk c.two_form.result (λ form. seen_form form ≡ f))
    (two_good c.args.byte c.before-else-has_tab.result.now c.in-Some.second.now short c.args.line.now c.without_end.ensures c.before-else-has_tab.ensures c.in-Some.ensures.2 (tab_in short c.in-Some.ensures.0) (sym c.has_tab.ensures ∙ c.if-has_tab.false))
    c.two_form.ensures

pub returns-then-has_tab : goal.returns-then-has_tab
returns-then-has_tab c =
    let short = c.without_end.result.now in
    two_bad c.args.byte short c.args.line.now c.without_end.ensures
    (ap (λ t. t && not (has_tab (behind_tab short))) (tab_in short c.in-Some.ensures.0) ∙ ap not (ap has_tab (sym c.in-Some.ensures.2) ∙ sym c.has_tab.ensures ∙ c.if-has_tab.true))

pub returns-in-None : goal.returns-in-None
returns-in-None c =
    let short = c.without_end.result.now in
    two_bad c.args.byte short c.args.line.now c.without_end.ensures (ap (λ t. t && not (has_tab (behind_tab short))) (no_tab short c.in-None.ensures))
