use Rattle.std.proofs.Common.{◌≡◌, ◌∙◌, ◌&&◌, ◌||◌, ◌==◌, [], sym, ap, subst, eq-eqb, ne_eqb}
use Rattle.std.specs.Prelude.{IfOk}
use Rattle.ann_reader.specs.Lines.{has_tab, first_field, behind_tab, without_return}
use Rattle.ann_reader.specs.LineForms.{Form}
use Rattle.ann_reader.specs.FormShows.{seen_form}
use Rattle.ann_reader.proofs.FieldLemmas.{tab_in, no_tab, all_first, none_behind, either, three_good, three_bad}
use Rattle.ann_reader.proofs.line_form.of_three.Goals as goal

pub returns-in-Some-cut : goal.returns-in-Some-cut
returns-in-Some-cut c =
    let rest = c.in-Some.rest.now in
    subst (λ (f : Form). IfOk c.three_form.result (λ form. seen_form form ≡ f))
    (three_good c.args.byte c.in-Some.first.now c.in-Some-cut.second.now c.without_return.result.now c.args.line.now c.in-Some.ensures.1
    (c.in-Some-cut.ensures.1 ∙ ap first_field c.in-Some.ensures.2)
    (c.without_return.ensures ∙ ap without_return (c.in-Some-cut.ensures.2 ∙ ap behind_tab c.in-Some.ensures.2))
    (tab_in c.args.line.now c.in-Some.ensures.0)
    (ap (λ t. c.args.byte == 78 || t) (ap has_tab (sym c.in-Some.ensures.2) ∙ tab_in rest c.in-Some-cut.ensures.0) ∙ either (c.args.byte == 78)))
    c.three_form.ensures

pub returns-then-byte-eq78 : goal.returns-then-byte-eq78
returns-then-byte-eq78 c =
    let rest = c.in-Some.rest.now in
    subst (λ (f : Form). IfOk c.three_form-then-byte-eq78.result (λ form. seen_form form ≡ f))
    (three_good c.args.byte c.in-Some.first.now rest [] c.args.line.now c.in-Some.ensures.1
    (sym (all_first rest c.in-None-cut.ensures) ∙ ap first_field c.in-Some.ensures.2)
    (ap without_return (sym (none_behind rest c.in-None-cut.ensures) ∙ ap behind_tab c.in-Some.ensures.2))
    (tab_in c.args.line.now c.in-Some.ensures.0)
    (ap (λ t. t || has_tab (behind_tab c.args.line.now)) (eq-eqb c.args.byte 78 c.if-byte-eq78.true)))
    c.three_form-then-byte-eq78.ensures

pub returns-else-byte-eq78 : goal.returns-else-byte-eq78
returns-else-byte-eq78 c =
    let rest = c.in-Some.rest.now in
    three_bad c.args.byte c.args.line.now
    (ap (λ t. t && (c.args.byte == 78 || has_tab (behind_tab c.args.line.now))) (tab_in c.args.line.now c.in-Some.ensures.0)
    ∙ ap (λ t. t || has_tab (behind_tab c.args.line.now)) (ne_eqb c.args.byte 78 c.if-byte-eq78.false)
    ∙ ap has_tab (sym c.in-Some.ensures.2) ∙ no_tab rest c.in-None-cut.ensures)

pub returns-in-None : goal.returns-in-None
returns-in-None c =
    three_bad c.args.byte c.args.line.now (ap (λ t. t && (c.args.byte == 78 || has_tab (behind_tab c.args.line.now))) (no_tab c.args.line.now c.in-None.ensures))
