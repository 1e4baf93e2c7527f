use Rattle.std.proofs.Common.{◌≡◌, ◌∙◌, cond, sym, ap, subst, true, false, List, ℕ}
use Rattle.std.specs.Prelude.{IfOk}
use Rattle.ann_reader.specs.LineForms.{Form, BadForm, of_two, of_three, begins_two, begins_three, form_by}
use Rattle.ann_reader.specs.FormShows.{seen_form}
use Rattle.ann_reader.proofs.line_form.form_by.Goals as goal

two_first : (b : ℕ) (line : List ℕ) → begins_two b ≡ true → of_two b line ≡ form_by b line
two_first b line p = sym (ap (λ s. cond s (of_two b line) (cond (begins_three b) (of_three b line) BadForm)) p)

three_next : (b : ℕ) (line : List ℕ) → begins_two b ≡ false → begins_three b ≡ true → of_three b line ≡ form_by b line
three_next b line p q =
    sym (ap (λ s. cond s (of_two b line) (cond (begins_three b) (of_three b line) BadForm)) p ∙ ap (λ s. cond s (of_three b line) BadForm) q)

none_else : (b : ℕ) (line : List ℕ) → begins_two b ≡ false → begins_three b ≡ false → BadForm ≡ form_by b line
none_else b line p q =
    sym (ap (λ s. cond s (of_two b line) (cond (begins_three b) (of_three b line) BadForm)) p ∙ ap (λ s. cond s (of_three b line) BadForm) q)

pub returns-then-begins_two : goal.returns-then-begins_two
returns-then-begins_two c =
    subst (λ (f : Form). IfOk c.of_two.result (λ form. seen_form form ≡ f))
    (two_first c.args.byte c.args.line.now (sym c.begins_two.ensures ∙ c.if-begins_two.true))
    c.of_two.ensures

pub returns-then-begins_three : goal.returns-then-begins_three
returns-then-begins_three c =
    subst (λ (f : Form). IfOk c.of_three.result (λ form. seen_form form ≡ f))
    (three_next c.args.byte c.args.line.now (sym c.begins_two.ensures ∙ c.if-begins_two.false) (sym c.begins_three.ensures ∙ c.if-begins_three.true))
    c.of_three.ensures

pub returns-else-begins_three : goal.returns-else-begins_three
returns-else-begins_three c =
    none_else c.args.byte c.args.line.now (sym c.begins_two.ensures ∙ c.if-begins_two.false) (sym c.begins_three.ensures ∙ c.if-begins_three.false)
