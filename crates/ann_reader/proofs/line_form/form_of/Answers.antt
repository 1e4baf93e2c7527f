use Rattle.std.proofs.Common.{◌≡◌, ◌∙◌, refl, ap, subst, List, ℕ}
use Rattle.std.specs.Prelude.{IfOk, slice_index}
use Rattle.ann_reader.specs.LineForms.{Form, form_by, form_of}
use Rattle.ann_reader.specs.FormShows.{seen_form}
use Rattle.ann_reader.proofs.line_form.form_of.Goals as goal

by_first : (line : List ℕ) → form_by (slice_index line 0) line ≡ form_of line
unfolding form_of
by_first line = refl

pub returns : goal.returns
returns c =
    subst (λ (f : Form). IfOk c.form_by.result (λ form. seen_form form ≡ f))
    (ap (λ b. form_by b c.args.line.now) (c.first_byte.ensures ∙ ap (λ bs. slice_index bs 0) c.as_bytes.ensures.value) ∙ by_first c.args.line.now)
    c.form_by.ensures
