-- The numbers of what lines say are those of IDs.
use Rattle.std.proofs.Common.{◌≡◌, ℕ, ◌≤◌, ◌⊎◌, inl, inr, true, List, [], ◌∷◌, sym, ◌∙◌, subst}
use Rattle.std.specs.List.{fold}
use Rattle.mark_base.specs.declared.ann_id.Kind.{Kind}
use Rattle.conf_model.specs.Configurations.{Configuration}
use Rattle.layer_model.specs.Annotations.{Annotations, no_marks}
use Rattle.layer_model.specs.Layers.{has_number}
use Rattle.ann_reader.specs.Lines.{Line}
use Rattle.ann_reader.specs.LineForms.{form_of}
use Rattle.ann_reader.specs.LineIds.{own_id}
use Rattle.ann_reader.specs.LineMeanings.{mark_of as mark_said, said_of}
use Rattle.ann_reader.specs.AnnFaults.{with_line, with_read, layer_of}
use Rattle.ann_reader.proofs.SaidLemmas.{none_of, read_came, said_numbers}

-- ---- the numbers of what lines say are those of IDs

line_small : (conf : Configuration) (l : Annotations) (line : Line) (kind : Kind) (n : ℕ) → has_number (with_line conf l line) kind n ≡ true → (has_number l kind n ≡ true) ⊎ (n ≤ 999999999)
line_small conf l line kind n h =
    let own = own_id (form_of line.bytes) in
    let mark = mark_said conf (form_of line.bytes) in
    elim (read_came l own mark kind n (sym (said_numbers (with_read l own mark) (said_of conf (form_of line.bytes)) kind n) ∙ h)) as (λ _. (has_number l kind n ≡ true) ⊎ (n ≤ 999999999)) [
      | inl t ↦ inl t
      | inr e ↦ inr (subst (λ k. k ≤ 999999999) (sym e.3) e.0.within)
    ]

lines_small : (conf : Configuration) (l : Annotations) (lines : List Line) (kind : Kind) (n : ℕ) → has_number (fold (with_line conf) l lines) kind n ≡ true → (has_number l kind n ≡ true) ⊎ (n ≤ 999999999)
lines_small conf l [] kind n h = inl h
lines_small conf l (line ∷ lines) kind n h =
    elim (lines_small conf (with_line conf l line) lines kind n h) as (λ _. (has_number l kind n ≡ true) ⊎ (n ≤ 999999999)) [ inl t ↦ line_small conf l line kind n t | inr small ↦ inr small ]

pub small : (conf : Configuration) (lines : List Line) (kind : Kind) (n : ℕ) → has_number (layer_of conf lines) kind n ≡ true → n ≤ 999999999
small conf lines kind n h = elim (lines_small conf no_marks lines kind n h) as (λ _. n ≤ 999999999) [ inl t ↦ absurd (none_of kind n t) | inr few ↦ few ]
