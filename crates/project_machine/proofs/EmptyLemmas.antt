-- A layer with nothing marked may be committed.
use Rattle.std.proofs.Common.{◌≡◌, ℕ, List, [], ◌∷◌, ◌++◌, length, map, flat_map, Option, None, refl, sym, ◌∙◌, ap}
use Rattle.std.specs.Ordering.{nat_cmp}
use Rattle.std.specs.Option.{option_map, option_or}
use Rattle.std.specs.FinMap as finite
use Rattle.std.specs.FinMap.{len-entries, len-empty}
use Rattle.mark_base.specs.ReadIds.{id_at}
use Rattle.mark_base.specs.declared.ann_id.Kind.{Kind}
use Rattle.mark_base.specs.declared.ann_id.Kind.TheVariants as letter
use Rattle.conf_model.specs.Configurations.{Configuration}
use Rattle.layer_model.specs.Annotations.{no_marks}
use Rattle.layer_model.specs.Layers.{numbers}
use Rattle.layer_model.specs.declared.flaw.Flaw.{Flaw}
use Rattle.layer_model.specs.declared.flaw.FlawPlace.TheVariants as at
use Rattle.layer_model.specs.LayerIds.{letters}
use Rattle.layer_rules.specs.FlawPlaces.{places, first_rule}
use Rattle.layer_rules.specs.WellFormed.{least_flaw, commit_fault, in_order, first_told, too_few}
use Rattle.ann_writer.specs.AnnOf.{lines_of, span_line, event_line, relation_line, attribute_line, normal_line, note_line, ann_of}
use Rattle.project_machine.specs.Machine.{commit_rule}

none_long : {X : Type 0} (xs : List X) → length xs ≡ 0 → xs ≡ []
none_long [] e = refl
none_long (x ∷ xs) e = cc

no_entries : (X : Type 0) → finite.entries (finite.empty {K = ℕ} {X = X} {R = nat_cmp}) ≡ []
no_entries X = none_long (finite.entries (finite.empty {K = ℕ} {X = X} {R = nat_cmp})) (sym (len-entries (finite.empty {K = ℕ} {X = X} {R = nat_cmp})) ∙ len-empty nat_cmp X)

pub no_keys : (X : Type 0) → finite.keys (finite.empty {K = ℕ} {X = X} {R = nat_cmp}) ≡ []
no_keys X = ap (map (λ (e : ℕ × X). e.0)) (no_entries X)

no_numbers : (kind : Kind) → numbers no_marks kind ≡ []
no_numbers letter.Text = no_keys _
no_numbers letter.Event = no_keys _
no_numbers letter.Relation = no_keys _
no_numbers letter.Attribute = no_keys _
no_numbers letter.Legacy = no_keys _
no_numbers letter.Normal = no_keys _
no_numbers letter.Note = no_keys _

no_ids : (kinds : List Kind) → flat_map (λ kind. map (id_at kind) (numbers no_marks kind)) kinds ≡ []
no_ids [] = refl
no_ids (kind ∷ kinds) = ap (λ ns. map (id_at kind) ns ++ flat_map (λ kind. map (id_at kind) (numbers no_marks kind)) kinds) (no_numbers kind) ∙ no_ids kinds

no_places : places no_marks ≡ []
no_places = ap (λ ids. map at.Mark ids ++ []) (no_ids letters)

-- no rule forbids to commit it
pub nothing_may_be_committed : (conf : Configuration) (characters : ℕ) → commit_rule conf characters no_marks ≡ None
unfolding least_flaw commit_fault
nothing_may_be_committed conf characters =
    let flaw : first_rule (in_order conf characters no_marks) (places no_marks) ≡ None = ap (first_rule (in_order conf characters no_marks)) no_places in
    let fault : first_told (too_few conf no_marks) (finite.keys no_marks.events) ≡ None = ap (first_told (too_few conf no_marks)) (no_keys _) in
    ap (λ (o : Option Flaw). option_or (option_map (λ (f : Flaw). f.rule) o) (first_told (too_few conf no_marks) (finite.keys no_marks.events))) flaw ∙ fault

no_lines_of : {X : Type 0} (line : ℕ → X → List ℕ) → lines_of line (finite.empty {K = ℕ} {X = X} {R = nat_cmp}) ≡ []
no_lines_of line = ap (flat_map (λ entry. line entry.0 entry.1)) (no_entries _)

-- it has no lines
pub no_lines : (conf : Configuration) (text : List ℕ) → ann_of conf text no_marks ≡ []
unfolding ann_of
no_lines conf text =
    rw (no_lines_of (span_line conf text), no_lines_of (event_line conf), no_lines_of (relation_line conf), no_lines_of (attribute_line conf letter.Attribute), no_lines_of (attribute_line conf letter.Legacy), no_lines_of normal_line, no_lines_of note_line) refl
