-- Behind the ID of an annotation its line in the written file has more.
use Rattle.std.proofs.Common.{◌≡◌, ℕ, zero, suc, ◌+◌, ◌-◌, ◌<◌, ◌==◌, ◌&&◌, ◌||◌, Bool, true, false, not, cond, min, List, [], ◌∷◌, length, take, drop, slice_index, refl, sym, subst, ap, ◌∙◌, arith, Option, Some, None, IsSome, option_map, option_and_then, is_some, bytes_eq}
use Rattle.std.specs.Option.{option_map_or}
use Rattle.std.specs.List.{AllByRecursion, list_any, prefix_len, suffix_len, slice_split}
use Rattle.std.proofs.lemmas.Bool.{eqb-true, true≢false, and_parts}
use Rattle.std.proofs.lemmas.Slice.Eq.{bytes_eq-Decides}
use Rattle.mark_base.specs.declared.ann_id.AnnId.{AnnId}
use Rattle.mark_base.specs.declared.ann_id.Kind.{Kind}
use Rattle.mark_base.specs.declared.ann_id.Kind.TheVariants as letter
use Rattle.mark_base.specs.AnnIds.{letter_of, spelling_of}
use Rattle.mark_base.specs.ReadIds.{id_at, id_read}
use Rattle.mark_base.proofs.IdLemmas.{read_as, spelling_read}
use Rattle.conf_model.specs.Configurations.{Configuration}
use Rattle.layer_model.specs.declared.mark.Mark.{Mark}
use Rattle.layer_model.specs.declared.mark.Mark.TheVariants as marked
use Rattle.layer_model.specs.Annotations.{Annotations}
use Rattle.layer_model.specs.Classes.{rank}
use Rattle.layer_model.specs.Layers.{has, has_number, mark_of}
use Rattle.layer_rules.specs.CarriedByRule.{id_text}
use Rattle.layer_rules.specs.LayerRules.{is_id}
use Rattle.layer_rules.specs.WellFormed.{IsWellFormed}
use Rattle.ann_reader.specs.Lines as file
use Rattle.ann_reader.specs.Lines.{Line, behind_tab, first_field, has_tab, is_blank, is_blank_byte, is_gap, lines_from, without_end, without_gap, without_return}
use Rattle.ann_reader.specs.LineForms.{Form, BadForm, begins_three, begins_two, class_form, attribute_form, event_form, form_of, normal_form, note_form, of_three, of_two, relation_form, text_form, three_form, two_form}
use Rattle.ann_reader.specs.LineIds.{own_id}
use Rattle.ann_reader.specs.AnnFiles.{IsAnn, Spells, is_line_of}
use Rattle.ann_reader.proofs.FormFacts.{own_first}
use Rattle.ann_writer.specs.AnnOf.{ann_of}
use Rattle.ann_writer.specs.Writable.{IsOfProgram}
use Rattle.ann_writer.proofs.RoundTrip.{read_back}
use Rattle.ann_writer.proofs.WrittenUtf8.{ann_utf8}
use Rattle.content_keys.specs.Nodes.{Node}
use Rattle.content_keys.specs.LayerContents.{node_of, node_of_mark}
use Rattle.content_keys.proofs.IdLemmas.{same_rank}
use Rattle.items_report.specs.ItemRows.{behind_id, id_in, lines_of, rest_in}

-- ---- a line of some form has something behind its first TAB

two_none : (b : ℕ) (first : List ℕ) → two_form b first [] ≡ BadForm
two_none b first =
    elim (b == 69) as (λ s. cond s (event_form first []) (cond (b == 82) (relation_form first []) (cond (b == 42) (class_form first []) (attribute_form first []))) ≡ BadForm) [
      | true ↦ refl
      | false ↦ elim (b == 82) as (λ s. cond s (relation_form first []) (cond (b == 42) (class_form first []) (attribute_form first [])) ≡ BadForm) [
        | true ↦ refl
        | false ↦ elim (b == 42) as (λ s. cond s (class_form first []) (attribute_form first []) ≡ BadForm) [ true ↦ refl | false ↦ refl ]
      ]
    ]

three_none : (b : ℕ) (first text : List ℕ) → three_form b first [] text ≡ BadForm
three_none b first text =
    elim (b == 84) as (λ s. cond s (text_form first [] text) (cond (b == 78) (normal_form first [] text) (note_form first [] text)) ≡ BadForm) [
      | true ↦ refl
      | false ↦ elim (b == 78) as (λ s. cond s (normal_form first [] text) (note_form first [] text) ≡ BadForm) [ true ↦ refl | false ↦ refl ]
    ]

rest_here : (b : ℕ) (line : List ℕ) → (b == 9) ≡ true → behind_tab (b ∷ line) ≡ line
rest_here b line e = ap (λ s. drop (cond (not s) (1 + prefix_len (λ x. not (x == 9)) line) 0 + 1) (b ∷ line)) e

rest_later : (b : ℕ) (line : List ℕ) → (b == 9) ≡ false → behind_tab (b ∷ line) ≡ behind_tab line
rest_later b line e =
    let n = prefix_len (λ x. not (x == 9)) line in
    ap (λ s. drop (cond (not s) (1 + n) 0 + 1) (b ∷ line)) e ∙ (let k : 1 + n + 1 ≡ suc (n + 1) = omega arith in ap (λ m. drop m (b ∷ line)) k)

take_none : (n : ℕ) (line : List ℕ) → line ≡ [] → take n line ≡ []
take_none zero line none = refl
take_none (suc n) line none = ap (take (suc n)) none

front_rest : (n : ℕ) (line : List ℕ) → behind_tab line ≡ [] → behind_tab (take n line) ≡ []
front_rest zero line none = refl
front_rest (suc n) [] none = refl
front_rest (suc n) (b ∷ line) none =
    elim (b == 9) as (λ s. (b == 9) ≡ s → behind_tab (b ∷ take n line) ≡ []) [
      | true ↦ λ e. rest_here b (take n line) e ∙ take_none n line (sym (rest_here b line e) ∙ none)
      | false ↦ λ e. rest_later b (take n line) e ∙ front_rest n line (sym (rest_later b line e) ∙ none)
    ] refl

return_rest : (line : List ℕ) → behind_tab line ≡ [] → behind_tab (without_return line) ≡ []
return_rest line none = elim (slice_index line (length line - 1) == 13) as (λ s. behind_tab (cond s (take (length line - 1) line) line) ≡ []) [ true ↦ front_rest (length line - 1) line none | false ↦ none ]

end_rest : (line : List ℕ) → behind_tab line ≡ [] → behind_tab (without_end line) ≡ []
end_rest line none =
    let less = without_gap line in
    let short = without_return less in
    front_rest (length short - suffix_len is_gap short) short (return_rest less (front_rest (length line - suffix_len is_gap line) line none))

either_bad : (c : Bool) (form : Form) → form ≡ BadForm → cond c form BadForm ≡ BadForm
either_bad true form bad = bad
either_bad false form bad = refl

both_bad : (c : Bool) (one other : Form) → one ≡ BadForm → other ≡ BadForm → cond c one other ≡ BadForm
both_bad true one other bad worse = bad
both_bad false one other bad worse = worse

empty_bad : (line : List ℕ) → behind_tab line ≡ [] → form_of line ≡ BadForm
unfolding form_of
empty_bad line none =
    let b = slice_index line 0 in
    let two : of_two b line ≡ BadForm =
    ap (λ r. cond (has_tab (without_end line) && not (has_tab r)) (two_form b (first_field line) r) BadForm) (end_rest line none)
    ∙ either_bad (has_tab (without_end line) && true) (two_form b (first_field line) []) (two_none b (first_field line)) in
    let three : of_three b line ≡ BadForm =
    ap (λ r. cond (has_tab line && (b == 78 || has_tab r)) (three_form b (first_field line) (first_field r) (without_return (behind_tab r))) BadForm) none
    ∙ either_bad (has_tab line && (b == 78 || false)) (three_form b (first_field line) [] []) (three_none b (first_field line) []) in
    both_bad (begins_two b) (of_two b line) (cond (begins_three b) (of_three b line) BadForm) two (either_bad (begins_three b) (of_three b line) three)

formed_rest : (conf : Configuration) (text : List ℕ) (layer : Annotations) (line : List ℕ) → Spells conf text layer (form_of line) → 0 < length (rest_in line)
formed_rest conf text layer line spells = by (rest_in line) refl
  where
    by : (rest : List ℕ) → rest_in line ≡ rest → 0 < length rest
    by [] none = absurd (subst (Spells conf text layer) (empty_bad line none) spells)
    by (x ∷ xs) some = omega arith

-- ---- the line that begins with an ID

bytes_same : (xs ys : List ℕ) → bytes_eq xs ys ≡ true → xs ≡ ys
bytes_same xs ys e = (bytes_eq-Decides xs ys).0 e

bytes_itself : (xs ys : List ℕ) → xs ≡ ys → bytes_eq xs ys ≡ true
bytes_itself xs ys e = (bytes_eq-Decides xs ys).1 e

same_some : (a b : AnnId) → Some a ≡ Some b → a ≡ b
same_some a b e = cc

spelled : (word : List ℕ) (id : AnnId) → id_read word ≡ Some id → word ≡ id_text id
spelled word id read =
    elim (bytes_eq word (id_text id)) as (λ b. bytes_eq word (id_text id) ≡ b → word ≡ id_text id) [
      | true ↦ λ e. bytes_same word (id_text id) e
      | false ↦ λ e. absurd (none_some (read_as word None tt (λ kind number small is.
          let back : Some id ≡ Some (id_at kind number) = sym read ∙ ap id_read is ∙ spelling_read kind number small in
          let number_is : min number 999999999 ≡ number = omega arith in
          let same : word ≡ id_text id = is ∙ ap (λ n. spelling_of kind n) (sym number_is) ∙ ap id_text (sym (same_some id (id_at kind number) back)) in
          true≢false (sym (bytes_itself word (id_text id) same) ∙ e)) ∙ read))
    ] refl
  where
    none_some : None ≡ Some id → ⊥
    none_some e = cc

head_is : (line : List ℕ) (id : AnnId) (o : Option AnnId) → own_id (form_of line) ≡ o → option_map_or (is_id id) o false ≡ true → id_in line ≡ id_text id
head_is line id None own there = absurd (true≢false (sym there))
head_is line id (Some other) own there =
    let same : id ≡ other = same_rank id other (eqb-true (rank id) (rank other) there) in
    spelled (first_field line) other (own_first line other own) ∙ ap id_text (sym same)

letter_shown : (kind : Kind) → is_blank_byte (letter_of kind) ≡ false
letter_shown letter.Text = refl
letter_shown letter.Event = refl
letter_shown letter.Relation = refl
letter_shown letter.Attribute = refl
letter_shown letter.Legacy = refl
letter_shown letter.Normal = refl
letter_shown letter.Note = refl

starts : (b : ℕ) (more : List ℕ) (id : AnnId) → id_in (b ∷ more) ≡ id_text id → b ≡ letter_of id.kind
starts b more id is =
    let n = prefix_len (λ x. not (x == 9)) more in
    elim (b == 9) as (λ s. take (cond (not s) (1 + n) 0) (b ∷ more) ≡ id_text id → b ≡ letter_of id.kind) [
      | true ↦ λ e. let lost : [] ≡ id_text id = e in absurd (cc)
      | false ↦ λ e. let k : suc n ≡ 1 + n = omega arith in let cut : b ∷ take n more ≡ id_text id = ap (λ m. take m (b ∷ more)) k ∙ e in cc
    ] is

-- a blank line does not begin with an ID
shown : (line : List ℕ) (id : AnnId) → id_in line ≡ id_text id → is_blank line ≡ true → ⊥
shown [] id is blank = let lost : [] ≡ id_text id = is in cc
shown (b ∷ more) id is blank = true≢false (sym (and_parts (is_blank_byte b) (is_blank more) blank).0 ∙ ap is_blank_byte (starts b more id is) ∙ letter_shown id.kind)

found : (conf : Configuration) (text : List ℕ) (layer : Annotations) (id : AnnId) (n : ℕ) (lines : List (List ℕ)) → AllByRecursion (λ (line : Line). Spells conf text layer (form_of line.bytes)) (lines_from n lines)
    → list_any (is_line_of id) (lines_from n lines) ≡ true → 0 < length (behind_id (id_text id) lines)
found conf text layer id n [] spelt there = absurd (true≢false (sym there))
found conf text layer id n (line ∷ lines) spelt there =
    let here : Line = record { number = n; bytes = line } in
    let Behind : Bool → Type 0 = λ t. 0 < length (cond t (rest_in line) (behind_id (id_text id) lines)) in
    elim (is_blank line) as (λ s. is_blank line ≡ s → AllByRecursion (λ (l : Line). Spells conf text layer (form_of l.bytes)) (cond s (lines_from (n + 1) lines) (here ∷ lines_from (n + 1) lines))
    → list_any (is_line_of id) (cond s (lines_from (n + 1) lines) (here ∷ lines_from (n + 1) lines)) ≡ true → Behind (bytes_eq (id_in line) (id_text id))) [
      | true ↦ λ blank all any. elim (bytes_eq (id_in line) (id_text id)) as (λ t. bytes_eq (id_in line) (id_text id) ≡ t → Behind t) [
        | true ↦ λ e. absurd (shown line id (bytes_same (id_in line) (id_text id) e) blank)
        | false ↦ λ e. found conf text layer id (n + 1) lines all any
      ] refl
      | false ↦ λ blank all any. elim (bytes_eq (id_in line) (id_text id)) as (λ t. bytes_eq (id_in line) (id_text id) ≡ t → Behind t) [
        | true ↦ λ e. formed_rest conf text layer line all.0
        | false ↦ λ e. found conf text layer id (n + 1) lines all.1 (elim (is_line_of id here) as (λ s. is_line_of id here ≡ s → (s || list_any (is_line_of id) (lines_from (n + 1) lines)) ≡ true → list_any (is_line_of id) (lines_from (n + 1) lines) ≡ true) [
          | true ↦ λ own _. absurd (true≢false (sym (bytes_itself (id_in line) (id_text id) (head_is line id (own_id (form_of line)) refl own)) ∙ e))
          | false ↦ λ _ later. later
        ] refl any)
      ] refl
    ] refl spelt there

-- in the written file of a layer the line of each annotation has more behind the ID
pub line_there : (conf : Configuration) (text : List ℕ) (layer : Annotations) (id : AnnId) → IsOfProgram conf text layer → IsWellFormed conf (length text) layer → has layer id ≡ true
    → 0 < length (behind_id (id_text id) (lines_of (ann_of conf text layer)))
unfolding file.lines_of
line_there conf text layer id program well there =
    let file_is : IsAnn conf text (ann_of conf text layer) layer = read_back conf text layer program well (ann_utf8 conf text layer program) in
    found conf text layer id 1 (slice_split (λ b. b == 10) (ann_of conf text layer)) file_is.spelt (file_is.only id there)

-- ---- what has a content stands in the layer

some_in : {V : Type 0} (wrap : V → Mark) (o : Option V) → IsSome (option_and_then node_of_mark (option_map wrap o)) → is_some o ≡ true
some_in wrap None h = let lost : IsSome {T = Node AnnId} None = h in cc
some_in wrap (Some v) h = refl

stands_at : (layer : Annotations) (kind : Kind) (n : ℕ) → IsSome (option_and_then node_of_mark (mark_of layer kind n)) → has_number layer kind n ≡ true
stands_at layer letter.Text n h = some_in marked.Span _ h
stands_at layer letter.Event n h = some_in marked.Event _ h
stands_at layer letter.Relation n h = some_in marked.Relation _ h
stands_at layer letter.Attribute n h = some_in marked.Attribute _ h
stands_at layer letter.Legacy n h = some_in marked.Attribute _ h
stands_at layer letter.Normal n h = some_in marked.Normal _ h
stands_at layer letter.Note n h = some_in marked.Note _ h

pub has_content : (layer : Annotations) (id : AnnId) → IsSome (node_of layer id) → has layer id ≡ true
has_content layer id h = stands_at layer id.kind id.number h
