-- What the form of a line says of its first field.
use Rattle.std.proofs.Common.{◌≡◌, ℕ, ◌+◌, ◌-◌, ◌<◌, ◌⊎◌, inl, inr, zero, suc, Bool, true, false, not, ◌||◌, ◌&&◌, ◌==◌, List, [], ◌∷◌, refl, sym, ◌∙◌, ap, subst, Option, Some, None, cond, length, slice_index, take, drop, arith}
use Rattle.std.specs.Prelude.{bytes_eq, codes, ⊤}
use Rattle.std.specs.Option.{is_none, option_map_or, option_and_then, option_map}
use Rattle.std.specs.List.{prefix_len, suffix_len}
use Rattle.std.proofs.lemmas.Bool.{eqb-true, or_cases, or_from, false≢true}
use Rattle.mark_base.specs.declared.ann_id.AnnId.{AnnId}
use Rattle.mark_base.specs.declared.ann_id.Kind.{Kind}
use Rattle.mark_base.specs.declared.ann_id.Kind.TheVariants as letter
use Rattle.mark_base.specs.declared.fragments.Frag.{Frag}
use Rattle.conf_model.specs.Configurations.{Configuration}
use Rattle.layer_model.specs.declared.mark.Mark.{Mark}
use Rattle.layer_model.specs.Layers.{is_of_kind}
use Rattle.mark_base.specs.ReadIds.{id_at, id_read}
use Rattle.ann_reader.specs.Lines.{has_tab, first_field, behind_tab, is_gap, without_gap, without_return, without_end}
use Rattle.mark_base.specs.AnnIds.{kind_read, number_read}
use Rattle.ann_reader.specs.Words.{words_of, behind_word}
use Rattle.ann_reader.specs.LineForms.{Pair, Form, BadForm, TextForm, EventForm, RelationForm, AttributeForm, ClassForm, NormalForm, NoteForm, has_byte, before_byte, behind_byte, pairs_read, frags_read, text_with, text_form, event_with, event_form, relation_with, relation_by, relation_form, attribute_by, attribute_form, class_by, class_form, normal_by, normal_form, note_by, note_form, two_form, of_two, three_form, of_three, begins_two, begins_three, form_of, head_field}
use Rattle.ann_reader.specs.FormShows.{NamesSome}
use Rattle.ann_reader.specs.LineIds.{own_id}
use Rattle.ann_reader.specs.LineFaults.{is_formless}
use Rattle.mark_base.specs.declared.table_places.TypeId.{TypeId}
use Rattle.mark_base.specs.declared.arguments.Arg.{Arg}
use Rattle.mark_base.specs.Names.{name_fault}
use Rattle.layer_model.specs.declared.mark.Mark.TheVariants as marked
use Rattle.layer_rules.specs.AttributeValues.{Valued, Undeclared, Declared}
use Rattle.ann_reader.specs.NamesRead.{type_read, event_read, relation_read, attribute_read, value_read}
use Rattle.ann_reader.specs.LineMeanings.{args_of, ends_of, event_by, relation_by as relation_said, attribute_by as attribute_said, mark_of}

-- the first field of a form of each sort, and the byte that it begins with
abbrev pub Fits : ℕ → List ℕ → Form → Type 0
Fits b first BadForm = ⊤
Fits b first (TextForm own _ _ _) = (own ≡ first) × (b ≡ 84)
Fits b first (EventForm own _ _ _) = (own ≡ first) × (b ≡ 69)
Fits b first (RelationForm own _ _ _) = (own ≡ first) × (b ≡ 82)
Fits b first (AttributeForm own _ _ _) = (own ≡ first) × ((b ≡ 65) ⊎ (b ≡ 77))
Fits b first (ClassForm _ ids) = (b ≡ 42) × (0 < length ids)
Fits b first (NormalForm own _ _ _ _) = (own ≡ first) × (b ≡ 78)
Fits b first (NoteForm own _ _ _) = (own ≡ first) × (b ≡ 35)

at_text : (b : ℕ) (first : List ℕ) (words : List (List ℕ)) (frags : Option (List Frag)) (text : List ℕ) → b ≡ 84 → Fits b first (text_with first words frags text)
at_text b first [] frags text e = tt
at_text b first (kind ∷ words) None text e = tt
at_text b first (kind ∷ words) (Some frags) text e = (refl, e)

at_event : (b : ℕ) (first : List ℕ) (pairs : Option (List Pair)) → b ≡ 69 → Fits b first (event_with first pairs)
at_event b first None e = tt
at_event b first (Some []) e = tt
at_event b first (Some (own ∷ pairs)) e = (refl, e)

at_two_pairs : (b : ℕ) (first kind : List ℕ) (pairs : Option (List Pair)) → b ≡ 82 → Fits b first (relation_with first kind pairs)
at_two_pairs b first kind None e = tt
at_two_pairs b first kind (Some []) e = tt
at_two_pairs b first kind (Some (x ∷ [])) e = tt
at_two_pairs b first kind (Some (x ∷ y ∷ [])) e = (refl, e)
at_two_pairs b first kind (Some (x ∷ y ∷ z ∷ more)) e = tt

at_relation : (b : ℕ) (first : List ℕ) (words : List (List ℕ)) → b ≡ 82 → Fits b first (relation_by first words)
at_relation b first [] e = tt
at_relation b first (kind ∷ words) e = at_two_pairs b first kind (pairs_read words) e

at_attribute : (b : ℕ) (first : List ℕ) (words : List (List ℕ)) → (b ≡ 65) ⊎ (b ≡ 77) → Fits b first (attribute_by first words)
at_attribute b first [] e = tt
at_attribute b first (kind ∷ []) e = tt
at_attribute b first (kind ∷ target ∷ []) e = (refl, e)
at_attribute b first (kind ∷ target ∷ value ∷ []) e = (refl, e)
at_attribute b first (kind ∷ target ∷ value ∷ more ∷ words) e = tt

at_class : (b : ℕ) (first : List ℕ) (words : List (List ℕ)) → b ≡ 42 → Fits b first (class_by first words)
at_class b first [] e = tt
at_class b first (kind ∷ []) e = tt
at_class b first (kind ∷ member ∷ members) e =
    elim (bytes_eq first (42 ∷ [])) as (λ s. Fits b first (cond s (ClassForm kind (member ∷ members)) BadForm)) [ true ↦ (e, omega arith) | false ↦ tt ]

at_normal : (b : ℕ) (first : List ℕ) (words : List (List ℕ)) (text : List ℕ) → b ≡ 78 → Fits b first (normal_by first words text)
at_normal b first [] text e = tt
at_normal b first (word ∷ []) text e = tt
at_normal b first (word ∷ target ∷ []) text e = tt
at_normal b first (word ∷ target ∷ entry ∷ []) text e =
    elim (bytes_eq word (codes "Reference") && has_byte 58 entry) as (λ s. Fits b first (cond s (NormalForm first target (before_byte 58 entry) (behind_byte 58 entry) text) BadForm)) [ true ↦ (refl, e) | false ↦ tt ]
at_normal b first (word ∷ target ∷ entry ∷ more ∷ words) text e = tt

at_note : (b : ℕ) (first : List ℕ) (words : List (List ℕ)) (text : List ℕ) → b ≡ 35 → Fits b first (note_by first words text)
at_note b first [] text e = tt
at_note b first (kind ∷ []) text e = tt
at_note b first (kind ∷ target ∷ []) text e = (refl, e)
at_note b first (kind ∷ target ∷ more ∷ words) text e = tt

both_false : (x y : Bool) → (x || y) ≡ true → x ≡ false → y ≡ true
both_false true y h e = absurd (false≢true (sym e))
both_false false y h e = h

-- which bytes are left
attribute_byte : (b : ℕ) → begins_two b ≡ true → (b == 69) ≡ false → (b == 82) ≡ false → (b == 42) ≡ false → (b ≡ 65) ⊎ (b ≡ 77)
attribute_byte b h p q r =
    elim (or_cases (b == 69 || b == 82 || b == 65 || b == 77) (b == 42) h) as (λ _. (b ≡ 65) ⊎ (b ≡ 77)) [
      | inl t ↦ elim (or_cases (b == 69 || b == 82 || b == 65) (b == 77) t) as (λ _. (b ≡ 65) ⊎ (b ≡ 77)) [
        | inl u ↦ inl (eqb-true b 65 (both_false (b == 69 || b == 82) (b == 65) u (or_from (b == 69) (b == 82) p q)))
        | inr u ↦ inr (eqb-true b 77 u)
      ]
      | inr t ↦ absurd (false≢true (sym r ∙ t))
    ]

note_byte : (b : ℕ) → begins_three b ≡ true → (b == 84) ≡ false → (b == 78) ≡ false → b ≡ 35
note_byte b h p q = eqb-true b 35 (both_false (b == 84 || b == 78) (b == 35) h (or_from (b == 84) (b == 78) p q))

-- a line of two fields
two_fits : (b : ℕ) (first second : List ℕ) → begins_two b ≡ true → Fits b first (two_form b first second)
two_fits b first second h =
    let others : (b == 69) ≡ false → (b == 82) ≡ false → (b == 42) ≡ false → (b ≡ 65) ⊎ (b ≡ 77) = λ p q r. attribute_byte b h p q r in
    let P : Bool → Type 0 = λ s. (b == 69) ≡ s → Fits b first (cond s (event_form first second) (cond (b == 82) (relation_form first second) (cond (b == 42) (class_form first second) (attribute_form first second)))) in
    let Q : Bool → Type 0 = λ s. (b == 82) ≡ s → (b == 69) ≡ false → Fits b first (cond s (relation_form first second) (cond (b == 42) (class_form first second) (attribute_form first second))) in
    let R : Bool → Type 0 = λ s. (b == 42) ≡ s → (b == 69) ≡ false → (b == 82) ≡ false → Fits b first (cond s (class_form first second) (attribute_form first second)) in
    let third : R (b == 42) = elim (b == 42) as R [ true ↦ λ r p q. at_class b first (words_of second) (eqb-true b 42 r) | false ↦ λ r p q. at_attribute b first (words_of second) (others p q r) ] in
    let next : Q (b == 82) = elim (b == 82) as Q [ true ↦ λ q p. at_relation b first (words_of second) (eqb-true b 82 q) | false ↦ λ q p. third refl p q ] in
    let cases : P (b == 69) = elim (b == 69) as P [ true ↦ λ p. at_event b first (pairs_read (words_of second)) (eqb-true b 69 p) | false ↦ λ p. next refl p ] in
    cases refl

-- a line of three fields
three_fits : (b : ℕ) (first second text : List ℕ) → begins_three b ≡ true → Fits b first (three_form b first second text)
three_fits b first second text h =
    let P : Bool → Type 0 = λ s. (b == 84) ≡ s → Fits b first (cond s (text_form first second text) (cond (b == 78) (normal_form first second text) (note_form first second text))) in
    let Q : Bool → Type 0 = λ s. (b == 78) ≡ s → (b == 84) ≡ false → Fits b first (cond s (normal_form first second text) (note_form first second text)) in
    let next : Q (b == 78) = elim (b == 78) as Q [ true ↦ λ q p. at_normal b first (words_of second) text (eqb-true b 78 q) | false ↦ λ q p. at_note b first (words_of second) text (note_byte b h p q) ] in
    let cases : P (b == 84) = elim (b == 84) as P [ true ↦ λ p. at_text b first (words_of second) (frags_read (behind_word second)) text (eqb-true b 84 p) | false ↦ λ p. next refl p ] in
    cases refl

two_line : (b : ℕ) (line : List ℕ) → begins_two b ≡ true → Fits b (first_field line) (of_two b line)
two_line b line h =
    elim (has_tab (without_end line) && not (has_tab (behind_tab (without_end line)))) as (λ s. Fits b (first_field line) (cond s (two_form b (first_field line) (behind_tab (without_end line))) BadForm)) [
      | true ↦ two_fits b (first_field line) (behind_tab (without_end line)) h
      | false ↦ tt
    ]

three_line : (b : ℕ) (line : List ℕ) → begins_three b ≡ true → Fits b (first_field line) (of_three b line)
three_line b line h =
    elim (has_tab line && (b == 78 || has_tab (behind_tab line))) as (λ s. Fits b (first_field line) (cond s (three_form b (first_field line) (first_field (behind_tab line)) (without_return (behind_tab (behind_tab line)))) BadForm)) [
      | true ↦ three_fits b (first_field line) (first_field (behind_tab line)) (without_return (behind_tab (behind_tab line))) h
      | false ↦ tt
    ]

-- each form has the line's first field, which begins with its letter
pub form_fits : (line : List ℕ) → Fits (slice_index line 0) (first_field line) (form_of line)
unfolding form_of
form_fits line =
    let P : Bool → Type 0 = λ s. begins_two (slice_index line 0) ≡ s → Fits (slice_index line 0) (first_field line) (cond s (of_two (slice_index line 0) line) (cond (begins_three (slice_index line 0)) (of_three (slice_index line 0) line) BadForm)) in
    let Q : Bool → Type 0 = λ s. begins_three (slice_index line 0) ≡ s → Fits (slice_index line 0) (first_field line) (cond s (of_three (slice_index line 0) line) BadForm) in
    let next : Q (begins_three (slice_index line 0)) = elim (begins_three (slice_index line 0)) as Q [ true ↦ λ q. three_line (slice_index line 0) line q | false ↦ λ q. tt ] in
    let cases : P (begins_two (slice_index line 0)) = elim (begins_two (slice_index line 0)) as P [ true ↦ λ p. two_line (slice_index line 0) line p | false ↦ λ p. next refl ] in
    cases refl

-- a line of a class names some ID
pub names_some : (line : List ℕ) → NamesSome (form_of line)
names_some line =
    (elim (form_of line) as (λ form. Fits (slice_index line 0) (first_field line) form → NamesSome form) [
      | BadForm ↦ λ _. tt
      | TextForm _ _ _ _ ↦ λ _. tt
      | EventForm _ _ _ _ ↦ λ _. tt
      | RelationForm _ _ _ _ ↦ λ _. tt
      | AttributeForm _ _ _ _ ↦ λ _. tt
      | ClassForm _ _ ↦ λ f. f.1
      | NormalForm _ _ _ _ _ ↦ λ _. tt
      | NoteForm _ _ _ _ ↦ λ _. tt
    ]) (form_fits line)

-- ---- the letter

-- the first byte of the first field
first_byte : (line : List ℕ) → (slice_index line 0 == 9) ≡ false → slice_index (first_field line) 0 ≡ slice_index line 0
first_byte [] h = refl
first_byte (b ∷ line) h =
    let n = prefix_len (λ x. not (x == 9)) line in
    ap (λ s. slice_index (take (cond (not s) (1 + n) 0) (b ∷ line)) 0) h ∙ (let e : 1 + n ≡ suc n = omega arith in ap (λ k. slice_index (take k (b ∷ line)) 0) e)

kind_of_id : (kind : Kind) (number : Option ℕ) (id : AnnId) → option_map (id_at kind) number ≡ Some id → kind ≡ id.kind
kind_of_id kind None id e = let lost : None ≡ Some id = e in cc
kind_of_id kind (Some n) id e = ap (λ (o : Option AnnId). option_map_or (λ (one : AnnId). one.kind) o kind) e

-- an ID that is read is of the sort of its first byte
pub id_kind : (word : List ℕ) (id : AnnId) → id_read word ≡ Some id → kind_read (slice_index word 0) ≡ Some id.kind
id_kind word id e =
    let P : Option Kind → Type 0 = λ o. option_and_then (λ kind. option_map (id_at kind) (number_read (drop 1 word))) o ≡ Some id → o ≡ Some id.kind in
    let cases : P (kind_read (slice_index word 0)) = elim (kind_read (slice_index word 0)) as P [
      | None ↦ λ q. let lost : None ≡ Some id = q in cc
      | Some kind ↦ λ q. ap Some (kind_of_id kind (number_read (drop 1 word)) id q)
    ] in
    cases e

unsome : {X : Type 0} {x y : X} → Some x ≡ Some y → x ≡ y
unsome e = cc

nothing_said : {X : Type 0} {x : X} → None ≡ Some x → ⊥
nothing_said e = cc

-- the sort of the ID of a line that begins with this byte
sort_of_line : (line : List ℕ) (id : AnnId) (b : ℕ) (kind : Kind) → slice_index line 0 ≡ b → (b == 9) ≡ false → kind_read b ≡ Some kind
    → id_read (first_field line) ≡ Some id → id.kind ≡ kind
sort_of_line line id b kind at plain read e =
    let same : slice_index (first_field line) 0 ≡ b = first_byte line (ap (λ x. x == 9) at ∙ plain) ∙ at in
    unsome (sym (id_kind (first_field line) id e) ∙ ap kind_read same ∙ read)

-- an ID of its own is what the first field spells
pub own_first : (line : List ℕ) (id : AnnId) → own_id (form_of line) ≡ Some id → id_read (first_field line) ≡ Some id
own_first line id e =
    (elim (form_of line) as (λ form. Fits (slice_index line 0) (first_field line) form → own_id form ≡ Some id → id_read (first_field line) ≡ Some id) [
      | BadForm ↦ λ f q. let lost : None ≡ Some id = q in cc
      | TextForm own _ _ _ ↦ λ f q. ap id_read (sym f.0) ∙ q
      | EventForm own _ _ _ ↦ λ f q. ap id_read (sym f.0) ∙ q
      | RelationForm own _ _ _ ↦ λ f q. ap id_read (sym f.0) ∙ q
      | AttributeForm own _ _ _ ↦ λ f q. ap id_read (sym f.0) ∙ q
      | ClassForm _ _ ↦ λ f q. let lost : None ≡ Some id = q in cc
      | NormalForm own _ _ _ _ ↦ λ f q. ap id_read (sym f.0) ∙ q
      | NoteForm own _ _ _ ↦ λ f q. ap id_read (sym f.0) ∙ q
    ]) (form_fits line) e

-- ---- the first field behind what a line of two fields drops at its end

first_cons : (b : ℕ) (line : List ℕ) → (b == 9) ≡ false → first_field (b ∷ line) ≡ b ∷ first_field line
first_cons b line h =
    let n = prefix_len (λ x. not (x == 9)) line in
    ap (λ s. take (cond (not s) (1 + n) 0) (b ∷ line)) h ∙ (let e : 1 + n ≡ suc n = omega arith in ap (λ k. take k (b ∷ line)) e)

-- a TAB in the front of a line is one in the line, and the front has the line's first field
front_field : (n : ℕ) (line : List ℕ) → has_tab (take n line) ≡ true → (has_tab line ≡ true) × (first_field (take n line) ≡ first_field line)
front_field zero line h = absurd (false≢true h)
front_field (suc n) [] h = absurd (false≢true h)
front_field (suc n) (b ∷ line) h =
    elim (b == 9) as (λ s. (b == 9) ≡ s → (s || has_tab (take n line)) ≡ true → ((s || has_tab line) ≡ true) × (first_field (b ∷ take n line) ≡ first_field (b ∷ line))) [
      | true ↦ λ e _. (refl, nothing b (take n line) e ∙ sym (nothing b line e))
      | false ↦ λ e t. (let more = front_field n line t in (more.0, first_cons b (take n line) e ∙ ap (λ xs. b ∷ xs) more.1 ∙ sym (first_cons b line e)))
    ] refl h
  where
    nothing : (b : ℕ) (line : List ℕ) → (b == 9) ≡ true → first_field (b ∷ line) ≡ []
    nothing b line e = ap (λ s. take (cond (not s) (1 + prefix_len (λ x. not (x == 9)) line) 0) (b ∷ line)) e

return_field : (line : List ℕ) → has_tab (without_return line) ≡ true → (has_tab line ≡ true) × (first_field (without_return line) ≡ first_field line)
return_field line h =
    elim (slice_index line (length line - 1) == 13) as (λ s. has_tab (cond s (take (length line - 1) line) line) ≡ true → (has_tab line ≡ true) × (first_field (cond s (take (length line - 1) line) line) ≡ first_field line)) [
      | true ↦ λ t. front_field (length line - 1) line t
      | false ↦ λ t. (t, refl)
    ] h

end_field : (line : List ℕ) → has_tab (without_end line) ≡ true → first_field (without_end line) ≡ first_field line
end_field line h =
    let less = without_gap line in
    let short = without_return less in
    let a = front_field (length short - suffix_len is_gap short) short h in
    let b = return_field less a.0 in
    let c = front_field (length line - suffix_len is_gap line) line b.0 in
    a.1 ∙ b.1 ∙ c.1

-- where a line has a form, the first field that counts for the IDs of a file is the line's
pub head_same : (line : List ℕ) → is_formless (form_of line) ≡ false → head_field line ≡ first_field line
unfolding form_of
head_same line formed =
    let b = slice_index line 0 in
    let P : Bool → Type 0 = λ s. is_formless (cond s (of_two b line) (cond (begins_three b) (of_three b line) BadForm)) ≡ false → cond s (first_field (without_end line)) (first_field line) ≡ first_field line in
    let Q : Bool → Type 0 = λ t. has_tab (without_end line) ≡ t
    → is_formless (cond (t && not (has_tab (behind_tab (without_end line)))) (two_form b (first_field line) (behind_tab (without_end line))) BadForm) ≡ false → first_field (without_end line) ≡ first_field line in
    let two : Q (has_tab (without_end line)) = elim (has_tab (without_end line)) as Q [ true ↦ λ e _. end_field line e | false ↦ λ _ f. absurd (false≢true (sym f)) ] in
    let cases : P (begins_two b) = elim (begins_two b) as P [ true ↦ λ f. two refl f | false ↦ λ _. refl ] in
    cases formed

formed_by : (form : Form) (id : AnnId) → own_id form ≡ Some id → is_formless form ≡ false
formed_by BadForm id e = let lost : None ≡ Some id = e in cc
formed_by (TextForm _ _ _ _) id e = refl
formed_by (EventForm _ _ _ _) id e = refl
formed_by (RelationForm _ _ _ _) id e = refl
formed_by (AttributeForm _ _ _ _) id e = refl
formed_by (ClassForm _ _) id e = refl
formed_by (NormalForm _ _ _ _ _) id e = refl
formed_by (NoteForm _ _ _ _) id e = refl

-- an ID of its own counts for the IDs of a file
pub own_head : (line : List ℕ) (id : AnnId) → own_id (form_of line) ≡ Some id → id_read (head_field line) ≡ Some id
own_head line id e = ap id_read (head_same line (formed_by (form_of line) id e)) ∙ own_first line id e

-- ---- the sort of what each form spells

in_sort : (mark : Mark) (kind : Kind) (id : AnnId) → is_of_kind kind mark ≡ true → id.kind ≡ kind → is_of_kind id.kind mark ≡ true
in_sort mark kind id t e = ap (λ k. is_of_kind k mark) e ∙ t

none_marked : (conf : Configuration) (mark : Mark) → mark_of conf BadForm ≡ Some mark → ⊥
unfolding mark_of
none_marked conf mark q = cc

class_marked : (conf : Configuration) (kind : List ℕ) (ids : List (List ℕ)) (mark : Mark) → mark_of conf (ClassForm kind ids) ≡ Some mark → ⊥
unfolding mark_of
class_marked conf kind ids mark q = cc

-- a mark that is made of what is found
made_of : {X : Type 0} (P : Mark → Type 0) (f : X → Mark) (o : Option X) (mark : Mark) → ((x : X) → P (f x)) → option_map f o ≡ Some mark → P mark
made_of P f None mark h e = let lost : None ≡ Some mark = e in cc
made_of P f (Some x) mark h e = subst P (unsome e) (h x)

then_of : {X : Type 0} (P : Mark → Type 0) (f : X → Option Mark) (o : Option X) (mark : Mark) → ((x : X) → f x ≡ Some mark → P mark) → option_and_then f o ≡ Some mark → P mark
then_of P f None mark h e = let lost : None ≡ Some mark = e in cc
then_of P f (Some x) mark h e = h x e

text_sort : (conf : Configuration) (own kind : List ℕ) (frags : List Frag) (text : List ℕ) (mark : Mark) → mark_of conf (TextForm own kind frags text) ≡ Some mark → is_of_kind letter.Text mark ≡ true
unfolding mark_of
text_sort conf own kind frags text mark q =
    made_of (λ m. is_of_kind letter.Text m ≡ true) (λ id. marked.Span (record { kind = id; frags = frags })) (type_read conf kind) mark (λ x. refl) q

event_made : (kind : TypeId) (trigger : Option AnnId) (args : Option (List Arg)) (mark : Mark) → event_by kind trigger args ≡ Some mark → is_of_kind letter.Event mark ≡ true
event_made kind None args mark q = let lost : None ≡ Some mark = q in cc
event_made kind (Some id) None mark q = let lost : None ≡ Some mark = q in cc
event_made kind (Some id) (Some args) mark q = ap (λ m. is_of_kind letter.Event m) (sym (unsome q))

event_sort : (conf : Configuration) (own kind trigger : List ℕ) (pairs : List Pair) (mark : Mark) → mark_of conf (EventForm own kind trigger pairs) ≡ Some mark → is_of_kind letter.Event mark ≡ true
unfolding mark_of
event_sort conf own kind trigger pairs mark q =
    then_of (λ m. is_of_kind letter.Event m ≡ true) (λ id. event_by id (id_read trigger) (args_of conf id pairs)) (event_read conf kind) mark
    (λ id. event_made id (id_read trigger) (args_of conf id pairs) mark) q

relation_made : (kind : ℕ) (first second : Option AnnId) (mark : Mark) → relation_said kind first second ≡ Some mark → is_of_kind letter.Relation mark ≡ true
relation_made kind None second mark q = let lost : None ≡ Some mark = q in cc
relation_made kind (Some a) None mark q = let lost : None ≡ Some mark = q in cc
relation_made kind (Some a) (Some b) mark q = ap (λ m. is_of_kind letter.Relation m) (sym (unsome q))

relation_sort : (conf : Configuration) (own kind : List ℕ) (a b : Pair) (mark : Mark) → mark_of conf (RelationForm own kind a b) ≡ Some mark → is_of_kind letter.Relation mark ≡ true
unfolding mark_of
relation_sort conf own kind a b mark q =
    then_of (λ m. is_of_kind letter.Relation m ≡ true) (λ id. option_and_then (λ ends. relation_said id (id_read ends.first) (id_read ends.second)) (ends_of conf id a b)) (relation_read conf kind) mark
    (λ id. then_of (λ m. is_of_kind letter.Relation m ≡ true) (λ ends. relation_said id (id_read ends.first) (id_read ends.second)) (ends_of conf id a b) mark
    (λ ends. relation_made id (id_read ends.first) (id_read ends.second) mark)) q

-- an attribute stands under either letter
abbrev pub IsAttribute : Mark → Type 0
IsAttribute mark = (is_of_kind letter.Attribute mark ≡ true) × (is_of_kind letter.Legacy mark ≡ true)

attribute_made : (kind : ℕ) (target : Option AnnId) (value : Valued) (mark : Mark) → attribute_said kind target value ≡ Some mark → IsAttribute mark
attribute_made kind None value mark q = absurd (nothing_said q)
attribute_made kind (Some id) Undeclared mark q = absurd (nothing_said q)
attribute_made kind (Some id) (Declared v) mark q = (ap (λ m. is_of_kind letter.Attribute m) (sym (unsome q)), ap (λ m. is_of_kind letter.Legacy m) (sym (unsome q)))

attribute_sort : (conf : Configuration) (own kind target : List ℕ) (value : Option (List ℕ)) (mark : Mark) → mark_of conf (AttributeForm own kind target value) ≡ Some mark → IsAttribute mark
unfolding mark_of
attribute_sort conf own kind target value mark q =
    then_of IsAttribute (λ id. attribute_said id (id_read target) (value_read conf id value)) (attribute_read conf kind) mark
    (λ id. attribute_made id (id_read target) (value_read conf id value) mark) q

normal_sort : (conf : Configuration) (own target store entry text : List ℕ) (mark : Mark) → mark_of conf (NormalForm own target store entry text) ≡ Some mark → is_of_kind letter.Normal mark ≡ true
unfolding mark_of
normal_sort conf own target store entry text mark q =
    made_of (λ m. is_of_kind letter.Normal m ≡ true) (λ id. marked.Normal (record { target = id; store = store; entry = entry; text = text })) (id_read target) mark (λ x. refl) q

note_sort : (conf : Configuration) (own kind target text : List ℕ) (mark : Mark) → mark_of conf (NoteForm own kind target text) ≡ Some mark → is_of_kind letter.Note mark ≡ true
unfolding mark_of
note_sort conf own kind target text mark q =
    let made : AnnId → Mark = λ id. marked.Note (record { kind = kind; target = id; text = text }) in
    let P : Bool → Type 0 = λ b. cond b (option_map made (id_read target)) None ≡ Some mark → is_of_kind letter.Note mark ≡ true in
    let cases : P (is_none (name_fault kind)) = elim (is_none (name_fault kind)) as P [
      | true ↦ λ t. made_of (λ m. is_of_kind letter.Note m ≡ true) made (id_read target) mark (λ x. refl) t
      | false ↦ λ t. absurd (nothing_said t)
    ] in cases q

-- what a line spells is of the sort of its ID
pub sorts_fit : (conf : Configuration) (line : List ℕ) (id : AnnId) (mark : Mark)
    → own_id (form_of line) ≡ Some id → mark_of conf (form_of line) ≡ Some mark → is_of_kind id.kind mark ≡ true
sorts_fit conf line id mark e m =
    (elim (form_of line) as (λ form. Fits (slice_index line 0) (first_field line) form → mark_of conf form ≡ Some mark → is_of_kind id.kind mark ≡ true) [
      | BadForm ↦ λ f q. absurd (none_marked conf mark q)
      | TextForm own kind frags text ↦ λ f q. in_sort mark letter.Text id (text_sort conf own kind frags text mark q) (sort_of_line line id 84 letter.Text f.1 refl refl (own_first line id e))
      | EventForm own kind trigger pairs ↦ λ f q. in_sort mark letter.Event id (event_sort conf own kind trigger pairs mark q) (sort_of_line line id 69 letter.Event f.1 refl refl (own_first line id e))
      | RelationForm own kind a b ↦ λ f q. in_sort mark letter.Relation id (relation_sort conf own kind a b mark q) (sort_of_line line id 82 letter.Relation f.1 refl refl (own_first line id e))
      | AttributeForm own kind target value ↦ λ f q. elim f.1 as (λ _. is_of_kind id.kind mark ≡ true) [
        | inl t ↦ in_sort mark letter.Attribute id (attribute_sort conf own kind target value mark q).0 (sort_of_line line id 65 letter.Attribute t refl refl (own_first line id e))
        | inr t ↦ in_sort mark letter.Legacy id (attribute_sort conf own kind target value mark q).1 (sort_of_line line id 77 letter.Legacy t refl refl (own_first line id e))
      ]
      | ClassForm kind ids ↦ λ f q. absurd (class_marked conf kind ids mark q)
      | NormalForm own target store entry text ↦ λ f q. in_sort mark letter.Normal id (normal_sort conf own target store entry text mark q) (sort_of_line line id 78 letter.Normal f.1 refl refl (own_first line id e))
      | NoteForm own kind target text ↦ λ f q. in_sort mark letter.Note id (note_sort conf own kind target text mark q) (sort_of_line line id 35 letter.Note f.1 refl refl (own_first line id e))
    ]) (form_fits line) m

-- the letter that a line begins with is that of its ID
pub letter_at : (line : List ℕ) (id : AnnId) → own_id (form_of line) ≡ Some id → kind_read (slice_index line 0) ≡ Some id.kind
letter_at line id e =
    (elim (form_of line) as (λ form. Fits (slice_index line 0) (first_field line) form → own_id form ≡ Some id → kind_read (slice_index line 0) ≡ Some id.kind) [
      | BadForm ↦ λ f q. absurd (nothing_said q)
      | TextForm own kind frags text ↦ λ f q. ap kind_read f.1 ∙ ap Some (sym (sort_of_line line id 84 letter.Text f.1 refl refl (own_first line id e)))
      | EventForm own kind trigger pairs ↦ λ f q. ap kind_read f.1 ∙ ap Some (sym (sort_of_line line id 69 letter.Event f.1 refl refl (own_first line id e)))
      | RelationForm own kind a b ↦ λ f q. ap kind_read f.1 ∙ ap Some (sym (sort_of_line line id 82 letter.Relation f.1 refl refl (own_first line id e)))
      | AttributeForm own kind target value ↦ λ f q. elim f.1 as (λ _. kind_read (slice_index line 0) ≡ Some id.kind) [
        | inl t ↦ ap kind_read t ∙ ap Some (sym (sort_of_line line id 65 letter.Attribute t refl refl (own_first line id e)))
        | inr t ↦ ap kind_read t ∙ ap Some (sym (sort_of_line line id 77 letter.Legacy t refl refl (own_first line id e)))
      ]
      | ClassForm kind ids ↦ λ f q. absurd (nothing_said q)
      | NormalForm own target store entry text ↦ λ f q. ap kind_read f.1 ∙ ap Some (sym (sort_of_line line id 78 letter.Normal f.1 refl refl (own_first line id e)))
      | NoteForm own kind target text ↦ λ f q. ap kind_read f.1 ∙ ap Some (sym (sort_of_line line id 35 letter.Note f.1 refl refl (own_first line id e)))
    ]) (form_fits line) e

-- a line of a class begins with none
pub class_letter : (line : List ℕ) (kind : List ℕ) (ids : List (List ℕ)) → form_of line ≡ ClassForm kind ids → slice_index line 0 ≡ 42
class_letter line kind ids e = (subst (Fits (slice_index line 0) (first_field line)) e (form_fits line)).0
