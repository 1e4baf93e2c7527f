-- What a line says whose label is read.
use Rattle.std.proofs.Common.{◌≡◌, ℕ, ◌+◌, ◌-◌, ◌<◌, ◌≤◌, ◌==◌, ◌&&◌, not, true, false, cond, Bool, List, [], ◌∷◌, ◌++◌, Option, Some, None, Ok, Err, refl, sym, ◌∙◌, ap, subst, arith, nat_lt, nat_le, drop, codes, slice_get, bytes_eq, is_none, suc, append_assoc}
use Rattle.std.specs.Prelude.{⊤}
use Rattle.std.specs.Option.{option_map_or, option_map}
use Rattle.std.specs.List.{slice_split, position_from, join_with_byte}
use Rattle.std.proofs.lemmas.Bool.{eqb-true, ltb-false, leb-false, and_parts, false≢true, true≢false}
use Rattle.std.proofs.lemmas.List.Splits.{join_with_byte-slice_split}
use Rattle.std.proofs.lemmas.Slice.Eq.{bytes_eq-Decides}
use Rattle.mark_base.specs.declared.fragments.Frag.{Frag}
use Rattle.mark_base.specs.declared.table_places.TypeId.{TypeId}
use Rattle.mark_base.specs.Names.{name_fault}
use Rattle.type_hierarchy.specs.declared.type_row.TypeRow.{TypeRow}
use Rattle.type_hierarchy.specs.TypeTrees.{type_named, is_named}
use Rattle.conf_model.specs.Configurations.{Configuration}
use Rattle.conf_model.specs.ConfText.{type_name_at}
use Rattle.layer_rules.specs.MarkRules.{is_barred_type}
use Rattle.token_columns.specs.declared.column_fault.ColumnWhat.TheVariants.{NotForUse, TooLong, Full, Orphan, WrongToken}
use Rattle.token_columns.specs.declared.label.Label.{Label}
use Rattle.token_columns.specs.declared.label.Label.TheVariants as label
use Rattle.token_columns.specs.declared.label.LabelForm.{LabelForm}
use Rattle.token_columns.specs.declared.label.LabelForm.TheVariants as form
use Rattle.token_columns.specs.declared.line.Judged.{Judged}
use Rattle.token_columns.specs.declared.line.Judged.TheVariants.{Fault, Read}
use Rattle.token_columns.specs.declared.run.Run.{Run}
use Rattle.token_columns.specs.Columns.{token_text, labelled_line}
use Rattle.token_columns.specs.ReadColumns.{opened, is_begin, is_typed, form_of, begin_at, inside_at, usable, typed_at, label_at, token_at, field_at, fields_at, judged, first_differing}
use Rattle.token_columns.proofs.RunLemmas.{Follows}

-- spans may have the type
abbrev pub CanUse : Configuration → TypeId → Type 0
CanUse conf kind = (row : TypeRow) × (slice_get conf.types kind.n ≡ Some row) × (row.usable ≡ true)

-- a span may have its type, and is not too long
abbrev pub RunStands : Configuration → Run → Type 0
RunStands conf run = CanUse conf run.kind × (run.end - run.start ≤ 10000)

abbrev pub LastStands : Configuration → Option Run → Type 0
LastStands conf None = ⊤
LastStands conf (Some run) = RunStands conf run

-- the line of a token with a label that may stand there
pub record IsLabelled (conf : Configuration) (text : List ℕ) (last : Option Run) (count : ℕ) (token : Frag) (line : List ℕ) (label_ : Label) : Type 0 where
  pub shown : line ≡ labelled_line conf text token label_
  pub follows : Follows last label_
  pub kept : LastStands conf last → LastStands conf (opened last token label_)
  pub room : is_begin label_ ≡ true → count < 10000

abbrev pub Good : Configuration → List ℕ → Option Run → ℕ → Frag → List ℕ → Judged → Type 0
Good conf text last count token line (Fault what) = ⊤
Good conf text last count token line (Read label_) = IsLabelled conf text last count token line label_

-- ---- a type by its name

row_at : (name : List ℕ) (rows : List TypeRow) (i place : ℕ) → position_from (is_named name) i rows ≡ Some place
    → (row : TypeRow) × (i ≤ place) × (slice_get rows (place - i) ≡ Some row) × (row.name ≡ name)
row_at name [] i place h = absurd (let e : None ≡ Some place = h in cc)
row_at name (row ∷ rows) i place h =
    elim (is_named name row) as (λ b. is_named name row ≡ b → cond b (Some i) (position_from (is_named name) (i + 1) rows) ≡ Some place
    → (found : TypeRow) × (i ≤ place) × (slice_get (row ∷ rows) (place - i) ≡ Some found) × (found.name ≡ name)) [
      | true ↦ λ named e.
          let same : i ≡ place = cc in
          let first : place - i ≡ 0 = omega arith in
          (row, omega arith, ap (slice_get (row ∷ rows)) first, (bytes_eq-Decides row.name name).0 named)
      | false ↦ λ named e.
          let more = row_at name rows (i + 1) place e in
          let behind : place - i ≡ suc (place - (i + 1)) = omega (arith, more.1) in
          (more.0, omega (arith, more.1), ap (slice_get (row ∷ rows)) behind ∙ more.2, more.3)
    ] refl h

named_place : (name : List ℕ) (rows : List TypeRow) (o : Option ℕ) (kind : TypeId) → position_from (is_named name) 0 rows ≡ o → option_map (λ place. (let id : TypeId = record { n = place } in id)) o ≡ Some kind
    → position_from (is_named name) 0 rows ≡ Some kind.n
named_place name rows None kind p h = absurd (let e : None ≡ Some kind = h in cc)
named_place name rows (Some place) kind p h =
    let e : Some (let id : TypeId = record { n = place } in id) ≡ Some kind = h in
    let same : (let id : TypeId = record { n = place } in id) ≡ kind = cc in
    p ∙ ap (λ (id : TypeId). Some id.n) same

named_row : (conf : Configuration) (name : List ℕ) (kind : TypeId) → type_named conf.types name ≡ Some kind → (row : TypeRow) × (slice_get conf.types kind.n ≡ Some row) × (row.name ≡ name)
named_row conf name kind h =
    let found = row_at name conf.types 0 kind.n (named_place name conf.types (position_from (is_named name) 0 conf.types) kind refl h) in
    let all : kind.n - 0 ≡ kind.n = omega arith in
    (found.0, subst (λ n. slice_get conf.types n ≡ Some found.0) all found.2, found.3)

pub name_of_named : (conf : Configuration) (name : List ℕ) (kind : TypeId) → type_named conf.types name ≡ Some kind → type_name_at conf kind.n ≡ name
name_of_named conf name kind h =
    let found = named_row conf name kind h in
    ap (λ o. option_map_or (λ (row : TypeRow). row.name) o []) found.1 ∙ found.2

usable_from : (b : Bool) → not b ≡ false → b ≡ true
usable_from true h = refl
usable_from false h = absurd (true≢false h)

can_use : (conf : Configuration) (name : List ℕ) (kind : TypeId) → type_named conf.types name ≡ Some kind → is_barred_type conf kind ≡ false → CanUse conf kind
can_use conf name kind h free =
    let found = named_row conf name kind h in
    let not_barred : not found.0.usable ≡ false = sym (ap (λ o. option_map_or (λ (row : TypeRow). not row.usable) o false) found.1) ∙ free in
    (found.0, found.1, usable_from found.0.usable not_barred)

-- ---- a span that goes on

inside_of : (conf : Configuration) (text : List ℕ) (last : Option Run) (count : ℕ) (token : Frag) (line : List ℕ) (kind : TypeId)
    → line ≡ labelled_line conf text token (label.Inside kind) → CanUse conf kind → Good conf text last count token line (inside_at last token kind)
inside_of conf text None count token line kind shown can = tt
inside_of conf text (Some run) count token line kind shown can =
    elim (run.kind.n == kind.n) as (λ b. (run.kind.n == kind.n) ≡ b
    → Good conf text (Some run) count token line (cond b (cond (nat_lt 10000 (token.end - run.start)) (Fault TooLong) (Read (label.Inside kind))) (Fault Orphan))) [
      | true ↦ λ same.
          elim (nat_lt 10000 (token.end - run.start)) as (λ b. nat_lt 10000 (token.end - run.start) ≡ b
          → Good conf text (Some run) count token line (cond b (Fault TooLong) (Read (label.Inside kind)))) [
            | true ↦ λ _. tt
            | false ↦ λ short. record {
              shown = shown;
              follows = ap (λ n. (let id : TypeId = record { n = n } in id)) (eqb-true run.kind.n kind.n same);
              kept = λ stands. (stands.0, ltb-false 10000 (token.end - run.start) short);
              room = λ begins. absurd (false≢true begins);
            }
          ] refl
      | false ↦ λ _. tt
    ] refl

-- ---- the form of a label

abbrev if_begin : Bool → List ℕ → Option LabelForm
if_begin b field = cond b (Some form.Begin) (cond (is_typed 73 field) (Some form.Inside) None)

abbrev if_out : Bool → List ℕ → Option LabelForm
if_out b field = cond b (Some form.Out) (if_begin (is_typed 66 field) field)

abbrev pub FormIs : List ℕ → LabelForm → Type 0
FormIs field form.Out = field ≡ codes "O"
FormIs field form.Begin = field ≡ codes "B-" ++ drop 2 field
FormIs field form.Inside = field ≡ codes "I-" ++ drop 2 field

typed_is : (letter : ℕ) (field : List ℕ) → is_typed letter field ≡ true → field ≡ letter ∷ 45 ∷ drop 2 field
typed_is letter [] h =
    let parts = and_parts (0 == letter && 0 == 45) (is_none (name_fault [])) h in absurd (false≢true (and_parts (0 == letter) (0 == 45) parts.0).1)
typed_is letter (x ∷ []) h =
    let parts = and_parts (x == letter && 0 == 45) (is_none (name_fault [])) h in absurd (false≢true (and_parts (x == letter) (0 == 45) parts.0).1)
typed_is letter (x ∷ y ∷ rest) h =
    let parts = and_parts (x == letter && y == 45) (is_none (name_fault rest)) h in
    let both = and_parts (x == letter) (y == 45) parts.0 in
    let first : x ≡ letter = eqb-true x letter both.0 in
    let second : y ≡ 45 = eqb-true y 45 both.1 in
    ap (λ n. n ∷ y ∷ rest) first ∙ ap (λ n. letter ∷ n ∷ rest) second

pub form_is : (field : List ℕ) (form_ : LabelForm) → form_of field ≡ Some form_ → FormIs field form_
form_is field form_ h =
    elim (bytes_eq field (codes "O")) as (λ b. bytes_eq field (codes "O") ≡ b
    → (if_out b field) ≡ Some form_ → FormIs field form_) [
      | true ↦ λ out e. let same : form.Out ≡ form_ = cc in subst (FormIs field) same ((bytes_eq-Decides field (codes "O")).0 out)
      | false ↦ λ _ e.
          elim (is_typed 66 field) as (λ b. is_typed 66 field ≡ b → (if_begin b field) ≡ Some form_ → FormIs field form_) [
            | true ↦ λ begins e2. let same : form.Begin ≡ form_ = cc in subst (FormIs field) same (typed_is 66 field begins)
            | false ↦ λ _ e2.
                elim (is_typed 73 field) as (λ b. is_typed 73 field ≡ b → cond b (Some form.Inside) None ≡ Some form_ → FormIs field form_) [
                  | true ↦ λ goes e3. let same : form.Inside ≡ form_ = cc in subst (FormIs field) same (typed_is 73 field goes)
                  | false ↦ λ _ e3. absurd (let no : None ≡ Some form_ = e3 in cc)
                ] refl e2
          ] refl e
    ] refl h

-- ---- labels

module _ (conf : Configuration) (text : List ℕ) (last : Option Run) (count : ℕ) (token : Frag) (line : List ℕ) where
  good_begin : (kind : TypeId) → line ≡ labelled_line conf text token (label.Begin kind) → CanUse conf kind → Good conf text last count token line (begin_at count token kind)
  good_begin kind shown can =
      elim (nat_lt 10000 (token.end - token.start)) as (λ b. nat_lt 10000 (token.end - token.start) ≡ b
      → Good conf text last count token line (cond b (Fault TooLong) (cond (nat_le 10000 count) (Fault Full) (Read (label.Begin kind))))) [
        | true ↦ λ _. tt
        | false ↦ λ short.
            elim (nat_le 10000 count) as (λ b. nat_le 10000 count ≡ b → Good conf text last count token line (cond b (Fault Full) (Read (label.Begin kind)))) [
              | true ↦ λ _. tt
              | false ↦ λ few. record {
                shown = shown;
                follows = tt;
                kept = λ _. (can, ltb-false 10000 (token.end - token.start) short);
                room = λ _. let h = leb-false 10000 count few in omega (arith, h);
              }
            ] refl
      ] refl

  good_inside : (kind : TypeId) → line ≡ labelled_line conf text token (label.Inside kind) → CanUse conf kind → Good conf text last count token line (inside_at last token kind)
  good_inside kind shown can = inside_of conf text last count token line kind shown can

  good_typed : (name : List ℕ) (found : TypeId → Judged) → ((kind : TypeId) → type_named conf.types name ≡ Some kind → CanUse conf kind → Good conf text last count token line (found kind))
      → Good conf text last count token line (typed_at (usable conf (type_named conf.types name)) found)
  good_typed name found each =
      elim (type_named conf.types name) as (λ o. type_named conf.types name ≡ o → Good conf text last count token line (typed_at (usable conf o) found)) [
        | None ↦ λ _. tt
        | Some kind ↦ λ named.
            elim (is_barred_type conf kind) as (λ b. is_barred_type conf kind ≡ b → Good conf text last count token line (typed_at (cond b (Err NotForUse) (Ok kind)) found)) [
              | true ↦ λ _. tt
              | false ↦ λ free. each kind named (can_use conf name kind named free)
            ] refl
      ] refl

  good_label : (form_ : LabelForm) (field : List ℕ) → line ≡ token_text text token ++ codes "\t" ++ field → FormIs field form_
      → Good conf text last count token line (label_at conf last count token form_ (drop 2 field))
  good_label form.Out field shown is = record {
    shown = shown ∙ ap (λ f. token_text text token ++ codes "\t" ++ f) is;
    follows = tt;
    kept = λ _. tt;
    room = λ begins. absurd (false≢true begins);
  }
  good_label form.Begin field shown is =
      good_typed (drop 2 field) (begin_at count token)
      (λ kind named can. good_begin kind (shown ∙ ap (λ f. token_text text token ++ codes "\t" ++ f) (is ∙ ap (λ n. codes "B-" ++ n) (sym (name_of_named conf (drop 2 field) kind named)))) can)
  good_label form.Inside field shown is =
      good_typed (drop 2 field) (inside_at last token)
      (λ kind named can. good_inside kind (shown ∙ ap (λ f. token_text text token ++ codes "\t" ++ f) (is ∙ ap (λ n. codes "I-" ++ n) (sym (name_of_named conf (drop 2 field) kind named)))) can)

  good_token : (shown : List ℕ) (form_ : LabelForm) (field : List ℕ) → line ≡ shown ++ codes "\t" ++ field → FormIs field form_
      → Good conf text last count token line (token_at conf text last count (Some token) shown form_ (drop 2 field))
  good_token shown form_ field is formed =
      elim (bytes_eq shown (token_text text token)) as (λ b. bytes_eq shown (token_text text token) ≡ b
      → Good conf text last count token line (cond b (label_at conf last count token form_ (drop 2 field)) (Fault (WrongToken (first_differing shown (token_text text token)))))) [
        | true ↦ λ same. good_label form_ field (is ∙ ap (λ t. t ++ codes "\t" ++ field) ((bytes_eq-Decides shown (token_text text token)).0 same)) formed
        | false ↦ λ _. tt
      ] refl

  good_field : (shown field : List ℕ) (o : Option LabelForm) → form_of field ≡ o → line ≡ shown ++ codes "\t" ++ field
      → Good conf text last count token line (field_at conf text last count (Some token) shown field o)
  good_field shown field None formed is = tt
  good_field shown field (Some form_) formed is = good_token shown form_ field is (form_is field form_ formed)

  good_fields : (fields : List (List ℕ)) → slice_split (λ b. b == 9) line ≡ fields → Good conf text last count token line (fields_at conf text last count (Some token) fields)
  good_fields [] is = tt
  good_fields (shown ∷ []) is = tt
  good_fields (shown ∷ field ∷ []) is =
      good_field shown field (form_of field) refl (sym (join_with_byte-slice_split 9 line) ∙ ap (join_with_byte 9) is ∙ sym (append_assoc shown (codes "\t") field))
  good_fields (shown ∷ field ∷ other ∷ more) is = tt

  -- a label that is read may stand there
  pub good_judged : Good conf text last count token line (judged conf text last count (Some token) line)
  unfolding judged
  good_judged = good_fields (slice_split (λ b. b == 9) line) refl
