-- The lines of columns are read without a fault.
use Rattle.std.proofs.Common.{slice_get, ◌≡◌, ℕ, ◌+◌, ◌-◌, ◌<◌, ◌≤◌, ◌==◌, not, true, false, cond, List, [], ◌∷◌, ◌++◌, map, Option, Some, None, Ok, Err, refl, sym, ◌∙◌, ap, subst, nat_lt, nat_le, codes, bytes_eq, is_none}
use Rattle.std.specs.Prelude.{⊤}
use Rattle.std.specs.Option.{option_map_or}
use Rattle.std.specs.List.{AllByRecursion}
use Rattle.std.specs.Str.{NonePass}
use Rattle.std.proofs.lemmas.Bool.{cond-true, cond-false, le-ltb, lt-leb, eq-eqb}
use Rattle.mark_base.specs.declared.fragments.Frag.{Frag}
use Rattle.mark_base.specs.declared.table_places.TypeId.{TypeId}
use Rattle.mark_base.specs.Names.{name_fault}
use Rattle.type_hierarchy.specs.declared.type_row.TypeRow.{TypeRow}
use Rattle.type_hierarchy.specs.TypeTrees.{type_named}
use Rattle.conf_model.specs.Configurations.{Configuration}
use Rattle.conf_model.specs.ConfText.{type_name_at}
use Rattle.conf_model.specs.Sound.{IsSound}
use Rattle.layer_rules.specs.MarkRules.{is_barred_type}
use Rattle.ann_writer.proofs.ConfWords.{same_word, type_read_back, type_word}
use Rattle.ann_writer.proofs.PlainWords.{IsPlain, name_plain, parts}
use Rattle.token_columns.specs.declared.column_fault.ColumnWhat.TheVariants.{NotForUse}
use Rattle.token_columns.specs.declared.label.Label.{Label}
use Rattle.token_columns.specs.declared.label.Label.TheVariants as label
use Rattle.token_columns.specs.declared.label.LabelForm.TheVariants as form
use Rattle.token_columns.specs.declared.line.Judged.{Judged}
use Rattle.token_columns.specs.declared.line.Judged.TheVariants.{Read}
use Rattle.token_columns.specs.declared.run.Run.{Run}
use Rattle.token_columns.specs.Columns.{label_word, labelled_line, token_text}
use Rattle.token_columns.specs.ReadColumns.{Tag, last_of, begun, is_blank, begin_at, inside_at, usable, typed_at, fields_at, field_at, judged, judged_then, with_tag, read_from}
use Rattle.token_columns.proofs.JudgedLemmas.{CanUse}
use Rattle.token_columns.proofs.PlainLemmas.{fields_split}
use Rattle.token_columns.proofs.ReadFacts.{shown_in, tag_line}
use Rattle.token_columns.proofs.RunLemmas.{tokens_in}

-- ---- a name of a type

pub record IsKind (conf : Configuration) (kind : TypeId) (name : List ℕ) : Type 0 where
  pub plain : NonePass parts name
  pub faultless : name_fault name ≡ None
  pub named : type_named conf.types name ≡ Some kind
  pub free : is_barred_type conf kind ≡ false

pub kind_is : (conf : Configuration) (kind : TypeId) → IsSound conf → CanUse conf kind → IsKind conf kind (type_name_at conf kind.n)
kind_is conf kind sound can =
    let row : TypeRow = can.0 in
    let word = type_word conf sound kind.n row can.1 in
    let name : type_name_at conf kind.n ≡ row.name = ap (λ o. option_map_or (λ (r : TypeRow). r.name) o []) can.1 in
    subst (IsKind conf kind) (sym name) (record {
      plain = (name_plain row.name word).free;
      faultless = word.faultless;
      named = type_read_back conf sound kind.n row can.1;
      free = ap (λ o. option_map_or (λ (r : TypeRow). not r.usable) o false) can.1 ∙ ap not can.2;
    })

-- the type of a row is that of the row's name
pub own_name : (conf : Configuration) (kind : TypeId) (row : TypeRow) (name : List ℕ) → IsSound conf → slice_get conf.types kind.n ≡ Some row → row.name ≡ name → type_named conf.types name ≡ Some kind
own_name conf kind row name sound is same = ap (type_named conf.types) (sym same) ∙ type_read_back conf sound kind.n row is

pub label_plain : (conf : Configuration) → IsSound conf → (label_ : Label) → ((kind : TypeId) → label_ ≡ label.Begin kind → CanUse conf kind) → ((kind : TypeId) → label_ ≡ label.Inside kind → CanUse conf kind) → NonePass parts (label_word conf label_)
label_plain conf sound label.Out b i = (refl, tt)
label_plain conf sound (label.Begin kind) b i = (refl, (refl, (kind_is conf kind sound (b kind refl)).plain))
label_plain conf sound (label.Inside kind) b i = (refl, (refl, (kind_is conf kind sound (i kind refl)).plain))

-- ---- a line

-- a label may stand at a token
abbrev pub CanSay : Configuration → Option Run → ℕ → Frag → Label → Type 0
CanSay conf last count token label.Out = ⊤
CanSay conf last count token (label.Begin kind) = CanUse conf kind × (token.end - token.start ≤ 10000) × (count < 10000)
CanSay conf None count token (label.Inside kind) = ⊥
CanSay conf (Some run) count token (label.Inside kind) = CanUse conf kind × (run.kind ≡ kind) × (token.end - run.start ≤ 10000)

own_token : (conf : Configuration) (text : List ℕ) (last : Option Run) (count : ℕ) (token : Frag) (judged_ other : Judged) → cond (bytes_eq (token_text text token) (token_text text token)) judged_ other ≡ judged_
own_token conf text last count token judged_ other = cond-true (bytes_eq (token_text text token) (token_text text token)) judged_ other (same_word (token_text text token))

typed_is : (conf : Configuration) (kind : TypeId) (name : List ℕ) (found : TypeId → Judged) → IsKind conf kind name → typed_at (usable conf (type_named conf.types name)) found ≡ found kind
typed_is conf kind name found k = ap (λ o. typed_at (usable conf o) found) k.named ∙ ap (λ b. typed_at (cond b (Err NotForUse) (Ok kind)) found) k.free

module _ (conf : Configuration) (text : List ℕ) (sound : IsSound conf) (count : ℕ) (token : Frag) (plain : IsPlain (token_text text token)) where
  begin_read : (last : Option Run) (kind : TypeId) → CanUse conf kind → token.end - token.start ≤ 10000 → count < 10000
      → judged conf text last count (Some token) (labelled_line conf text token (label.Begin kind)) ≡ Read (label.Begin kind)
  unfolding judged
  begin_read last kind can short room =
      let name : List ℕ = type_name_at conf kind.n in
      let k : IsKind conf kind name = kind_is conf kind sound can in
      let field : List ℕ = codes "B-" ++ name in
      ap (fields_at conf text last count (Some token)) (fields_split (token_text text token) field plain.free (refl, (refl, k.plain)))
      ∙ ap (λ o. field_at conf text last count (Some token) (token_text text token) field (cond (is_none o) (Some form.Begin) None)) k.faultless
      ∙ own_token conf text last count token _ _ ∙ typed_is conf kind name (begin_at count token) k
      ∙ cond-false (nat_lt 10000 (token.end - token.start)) _ _ (le-ltb 10000 (token.end - token.start) short) ∙ cond-false (nat_le 10000 count) _ _ (lt-leb 10000 count room)

  inside_read : (run : Run) (kind : TypeId) → CanUse conf kind → run.kind ≡ kind → token.end - run.start ≤ 10000
      → judged conf text (Some run) count (Some token) (labelled_line conf text token (label.Inside kind)) ≡ Read (label.Inside kind)
  unfolding judged
  inside_read run kind can same short =
      let name : List ℕ = type_name_at conf kind.n in
      let k : IsKind conf kind name = kind_is conf kind sound can in
      let field : List ℕ = codes "I-" ++ name in
      ap (fields_at conf text (Some run) count (Some token)) (fields_split (token_text text token) field plain.free (refl, (refl, k.plain)))
      ∙ ap (λ o. field_at conf text (Some run) count (Some token) (token_text text token) field (cond (is_none o) (Some form.Inside) None)) k.faultless
      ∙ own_token conf text (Some run) count token _ _ ∙ typed_is conf kind name (inside_at (Some run) token) k
      ∙ cond-true (run.kind.n == kind.n) _ _ (eq-eqb run.kind.n kind.n (ap (λ (id : TypeId). id.n) same)) ∙ cond-false (nat_lt 10000 (token.end - run.start)) _ _ (le-ltb 10000 (token.end - run.start) short)

  out_read : (last : Option Run) → judged conf text last count (Some token) (labelled_line conf text token label.Out) ≡ Read label.Out
  unfolding judged
  out_read last =
      ap (fields_at conf text last count (Some token)) (fields_split (token_text text token) (codes "O") plain.free (refl, tt)) ∙ own_token conf text last count token _ _

  pub label_is_read : (last : Option Run) (label_ : Label) → CanSay conf last count token label_ → judged conf text last count (Some token) (labelled_line conf text token label_) ≡ Read label_
  label_is_read last label.Out can = out_read last
  label_is_read last (label.Begin kind) can = begin_read last kind can.0 can.1 can.2
  label_is_read None (label.Inside kind) can = absurd can
  label_is_read (Some run) (label.Inside kind) can = inside_read run kind can.0 can.1 can.2

-- ---- all lines

-- each label may stand behind those before it
abbrev pub AllSay : Configuration → List Tag → List Tag → Type 0
AllSay conf before [] = ⊤
AllSay conf before (tag ∷ tags) = CanSay conf (last_of before) (begun before) tag.token tag.label × AllSay conf (tag ∷ before) tags

abbrev pub ArePlain : List ℕ → List Frag → Type 0
ArePlain text tokens = AllByRecursion (λ (token : Frag). IsPlain (token_text text token)) tokens

blank_kept : (conf : Configuration) (text : List ℕ) (number : ℕ) (before : List Tag) (tokens : List Frag) (line : List ℕ) (lines : List (List ℕ)) → is_blank line ≡ true
    → read_from conf text number before tokens (line ∷ lines) ≡ read_from conf text (number + 1) before tokens lines
blank_kept conf text number before [] line lines blank = cond-true (is_blank line) _ _ blank
blank_kept conf text number before (token ∷ tokens) line lines blank = cond-true (is_blank line) _ _ blank

skipped : (line : List ℕ) (lines : List (List ℕ)) → is_blank line ≡ true → shown_in (line ∷ lines) ≡ shown_in lines
skipped line lines blank = cond-false (not (is_blank line)) (line ∷ shown_in lines) (shown_in lines) (ap not blank)

kept_line : (line : List ℕ) (lines : List (List ℕ)) → is_blank line ≡ false → shown_in (line ∷ lines) ≡ line ∷ shown_in lines
kept_line line lines blank = cond-true (not (is_blank line)) (line ∷ shown_in lines) (shown_in lines) (ap not blank)

pub all_read : (conf : Configuration) (text : List ℕ) (sound : IsSound conf) (number : ℕ) (before tags : List Tag) (lines : List (List ℕ)) → shown_in lines ≡ map (tag_line conf text) tags → AllSay conf before tags → ArePlain text (tokens_in tags)
    → read_from conf text number before (tokens_in tags) lines ≡ Ok tags
all_read conf text sound number before [] [] shown say plain = refl
all_read conf text sound number before (tag ∷ tags) [] shown say plain = absurd (let e : [] ≡ tag_line conf text tag ∷ map (tag_line conf text) tags = shown in cc)
all_read conf text sound number before [] (line ∷ lines) shown say plain =
    elim (is_blank line) as (λ b. is_blank line ≡ b → read_from conf text number before [] (line ∷ lines) ≡ Ok []) [
      | true ↦ λ blank. blank_kept conf text number before [] line lines blank ∙ all_read conf text sound (number + 1) before [] lines (sym (skipped line lines blank) ∙ shown) say plain
      | false ↦ λ blank. absurd (let e : line ∷ shown_in lines ≡ [] = sym (kept_line line lines blank) ∙ shown in cc)
    ] refl
all_read conf text sound number before (tag ∷ tags) (line ∷ lines) shown say plain =
    elim (is_blank line) as (λ b. is_blank line ≡ b → read_from conf text number before (tag.token ∷ tokens_in tags) (line ∷ lines) ≡ Ok (tag ∷ tags)) [
      | true ↦ λ blank. blank_kept conf text number before (tag.token ∷ tokens_in tags) line lines blank ∙ all_read conf text sound (number + 1) before (tag ∷ tags) lines (sym (skipped line lines blank) ∙ shown) say plain
      | false ↦ λ blank.
          let both : line ∷ shown_in lines ≡ tag_line conf text tag ∷ map (tag_line conf text) tags = sym (kept_line line lines blank) ∙ shown in
          let first : line ≡ tag_line conf text tag = cc in
          let rest : shown_in lines ≡ map (tag_line conf text) tags = cc in
          let read : judged conf text (last_of before) (begun before) (Some tag.token) line ≡ Read tag.label =
          ap (judged conf text (last_of before) (begun before) (Some tag.token)) first ∙ label_is_read conf text sound (begun before) tag.token plain.0 (last_of before) tag.label say.0 in
          cond-false (is_blank line) _ _ blank
          ∙ ap (λ j. judged_then number j (λ l. let t : Tag = record { token = tag.token; label = l } in with_tag t (read_from conf text (number + 1) (t ∷ before) (tokens_in tags) lines))) read
          ∙ ap (with_tag tag) (all_read conf text sound (number + 1) (tag ∷ before) tags lines rest say.1 plain.1)
    ] refl
