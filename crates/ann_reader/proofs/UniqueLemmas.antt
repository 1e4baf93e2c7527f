-- A file has at most one layer.
use Rattle.std.proofs.Common.{◌≡◌, ℕ, ◌+◌, ◌*◌, ◌≤◌, ◌==◌, inl, inr, true, false, List, [], ◌∷◌, refl, sym, ◌∙◌, ap, Option, Some, None, cond, is_some, option_map, arith}
use Rattle.std.specs.Option.{option_map_or}
use Rattle.std.specs.List.{list_any, AllByRecursion}
use Rattle.std.specs.Ordering.{nat_cmp}
use Rattle.std.specs.Cmp.{nat_cmp_total}
use Rattle.std.specs.FinMap as finite
use Rattle.std.specs.FinMap.{same_map, nat_cmp-IsAntisymmetric}
use Rattle.std.proofs.lemmas.Bool.{or_cases, false≢true, eqb-true, cases_Bool}
use Rattle.mark_base.specs.declared.ann_id.AnnId.{AnnId}
use Rattle.mark_base.specs.declared.ann_id.Kind.{Kind}
use Rattle.mark_base.specs.declared.ann_id.Kind.TheVariants as letter
use Rattle.conf_model.specs.Configurations.{Configuration}
use Rattle.layer_model.specs.declared.mark.Mark.{Mark}
use Rattle.layer_model.specs.declared.mark.Mark.TheVariants as marked
use Rattle.layer_model.specs.Annotations.{Annotations}
use Rattle.layer_model.specs.Classes.{letter_place, rank}
use Rattle.layer_model.specs.Layers.{IsLayer, has, has_number, mark_of}
use Rattle.layer_rules.specs.LayerRules.{is_id}
use Rattle.ann_reader.specs.Lines.{Line, lines_of}
use Rattle.ann_reader.specs.LineForms.{Form, BadForm, TextForm, EventForm, RelationForm, AttributeForm, ClassForm, NormalForm, NoteForm, form_of}
use Rattle.ann_reader.specs.LineIds.{own_id}
use Rattle.ann_reader.specs.AnnFiles.{HasMark, Spells, IsAnn, is_line_of, said_in, classes_of}
use Rattle.ann_reader.proofs.CleanLemmas.{not_some, unsome}

-- what of a file decides its layer
pub record Decides (conf : Configuration) (text bytes : List ℕ) (layer : Annotations) : Type 0 where
  pub spelt : AllByRecursion (λ line. Spells conf text layer (form_of line.bytes)) (lines_of bytes)
  pub only : (id : AnnId) → has layer id ≡ true → list_any (is_line_of id) (lines_of bytes) ≡ true
  pub classes : layer.classes ≡ classes_of (said_in conf (lines_of bytes))

pub decides : (conf : Configuration) (text bytes : List ℕ) (layer : Annotations) → IsAnn conf text bytes layer → Decides conf text bytes layer
decides conf text bytes layer h = record { spelt = h.spelt; only = h.only; classes = h.classes }

-- ---- IDs by their places

kind_at : ℕ → Kind
kind_at n =
    cond (n == 0) letter.Text (cond (n == 1) letter.Event (cond (n == 2) letter.Relation (cond (n == 3) letter.Attribute (cond (n == 4) letter.Legacy (cond (n == 5) letter.Normal letter.Note)))))

at_place : (kind : Kind) → kind_at (letter_place kind) ≡ kind
unfolding kind_at
at_place letter.Text = refl
at_place letter.Event = refl
at_place letter.Relation = refl
at_place letter.Attribute = refl
at_place letter.Legacy = refl
at_place letter.Normal = refl
at_place letter.Note = refl

same_numbers : (p q m n : ℕ) → m ≤ 999999999 → n ≤ 999999999 → p * 1000000000 + m ≡ q * 1000000000 + n → (p ≡ q) × (m ≡ n)
same_numbers p q m n small few e = (omega arith, omega arith)

pub same_parts : (a b : AnnId) → is_id a b ≡ true → (a.kind ≡ b.kind) × (a.number ≡ b.number)
same_parts a b h =
    let e : rank a ≡ rank b = eqb-true (rank a) (rank b) h in
    let parts = same_numbers (letter_place a.kind) (letter_place b.kind) a.number b.number a.within b.within e in
    (sym (at_place a.kind) ∙ ap kind_at parts.0 ∙ at_place b.kind, parts.1)

-- ---- what a line spells is the same in both layers

has_of : (conf : Configuration) (text : List ℕ) (l : Annotations) (form : Form) (own : AnnId) → own_id form ≡ Some own → Spells conf text l form → HasMark conf l form
has_of conf text l BadForm own e h = absurd h
has_of conf text l (TextForm a b c d) own e h = h.0
has_of conf text l (EventForm a b c d) own e h = h.0
has_of conf text l (RelationForm a b c d) own e h = h
has_of conf text l (AttributeForm a b c d) own e h = h
has_of conf text l (ClassForm a b) own e h = absurd (not_some (sym e))
has_of conf text l (NormalForm a b c d x) own e h = h
has_of conf text l (NoteForm a b c d) own e h = h

same_held : (conf : Configuration) (a b : Annotations) (form : Form) (own : AnnId) → own_id form ≡ Some own → HasMark conf a form → HasMark conf b form
    → mark_of a own.kind own.number ≡ mark_of b own.kind own.number
same_held conf a b form own e x y =
    let mine : x.id ≡ own = unsome (sym x.headed ∙ e) in
    let yours : y.id ≡ own = unsome (sym y.headed ∙ e) in
    let one : x.mark ≡ y.mark = unsome (sym x.spelt ∙ y.spelt) in
    sym (ap (λ (id : AnnId). mark_of a id.kind id.number) mine) ∙ x.held ∙ ap Some one ∙ sym y.held ∙ ap (λ (id : AnnId). mark_of b id.kind id.number) yours

same_line : (conf : Configuration) (text : List ℕ) (a b : Annotations) (line : Line) (id : AnnId)
    → Spells conf text a (form_of line.bytes) → Spells conf text b (form_of line.bytes) → is_line_of id line ≡ true → mark_of a id.kind id.number ≡ mark_of b id.kind id.number
same_line conf text a b line id x y h =
    let P : Option AnnId → Type 0 = λ o. own_id (form_of line.bytes) ≡ o → option_map_or (is_id id) o false ≡ true → mark_of a id.kind id.number ≡ mark_of b id.kind id.number in
    let cases : P (own_id (form_of line.bytes)) = elim (own_id (form_of line.bytes)) as P [
      | None ↦ λ e t. absurd (false≢true t)
      | Some own ↦ λ e t.
          let parts = same_parts id own t in
          let same = same_held conf a b (form_of line.bytes) own e (has_of conf text a (form_of line.bytes) own e x) (has_of conf text b (form_of line.bytes) own e y) in
          ap (λ k. mark_of a k id.number) parts.0 ∙ ap (mark_of a own.kind) parts.1 ∙ same ∙ sym (ap (λ k. mark_of b k id.number) parts.0 ∙ ap (mark_of b own.kind) parts.1)
    ] in cases refl h

some_line : (conf : Configuration) (text : List ℕ) (a b : Annotations) (lines : List Line) (id : AnnId)
    → AllByRecursion (λ line. Spells conf text a (form_of line.bytes)) lines → AllByRecursion (λ line. Spells conf text b (form_of line.bytes)) lines
    → list_any (is_line_of id) lines ≡ true → mark_of a id.kind id.number ≡ mark_of b id.kind id.number
some_line conf text a b [] id x y h = absurd (false≢true h)
some_line conf text a b (line ∷ lines) id x y h =
    elim (or_cases (is_line_of id line) (list_any (is_line_of id) lines) h) as (λ _. mark_of a id.kind id.number ≡ mark_of b id.kind id.number) [
      | inl t ↦ same_line conf text a b line id x.0 y.0 t
      | inr t ↦ some_line conf text a b lines id x.1 y.1 t
    ]

-- ---- all numbers

nothing : {X Y : Type 0} (f : X → Y) (o : Option X) → is_some o ≡ false → option_map f o ≡ None
nothing f None e = refl
nothing f (Some x) e = absurd (let t : true ≡ false = e in cc)

no_mark : (l : Annotations) (kind : Kind) (n : ℕ) → has_number l kind n ≡ false → mark_of l kind n ≡ None
no_mark l letter.Text n h = nothing marked.Span (finite.get l.spans n) h
no_mark l letter.Event n h = nothing marked.Event (finite.get l.events n) h
no_mark l letter.Relation n h = nothing marked.Relation (finite.get l.relations n) h
no_mark l letter.Attribute n h = nothing marked.Attribute (finite.get l.attributes n) h
no_mark l letter.Legacy n h = nothing marked.Attribute (finite.get l.legacy n) h
no_mark l letter.Normal n h = nothing marked.Normal (finite.get l.normals n) h
no_mark l letter.Note n h = nothing marked.Note (finite.get l.notes n) h

few : (l : Annotations) → IsLayer l → (kind : Kind) (n : ℕ) → has_number l kind n ≡ true → n ≤ 999999999
few l k letter.Text n h = k.spans n h
few l k letter.Event n h = k.events n h
few l k letter.Relation n h = k.relations n h
few l k letter.Attribute n h = k.attributes n h
few l k letter.Legacy n h = k.legacy n h
few l k letter.Normal n h = k.normals n h
few l k letter.Note n h = k.notes n h

agree : (conf : Configuration) (text bytes : List ℕ) (a b : Annotations) → IsLayer a → Decides conf text bytes a → Decides conf text bytes b
    → (kind : Kind) (n : ℕ) → has_number a kind n ≡ true → mark_of a kind n ≡ mark_of b kind n
agree conf text bytes a b keeps x y kind n h =
    let id : AnnId = record { kind = kind; number = n; within = few a keeps kind n h } in
    some_line conf text a b (lines_of bytes) id x.spelt y.spelt (x.only id h)

same_marks : (conf : Configuration) (text bytes : List ℕ) (a b : Annotations) → IsLayer a → IsLayer b → Decides conf text bytes a → Decides conf text bytes b
    → (kind : Kind) (n : ℕ) → mark_of a kind n ≡ mark_of b kind n
same_marks conf text bytes a b k l x y kind n =
    elim (cases_Bool (has_number a kind n)) as (λ _. mark_of a kind n ≡ mark_of b kind n) [
      | inl t ↦ agree conf text bytes a b k x y kind n t
      | inr t ↦ elim (cases_Bool (has_number b kind n)) as (λ _. mark_of a kind n ≡ mark_of b kind n) [
        | inl u ↦ sym (agree conf text bytes b a l y x kind n u)
        | inr u ↦ no_mark a kind n t ∙ sym (no_mark b kind n u)
      ]
    ]

-- ---- the layers

unmap : {X Y : Type 0} (f : X → Y) → ((x y : X) → f x ≡ f y → x ≡ y) → (o p : Option X) → option_map f o ≡ option_map f p → o ≡ p
unmap f inj None None e = refl
unmap f inj None (Some y) e = absurd (not_some (sym e))
unmap f inj (Some x) None e = absurd (not_some e)
unmap f inj (Some x) (Some y) e = ap Some (inj x y (unsome e))

one_map : {X : Type 0} (f : X → Mark) → ((x y : X) → f x ≡ f y → x ≡ y) → (m n : finite.FinMap nat_cmp X)
    → ((q : ℕ) → option_map f (finite.get m q) ≡ option_map f (finite.get n q)) → m ≡ n
one_map f inj m n h = same_map nat_cmp_total nat_cmp-IsAntisymmetric m n (λ q. unmap f inj (finite.get m q) (finite.get n q) (h q))

-- two layers that are decided alike are one layer
pub one_decided : (conf : Configuration) (text bytes : List ℕ) (a b : Annotations) → IsLayer a → IsLayer b → Decides conf text bytes a → Decides conf text bytes b → a ≡ b
one_decided conf text bytes a b k l x y =
    let same = same_marks conf text bytes a b k l x y in
    let spans = one_map marked.Span (λ p q e. cc) a.spans b.spans (same letter.Text) in
    let events = one_map marked.Event (λ p q e. cc) a.events b.events (same letter.Event) in
    let relations = one_map marked.Relation (λ p q e. cc) a.relations b.relations (same letter.Relation) in
    let attributes = one_map marked.Attribute (λ p q e. cc) a.attributes b.attributes (same letter.Attribute) in
    let legacy = one_map marked.Attribute (λ p q e. cc) a.legacy b.legacy (same letter.Legacy) in
    let normals = one_map marked.Normal (λ p q e. cc) a.normals b.normals (same letter.Normal) in
    let notes = one_map marked.Note (λ p q e. cc) a.notes b.notes (same letter.Note) in
    let classes = x.classes ∙ sym y.classes in
    ap (λ m. let r : Annotations = record a { spans = m } in r) spans
    ∙ ap (λ m. let r : Annotations = record a { spans = b.spans; events = m } in r) events
    ∙ ap (λ m. let r : Annotations = record a { spans = b.spans; events = b.events; relations = m } in r) relations
    ∙ ap (λ m. let r : Annotations = record a { spans = b.spans; events = b.events; relations = b.relations; attributes = m } in r) attributes
    ∙ ap (λ m. let r : Annotations = record b { legacy = m; normals = a.normals; notes = a.notes; classes = a.classes } in r) legacy
    ∙ ap (λ m. let r : Annotations = record b { normals = m; notes = a.notes; classes = a.classes } in r) normals
    ∙ ap (λ m. let r : Annotations = record b { notes = m; classes = a.classes } in r) notes
    ∙ ap (λ m. let r : Annotations = record b { classes = m } in r) classes

-- two layers that are one file are one layer
pub one_layer : (conf : Configuration) (text bytes : List ℕ) (a b : Annotations) → IsLayer a → IsLayer b → IsAnn conf text bytes a → IsAnn conf text bytes b → a ≡ b
one_layer conf text bytes a b k l x y = one_decided conf text bytes a b k l (decides conf text bytes a x) (decides conf text bytes b y)
