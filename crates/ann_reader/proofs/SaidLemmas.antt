-- The layer that lines say, line by line: what is put stays, what is there was put, and the classes are those that were said.
use Rattle.std.proofs.Common.{◌≡◌, ℕ, ◌⊎◌, inl, inr, Bool, true, false, ◌||◌, List, [], ◌∷◌, refl, sym, ◌∙◌, ap, Option, Some, None, cond, is_some, eq-eqb}
use Rattle.std.specs.Option.{option_map_or}
use Rattle.std.specs.List.{fold, list_any, cons_option}
use Rattle.std.specs.FinMap as finite
use Rattle.std.specs.FinMap.{get-empty}
use Rattle.std.specs.Ordering.{nat_cmp}
use Rattle.mark_base.specs.declared.ann_id.AnnId.{AnnId}
use Rattle.mark_base.specs.declared.ann_id.Kind.{Kind}
use Rattle.mark_base.specs.declared.ann_id.Kind.TheVariants as letter
use Rattle.conf_model.specs.Configurations.{Configuration}
use Rattle.layer_model.specs.declared.mark.Mark.{Mark}
use Rattle.layer_model.specs.Annotations.{Annotations, no_marks}
use Rattle.layer_model.specs.Classes.{joined, rank}
use Rattle.layer_model.specs.Layers.{has, has_number, is_of_kind, mark_at, mark_of, with_mark}
use Rattle.layer_rules.specs.LayerRules.{is_id}
use Rattle.ann_reader.specs.Lines.{Line}
use Rattle.ann_reader.specs.LineForms.{form_of}
use Rattle.ann_reader.specs.LineIds.{own_id}
use Rattle.ann_reader.specs.LineMeanings.{Said, mark_of as mark_said, said_of}
use Rattle.ann_reader.specs.AnnFaults.{with_read, with_said, with_line}
use Rattle.ann_reader.specs.AnnFiles.{is_line_of, said_in, joined_too}
use Rattle.ann_reader.proofs.HeldLemmas.{stands_here, stands_still, came_from, classes_stay, marks_stay, numbers_stay}

-- ---- a class more

said_marks : (l : Annotations) (said : Option Said) (kind : Kind) (n : ℕ) → mark_of (with_said l said) kind n ≡ mark_of l kind n
said_marks l None kind n = refl
said_marks l (Some said) kind n = marks_stay l (joined (record { n = said.kind }) said.members l.classes) kind n

pub said_numbers : (l : Annotations) (said : Option Said) (kind : Kind) (n : ℕ) → has_number (with_said l said) kind n ≡ has_number l kind n
said_numbers l None kind n = refl
said_numbers l (Some said) kind n = numbers_stay l (joined (record { n = said.kind }) said.members l.classes) kind n

-- ---- an annotation more

read_keeps : (l : Annotations) (own : Option AnnId) (mark : Option Mark) (kind : Kind) (n : ℕ) (y : Mark)
    → mark_of l kind n ≡ Some y → mark_of (with_read l own mark) kind n ≡ Some y
read_keeps l None mark kind n y h = h
read_keeps l (Some id) None kind n y h = h
read_keeps l (Some id) (Some mark) kind n y h =
    elim (has l id) as (λ b. has l id ≡ b → mark_of (cond b l (with_mark l id mark)) kind n ≡ Some y) [
      | true ↦ λ _. h
      | false ↦ λ new. stands_still l id.kind id.number mark kind n y new h
    ] refl

read_puts : (l : Annotations) (id : AnnId) (mark : Mark) → is_of_kind id.kind mark ≡ true → has l id ≡ false → mark_at (with_read l (Some id) (Some mark)) id ≡ Some mark
read_puts l id mark fits new =
    ap (λ b. mark_at (cond b l (with_mark l id mark)) id) new ∙ stands_here l id.kind id.number mark fits

pub read_came : (l : Annotations) (own : Option AnnId) (mark : Option Mark) (kind : Kind) (n : ℕ)
    → has_number (with_read l own mark) kind n ≡ true → (has_number l kind n ≡ true) ⊎ ((id : AnnId) × (own ≡ Some id) × (kind ≡ id.kind) × (n ≡ id.number))
read_came l None mark kind n h = inl h
read_came l (Some id) None kind n h = inl h
read_came l (Some id) (Some mark) kind n h =
    let G : Type 0 = (has_number l kind n ≡ true) ⊎ ((other : AnnId) × (Some id ≡ Some other) × (kind ≡ other.kind) × (n ≡ other.number)) in
    let P : Bool → Type 0 = λ b. has_number (cond b l (with_mark l id mark)) kind n ≡ true → G in
    let cases : P (has l id) = elim (has l id) as P [
      | true ↦ λ t. inl t
      | false ↦ λ t. elim (came_from l id.kind id.number mark kind n t) as (λ _. G) [ inl u ↦ inl u | inr e ↦ inr (id, refl, e.0, e.1) ]
    ] in cases h

pub read_classes : (l : Annotations) (own : Option AnnId) (mark : Option Mark) → (with_read l own mark).classes ≡ l.classes
read_classes l None mark = refl
read_classes l (Some id) None = refl
read_classes l (Some id) (Some mark) =
    elim (has l id) as (λ b. (cond b l (with_mark l id mark)).classes ≡ l.classes) [ true ↦ refl | false ↦ classes_stay l id.kind id.number mark ]

-- ---- a line more

line_keeps : (conf : Configuration) (l : Annotations) (line : Line) (kind : Kind) (n : ℕ) (y : Mark)
    → mark_of l kind n ≡ Some y → mark_of (with_line conf l line) kind n ≡ Some y
line_keeps conf l line kind n y h =
    said_marks (with_read l (own_id (form_of line.bytes)) (mark_said conf (form_of line.bytes))) (said_of conf (form_of line.bytes)) kind n
    ∙ read_keeps l (own_id (form_of line.bytes)) (mark_said conf (form_of line.bytes)) kind n y h

pub line_puts : (conf : Configuration) (l : Annotations) (line : Line) (id : AnnId) (mark : Mark)
    → own_id (form_of line.bytes) ≡ Some id → mark_said conf (form_of line.bytes) ≡ Some mark → is_of_kind id.kind mark ≡ true → has l id ≡ false
    → mark_at (with_line conf l line) id ≡ Some mark
line_puts conf l line id mark own read fits new =
    said_marks (with_read l (own_id (form_of line.bytes)) (mark_said conf (form_of line.bytes))) (said_of conf (form_of line.bytes)) id.kind id.number
    ∙ ap (λ o. mark_at (with_read l o (mark_said conf (form_of line.bytes))) id) own ∙ ap (λ m. mark_at (with_read l (Some id) m) id) read ∙ read_puts l id mark fits new

same_place : (a b : AnnId) → a.kind ≡ b.kind → a.number ≡ b.number → is_id a b ≡ true
same_place a b k n = eq-eqb (rank a) (rank b) (let same : rank a ≡ rank b = cc in same)

line_came : (conf : Configuration) (l : Annotations) (line : Line) (id : AnnId)
    → has (with_line conf l line) id ≡ true → (has l id ≡ true) ⊎ (is_line_of id line ≡ true)
line_came conf l line id h =
    let G : Type 0 = (has l id ≡ true) ⊎ (is_line_of id line ≡ true) in
    let before : has_number (with_read l (own_id (form_of line.bytes)) (mark_said conf (form_of line.bytes))) id.kind id.number ≡ true =
    sym (said_numbers (with_read l (own_id (form_of line.bytes)) (mark_said conf (form_of line.bytes))) (said_of conf (form_of line.bytes)) id.kind id.number) ∙ h in
    elim (read_came l (own_id (form_of line.bytes)) (mark_said conf (form_of line.bytes)) id.kind id.number before) as (λ _. G) [
      | inl t ↦ inl t
      | inr e ↦ inr (ap (λ o. option_map_or (is_id id) o false) e.1 ∙ same_place id e.0 e.2 e.3)
    ]

-- ---- lines

pub lines_keep : (conf : Configuration) (l : Annotations) (lines : List Line) (kind : Kind) (n : ℕ) (y : Mark)
    → mark_of l kind n ≡ Some y → mark_of (fold (with_line conf) l lines) kind n ≡ Some y
lines_keep conf l [] kind n y h = h
lines_keep conf l (line ∷ lines) kind n y h = lines_keep conf (with_line conf l line) lines kind n y (line_keeps conf l line kind n y h)

or_true : (b : Bool) → (b || true) ≡ true
or_true true = refl
or_true false = refl

pub lines_came : (conf : Configuration) (l : Annotations) (lines : List Line) (id : AnnId)
    → has (fold (with_line conf) l lines) id ≡ true → (has l id ≡ true) ⊎ (list_any (is_line_of id) lines ≡ true)
lines_came conf l [] id h = inl h
lines_came conf l (line ∷ lines) id h =
    let G : Type 0 = (has l id ≡ true) ⊎ (list_any (is_line_of id) (line ∷ lines) ≡ true) in
    elim (lines_came conf (with_line conf l line) lines id h) as (λ _. G) [
      | inl t ↦ elim (line_came conf l line id t) as (λ _. G) [ inl u ↦ inl u | inr e ↦ inr (ap (λ b. b || list_any (is_line_of id) lines) e) ]
      | inr e ↦ inr (ap (λ b. is_line_of id line || b) e ∙ or_true (is_line_of id line))
    ]

empty_has : (X : Type 0) (n : ℕ) → is_some (finite.get (finite.empty {K = ℕ} {X = X} {R = nat_cmp}) n) ≡ true → ⊥
empty_has X n h =
    let none : is_some (finite.get (finite.empty {K = ℕ} {X = X} {R = nat_cmp}) n) ≡ false = ap is_some (get-empty nat_cmp n) in cc

pub none_of : (kind : Kind) (n : ℕ) → has_number no_marks kind n ≡ true → ⊥
none_of letter.Text n h = empty_has _ n h
none_of letter.Event n h = empty_has _ n h
none_of letter.Relation n h = empty_has _ n h
none_of letter.Attribute n h = empty_has _ n h
none_of letter.Legacy n h = empty_has _ n h
none_of letter.Normal n h = empty_has _ n h
none_of letter.Note n h = empty_has _ n h

-- an empty layer has nothing
pub none_there : (id : AnnId) → has no_marks id ≡ true → ⊥
none_there id h = none_of id.kind id.number h

-- the classes are those that were said
classes_more : (conf : Configuration) (l : Annotations) (line : Line)
    → (with_line conf l line).classes ≡ fold joined_too l.classes (said_in conf (line ∷ []))
classes_more conf l line =
    let own = own_id (form_of line.bytes) in
    let mark = mark_said conf (form_of line.bytes) in
    elim (said_of conf (form_of line.bytes)) as (λ said. (with_said (with_read l own mark) said).classes ≡ fold joined_too l.classes (cons_option said [])) [
      | None ↦ read_classes l own mark
      | Some said ↦ ap (λ classes. joined_too classes said) (read_classes l own mark)
    ]

pub lines_classes : (conf : Configuration) (l : Annotations) (lines : List Line)
    → (fold (with_line conf) l lines).classes ≡ fold joined_too l.classes (said_in conf lines)
lines_classes conf l [] = refl
lines_classes conf l (line ∷ lines) =
    lines_classes conf (with_line conf l line) lines ∙ ap (λ classes. fold joined_too classes (said_in conf lines)) (classes_more conf l line)
    ∙ elim (said_of conf (form_of line.bytes)) as (λ said. fold joined_too (fold joined_too l.classes (cons_option said [])) (said_in conf lines) ≡ fold joined_too l.classes (cons_option said (said_in conf lines))) [
      | None ↦ refl
      | Some said ↦ refl
    ]
