-- How many classes a line may bring, and that what it says of a class has members.
use Rattle.std.proofs.Common.{◌≡◌, ℕ, ◌+◌, ◌<◌, ◌≤◌, Bool, true, false, not, cond, List, [], ◌∷◌, length, map, refl, sym, ap, subst, Option, Some, None, arith}
use Rattle.std.specs.Prelude.{IfSome}
use Rattle.std.specs.Option.{option_map, option_and_then}
use Rattle.std.specs.List.{filter}
use Rattle.mark_base.specs.declared.ann_id.AnnId.{AnnId}
use Rattle.conf_model.specs.Configurations.{Configuration}
use Rattle.layer_model.specs.declared.class.Class.{Class}
use Rattle.layer_model.specs.Annotations.{Annotations}
use Rattle.layer_model.specs.Classes.{apart, comes_before, insert_class, joined_class, shares}
use Rattle.ann_reader.specs.declared.line_meaning.Said.{Said as SaidValue}
use Rattle.ann_reader.specs.NamesRead.{relation_read}
use Rattle.mark_base.specs.ReadIds.{id_read}
use Rattle.ann_reader.specs.Words.{all_of}
use Rattle.ann_reader.specs.LineForms.{Form, BadForm, TextForm, EventForm, RelationForm, AttributeForm, ClassForm, NormalForm, NoteForm}
use Rattle.ann_reader.specs.LineIds.{own_id}
use Rattle.ann_reader.specs.LineMeanings.{Said, mark_of, said_of, said_by}
use Rattle.ann_reader.specs.AnnFaults.{with_read, with_said, with_form}
use Rattle.ann_reader.specs.FormShows.{NamesSome, seen_said}
use Rattle.ann_reader.proofs.SaidLemmas.{read_classes}
use Rattle.ann_reader.proofs.CleanLemmas.{not_some, unsome}

-- ---- at most one class more

filter_len : {X : Type 0} (p : X → Bool) (xs : List X) → length (filter p xs) ≤ length xs
filter_len p [] = omega arith
filter_len p (x ∷ xs) =
    let more : length (filter p xs) ≤ length xs = filter_len p xs in
    elim (p x) as (λ b. length (cond b (x ∷ filter p xs) (filter p xs)) ≤ length (x ∷ xs)) [ true ↦ omega arith | false ↦ omega arith ]

insert_len : (class : Class) (classes : List Class) → length (insert_class class classes) ≡ length classes + 1
insert_len class [] = omega arith
insert_len class (first ∷ classes) =
    let more : length (insert_class class classes) ≡ length classes + 1 = insert_len class classes in
    elim (comes_before class first) as (λ b. length (cond b (class ∷ first ∷ classes) (first ∷ insert_class class classes)) ≡ length (first ∷ classes) + 1) [ true ↦ omega arith | false ↦ omega arith ]

said_len : (l : Annotations) (said : Option Said) → length (with_said l said).classes ≤ length l.classes + 1
said_len l None = omega arith
said_len l (Some said) =
    let one : length (insert_class (joined_class (record { n = said.kind }) said.members l.classes) (apart said.kind said.members l.classes)) ≡ length (apart said.kind said.members l.classes) + 1 =
    insert_len (joined_class (record { n = said.kind }) said.members l.classes) (apart said.kind said.members l.classes) in
    let less : length (apart said.kind said.members l.classes) ≤ length l.classes = filter_len (λ class. not (shares said.kind said.members class)) l.classes in
    omega arith

-- a line brings at most one class
pub form_len : (conf : Configuration) (l : Annotations) (form : Form) → length (with_form conf l form).classes ≤ length l.classes + 1
form_len conf l form =
    let same : length (with_read l (own_id form) (mark_of conf form)).classes ≡ length l.classes = ap length (read_classes l (own_id form) (mark_of conf form)) in
    let one : length (with_form conf l form).classes ≤ length (with_read l (own_id form) (mark_of conf form)).classes + 1 = said_len (with_read l (own_id form) (mark_of conf form)) (said_of conf form) in
    omega arith

pub read_len : (conf : Configuration) (l : Annotations) (form : Form) → length (with_read l (own_id form) (mark_of conf form)).classes ≡ length l.classes
read_len conf l form = ap length (read_classes l (own_id form) (mark_of conf form))

-- ---- members

all_len : (words : List (List ℕ)) (ids : List AnnId) → all_of (map id_read words) ≡ Some ids → 0 < length words → 0 < length ids
all_len [] ids e h = absurd (omega arith)
all_len (word ∷ words) ids e h =
    let P : Option AnnId → Type 0 = λ o. option_and_then (λ x. option_map (λ xs. x ∷ xs) (all_of (map id_read words))) o ≡ Some ids → 0 < length ids in
    let Q : AnnId → Option (List AnnId) → Type 0 = λ x o. option_map (λ xs. x ∷ xs) o ≡ Some ids → 0 < length ids in
    let inner : (x : AnnId) → Q x (all_of (map id_read words)) = λ x. elim (all_of (map id_read words)) as (Q x) [
      | None ↦ λ q. absurd (not_some (sym q))
      | Some xs ↦ λ q. subst (λ (ys : List AnnId). 0 < length ys) (unsome q) (let some : 0 < length (x ∷ xs) = omega arith in some)
    ] in
    let cases : P (id_read word) = elim (id_read word) as P [ None ↦ λ q. absurd (not_some (sym q)) | Some x ↦ λ q. inner x q ] in
    cases e

said_some : (kind : Option ℕ) (ids : List (List ℕ)) (said : Said) → said_by kind (all_of (map id_read ids)) ≡ Some said → 0 < length ids → 0 < length said.members
said_some None ids said e h = absurd (not_some (sym e))
said_some (Some kind) ids said e h =
    let P : Option (List AnnId) → Type 0 = λ o. all_of (map id_read ids) ≡ o → said_by (Some kind) o ≡ Some said → 0 < length said.members in
    let cases : P (all_of (map id_read ids)) = elim (all_of (map id_read ids)) as P [
      | None ↦ λ _ q. absurd (not_some (sym q))
      | Some members ↦ λ a q. subst (λ (s : Said). 0 < length s.members) (unsome q) (all_len ids members a h)
    ] in cases refl e

pub form_some : (conf : Configuration) (form : Form) (said : Said) → NamesSome form → said_of conf form ≡ Some said → 0 < length said.members
form_some conf BadForm said h e = absurd (not_some (sym e))
form_some conf (TextForm a b c d) said h e = absurd (not_some (sym e))
form_some conf (EventForm a b c d) said h e = absurd (not_some (sym e))
form_some conf (RelationForm a b c d) said h e = absurd (not_some (sym e))
form_some conf (AttributeForm a b c d) said h e = absurd (not_some (sym e))
form_some conf (ClassForm kind ids) said h e = said_some (relation_read conf kind) ids said e h
form_some conf (NormalForm a b c d x) said h e = absurd (not_some (sym e))
form_some conf (NoteForm a b c d) said h e = absurd (not_some (sym e))

-- what a line says of a class has members
pub members_some : (conf : Configuration) (form : Form) (said : Option SaidValue) → NamesSome form → option_map seen_said said ≡ said_of conf form → IfSome said (λ one. 0 < length one.members)
members_some conf form None h e = tt
members_some conf form (Some said) h e = form_some conf form (seen_said said) h (sym e)
