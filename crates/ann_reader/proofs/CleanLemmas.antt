-- A line without a fault spells an annotation or says something of a class.
use Rattle.std.proofs.Common.{◌≡◌, ℕ, Bool, true, false, not, ◌&&◌, List, [], ◌∷◌, refl, sym, ◌∙◌, ap, subst, Option, Some, None, cond, map, length}
use Rattle.std.specs.Option.{is_none, is_some, option_map_or, option_or, option_and_then, option_map}
use Rattle.std.specs.List.{list_any, find, filter_map, cons_option}
use Rattle.std.proofs.lemmas.Bool.{or_parts, not-false}
use Rattle.mark_base.specs.declared.ann_id.AnnId.{AnnId}
use Rattle.mark_base.specs.declared.table_places.TypeId.{TypeId}
use Rattle.mark_base.specs.declared.arguments.Arg.{Arg}
use Rattle.mark_base.specs.Names.{name_fault}
use Rattle.conf_model.specs.Configurations.{Configuration}
use Rattle.conf_model.specs.Lookups.{values_of}
use Rattle.layer_model.specs.declared.mark.Mark.{Mark}
use Rattle.layer_model.specs.declared.mark.Mark.TheVariants as sort
use Rattle.layer_model.specs.declared.rule.Rule.{Rule}
use Rattle.layer_model.specs.declared.rule.Rule.TheVariants.{UnknownType, NotForUse, UnknownRole, UnknownValue}
use Rattle.layer_model.specs.Coherent.{is_span_letter}
use Rattle.layer_rules.specs.AttributeValues.{Valued, Undeclared, Declared, value_refused}
use Rattle.layer_rules.specs.MarkRules.{where_so, Wanted, first_unwanted}
use Rattle.ann_reader.specs.declared.ann_fault.AnnWhat.TheVariants.{BadLine, BadId, IdTwice, Broken}
use Rattle.ann_reader.specs.Roles.{role_read}
use Rattle.ann_reader.specs.Lines.{Line}
use Rattle.mark_base.specs.ReadIds.{id_read}
use Rattle.ann_reader.specs.Words.{all_of}
use Rattle.ann_reader.specs.NamesRead.{type_read, event_read, relation_read, attribute_read, value_read}
use Rattle.ann_reader.specs.LineForms.{Pair, Form, BadForm, TextForm, EventForm, RelationForm, AttributeForm, ClassForm, NormalForm, NoteForm, form_of}
use Rattle.ann_reader.specs.LineIds.{IdWord, id_words, may_stand, of_letters, own_word, own_id, is_own_misspelt, is_misspelt, has_no_letter}
use Rattle.ann_reader.specs.LineMeanings.{arg_of, args_of, arg_by, Ends, ends_of, is_role, span_by, event_by, relation_by, attribute_by, normal_by, mark_of, said_of, said_by}
use Rattle.ann_reader.specs.LineFaults.{is_bad_line, has_bad_id, is_twice, has_unknown_type, has_barred_type, first_absent, first_unfit, wanted_of, has_unknown_role, has_unknown_value, line_rule, line_fault, naming_rule, value_rule}
use Rattle.ann_reader.specs.AnnFiles.{is_span_word}
use Rattle.ann_reader.specs.declared.id_letters.Letters.{Letters}
use Rattle.ann_reader.specs.declared.id_letters.Letters.TheVariants.{Spans, SpansOrEvents}

-- something that is there
abbrev pub Found : {X : Type 0} → Option X → Type 0
Found {X} o = (x : X) × (o ≡ Some x)

pub found : {X : Type 0} (o : Option X) → is_none o ≡ false → Found o
found None e = absurd (let t : true ≡ false = e in cc)
found (Some x) e = (x, refl)

pub not_some : {X : Type 0} {x : X} → Some x ≡ None → ⊥
not_some e = cc

pub unsome : {X : Type 0} {x y : X} → Some x ≡ Some y → x ≡ y
unsome e = cc

-- ---- what a line without a fault keeps

pub record Clean (conf : Configuration) (all : List Line) (line : Line) (form : Form) : Type 0 where
  pub formed : is_bad_line form ≡ false
  pub spelt : has_bad_id form ≡ false
  pub once : is_twice all line ≡ false
  pub types : has_unknown_type conf form ≡ false
  pub roles : has_unknown_role conf form ≡ false
  pub values : has_unknown_value conf form ≡ false
  pub letters : first_unfit (id_words form) ≡ None

step : {X : Type 0} (a : X) (b : Bool) (o : Option X) → cond b (Some a) o ≡ None → (b ≡ false) × (o ≡ None)
step a true o e = absurd (not_some e)
step a false o e = (refl, e)

first_none : (b : Bool) (rule : Rule) (o : Option Rule) → option_or (where_so b rule) o ≡ None → (b ≡ false) × (o ≡ None)
first_none true rule o e = absurd (not_some e)
first_none false rule o e = (refl, e)

pub later_none : {X : Type 0} (a b : Option X) → option_or a b ≡ None → (a ≡ None) × (b ≡ None)
later_none None b e = (refl, e)
later_none (Some a) b e = absurd (not_some e)

pub unmapped : {X Y : Type 0} (f : X → Y) (o : Option X) → option_map f o ≡ None → o ≡ None
unmapped f None e = refl
unmapped f (Some x) e = absurd (not_some e)

pub clean : (conf : Configuration) (all : List Line) (before : ℕ) (line : Line) → line_fault conf all before line ≡ None → Clean conf all line (form_of line.bytes)
unfolding line_fault
clean conf all before line e =
    let form = form_of line.bytes in
    let a = step BadLine (is_bad_line form) (cond (has_bad_id form) (Some BadId) (cond (is_twice all line) (Some IdTwice) (option_map Broken (line_rule conf all before line form)))) e in
    let b = step BadId (has_bad_id form) (cond (is_twice all line) (Some IdTwice) (option_map Broken (line_rule conf all before line form))) a.1 in
    let c = step IdTwice (is_twice all line) (option_map Broken (line_rule conf all before line form)) b.1 in
    let rules = later_none (naming_rule conf all form) (value_rule conf before line form) (unmapped Broken (line_rule conf all before line form) c.1) in
    let names = first_none (has_unknown_type conf form) UnknownType _ rules.0 in
    let uses = first_none (has_barred_type conf form) NotForUse _ names.1 in
    let there = later_none (first_absent all (id_words form)) _ uses.1 in
    let fit = later_none (first_unfit (id_words form)) None there.1 in
    let role = first_none (has_unknown_role conf form) UnknownRole _ rules.1 in
    let value = first_none (has_unknown_value conf form) UnknownValue _ role.1 in
    record { formed = a.0; spelt = b.0; once = c.0; types = names.0; roles = role.0; values = value.0; letters = fit.0 }

-- ---- the IDs that it names

-- the first of some IDs is of a letter that fits
first_fits : (letters : Letters) (word : List ℕ) (more : List IdWord) (id : AnnId) → id_read word ≡ Some id
    → first_unfit (of_letters letters word ∷ more) ≡ None → may_stand letters id.kind ≡ true
first_fits letters word more id e f =
    let wanted : AnnId → Wanted = λ one. record { id = one; fits = may_stand letters one.kind } in
    let rest = filter_map wanted_of more in
    let g : first_unwanted (wanted id ∷ rest) ≡ None = sym (ap (λ o. first_unwanted (cons_option (option_map wanted o) rest)) e) ∙ f in
    not-false (may_stand letters id.kind) (step (wanted id) (not (may_stand letters id.kind)) (find (λ one. not one.fits) rest) (unmapped _ (find (λ one. not one.fits) (wanted id ∷ rest)) g)).0

-- the trigger of an event is a span
pub trigger_fits : (conf : Configuration) (all : List Line) (line : Line) (first kind trigger : List ℕ) (pairs : List Pair)
    → Clean conf all line (EventForm first kind trigger pairs) → is_span_word trigger ≡ true
trigger_fits conf all line first kind trigger pairs clean =
    let spelt = or_parts (is_own_misspelt (EventForm first kind trigger pairs)) (list_any is_misspelt (id_words (EventForm first kind trigger pairs))) clean.spelt in
    let ids = or_parts (is_none (id_read trigger)) (list_any is_misspelt (map (λ pair. of_letters SpansOrEvents pair.target) pairs)) spelt.1 in
    let own = found (id_read trigger) ids.0 in
    ap (λ o. option_map_or (λ (id : AnnId). is_span_letter id.kind) o false) own.1
    ∙ first_fits Spans trigger (map (λ pair. of_letters SpansOrEvents pair.target) pairs) own.0 own.1 clean.letters

pub own_found : (form : Form) (word : List ℕ) → own_word form ≡ Some word → is_own_misspelt form ≡ false → Found (own_id form)
own_found form word e f =
    let g : is_none (id_read word) ≡ false = sym (ap (λ o. option_map_or (λ w. is_none (id_read w)) o false) e) ∙ f in
    let there = found (id_read word) g in
    (there.0, ap (λ o. option_and_then id_read o) e ∙ there.1)

all_read : (words : List (List ℕ)) → list_any is_misspelt (map (of_letters Spans) words) ≡ false → Found (all_of (map id_read words))
all_read [] e = ([], refl)
all_read (word ∷ words) e =
    let parts = or_parts (is_none (id_read word)) (list_any is_misspelt (map (of_letters Spans) words)) e in
    let one = found (id_read word) parts.0 in
    let more = all_read words parts.1 in
    (one.0 ∷ more.0, ap (λ o. option_and_then (λ x. option_map (λ xs. x ∷ xs) (all_of (map id_read words))) o) one.1 ∙ ap (λ o. option_map (λ xs. one.0 ∷ xs) o) more.1)

args_read : (conf : Configuration) (kind : TypeId) (pairs : List Pair)
    → list_any is_misspelt (map (λ pair. of_letters SpansOrEvents pair.target) pairs) ≡ false
    → list_any (λ pair. is_none (role_read conf kind.n pair.role)) pairs ≡ false → Found (args_of conf kind pairs)
args_read conf kind [] e f = ([], refl)
args_read conf kind (pair ∷ pairs) e f =
    let ids = or_parts (is_none (id_read pair.target)) (list_any is_misspelt (map (λ pair. of_letters SpansOrEvents pair.target) pairs)) e in
    let roles = or_parts (is_none (role_read conf kind.n pair.role)) (list_any (λ pair. is_none (role_read conf kind.n pair.role)) pairs) f in
    let id = found (id_read pair.target) ids.0 in
    let role = found (role_read conf kind.n pair.role) roles.0 in
    let more = args_read conf kind pairs ids.1 roles.1 in
    let arg : Arg = record { role = role.0; target = id.0 } in
    let one : arg_of conf kind pair ≡ Some arg = ap (λ o. arg_by o (id_read pair.target)) role.1 ∙ ap (λ o. arg_by (Some role.0) o) id.1 in
    (arg ∷ more.0, ap (λ o. option_and_then (λ x. option_map (λ xs. x ∷ xs) (args_of conf kind pairs)) o) one ∙ ap (λ o. option_map (λ xs. arg ∷ xs) o) more.1)

-- ---- the annotation

ends_read : (conf : Configuration) (kind : ℕ) (a b : Pair) (ends : Ends) → ends_of conf kind a b ≡ Some ends
    → Found (id_read a.target) → Found (id_read b.target) → Found (relation_by kind (id_read ends.first) (id_read ends.second))
ends_read conf kind a b ends e x y =
    let G : Ends → Type 0 = λ t. Found (relation_by kind (id_read t.first) (id_read t.second)) in
    let straight : G (record { first = a.target; second = b.target }) = (_, ap (λ o. relation_by kind o (id_read b.target)) x.1 ∙ ap (λ o. relation_by kind (Some x.0) o) y.1) in
    let crossed : G (record { first = b.target; second = a.target }) = (_, ap (λ o. relation_by kind o (id_read a.target)) y.1 ∙ ap (λ o. relation_by kind (Some y.0) o) x.1) in
    let P : Bool → Type 0 = λ s. (t : Bool) → cond s (Some (record { first = a.target; second = b.target })) (cond t (Some (record { first = b.target; second = a.target })) None) ≡ Some ends → G ends in
    let cases : (s : Bool) → P s = λ s. elim s as P [
      | true ↦ λ t q. subst G (unsome q) straight
      | false ↦ λ t. elim t as (λ r. cond r (Some (record { first = b.target; second = a.target })) None ≡ Some ends → G ends) [ true ↦ λ q. subst G (unsome q) crossed | false ↦ λ q. absurd (not_some (sym q)) ]
    ] in
    cases (is_role conf kind false a.role && is_role conf kind true b.role) (is_role conf kind true a.role && is_role conf kind false b.role) e

valued : (declared : ℕ) (value : Valued) → value_refused declared value ≡ false → (v : Option ℕ) × (value ≡ Declared v)
valued declared Undeclared e = absurd (let t : true ≡ false = e in cc)
valued declared (Declared v) e = (v, refl)

-- a line without a fault that has an ID of its own spells an annotation
pub marked : (conf : Configuration) (all : List Line) (line : Line) (form : Form) (word : List ℕ)
    → Clean conf all line form → own_word form ≡ Some word → Found (mark_of conf form)
unfolding mark_of
marked conf all line BadForm word clean e = absurd (not_some (sym e))
marked conf all line (ClassForm kind ids) word clean e = absurd (not_some (sym e))
marked conf all line (TextForm first kind frags text) word clean e =
    let id = found (type_read conf kind) clean.types in (_, ap (λ o. span_by o frags) id.1)
marked conf all line (EventForm first kind trigger pairs) word clean e =
    let id = found (event_read conf kind) clean.types in
    let spelt = or_parts (is_own_misspelt (EventForm first kind trigger pairs)) (list_any is_misspelt (id_words (EventForm first kind trigger pairs))) clean.spelt in
    let ids = or_parts (is_none (id_read trigger)) (list_any is_misspelt (map (λ pair. of_letters SpansOrEvents pair.target) pairs)) spelt.1 in
    let own = found (id_read trigger) ids.0 in
    let roles : list_any (λ pair. is_none (role_read conf id.0.n pair.role)) pairs ≡ false =
    sym (ap (λ o. option_map_or (λ (kind : TypeId). list_any (λ pair. is_none (role_read conf kind.n pair.role)) pairs) o false) id.1) ∙ clean.roles in
    let args = args_read conf id.0 pairs ids.1 roles in (
      _,
      ap (λ o. option_and_then (λ kind. event_by kind (id_read trigger) (args_of conf kind pairs)) o) id.1
          ∙ ap (λ o. event_by id.0 o (args_of conf id.0 pairs)) own.1 ∙ ap (λ o. event_by id.0 (Some own.0) o) args.1,
    )
marked conf all line (RelationForm first kind a b) word clean e =
    let id = found (relation_read conf kind) clean.types in
    let spelt = or_parts (is_own_misspelt (RelationForm first kind a b)) (list_any is_misspelt (id_words (RelationForm first kind a b))) clean.spelt in
    let ids = or_parts (is_none (id_read a.target)) (list_any is_misspelt (of_letters SpansOrEvents b.target ∷ [])) spelt.1 in
    let others = or_parts (is_none (id_read b.target)) false ids.1 in
    let ends = found (ends_of conf id.0 a b) (sym (ap (λ o. option_map_or (λ kind. is_none (ends_of conf kind a b)) o false) id.1) ∙ clean.roles) in
    let made = ends_read conf id.0 a b ends.0 ends.1 (found (id_read a.target) ids.0) (found (id_read b.target) others.0) in (
      made.0,
      ap (λ o. option_and_then (λ kind. option_and_then (λ ends. relation_by kind (id_read ends.first) (id_read ends.second)) (ends_of conf kind a b)) o) id.1
          ∙ ap (λ o. option_and_then (λ ends. relation_by id.0 (id_read ends.first) (id_read ends.second)) o) ends.1 ∙ made.1,
    )
marked conf all line (AttributeForm first kind target value) word clean e =
    let id = found (attribute_read conf kind) clean.types in
    let spelt = or_parts (is_own_misspelt (AttributeForm first kind target value)) (list_any is_misspelt (id_words (AttributeForm first kind target value))) clean.spelt in
    let ids = or_parts (is_none (id_read target)) false spelt.1 in
    let own = found (id_read target) ids.0 in
    let good = valued (length (values_of conf id.0)) (value_read conf id.0 value) (sym (ap (λ o. option_map_or (λ kind. value_refused (length (values_of conf kind)) (value_read conf kind value)) o false) id.1) ∙ clean.values) in (
      _,
      ap (λ o. option_and_then (λ kind. attribute_by kind (id_read target) (value_read conf kind value)) o) id.1
          ∙ ap (λ o. attribute_by id.0 o (value_read conf id.0 value)) own.1 ∙ ap (λ v. attribute_by id.0 (Some own.0) v) good.1,
    )
marked conf all line (NormalForm first target store entry text) word clean e =
    let spelt = or_parts (is_own_misspelt (NormalForm first target store entry text)) (list_any is_misspelt (id_words (NormalForm first target store entry text))) clean.spelt in
    let ids = or_parts (is_none (id_read target)) false spelt.1 in
    let own = found (id_read target) ids.0 in
    (_, ap (λ o. normal_by o store entry text) own.1)
marked conf all line (NoteForm first kind target text) word clean e =
    let spelt = or_parts (is_own_misspelt (NoteForm first kind target text)) (list_any is_misspelt (id_words (NoteForm first kind target text))) clean.spelt in
    let ids = or_parts (is_none (id_read target)) false spelt.1 in
    let own = found (id_read target) ids.0 in
    let made : AnnId → Mark = λ id. sort.Note (record { kind = kind; target = id; text = text }) in
    let named = or_parts (is_some (name_fault kind)) (list_any has_no_letter (id_words (NoteForm first kind target text))) clean.formed in
    (_, ap (λ b. cond (not b) (option_map made (id_read target)) None) named.0 ∙ ap (option_map made) own.1)

-- one of a class says what it says
pub said_found : (conf : Configuration) (all : List Line) (line : Line) (kind : List ℕ) (ids : List (List ℕ))
    → Clean conf all line (ClassForm kind ids) → Found (said_of conf (ClassForm kind ids))
said_found conf all line kind ids clean =
    let id = found (relation_read conf kind) clean.types in
    let spelt = or_parts (is_own_misspelt (ClassForm kind ids)) (list_any is_misspelt (id_words (ClassForm kind ids))) clean.spelt in
    let members = all_read ids spelt.1 in
    (_, ap (λ o. said_by o (all_of (map id_read ids))) id.1 ∙ ap (λ o. said_by (Some id.0) o) members.1)
