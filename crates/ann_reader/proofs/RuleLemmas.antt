-- A line that spells an annotation of a well-formed layer breaks no rule that can be told line by line, but for the counts.
use Rattle.std.proofs.Common.{◌≡◌, ℕ, true, false, ◌||◌, List, [], ◌∷◌, length, refl, sym, ◌∙◌, ap, subst, Option, Some, None, option_map}
use Rattle.std.specs.Prelude.{is_some}
use Rattle.std.specs.Option.{is_none, option_and_then, option_map_or}
use Rattle.std.specs.List.{list_any}
use Rattle.std.proofs.lemmas.Bool.{or_from, not-true}
use Rattle.mark_base.specs.declared.ann_id.AnnId.{AnnId}
use Rattle.mark_base.specs.declared.table_places.TypeId.{TypeId}
use Rattle.mark_base.specs.declared.arguments.Arg.{Arg}
use Rattle.mark_base.specs.declared.fragments.Frag.{Frag}
use Rattle.mark_base.specs.Names.{name_fault}
use Rattle.conf_model.specs.Configurations.{Configuration}
use Rattle.conf_model.specs.Lookups.{is_equivalence, values_of}
use Rattle.layer_model.specs.declared.class.Class.{Class}
use Rattle.layer_model.specs.declared.event.Event.{Event}
use Rattle.layer_model.specs.declared.mark.Mark.{Mark}
use Rattle.layer_model.specs.declared.mark.Mark.TheVariants as marked
use Rattle.layer_model.specs.declared.flaw.FlawPlace.TheVariants as at
use Rattle.layer_model.specs.declared.rule.Rule.{Rule}
use Rattle.layer_model.specs.declared.rule.Rule.TheVariants.{NotForUse, UnknownValue, BadText}
use Rattle.layer_model.specs.Annotations.{Annotations}
use Rattle.layer_model.specs.Layers.{mark_at}
use Rattle.layer_model.specs.Coherent.{IsCoherent}
use Rattle.layer_rules.specs.AttributeValues.{value_refused}
use Rattle.layer_rules.specs.FlawPlaces.{by_place}
use Rattle.layer_rules.specs.MarkRules.{is_barred_type, not_for_use, class_not_for_use, is_bad_value, unknown_value}
use Rattle.layer_rules.specs.LayerRules.{bad_text}
use Rattle.layer_rules.specs.BadTexts.{is_bad_text, is_bad_store, is_bad_entry}
use Rattle.layer_rules.specs.WellFormed.{IsWellFormed, Never, no_class}
use Rattle.ann_reader.specs.Roles.{role_read}
use Rattle.ann_reader.specs.NamesRead.{value_read}
use Rattle.mark_base.specs.ReadIds.{id_read}
use Rattle.ann_reader.specs.LineForms.{Pair, Form, TextForm, EventForm, RelationForm, AttributeForm, ClassForm, NormalForm, NoteForm}
use Rattle.ann_reader.specs.LineIds.{id_words, is_own_misspelt}
use Rattle.ann_reader.specs.LineMeanings.{arg_by, arg_of, args_of, ends_of}
use Rattle.ann_reader.specs.LineFaults.{is_formless, is_nameless, has_unknown_type, has_barred_type, has_unknown_role, has_unknown_value, has_bad_text}
use Rattle.ann_reader.specs.AnnFiles.{HasMark, is_span_word}
use Rattle.ann_reader.proofs.CleanLemmas.{not_some}
use Rattle.ann_reader.proofs.PartLemmas.{made, chained, IsSaid, span_parts, event_parts, relation_parts, attribute_parts, normal_parts, note_parts}
use Rattle.ann_reader.proofs.StandLemmas.{AllStand}
use Rattle.ann_reader.proofs.NamedLemmas.{event_stands, relation_stands, attribute_stands, normal_stands, note_stands}
use Rattle.ann_reader.proofs.CoverLemmas.{is_covered}
use Rattle.ann_reader.proofs.MemberLemmas.{class_holds}
use Rattle.ann_reader.proofs.TextLemmas.{unbroken}

-- what holds of a line that spells something of a layer
pub record Keeps (conf : Configuration) (layer : Annotations) (form : Form) : Type 0 where
  pub formed : (is_formless form || is_nameless form) ≡ false
  pub own : is_own_misspelt form ≡ false
  pub stand : AllStand layer (id_words form)
  pub types : has_unknown_type conf form ≡ false
  pub for_use : has_barred_type conf form ≡ false
  pub roles : has_unknown_role conf form ≡ false
  pub values : has_unknown_value conf form ≡ false
  pub texts : has_bad_text form ≡ false

-- a rule that no place breaks is not broken by what stands there
unbroken_at : (f : AnnId → Mark → Option Rule) (g : ℕ → Class → Option Rule) (layer : Annotations) (id : AnnId) (mark is : Mark)
    → mark_at layer id ≡ Some mark → mark ≡ is → Never (by_place f g layer) → f id is ≡ None
unbroken_at f g layer id mark is held same never = subst (λ m. f id m ≡ None) same (sym (ap (option_and_then (f id)) held) ∙ never (at.Mark id))

-- ---- T

pub span_keeps : (conf : Configuration) (characters : ℕ) (layer : Annotations) (first kind : List ℕ) (frags : List Frag) (shown : List ℕ)
    → IsWellFormed conf characters layer → HasMark conf layer (TextForm first kind frags shown) → Keeps conf layer (TextForm first kind frags shown)
span_keeps conf characters layer first kind frags shown good h =
    let parts = span_parts conf first kind frags shown h.mark h.spelt in
    let rule = unbroken_at (λ id. not_for_use conf) (λ index. class_not_for_use conf) layer h.id h.mark (marked.Span (record { kind = parts.id; frags = frags })) h.held parts.is good.for_use in
    record {
      formed = refl;
      own = ap is_none h.headed;
      stand = tt;
      types = ap is_none parts.known;
      for_use = ap (λ o. option_map_or (is_barred_type conf) o false) parts.known ∙ unbroken (is_barred_type conf parts.id) NotForUse rule;
      roles = refl;
      values = refl;
      texts = refl;
    }

-- ---- E

role_known : (role : Option ℕ) (id : Option AnnId) (arg : Arg) → arg_by role id ≡ Some arg → is_none role ≡ false
role_known None id arg e = absurd (not_some (sym e))
role_known (Some role) id arg e = refl

roles_known : (conf : Configuration) (kind : TypeId) (pairs : List Pair) (args : List Arg) → args_of conf kind pairs ≡ Some args → list_any (λ pair. is_none (role_read conf kind.n pair.role)) pairs ≡ false
roles_known conf kind [] args e = refl
roles_known conf kind (pair ∷ pairs) args e =
    let one = chained (λ (x : Arg). option_map (λ xs. x ∷ xs) (args_of conf kind pairs)) (arg_of conf kind pair) args e in
    let more = made (λ (xs : List Arg). one.0 ∷ xs) (args_of conf kind pairs) args one.2 in
    or_from (is_none (role_read conf kind.n pair.role)) (list_any (λ pair. is_none (role_read conf kind.n pair.role)) pairs)
    (role_known (role_read conf kind.n pair.role) (id_read pair.target) one.0 one.1) (roles_known conf kind pairs more.0 more.1)

pub event_keeps : (conf : Configuration) (characters : ℕ) (layer : Annotations) (first kind trigger : List ℕ) (pairs : List Pair)
    → IsWellFormed conf characters layer → IsCoherent layer → HasMark conf layer (EventForm first kind trigger pairs) → is_span_word trigger ≡ true → Keeps conf layer (EventForm first kind trigger pairs)
event_keeps conf characters layer first kind trigger pairs good coherent h span =
    let parts = event_parts conf first kind trigger pairs h.mark h.spelt in
    let event : Event = record { kind = parts.id; trigger = parts.own.number; args = parts.args; within = parts.own.within } in
    let rule = unbroken_at (λ id. not_for_use conf) (λ index. class_not_for_use conf) layer h.id h.mark (marked.Event event) h.held parts.is good.for_use in
    record {
      formed = refl;
      own = ap is_none h.headed;
      stand = event_stands conf layer first kind trigger pairs h span coherent;
      types = ap is_none parts.known;
      for_use = ap (λ o. option_map_or (is_barred_type conf) o false) parts.known ∙ unbroken (is_barred_type conf parts.id) NotForUse rule;
      roles = ap (λ o. option_map_or (λ (id : TypeId). list_any (λ pair. is_none (role_read conf id.n pair.role)) pairs) o false) parts.known ∙ roles_known conf parts.id pairs parts.args parts.args_read;
      values = refl;
      texts = refl;
    }

-- ---- R

pub relation_keeps : (conf : Configuration) (characters : ℕ) (layer : Annotations) (first kind : List ℕ) (a b : Pair)
    → IsWellFormed conf characters layer → IsCoherent layer → HasMark conf layer (RelationForm first kind a b) → Keeps conf layer (RelationForm first kind a b)
relation_keeps conf characters layer first kind a b good coherent h =
    let parts = relation_parts conf first kind a b h.mark h.spelt in
    let mark : Mark = marked.Relation (record { kind = record { n = parts.id }; first = parts.x; second = parts.y }) in
    let rule = unbroken_at (λ id. not_for_use conf) (λ index. class_not_for_use conf) layer h.id h.mark mark h.held parts.is good.for_use in
    record {
      formed = refl;
      own = ap is_none h.headed;
      stand = relation_stands conf layer first kind a b h coherent;
      types = ap is_none parts.known;
      for_use = ap (λ o. option_map_or (is_equivalence conf) o false) parts.known ∙ unbroken (is_equivalence conf parts.id) NotForUse rule;
      roles = ap (λ o. option_map_or (λ id. is_none (ends_of conf id a b)) o false) parts.known ∙ ap is_none parts.ends_read;
      values = refl;
      texts = refl;
    }

-- ---- A and M

pub attribute_keeps : (conf : Configuration) (characters : ℕ) (layer : Annotations) (first kind target : List ℕ) (value : Option (List ℕ))
    → IsWellFormed conf characters layer → IsCoherent layer → HasMark conf layer (AttributeForm first kind target value) → Keeps conf layer (AttributeForm first kind target value)
attribute_keeps conf characters layer first kind target value good coherent h =
    let parts = attribute_parts conf first kind target value h.mark h.spelt in
    let mark : Mark = marked.Attribute (record { kind = record { n = parts.id }; target = parts.on; value = parts.given }) in
    let rule = unbroken_at (λ id. unknown_value conf) no_class layer h.id h.mark mark h.held parts.is good.values in
    record {
      formed = refl;
      own = ap is_none h.headed;
      stand = attribute_stands conf layer first kind target value h coherent;
      types = ap is_none parts.known;
      for_use = refl;
      roles = refl;
      values =
          ap (λ o. option_map_or (λ id. value_refused (length (values_of conf id)) (value_read conf id value)) o false) parts.known
          ∙ ap (value_refused (length (values_of conf parts.id))) parts.valued ∙ unbroken (is_bad_value (length (values_of conf parts.id)) parts.given) UnknownValue rule;
      texts = refl;
    }

-- ---- N

pub normal_keeps : (conf : Configuration) (characters : ℕ) (layer : Annotations) (first target store entry text : List ℕ)
    → IsWellFormed conf characters layer → IsCoherent layer → HasMark conf layer (NormalForm first target store entry text) → Keeps conf layer (NormalForm first target store entry text)
normal_keeps conf characters layer first target store entry text good coherent h =
    let parts = normal_parts conf first target store entry text h.mark h.spelt in
    let mark : Mark = marked.Normal (record { target = parts.on; store = store; entry = entry; text = text }) in
    let rule = unbroken_at (λ id. bad_text) no_class layer h.id h.mark mark h.held parts.is good.texts in
    record {
      formed = refl;
      own = ap is_none h.headed;
      stand = normal_stands conf layer first target store entry text h coherent;
      types = refl;
      for_use = refl;
      roles = refl;
      values = refl;
      texts = unbroken (is_bad_text text || is_bad_store store || is_bad_entry entry) BadText rule;
    }

-- ---- #

pub note_keeps : (conf : Configuration) (characters : ℕ) (layer : Annotations) (first kind target text : List ℕ)
    → IsWellFormed conf characters layer → IsCoherent layer → HasMark conf layer (NoteForm first kind target text) → Keeps conf layer (NoteForm first kind target text)
note_keeps conf characters layer first kind target text good coherent h =
    let parts = note_parts conf first kind target text h.mark h.spelt in
    let mark : Mark = marked.Note (record { kind = kind; target = parts.on; text = text }) in
    let rule = unbroken_at (λ id. bad_text) no_class layer h.id h.mark mark h.held parts.is good.texts in
    record {
      formed = not-true (is_some (name_fault kind)) parts.named;
      own = ap is_none h.headed;
      stand = note_stands conf layer first kind target text h coherent;
      types = refl;
      for_use = refl;
      roles = refl;
      values = refl;
      texts = unbroken (is_bad_text text) BadText rule;
    }

-- ---- `*`

pub class_keeps : (conf : Configuration) (characters : ℕ) (layer : Annotations) (kind : List ℕ) (ids : List (List ℕ)) (said : IsSaid conf kind ids)
    → IsWellFormed conf characters layer → IsCoherent layer → is_covered said.id said.members layer.classes ≡ true → Keeps conf layer (ClassForm kind ids)
class_keeps conf characters layer kind ids said good coherent covered =
    let held = class_holds conf characters layer kind ids said good coherent covered in
    record {
      formed = refl;
      own = refl;
      stand = held.stand;
      types = held.types;
      for_use = held.for_use;
      roles = refl;
      values = refl;
      texts = refl;
    }
