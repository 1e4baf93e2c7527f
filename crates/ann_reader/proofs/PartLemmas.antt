-- The parts of a line that spells an annotation, or that says something of a class, are read.
use Rattle.std.proofs.Common.{◌≡◌, ℕ, Bool, true, false, List, refl, sym, Option, Some, None, cond, map, option_map}
use Rattle.std.specs.Prelude.{IsSome}
use Rattle.std.specs.Option.{is_none, option_and_then}
use Rattle.mark_base.specs.declared.ann_id.AnnId.{AnnId}
use Rattle.mark_base.specs.declared.table_places.TypeId.{TypeId}
use Rattle.mark_base.specs.declared.arguments.Arg.{Arg}
use Rattle.mark_base.specs.declared.fragments.Frag.{Frag}
use Rattle.mark_base.specs.Names.{name_fault}
use Rattle.conf_model.specs.Configurations.{Configuration}
use Rattle.layer_model.specs.declared.mark.Mark.{Mark}
use Rattle.layer_model.specs.declared.mark.Mark.TheVariants as marked
use Rattle.layer_rules.specs.AttributeValues.{Valued, Undeclared, Declared}
use Rattle.ann_reader.specs.NamesRead.{type_read, event_read, relation_read, attribute_read, value_read}
use Rattle.mark_base.specs.ReadIds.{id_read}
use Rattle.ann_reader.specs.Words.{all_of}
use Rattle.ann_reader.specs.LineForms.{Pair, TextForm, EventForm, RelationForm, AttributeForm, ClassForm, NormalForm, NoteForm}
use Rattle.ann_reader.specs.LineMeanings.{args_of, Ends, ends_of, event_by, relation_by, attribute_by, mark_of, said_of, said_by}
use Rattle.ann_reader.proofs.CleanLemmas.{not_some, unsome}

-- ---- what is made of what is found

-- a value that is made of what an option has
pub made : {X Y : Type 0} (f : X → Y) (o : Option X) (y : Y) → option_map f o ≡ Some y → (x : X) × (o ≡ Some x) × (y ≡ f x)
made f None y e = absurd (not_some (sym e))
made f (Some x) y e = (x, refl, sym (unsome e))

-- a value that is found through what an option has
pub chained : {X Y : Type 0} (f : X → Option Y) (o : Option X) (y : Y) → option_and_then f o ≡ Some y → (x : X) × (o ≡ Some x) × (f x ≡ Some y)
chained f None y e = absurd (not_some (sym e))
chained f (Some x) y e = (x, refl, e)

-- ---- T

-- the type of a span
pub record IsSpan (conf : Configuration) (kind : List ℕ) (frags : List Frag) (mark : Mark) : Type 0 where
  pub id : TypeId
  pub known : type_read conf kind ≡ Some id
  pub is : mark ≡ marked.Span (record { kind = id; frags = frags })

pub span_parts : (conf : Configuration) (first kind : List ℕ) (frags : List Frag) (shown : List ℕ) (mark : Mark)
    → mark_of conf (TextForm first kind frags shown) ≡ Some mark → IsSpan conf kind frags mark
unfolding mark_of
span_parts conf first kind frags shown mark e =
    let parts = made (λ (id : TypeId). marked.Span (record { kind = id; frags = frags })) (type_read conf kind) mark e in
    record { id = parts.0; known = parts.1; is = parts.2 }

-- ---- E

-- the type, the trigger and the arguments of an event
pub record IsEvent (conf : Configuration) (kind trigger : List ℕ) (pairs : List Pair) (mark : Mark) : Type 0 where
  pub id : TypeId
  pub own : AnnId
  pub args : List Arg
  pub known : event_read conf kind ≡ Some id
  pub trigger_read : id_read trigger ≡ Some own
  pub args_read : args_of conf id pairs ≡ Some args
  pub is : mark ≡ marked.Event (record { kind = id; trigger = own.number; args = args; within = own.within })

event_made : (conf : Configuration) (kind trigger : List ℕ) (pairs : List Pair) (mark : Mark) (id : TypeId) (own : Option AnnId) (args : Option (List Arg))
    → event_read conf kind ≡ Some id → id_read trigger ≡ own → args_of conf id pairs ≡ args → event_by id own args ≡ Some mark → IsEvent conf kind trigger pairs mark
event_made conf kind trigger pairs mark id None args known t a e = absurd (not_some (sym e))
event_made conf kind trigger pairs mark id (Some own) None known t a e = absurd (not_some (sym e))
event_made conf kind trigger pairs mark id (Some own) (Some args) known t a e =
    record { id = id; own = own; args = args; known = known; trigger_read = t; args_read = a; is = sym (unsome e) }

pub event_parts : (conf : Configuration) (first kind trigger : List ℕ) (pairs : List Pair) (mark : Mark)
    → mark_of conf (EventForm first kind trigger pairs) ≡ Some mark → IsEvent conf kind trigger pairs mark
unfolding mark_of
event_parts conf first kind trigger pairs mark e =
    let parts = chained (λ (id : TypeId). event_by id (id_read trigger) (args_of conf id pairs)) (event_read conf kind) mark e in
    event_made conf kind trigger pairs mark parts.0 (id_read trigger) (args_of conf parts.0 pairs) parts.1 refl refl parts.2

-- ---- R

-- the type and the two arguments of a relation
pub record IsRelation (conf : Configuration) (kind : List ℕ) (a b : Pair) (mark : Mark) : Type 0 where
  pub id : ℕ
  pub ends : Ends
  pub x : AnnId
  pub y : AnnId
  pub known : relation_read conf kind ≡ Some id
  pub ends_read : ends_of conf id a b ≡ Some ends
  pub first_read : id_read ends.first ≡ Some x
  pub second_read : id_read ends.second ≡ Some y
  pub is : mark ≡ marked.Relation (record { kind = record { n = id }; first = x; second = y })

relation_made : (conf : Configuration) (kind : List ℕ) (a b : Pair) (mark : Mark) (id : ℕ) (ends : Ends) (x y : Option AnnId)
    → relation_read conf kind ≡ Some id → ends_of conf id a b ≡ Some ends → id_read ends.first ≡ x → id_read ends.second ≡ y → relation_by id x y ≡ Some mark
    → IsRelation conf kind a b mark
relation_made conf kind a b mark id ends None y known e f s q = absurd (not_some (sym q))
relation_made conf kind a b mark id ends (Some x) None known e f s q = absurd (not_some (sym q))
relation_made conf kind a b mark id ends (Some x) (Some y) known e f s q =
    record { id = id; ends = ends; x = x; y = y; known = known; ends_read = e; first_read = f; second_read = s; is = sym (unsome q) }

pub relation_parts : (conf : Configuration) (first kind : List ℕ) (a b : Pair) (mark : Mark)
    → mark_of conf (RelationForm first kind a b) ≡ Some mark → IsRelation conf kind a b mark
unfolding mark_of
relation_parts conf first kind a b mark e =
    let one = chained (λ (id : ℕ). option_and_then (λ ends. relation_by id (id_read ends.first) (id_read ends.second)) (ends_of conf id a b)) (relation_read conf kind) mark e in
    let two = chained (λ (ends : Ends). relation_by one.0 (id_read ends.first) (id_read ends.second)) (ends_of conf one.0 a b) mark one.2 in
    relation_made conf kind a b mark one.0 two.0 (id_read two.0.first) (id_read two.0.second) one.1 two.1 refl refl two.2

-- ---- A and M

-- the type, the target and the value of an attribute
pub record IsAttribute (conf : Configuration) (kind target : List ℕ) (value : Option (List ℕ)) (mark : Mark) : Type 0 where
  pub id : ℕ
  pub on : AnnId
  pub given : Option ℕ
  pub known : attribute_read conf kind ≡ Some id
  pub target_read : id_read target ≡ Some on
  pub valued : value_read conf id value ≡ Declared given
  pub is : mark ≡ marked.Attribute (record { kind = record { n = id }; target = on; value = given })

attribute_made : (conf : Configuration) (kind target : List ℕ) (value : Option (List ℕ)) (mark : Mark) (id : ℕ) (on : Option AnnId) (given : Valued)
    → attribute_read conf kind ≡ Some id → id_read target ≡ on → value_read conf id value ≡ given → attribute_by id on given ≡ Some mark → IsAttribute conf kind target value mark
attribute_made conf kind target value mark id None given known t v e = absurd (not_some (sym e))
attribute_made conf kind target value mark id (Some on) Undeclared known t v e = absurd (not_some (sym e))
attribute_made conf kind target value mark id (Some on) (Declared given) known t v e =
    record { id = id; on = on; given = given; known = known; target_read = t; valued = v; is = sym (unsome e) }

pub attribute_parts : (conf : Configuration) (first kind target : List ℕ) (value : Option (List ℕ)) (mark : Mark)
    → mark_of conf (AttributeForm first kind target value) ≡ Some mark → IsAttribute conf kind target value mark
unfolding mark_of
attribute_parts conf first kind target value mark e =
    let parts = chained (λ (id : ℕ). attribute_by id (id_read target) (value_read conf id value)) (attribute_read conf kind) mark e in
    attribute_made conf kind target value mark parts.0 (id_read target) (value_read conf parts.0 value) parts.1 refl refl parts.2

-- ---- N

-- the target of a normalization
pub record IsNormal (target store entry text : List ℕ) (mark : Mark) : Type 0 where
  pub on : AnnId
  pub target_read : id_read target ≡ Some on
  pub is : mark ≡ marked.Normal (record { target = on; store = store; entry = entry; text = text })

pub normal_parts : (conf : Configuration) (first target store entry text : List ℕ) (mark : Mark)
    → mark_of conf (NormalForm first target store entry text) ≡ Some mark → IsNormal target store entry text mark
unfolding mark_of
normal_parts conf first target store entry text mark e =
    let parts = made (λ (id : AnnId). marked.Normal (record { target = id; store = store; entry = entry; text = text })) (id_read target) mark e in
    record { on = parts.0; target_read = parts.1; is = parts.2 }

-- ---- #

-- the type and the target of a note
pub record IsNote (kind target text : List ℕ) (mark : Mark) : Type 0 where
  pub on : AnnId
  pub named : is_none (name_fault kind) ≡ true
  pub target_read : id_read target ≡ Some on
  pub is : mark ≡ marked.Note (record { kind = kind; target = on; text = text })

note_made : (kind target text : List ℕ) (mark : Mark) (named : Bool) → is_none (name_fault kind) ≡ named
    → cond named (option_map (λ (id : AnnId). marked.Note (record { kind = kind; target = id; text = text })) (id_read target)) None ≡ Some mark → IsNote kind target text mark
note_made kind target text mark false n e = absurd (not_some (sym e))
note_made kind target text mark true n e =
    let parts = made (λ (id : AnnId). marked.Note (record { kind = kind; target = id; text = text })) (id_read target) mark e in
    record { on = parts.0; named = n; target_read = parts.1; is = parts.2 }

pub note_parts : (conf : Configuration) (first kind target text : List ℕ) (mark : Mark)
    → mark_of conf (NoteForm first kind target text) ≡ Some mark → IsNote kind target text mark
unfolding mark_of
note_parts conf first kind target text mark e = note_made kind target text mark (is_none (name_fault kind)) refl e

-- ---- `*`

-- the type and the members that a line says of a class
pub record IsSaid (conf : Configuration) (kind : List ℕ) (ids : List (List ℕ)) : Type 0 where
  pub id : ℕ
  pub members : List AnnId
  pub known : relation_read conf kind ≡ Some id
  pub members_read : all_of (map id_read ids) ≡ Some members
  pub is : said_of conf (ClassForm kind ids) ≡ Some (record { kind = id; members = members })

said_made : (conf : Configuration) (kind : List ℕ) (ids : List (List ℕ)) (id : Option ℕ) (members : Option (List AnnId))
    → relation_read conf kind ≡ id → all_of (map id_read ids) ≡ members → said_of conf (ClassForm kind ids) ≡ said_by id members → IsSome (said_by id members) → IsSaid conf kind ids
said_made conf kind ids None members k m e some = absurd (let lost : false ≡ true = some in cc)
said_made conf kind ids (Some id) None k m e some = absurd (let lost : false ≡ true = some in cc)
said_made conf kind ids (Some id) (Some members) k m e some = record { id = id; members = members; known = k; members_read = m; is = e }

pub said_parts : (conf : Configuration) (kind : List ℕ) (ids : List (List ℕ)) → IsSome (said_of conf (ClassForm kind ids)) → IsSaid conf kind ids
said_parts conf kind ids some = said_made conf kind ids (relation_read conf kind) (all_of (map id_read ids)) refl refl refl some
