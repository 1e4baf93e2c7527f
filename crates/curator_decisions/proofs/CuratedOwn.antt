-- The rules on one annotation, and on what it names, carry from layers to a layer of some of their marks.
use Rattle.std.proofs.Common.{◌≡◌, ℕ, ◌+◌, ◌==◌, not, nat_le, nat_lt, Bool, true, false, cond, List, [], ◌∷◌, map, length, refl, sym, ◌∙◌, ap, inl, inr, Option, Some, None}
use Rattle.std.proofs.lemmas.List.Sums.{sum_by-cons}
use Rattle.std.specs.Option.{option_map, option_map_or, option_and_then}
use Rattle.std.specs.List.{count_by, find, range_with_len}
use Rattle.std.specs.FinMap as finite
use Rattle.mark_base.specs.declared.ann_id.AnnId.{AnnId}
use Rattle.mark_base.specs.declared.ann_id.Kind.{Kind}
use Rattle.mark_base.specs.declared.ann_id.Kind.TheVariants as letter
use Rattle.mark_base.specs.declared.arguments.Arg.{Arg}
use Rattle.mark_base.specs.declared.table_places.TypeId.{TypeId}
use Rattle.mark_base.specs.ReadIds.{id_at}
use Rattle.mark_base.proofs.IdLemmas.{id_at-id}
use Rattle.conf_model.specs.declared.attr_target.AttrTarget.TheVariants.{Bound, Between}
use Rattle.conf_model.specs.Configurations.{Configuration}
use Rattle.conf_model.specs.Lookups.{attribute_admits, role_admits, role_most, roles_of}
use Rattle.layer_model.specs.declared.class.Class.{Class}
use Rattle.layer_model.specs.declared.mark.Mark.{Mark}
use Rattle.layer_model.specs.declared.mark.Mark.TheVariants as marked
use Rattle.layer_model.specs.declared.rule.Rule.{Rule}
use Rattle.layer_model.specs.declared.rule.Rule.TheVariants.{ArgumentType, NoSuch, TooMany, UnknownRole, WrongKind}
use Rattle.layer_model.specs.declared.rule.RoleAt.TheVariants as role
use Rattle.layer_model.specs.Annotations.{Annotations}
use Rattle.layer_model.specs.Coherent.{named, trigger_id}
use Rattle.layer_model.specs.Layers.{has, mark_of}
use Rattle.layer_rules.specs.FlawPlaces.{by_place}
use Rattle.layer_rules.specs.MarkRules.{Wanted, argument, argument_type, bad_fragments, class_not_for_use, filled, first_missing, first_unwanted, is_refused_argument, member, named_by, not_for_use, out_of_text, relation_types, span_too_long, too_many, trigger, unknown_class, unknown_role, unknown_type, unknown_value, wanted_by, where_so}
use Rattle.layer_rules.specs.LayerRules.{bad_text}
use Rattle.layer_rules.specs.Targets.{is_argument, is_attribute_target, is_member, is_normal_target, is_note_target, is_trigger, target_by, target_of, type_by, type_of}
use Rattle.layer_rules.specs.WellFormed.{Never, at_argument_type, at_bad_fragments, at_bad_text, at_no_such, at_not_for_use, at_out_of_text, at_span_too_long, at_too_many, at_unknown_role, at_unknown_type, at_unknown_value, at_wrong_kind, no_class}
use Rattle.content_keys.specs.Nodes.{IsIn}
use Rattle.content_keys.proofs.BagLemmas.{IsIn-map, map-IsIn}
use Rattle.unanimous_merge.proofs.ListLemmas.{any_map}
use Rattle.curator_decisions.specs.Curated.{curated_letter, renamed, renamed_arg}
use Rattle.curator_decisions.proofs.CuratedParts.{IsPart, Nowhere, Row, Shown, carry, find_mapped, find_none, has_marked, names_renamed, renamed_class, target_in, trigger_is, type_in, unmapped}

-- ---- rules on a mark alone

pub count_map : {X Y : Type 0} (f : X → Y) (p : Y → Bool) (xs : List X) → count_by p (map f xs) ≡ count_by (λ x. p (f x)) xs
count_map f p [] = refl
count_map f p (x ∷ xs) = sum_by-cons (λ y. cond (p y) 1 0) (f x) (map f xs) ∙ ap (λ n. cond (p (f x)) 1 0 + n) (count_map f p xs) ∙ sym (sum_by-cons (λ y. cond (p (f y)) 1 0) x xs)

same_type : (new : AnnId → AnnId) (conf : Configuration) (mark : Mark) → unknown_type conf (renamed new mark) ≡ unknown_type conf mark
same_type new conf (marked.Span span) = refl
same_type new conf mark = refl

same_use : (new : AnnId → AnnId) (conf : Configuration) (mark : Mark) → not_for_use conf (renamed new mark) ≡ not_for_use conf mark
same_use new conf (marked.Span span) = refl
same_use new conf mark = refl

same_order : (new : AnnId → AnnId) (mark : Mark) → bad_fragments (renamed new mark) ≡ bad_fragments mark
same_order new (marked.Span span) = refl
same_order new mark = refl

same_end : (new : AnnId → AnnId) (characters : ℕ) (mark : Mark) → out_of_text characters (renamed new mark) ≡ out_of_text characters mark
same_end new characters (marked.Span span) = refl
same_end new characters mark = refl

same_reach : (new : AnnId → AnnId) (mark : Mark) → span_too_long (renamed new mark) ≡ span_too_long mark
same_reach new (marked.Span span) = refl
same_reach new mark = refl

same_roles : (new : AnnId → AnnId) (conf : Configuration) (mark : Mark) → unknown_role conf (renamed new mark) ≡ unknown_role conf mark
same_roles new conf (marked.Event event) =
    ap (λ b. where_so b UnknownRole) (any_map (λ (arg : Arg). nat_le (length (roles_of conf event.kind.n)) arg.role) (renamed_arg new) event.args)
same_roles new conf mark = refl

pub same_filled : (new : AnnId → AnnId) (place : ℕ) (args : List Arg) → filled place (map (renamed_arg new) args) ≡ filled place args
same_filled new place args = count_map (renamed_arg new) (λ arg. arg.role == place) args

same_many : (new : AnnId → AnnId) (conf : Configuration) (mark : Mark) → too_many conf (renamed new mark) ≡ too_many conf mark
same_many new conf (marked.Event event) = λ i.
    option_map (λ place. TooMany (role.Event event.kind place))
    (find (λ place. nat_lt (role_most conf event.kind.n place) (same_filled new place event.args i)) (range_with_len 0 (length (roles_of conf event.kind.n))))
same_many new conf mark = refl

same_value : (new : AnnId → AnnId) (conf : Configuration) (mark : Mark) → unknown_value conf (renamed new mark) ≡ unknown_value conf mark
same_value new conf (marked.Span span) = refl
same_value new conf mark = refl

same_text : (new : AnnId → AnnId) (mark : Mark) → bad_text (renamed new mark) ≡ bad_text mark
same_text new (marked.Span span) = refl
same_text new mark = refl

-- ---- types, as marks tell them

told : {V X : Type 0} (f : Mark → Option X) (g : V → X) (wrap : V → Mark) → ((v : V) → f (wrap v) ≡ Some (g v)) → (o : Option V) → option_map g o ≡ option_and_then f (option_map wrap o)
told f g wrap same None = refl
told f g wrap same (Some v) = sym (same v)

untold : {V X : Type 0} (f : Mark → Option X) (wrap : V → Mark) → ((v : V) → f (wrap v) ≡ None) → (o : Option V) → None ≡ option_and_then f (option_map wrap o)
untold f wrap same None = refl
untold f wrap same (Some v) = sym (same v)

type_told : (l : Annotations) (kind : Kind) (n : ℕ) → type_by l kind n ≡ option_and_then type_in (mark_of l kind n)
type_told l letter.Text n = told type_in (λ span. span.kind) marked.Span (λ v. refl) (finite.get l.spans n)
type_told l letter.Event n = told type_in (λ event. event.kind) marked.Event (λ v. refl) (finite.get l.events n)
type_told l letter.Relation n = untold type_in marked.Relation (λ v. refl) (finite.get l.relations n)
type_told l letter.Attribute n = untold type_in marked.Attribute (λ v. refl) (finite.get l.attributes n)
type_told l letter.Legacy n = untold type_in marked.Attribute (λ v. refl) (finite.get l.legacy n)
type_told l letter.Normal n = untold type_in marked.Normal (λ v. refl) (finite.get l.normals n)
type_told l letter.Note n = untold type_in marked.Note (λ v. refl) (finite.get l.notes n)

bound_map : {V : Type 0} (g : V → TypeId) (o : Option V) → option_map Bound (option_map g o) ≡ option_map (λ v. Bound (g v)) o
bound_map g None = refl
bound_map g (Some v) = refl

target_told : (l : Annotations) (kind : Kind) (n : ℕ) → target_by l kind n ≡ option_and_then target_in (mark_of l kind n)
target_told l letter.Text n = bound_map (λ span. span.kind) (finite.get l.spans n) ∙ told target_in (λ span. Bound span.kind) marked.Span (λ v. refl) (finite.get l.spans n)
target_told l letter.Event n = bound_map (λ event. event.kind) (finite.get l.events n) ∙ told target_in (λ event. Bound event.kind) marked.Event (λ v. refl) (finite.get l.events n)
target_told l letter.Relation n = told target_in (λ relation. Between relation.kind) marked.Relation (λ v. refl) (finite.get l.relations n)
target_told l letter.Attribute n = untold target_in marked.Attribute (λ v. refl) (finite.get l.attributes n)
target_told l letter.Legacy n = untold target_in marked.Attribute (λ v. refl) (finite.get l.legacy n)
target_told l letter.Normal n = untold target_in marked.Normal (λ v. refl) (finite.get l.normals n)
target_told l letter.Note n = untold target_in marked.Note (λ v. refl) (finite.get l.notes n)

-- ---- A stands for M wherever a place wants a letter

as_trigger : (kind : TypeId) (k : Kind) (o : Option TypeId) → is_trigger kind (curated_letter k) o ≡ is_trigger kind k o
as_trigger kind letter.Legacy o = refl
as_trigger kind k o = refl

as_argument : (conf : Configuration) (k : Kind) (o : Option TypeId) → is_argument conf (curated_letter k) o ≡ is_argument conf k o
as_argument conf letter.Legacy o = refl
as_argument conf k o = refl

as_attribute_target : (conf : Configuration) (k : Kind) (o : Option TypeId) → is_attribute_target conf (curated_letter k) o ≡ is_attribute_target conf k o
as_attribute_target conf letter.Legacy o = refl
as_attribute_target conf k o = refl

as_normal_target : (k : Kind) (o : Option TypeId) → is_normal_target (curated_letter k) ≡ is_normal_target k
as_normal_target letter.Legacy o = refl
as_normal_target k o = refl

as_note_target : (k : Kind) (o : Option TypeId) → is_note_target (curated_letter k) ≡ is_note_target k
as_note_target letter.Legacy o = refl
as_note_target k o = refl

as_member : (conf : Configuration) (k : Kind) (o : Option TypeId) → is_member conf (curated_letter k) o ≡ is_member conf k o
as_member conf letter.Legacy o = refl
as_member conf k o = refl

-- ---- the part

module _ (rows : List Row) (layer : Annotations) (In : Row → AnnId → Type 0) (new : Row → AnnId → AnnId) (part : IsPart rows layer In new) where
  own : (f : Mark → Option Rule) (g : ℕ → Class → Option Rule) → ((row : Row) (mark : Mark) → f (renamed (new row) mark) ≡ f mark) → ((row : Row) (index place : ℕ) (class : Class) → g index (renamed_class (new row) class) ≡ g place class)
      → Nowhere rows (λ row. by_place (λ id. f) g row.1) → Never (by_place (λ id. f) g layer)
  own f g marks classes nowhere =
      carry rows layer In new part (λ row id. f) (λ id. f) (λ row. g) g (λ id mark o none. marks o.row o.was ∙ none) (λ index class o none. classes o.row index o.place o.was ∙ none) nowhere

  pub types_carry : (conf : Configuration) → Nowhere rows (λ row. at_unknown_type conf row.1) → Never (at_unknown_type conf layer)
  types_carry conf = own (unknown_type conf) (λ index. unknown_class conf) (λ row. same_type (new row) conf) (λ row index place class. refl)

  pub use_carries : (conf : Configuration) → Nowhere rows (λ row. at_not_for_use conf row.1) → Never (at_not_for_use conf layer)
  use_carries conf = own (not_for_use conf) (λ index. class_not_for_use conf) (λ row. same_use (new row) conf) (λ row index place class. refl)

  pub fragments_carry : Nowhere rows (λ row. at_bad_fragments row.1) → Never (at_bad_fragments layer)
  fragments_carry = own bad_fragments no_class (λ row. same_order (new row)) (λ row index place class. refl)

  pub ends_carry : (characters : ℕ) → Nowhere rows (λ row. at_out_of_text characters row.1) → Never (at_out_of_text characters layer)
  ends_carry characters = own (out_of_text characters) no_class (λ row. same_end (new row) characters) (λ row index place class. refl)

  pub reaches_carry : Nowhere rows (λ row. at_span_too_long row.1) → Never (at_span_too_long layer)
  reaches_carry = own span_too_long no_class (λ row. same_reach (new row)) (λ row index place class. refl)

  pub roles_carry : (conf : Configuration) → Nowhere rows (λ row. at_unknown_role conf row.1) → Never (at_unknown_role conf layer)
  roles_carry conf = own (unknown_role conf) no_class (λ row. same_roles (new row) conf) (λ row index place class. refl)

  pub counts_carry : (conf : Configuration) → Nowhere rows (λ row. at_too_many conf row.1) → Never (at_too_many conf layer)
  counts_carry conf = own (too_many conf) no_class (λ row. same_many (new row) conf) (λ row index place class. refl)

  pub values_carry : (conf : Configuration) → Nowhere rows (λ row. at_unknown_value conf row.1) → Never (at_unknown_value conf layer)
  values_carry conf = own (unknown_value conf) no_class (λ row. same_value (new row) conf) (λ row index place class. refl)

  pub texts_carry : Nowhere rows (λ row. at_bad_text row.1) → Never (at_bad_text layer)
  texts_carry = own bad_text no_class (λ row. same_text (new row)) (λ row index place class. refl)

  -- ---- what is named

  module _ (row : Row) where
    abbrev renames : AnnId → AnnId
    renames = new row

    abbrev Known : AnnId → Type 0
    Known = In row

    pub type_same : (id : AnnId) → Known id → type_of layer (renames id) ≡ type_of row.1 id
    type_same id i =
        let m : Shown layer row id (renames id) = part.shown row id i in
        type_told layer (renames id).kind (renames id).number ∙ ap (option_and_then type_in) m.here ∙ m.type_is ∙ sym (ap (option_and_then type_in) m.there) ∙ sym (type_told row.1 id.kind id.number)

    pub target_same : (id : AnnId) → Known id → target_of layer (renames id) ≡ target_of row.1 id
    target_same id i =
        let m : Shown layer row id (renames id) = part.shown row id i in
        target_told layer (renames id).kind (renames id).number ∙ ap (option_and_then target_in) m.here ∙ m.target_is ∙ sym (ap (option_and_then target_in) m.there) ∙ sym (target_told row.1 id.kind id.number)

    there : (id : AnnId) → Known id → has layer (renames id) ≡ true
    there id i = let m : Shown layer row id (renames id) = part.shown row id i in has_marked layer (renames id).kind (renames id).number m.now m.here

    all_there : (ids : List AnnId) → ((id : AnnId) → IsIn id ids → Known id) → first_missing layer (map renames ids) ≡ None
    all_there ids all =
        ap (option_map NoSuch) (find_none (λ id. not (has layer id)) (map renames ids) (λ y k.
        let r : (x : AnnId) × (IsIn x ids × (y ≡ renames x)) = map-IsIn renames y ids k in
        ap (λ z. not (has layer z)) r.1.1 ∙ ap not (there r.0 (all r.0 r.1.0))))

    abbrev moved : Wanted → Wanted
    moved wanted = record { id = renames wanted.id; fits = wanted.fits }

    fitting : (ws : List Wanted) → first_unwanted ws ≡ None → first_unwanted (map moved ws) ≡ None
    fitting ws none =
        ap (option_map (λ (w : Wanted). WrongKind w.id)) (find_mapped (λ w. not w.fits) (λ w. not w.fits) moved ws (λ w k. refl)
        ∙ ap (option_map moved) (unmapped (λ (w : Wanted). WrongKind w.id) (find (λ w. not w.fits) ws) none))

    fits_same : (f : Kind → Option TypeId → Bool) → ((k : Kind) (o : Option TypeId) → f (curated_letter k) o ≡ f k o) → (id : AnnId) → Known id → f (renames id).kind (type_of layer (renames id)) ≡ f id.kind (type_of row.1 id)
    fits_same f same id i = (λ j. f (part.letter row id i j) (type_same id i j)) ∙ same id.kind (type_of row.1 id)

    argument_moved : (conf : Configuration) (id : AnnId) → Known id → argument conf layer (renames id) ≡ moved (argument conf row.1 id)
    argument_moved conf id i = λ j. record { id = renames id; fits = fits_same (is_argument conf) (as_argument conf) id i j }

    member_moved : (conf : Configuration) (id : AnnId) → Known id → member conf layer (renames id) ≡ moved (member conf row.1 id)
    member_moved conf id i = λ j. record { id = renames id; fits = fits_same (is_member conf) (as_member conf) id i j }

    trigger_moved : (kind : TypeId) (id : AnnId) → Known id → trigger layer kind (renames id) ≡ moved (trigger row.1 kind id)
    trigger_moved kind id i = λ j. record { id = renames id; fits = fits_same (is_trigger kind) (as_trigger kind) id i j }

    args_moved : (conf : Configuration) (args : List Arg) → ((id : AnnId) → IsIn id (map (λ arg. arg.target) args) → Known id)
        → map (λ arg. argument conf layer arg.target) (map (renamed_arg renames) args) ≡ map moved (map (λ arg. argument conf row.1 arg.target) args)
    args_moved conf [] all = refl
    args_moved conf (arg ∷ args) all = λ j. argument_moved conf arg.target (all arg.target (inl refl)) j ∷ args_moved conf args (λ id k. all id (inr k)) j

    members_moved : (conf : Configuration) (ids : List AnnId) → ((id : AnnId) → IsIn id ids → Known id) → map (member conf layer) (map renames ids) ≡ map moved (map (member conf row.1) ids)
    members_moved conf [] all = refl
    members_moved conf (id ∷ ids) all = λ j. member_moved conf id (all id (inl refl)) j ∷ members_moved conf ids (λ x k. all x (inr k)) j

    wanted_moved : (conf : Configuration) (mark : Mark) → ((id : AnnId) → IsIn id (named mark) → Known id) → wanted_by conf layer (renamed renames mark) ≡ map moved (wanted_by conf row.1 mark)
    wanted_moved conf (marked.Span span) all = refl
    wanted_moved conf (marked.Event event) all =
        let i : Known (trigger_id event) = all (trigger_id event) (inl refl) in
        let head : trigger layer event.kind (id_at letter.Text (renames (trigger_id event)).number) ≡ moved (trigger row.1 event.kind (id_at letter.Text event.trigger)) =
        ap (trigger layer event.kind) (trigger_is rows layer In new part row (trigger_id event) i refl) ∙ trigger_moved event.kind (trigger_id event) i ∙ ap (λ t. moved (trigger row.1 event.kind t)) (sym (id_at-id (trigger_id event))) in
        λ j. head j ∷ args_moved conf event.args (λ id k. all id (inr k)) j
    wanted_moved conf (marked.Relation relation) all = λ j. argument_moved conf relation.first (all relation.first (inl refl)) j ∷ argument_moved conf relation.second (all relation.second (inr (inl refl))) j ∷ []
    wanted_moved conf (marked.Attribute attribute) all = λ j.
        record { id = renames attribute.target; fits = fits_same (is_attribute_target conf) (as_attribute_target conf) attribute.target (all attribute.target (inl refl)) j } ∷ []
    wanted_moved conf (marked.Normal normal) all = λ j. record { id = renames normal.target; fits = fits_same (λ k o. is_normal_target k) as_normal_target normal.target (all normal.target (inl refl)) j } ∷ []
    wanted_moved conf (marked.Note note) all = λ j. record { id = renames note.target; fits = fits_same (λ k o. is_note_target k) as_note_target note.target (all note.target (inl refl)) j } ∷ []

    refused_same : (conf : Configuration) (kind : TypeId) (args : List Arg) → ((id : AnnId) → IsIn id (map (λ arg. arg.target) args) → Known id) → (arg : Arg) → IsIn arg args
        → is_refused_argument conf layer kind (renamed_arg renames arg) ≡ is_refused_argument conf row.1 kind arg
    refused_same conf kind args all arg k =
        ap (λ o. option_map_or (λ type_. not (role_admits conf kind.n arg.role type_)) o false) (type_same arg.target (all arg.target (IsIn-map (λ (a : Arg). a.target) arg args k)))

    admitted : (conf : Configuration) (mark : Mark) → ((id : AnnId) → IsIn id (named mark) → Known id) → argument_type conf row.1 mark ≡ None → argument_type conf layer (renamed renames mark) ≡ None
    admitted conf (marked.Event event) all none =
        ap (option_map (λ (arg : Arg). ArgumentType (role.Event event.kind arg.role)))
        (find_mapped (is_refused_argument conf row.1 event.kind) (is_refused_argument conf layer event.kind) (renamed_arg renames) event.args (refused_same conf event.kind event.args (λ id k. all id (inr k)))
        ∙ ap (option_map (renamed_arg renames)) (unmapped (λ (arg : Arg). ArgumentType (role.Event event.kind arg.role)) (find (is_refused_argument conf row.1 event.kind) event.args) none))
    admitted conf (marked.Relation relation) all none =
        (λ j. option_map (λ second. ArgumentType (role.Relation relation.kind second)) (relation_types conf relation.kind.n (type_same relation.first (all relation.first (inl refl)) j) (type_same relation.second (all relation.second (inr (inl refl))) j)))
        ∙ none
    admitted conf (marked.Attribute attribute) all none =
        (λ j. where_so (option_map_or (λ target. not (attribute_admits conf attribute.kind.n target)) (target_same attribute.target (all attribute.target (inl refl)) j) false) (ArgumentType role.Attribute)) ∙ none
    admitted conf (marked.Span span) all none = refl
    admitted conf (marked.Normal normal) all none = refl
    admitted conf (marked.Note note) all none = refl

  pub names_carry : Nowhere rows (λ row. at_no_such row.1) → Never (at_no_such layer)
  names_carry =
      carry rows layer In new part (λ row id mark. first_missing row.1 (named_by mark)) (λ id mark. first_missing layer (named_by mark)) (λ row index class. first_missing row.1 class.members) (λ index class. first_missing layer class.members)
      (λ id mark o none. ap (first_missing layer) (names_renamed rows layer In new part o.row o.was o.names) ∙ all_there o.row (named o.was) o.names)
      (λ index class o none. all_there o.row o.was.members o.within)

  pub kinds_carry : (conf : Configuration) → Nowhere rows (λ row. at_wrong_kind conf row.1) → Never (at_wrong_kind conf layer)
  kinds_carry conf =
      carry rows layer In new part (λ row id mark. first_unwanted (wanted_by conf row.1 mark)) (λ id mark. first_unwanted (wanted_by conf layer mark))
      (λ row index class. first_unwanted (map (member conf row.1) class.members)) (λ index class. first_unwanted (map (member conf layer) class.members))
      (λ id mark o none. ap first_unwanted (wanted_moved o.row conf o.was o.names) ∙ fitting o.row (wanted_by conf o.row.1 o.was) none)
      (λ index class o none. ap first_unwanted (members_moved o.row conf o.was.members o.within) ∙ fitting o.row (map (member conf o.row.1) o.was.members) none)

  pub arguments_carry : (conf : Configuration) → Nowhere rows (λ row. at_argument_type conf row.1) → Never (at_argument_type conf layer)
  arguments_carry conf =
      carry rows layer In new part (λ row id. argument_type conf row.1) (λ id. argument_type conf layer) (λ row. no_class) no_class
      (λ id mark o none. admitted o.row conf o.was o.names none) (λ index class o none. refl)
