-- What stood under an ID leads back to the layer before, where no other place changed.
use Rattle.std.proofs.Common.{◌≡◌, ℕ, ◌==◌, [], ◌∷◌, ◌++◌, length, filter, Bool, true, false, cond, Option, Some, None, option_map, option_and_then, is_some, refl, sym, ◌∙◌, ap, subst}
use Rattle.std.specs.Prelude.{IfSome}
use Rattle.std.specs.Option.{option_map_or}
use Rattle.std.specs.Ordering.{nat_cmp, eq_by_cmp, is_eq}
use Rattle.std.specs.Cmp.{nat_cmp_total}
use Rattle.std.specs.FinMap as finite
use Rattle.std.specs.FinMap.{get-insert, get-remove, get_tied, same_map, nat_cmp-IsAntisymmetric}
use Rattle.std.specs.declared.cmp.Ordering.{Ordering}
use Rattle.std.specs.declared.cmp.Ordering.TheVariants.{Less, Equal, Greater}
use Rattle.mark_base.specs.declared.ann_id.AnnId.{AnnId}
use Rattle.mark_base.specs.declared.ann_id.Kind.{Kind}
use Rattle.mark_base.specs.declared.ann_id.Kind.TheVariants as letter
use Rattle.mark_base.specs.declared.table_places.TypeId.{TypeId}
use Rattle.type_hierarchy.specs.TypeTrees.{type_named}
use Rattle.conf_model.specs.Configurations.{Configuration}
use Rattle.conf_model.specs.Lookups.{attribute_named, relation_named}
use Rattle.layer_model.specs.declared.span.Span.{Span}
use Rattle.layer_model.specs.declared.event.Event.{Event}
use Rattle.layer_model.specs.declared.relation.Relation.{Relation}
use Rattle.layer_model.specs.declared.attribute.Attribute.{Attribute}
use Rattle.layer_model.specs.declared.normal.Normal.{Normal}
use Rattle.layer_model.specs.declared.note.Note.{Note}
use Rattle.layer_model.specs.declared.mark.Mark.{Mark}
use Rattle.layer_model.specs.declared.mark.Mark.TheVariants as marked
use Rattle.layer_model.specs.Annotations.{Annotations}
use Rattle.layer_model.specs.Layers.{is_of_kind, mark_of, with_mark, with_marked, without, without_number}
use Rattle.layer_core.specs.declared.command.Command.{Command}
use Rattle.layer_core.specs.declared.command.Command.TheVariants as ask
use Rattle.layer_model.specs.Classes.{joined, parted}
use Rattle.layer_model.specs.LayerIds.{ids_of}
use Rattle.layer_core.specs.Backs.{with_this, DiffersUnder, IsDraftOf}
use Rattle.layer_core.specs.CommandRules.{arg_named, args_named, attribute_on, event_named, first_naming, is_in_trigger, is_span_letter}
use Rattle.layer_rules.specs.AttributeValues.{Valued, Undeclared, Declared, value_of}
use Rattle.layer_core.specs.MadeLayers.{Draft, draft, event_of, falls, gone, is_note_on, is_reference_to, lowest, span_of, with_args, with_attribute, with_changed, with_less, with_new, without_all, without_first, valued_draft}

some_none : {X : Type 0} {x : X} → Some x ≡ None → ⊥
some_none e = cc

-- ---- one map

equal : (r : Ordering) → is_eq r ≡ true → r ≡ Equal
equal Less p = absurd (let e : false ≡ true = p in cc)
equal Equal p = refl
equal Greater p = absurd (let e : false ≡ true = p in cc)

-- two maps answer alike at every other key
abbrev pub AlikeBut : {X : Type 0} → ℕ → finite.FinMap nat_cmp X → finite.FinMap nat_cmp X → Type 0
AlikeBut k m n = (q : ℕ) → eq_by_cmp nat_cmp q k ≡ false → finite.get m q ≡ finite.get n q

-- a map with this at a key: a value, or nothing
abbrev pub with_value : {X : Type 0} → finite.FinMap nat_cmp X → ℕ → Option X → finite.FinMap nat_cmp X
with_value m k None = finite.remove m k
with_value m k (Some v) = finite.insert m k v

value_then : {X : Type 0} (m : finite.FinMap nat_cmp X) (k q : ℕ) (o : Option X) → finite.get (with_value m k o) q ≡ cond (eq_by_cmp nat_cmp q k) o (finite.get m q)
value_then m k q None = get-remove nat_cmp_total m k q
value_then m k q (Some v) = get-insert nat_cmp_total m k v q

put_back : {X : Type 0} (m n : finite.FinMap nat_cmp X) (k : ℕ) → AlikeBut k m n → with_value m k (finite.get n k) ≡ n
put_back m n k alike =
    same_map nat_cmp_total nat_cmp-IsAntisymmetric _ _ (λ q.
    value_then m k q (finite.get n k)
    ∙ elim (eq_by_cmp nat_cmp q k) as (λ b. eq_by_cmp nat_cmp q k ≡ b → cond b (finite.get n k) (finite.get m q) ≡ finite.get n q) [
      | true ↦ λ e. get_tied nat_cmp_total n q k (equal _ e)
      | false ↦ λ e. alike q e
    ] refl)

alike_inserted : {X : Type 0} (m : finite.FinMap nat_cmp X) (k : ℕ) (v : X) → AlikeBut k (finite.insert m k v) m
alike_inserted m k v q e = get-insert nat_cmp_total m k v q ∙ ap (λ b. cond b (Some v) (finite.get m q)) e

alike_removed : {X : Type 0} (m : finite.FinMap nat_cmp X) (k : ℕ) → AlikeBut k (finite.remove m k) m
alike_removed m k q e = get-remove nat_cmp_total m k q ∙ ap (λ b. cond b None (finite.get m q)) e

-- ---- a layer, one letter each

text_back : (l : Annotations) (n : ℕ) (m : finite.FinMap nat_cmp Span) → AlikeBut n m l.spans → with_this (record l { spans = m }) letter.Text n (mark_of l letter.Text n) ≡ l
text_back l n m alike = found (finite.get l.spans n) ∙ ap (λ s. let k : Annotations = record l { spans = s } in k) (put_back m l.spans n alike)
  where
    found : (o : Option Span) → with_this (record l { spans = m }) letter.Text n (option_map marked.Span o) ≡ record l { spans = with_value m n o }
    found None = refl
    found (Some x) = refl

event_back : (l : Annotations) (n : ℕ) (m : finite.FinMap nat_cmp Event) → AlikeBut n m l.events → with_this (record l { events = m }) letter.Event n (mark_of l letter.Event n) ≡ l
event_back l n m alike = found (finite.get l.events n) ∙ ap (λ s. let k : Annotations = record l { events = s } in k) (put_back m l.events n alike)
  where
    found : (o : Option Event) → with_this (record l { events = m }) letter.Event n (option_map marked.Event o) ≡ record l { events = with_value m n o }
    found None = refl
    found (Some x) = refl

relation_back : (l : Annotations) (n : ℕ) (m : finite.FinMap nat_cmp Relation) → AlikeBut n m l.relations → with_this (record l { relations = m }) letter.Relation n (mark_of l letter.Relation n) ≡ l
relation_back l n m alike = found (finite.get l.relations n) ∙ ap (λ s. let k : Annotations = record l { relations = s } in k) (put_back m l.relations n alike)
  where
    found : (o : Option Relation) → with_this (record l { relations = m }) letter.Relation n (option_map marked.Relation o) ≡ record l { relations = with_value m n o }
    found None = refl
    found (Some x) = refl

attribute_back : (l : Annotations) (n : ℕ) (m : finite.FinMap nat_cmp Attribute) → AlikeBut n m l.attributes → with_this (record l { attributes = m }) letter.Attribute n (mark_of l letter.Attribute n) ≡ l
attribute_back l n m alike = found (finite.get l.attributes n) ∙ ap (λ s. let k : Annotations = record l { attributes = s } in k) (put_back m l.attributes n alike)
  where
    found : (o : Option Attribute) → with_this (record l { attributes = m }) letter.Attribute n (option_map marked.Attribute o) ≡ record l { attributes = with_value m n o }
    found None = refl
    found (Some x) = refl

legacy_back : (l : Annotations) (n : ℕ) (m : finite.FinMap nat_cmp Attribute) → AlikeBut n m l.legacy → with_this (record l { legacy = m }) letter.Legacy n (mark_of l letter.Legacy n) ≡ l
legacy_back l n m alike = found (finite.get l.legacy n) ∙ ap (λ s. let k : Annotations = record l { legacy = s } in k) (put_back m l.legacy n alike)
  where
    found : (o : Option Attribute) → with_this (record l { legacy = m }) letter.Legacy n (option_map marked.Attribute o) ≡ record l { legacy = with_value m n o }
    found None = refl
    found (Some x) = refl

normal_back : (l : Annotations) (n : ℕ) (m : finite.FinMap nat_cmp Normal) → AlikeBut n m l.normals → with_this (record l { normals = m }) letter.Normal n (mark_of l letter.Normal n) ≡ l
normal_back l n m alike = found (finite.get l.normals n) ∙ ap (λ s. let k : Annotations = record l { normals = s } in k) (put_back m l.normals n alike)
  where
    found : (o : Option Normal) → with_this (record l { normals = m }) letter.Normal n (option_map marked.Normal o) ≡ record l { normals = with_value m n o }
    found None = refl
    found (Some x) = refl

note_back : (l : Annotations) (n : ℕ) (m : finite.FinMap nat_cmp Note) → AlikeBut n m l.notes → with_this (record l { notes = m }) letter.Note n (mark_of l letter.Note n) ≡ l
note_back l n m alike = found (finite.get l.notes n) ∙ ap (λ s. let k : Annotations = record l { notes = s } in k) (put_back m l.notes n alike)
  where
    found : (o : Option Note) → with_this (record l { notes = m }) letter.Note n (option_map marked.Note o) ≡ record l { notes = with_value m n o }
    found None = refl
    found (Some x) = refl

-- ---- a layer with nothing, with the same, or with another mark under an ID

removed_back : (l : Annotations) (kind : Kind) (n : ℕ) → with_this (without_number l kind n) kind n (mark_of l kind n) ≡ l
removed_back l letter.Text n = text_back l n (finite.remove l.spans n) (alike_removed l.spans n)
removed_back l letter.Event n = event_back l n (finite.remove l.events n) (alike_removed l.events n)
removed_back l letter.Relation n = relation_back l n (finite.remove l.relations n) (alike_removed l.relations n)
removed_back l letter.Attribute n = attribute_back l n (finite.remove l.attributes n) (alike_removed l.attributes n)
removed_back l letter.Legacy n = legacy_back l n (finite.remove l.legacy n) (alike_removed l.legacy n)
removed_back l letter.Normal n = normal_back l n (finite.remove l.normals n) (alike_removed l.normals n)
removed_back l letter.Note n = note_back l n (finite.remove l.notes n) (alike_removed l.notes n)

same_back : (l : Annotations) (kind : Kind) (n : ℕ) → with_this l kind n (mark_of l kind n) ≡ l
same_back l letter.Text n = text_back l n l.spans (λ q e. refl)
same_back l letter.Event n = event_back l n l.events (λ q e. refl)
same_back l letter.Relation n = relation_back l n l.relations (λ q e. refl)
same_back l letter.Attribute n = attribute_back l n l.attributes (λ q e. refl)
same_back l letter.Legacy n = legacy_back l n l.legacy (λ q e. refl)
same_back l letter.Normal n = normal_back l n l.normals (λ q e. refl)
same_back l letter.Note n = note_back l n l.notes (λ q e. refl)

pub marked_back : (l : Annotations) (kind : Kind) (n : ℕ) (mark : Mark) → with_this (with_marked l kind n mark) kind n (mark_of l kind n) ≡ l
marked_back l letter.Text n (marked.Span x) = text_back l n (finite.insert l.spans n x) (alike_inserted l.spans n x)
marked_back l letter.Event n (marked.Event x) = event_back l n (finite.insert l.events n x) (alike_inserted l.events n x)
marked_back l letter.Relation n (marked.Relation x) = relation_back l n (finite.insert l.relations n x) (alike_inserted l.relations n x)
marked_back l letter.Attribute n (marked.Attribute x) = attribute_back l n (finite.insert l.attributes n x) (alike_inserted l.attributes n x)
marked_back l letter.Legacy n (marked.Attribute x) = legacy_back l n (finite.insert l.legacy n x) (alike_inserted l.legacy n x)
marked_back l letter.Normal n (marked.Normal x) = normal_back l n (finite.insert l.normals n x) (alike_inserted l.normals n x)
marked_back l letter.Note n (marked.Note x) = note_back l n (finite.insert l.notes n x) (alike_inserted l.notes n x)
marked_back l kind n mark = same_back l kind n

pub without_differs : (layer : Annotations) (id : AnnId) → DiffersUnder (without layer id) id layer
without_differs layer id = removed_back layer id.kind id.number

-- what stands under a letter is of its sort
fits_of : {X : Type 0} (kind : Kind) (make : X → Mark) (o : Option X) → ((x : X) → is_of_kind kind (make x) ≡ true) → option_map_or (is_of_kind kind) (option_map make o) true ≡ true
fits_of kind make None fit = refl
fits_of kind make (Some x) fit = fit x

pub mark_fits : (l : Annotations) (kind : Kind) (n : ℕ) → option_map_or (is_of_kind kind) (mark_of l kind n) true ≡ true
mark_fits l letter.Text n = fits_of letter.Text marked.Span (finite.get l.spans n) (λ x. refl)
mark_fits l letter.Event n = fits_of letter.Event marked.Event (finite.get l.events n) (λ x. refl)
mark_fits l letter.Relation n = fits_of letter.Relation marked.Relation (finite.get l.relations n) (λ x. refl)
mark_fits l letter.Attribute n = fits_of letter.Attribute marked.Attribute (finite.get l.attributes n) (λ x. refl)
mark_fits l letter.Legacy n = fits_of letter.Legacy marked.Attribute (finite.get l.legacy n) (λ x. refl)
mark_fits l letter.Normal n = fits_of letter.Normal marked.Normal (finite.get l.normals n) (λ x. refl)
mark_fits l letter.Note n = fits_of letter.Note marked.Note (finite.get l.notes n) (λ x. refl)

-- ---- the drafts of commands

-- where one annotation is new or changed in a draft, the layer before differs under its ID alone
abbrev pub ChangesOne : Annotations → Draft → Type 0
ChangesOne layer made = (id : AnnId) → made.changed ≡ Some id → DiffersUnder made.layer id layer

some_same : {X : Type 0} (x y : X) (P : X → Type 0) → Some x ≡ Some y → P x → P y
some_same x y P e h = subst (λ o. IfSome o P) e h

put_changes : (layer : Annotations) (id : AnnId) (mark : Mark) (is_new : Bool) → ChangesOne layer (record { layer = with_mark layer id mark; changed = Some id; is_new = is_new })
put_changes layer id mark is_new other e =
    some_same id other (λ i. DiffersUnder (with_mark layer id mark) i layer) e (marked_back layer id.kind id.number mark)

new_changes : (layer : Annotations) (kind : Kind) (mark : Mark) → ChangesOne layer (with_new layer kind mark)
new_changes layer kind mark = put_changes layer _ mark true

changed_changes : (layer : Annotations) (id : AnnId) (mark : Mark) → ChangesOne layer (with_changed layer id mark)
changed_changes layer id mark = put_changes layer id mark false

less_changes : (layer less : Annotations) → ChangesOne layer (with_less less)
less_changes layer less id e = absurd (some_none (sym e))

-- what is so of each draft that there may be
map_all : {X : Type 0} (P : Draft → Type 0) (f : X → Draft) (o : Option X) → ((x : X) → P (f x)) → IfSome (option_map f o) P
map_all P f None all = tt
map_all P f (Some x) all = all x

then_all : {X : Type 0} (P : Draft → Type 0) (f : X → Option Draft) (o : Option X) → ((x : X) → IfSome (f x) P) → IfSome (option_and_then f o) P
then_all P f None all = tt
then_all P f (Some x) all = all x

else_all : (P : Draft → Type 0) (b : Bool) (a c : Option Draft) → IfSome a P → IfSome c P → IfSome (cond b a c) P
else_all P true a c pa pc = pa
else_all P false a c pa pc = pc

valued_all : (P : Draft → Type 0) (v : Valued) (f : Option ℕ → Draft) → ((value : Option ℕ) → P (f value)) → IfSome (valued_draft v f) P
valued_all P Undeclared f all = tt
valued_all P (Declared value) f all = all value

-- a command that puts one annotation where something is found
new_where : {X : Type 0} (layer : Annotations) (kind : Kind) (mark : X → Mark) (o : Option X) → IfSome (option_map (λ x. with_new layer kind (mark x)) o) (ChangesOne layer)
new_where layer kind mark o = map_all (ChangesOne layer) (λ x. with_new layer kind (mark x)) o (λ x. new_changes layer kind (mark x))

changed_where : {X : Type 0} (layer : Annotations) (id : AnnId) (mark : X → Mark) (o : Option X) → IfSome (option_map (λ x. with_changed layer id (mark x)) o) (ChangesOne layer)
changed_where layer id mark o = map_all (ChangesOne layer) (λ x. with_changed layer id (mark x)) o (λ x. changed_changes layer id (mark x))

less_where : {X : Type 0} (layer : Annotations) (less : X → Annotations) (o : Option X) → IfSome (option_map (λ x. with_less (less x)) o) (ChangesOne layer)
less_where layer less o = map_all (ChangesOne layer) (λ x. with_less (less x)) o (λ x. less_changes layer (less x))

-- another mark under the ID that is found, or a new one
there_or_new : (layer : Annotations) (kind : Kind) (mark : Mark) (there : Option AnnId) → ChangesOne layer (option_map_or (λ id. with_changed layer id mark) there (with_new layer kind mark))
there_or_new layer kind mark None = new_changes layer kind mark
there_or_new layer kind mark (Some id) = changed_changes layer id mark

pub drafts_change_one : (conf : Configuration) (layer : Annotations) (command : Command) → IfSome (draft conf layer command) (ChangesOne layer)
drafts_change_one conf layer (ask.AddSpan kind frags) = new_where layer letter.Text (λ id. marked.Span (record { kind = id; frags = frags })) (type_named conf.types kind)
drafts_change_one conf layer (ask.RetypeSpan id kind) =
    let retyped : TypeId → Option Draft = λ type_. option_map (λ span. with_changed layer id (marked.Span (record { kind = type_; frags = span.frags }))) (span_of layer id) in
    else_all (ChangesOne layer) (is_in_trigger layer id) None (option_and_then retyped (type_named conf.types kind)) tt
    (then_all (ChangesOne layer) retyped (type_named conf.types kind) (λ type_. changed_where layer id (λ (span : Span). marked.Span (record { kind = type_; frags = span.frags })) (span_of layer id)))
drafts_change_one conf layer (ask.MoveSpan id frags) = changed_where layer id (λ (span : Span). marked.Span (record { kind = span.kind; frags = frags })) (span_of layer id)
drafts_change_one conf layer (ask.AddEvent kind trigger args) =
    let stated : TypeId → Option Draft = λ type_. option_map (λ placed. with_new layer letter.Event (marked.Event (record { kind = type_; trigger = trigger.number; args = placed; within = trigger.within }))) (args_named conf type_ args) in
    else_all (ChangesOne layer) (is_span_letter trigger.kind) (option_and_then stated (event_named conf kind)) None
    (then_all (ChangesOne layer) stated (event_named conf kind) (λ type_. new_where layer letter.Event (λ placed. marked.Event (record { kind = type_; trigger = trigger.number; args = placed; within = trigger.within })) (args_named conf type_ args)))
    tt
drafts_change_one conf layer (ask.AddArg id arg) =
    let more : Event → Option Draft = λ event. option_map (λ placed. with_args layer id event (event.args ++ placed ∷ [])) (arg_named conf event.kind arg) in
    then_all (ChangesOne layer) more (event_of layer id) (λ event. changed_where layer id (λ placed. marked.Event (record event { args = event.args ++ placed ∷ [] })) (arg_named conf event.kind arg))
drafts_change_one conf layer (ask.RemoveArg id arg) =
    let fewer : Event → Option Draft = λ event. option_map (λ placed. with_args layer id event (without_first placed event.args)) (arg_named conf event.kind arg) in
    then_all (ChangesOne layer) fewer (event_of layer id) (λ event. changed_where layer id (λ placed. marked.Event (record event { args = without_first placed event.args })) (arg_named conf event.kind arg))
drafts_change_one conf layer (ask.AddRelation kind first second) =
    new_where layer letter.Relation (λ place. marked.Relation (record { kind = record { n = place }; first = first; second = second })) (relation_named conf kind)
drafts_change_one conf layer (ask.SetAttribute kind target value) =
    let set : ℕ → Option Draft = λ place. valued_draft (value_of conf place value) (with_attribute layer (record { n = place }) target) in
    then_all (ChangesOne layer) set (attribute_named conf kind) (λ place. valued_all (ChangesOne layer) (value_of conf place value) (with_attribute layer (record { n = place }) target) (λ given.
    there_or_new layer letter.Attribute (marked.Attribute (record { kind = record { n = place }; target = target; value = given })) (attribute_on layer place target)))
drafts_change_one conf layer (ask.ClearAttribute id) = else_all (ChangesOne layer) (is_some (first_naming layer id)) None (Some (with_less (gone layer id))) tt (less_changes layer (gone layer id))
drafts_change_one conf layer (ask.Equate kind members) =
    let less : ℕ → Annotations = λ place. record layer { classes = joined (record { n = place }) members layer.classes } in
    else_all (ChangesOne layer) (length members == 0) None (option_map (λ place. with_less (less place)) (relation_named conf kind)) tt (less_where layer less (relation_named conf kind))
drafts_change_one conf layer (ask.Unequate kind id) = less_where layer (λ place. record layer { classes = parted place id layer.classes }) (relation_named conf kind)
drafts_change_one conf layer (ask.SetNote target kind text) =
    there_or_new layer letter.Note (marked.Note (record { kind = kind; target = target; text = text })) (lowest (is_note_on kind target) layer letter.Note)
drafts_change_one conf layer (ask.SetReference target store entry text) =
    there_or_new layer letter.Normal (marked.Normal (record { target = target; store = store; entry = entry; text = text })) (lowest (is_reference_to target store entry) layer letter.Normal)
drafts_change_one conf layer (ask.Delete id) = else_all (ChangesOne layer) (is_some (first_naming layer id)) None (Some (with_less (gone layer id))) tt (less_changes layer (gone layer id))
drafts_change_one conf layer (ask.Purge id) = less_changes layer (without_all layer (filter (falls layer id) (ids_of layer)))
drafts_change_one conf layer (ask.Load loaded) = less_changes layer loaded

-- ---- the annotation that a command takes away

pub changed_differs : (layer : Annotations) (command : Command) (made : Draft) (id : AnnId) → IsDraftOf layer command made → made.changed ≡ Some id → DiffersUnder made.layer id layer
changed_differs layer command made id drafts e = subst (λ d. IfSome d (ChangesOne layer)) drafts.1 (drafts_change_one drafts.0 layer command) id e
