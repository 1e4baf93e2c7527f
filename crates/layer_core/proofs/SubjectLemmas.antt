-- What a command asks of the whole layer is told by the annotations that name its subject.
use Rattle.std.proofs.Common.{◌≡◌, ℕ, ◌+◌, ◌*◌, ◌≤◌, ◌==◌, ◌||◌, ◌&&◌, min, Bool, true, false, cond, List, [], ◌∷◌, ◌++◌, map, filter, Option, Some, None, option_map, is_some, slice_get, refl, sym, ◌∙◌, ap, arith}
use Rattle.std.specs.Prelude.{bytes_eq}
use Rattle.std.specs.Option.{option_map_or, option_or}
use Rattle.std.specs.List.{list_any, find, AllByRecursion}
use Rattle.std.specs.FinMap as finite
use Rattle.std.proofs.lemmas.Bool.{eq-eqb, eqb-true}
use Rattle.std.proofs.lemmas.List.{append-nil}
use Rattle.std.proofs.lemmas.List.Folds.{find-append}
use Rattle.mark_base.specs.declared.ann_id.AnnId.{AnnId}
use Rattle.mark_base.specs.declared.ann_id.Kind.{Kind}
use Rattle.mark_base.specs.declared.ann_id.Kind.TheVariants as letter
use Rattle.mark_base.specs.ReadIds.{id_at}
use Rattle.layer_model.specs.declared.event.Event as event_record
use Rattle.layer_model.specs.declared.mark.Mark.{Mark}
use Rattle.layer_model.specs.declared.mark.Mark.TheVariants.{Span, Event, Relation, Attribute, Normal, Note}
use Rattle.layer_model.specs.Annotations.{Annotations}
use Rattle.layer_model.specs.Classes.{letter_place, rank}
use Rattle.layer_model.specs.LayerIds.{ids_of, ids_of_letter}
use Rattle.layer_model.specs.Layers.{IsLayer, mark_at, numbers}
use Rattle.layer_model.specs.Numbers.{NumbersFit}
use Rattle.layer_rules.specs.LayerRules.{is_id}
use Rattle.layer_rules.specs.MarkRules.{named_by}
use Rattle.layer_rules.proofs.PlaceLemmas.{entries_found}
use Rattle.layer_core.specs.CommandRules.{attribute_on, first_naming, is_attribute_on}
use Rattle.layer_core.specs.MadeLayers.{is_note_on, is_reference_to, lowest}
use Rattle.layer_core.specs.Namers.{AreNamersOf, is_triggered_by, namers, names_it}

-- ---- what passes a test among some

-- the first of what is kept is the first that passes
first_kept : {X : Type 0} (p : X → Bool) (xs : List X) → slice_get (filter p xs) 0 ≡ find p xs
first_kept p [] = refl
first_kept p (x ∷ xs) = elim (p x) as (λ b. slice_get (cond b (x ∷ filter p xs) (filter p xs)) 0 ≡ cond b (Some x) (find p xs)) [ true ↦ refl | false ↦ first_kept p xs ]

-- what passes one test is found among what passes a weaker one
find_kept : {X : Type 0} (p q : X → Bool) → ((x : X) → p x ≡ true → q x ≡ true) → (xs : List X) → find p (filter q xs) ≡ find p xs
find_kept p q weaker [] = refl
find_kept p q weaker (x ∷ xs) = split (find_kept p q weaker xs) (p x) (q x) refl refl
  where
    split : find p (filter q xs) ≡ find p xs → (a b : Bool) → p x ≡ a → q x ≡ b → find p (cond b (x ∷ filter q xs) (filter q xs)) ≡ cond a (Some x) (find p xs)
    split later a true e f = ap (λ c. cond c (Some x) (find p (filter q xs))) e ∙ ap (cond a (Some x)) later
    split later true false e f = absurd (let differ : false ≡ true = sym f ∙ weaker x e in cc)
    split later false false e f = later

-- whether something passes is whether something is found
some_found : {X : Type 0} (p : X → Bool) (xs : List X) → is_some (find p xs) ≡ list_any p xs
some_found p [] = refl
some_found p (x ∷ xs) = elim (p x) as (λ b. is_some (cond b (Some x) (find p xs)) ≡ (b || list_any p xs)) [ true ↦ refl | false ↦ some_found p xs ]

-- ---- the mark of an ID passes a test

abbrev passes : Annotations → (Mark → Bool) → AnnId → Bool
passes layer test other = option_map_or test (mark_at layer other) false

-- a test that passes only marks that name an annotation
abbrev PassesNamers : AnnId → (Mark → Bool) → Type 0
PassesNamers id test = (mark : Mark) → test mark ≡ true → list_any (is_id id) (named_by mark) ≡ true

named : (id : AnnId) (test : Mark → Bool) → PassesNamers id test → (o : Option Mark) → option_map_or test o false ≡ true
    → option_map_or (λ mark. list_any (is_id id) (named_by mark)) o false ≡ true
named id test all None e = e
named id test all (Some mark) e = all mark e

-- such a mark is found among those that name the annotation
find_namers : (layer : Annotations) (id : AnnId) (test : Mark → Bool) → PassesNamers id test → find (passes layer test) (namers layer id) ≡ find (passes layer test) (ids_of layer)
find_namers layer id test all = find_kept (passes layer test) (names_it layer id) (λ other e. named id test all (mark_at layer other) e) (ids_of layer)

-- ---- a test that passes no mark of a letter

never : {X : Type 0} (test : Mark → Bool) (make : X → Mark) → ((x : X) → test (make x) ≡ false) → (o : Option X) → option_map_or test (option_map make o) false ≡ false
never test make fails None = refl
never test make fails (Some x) = fails x

find_none : (p : AnnId → Bool) (kind : Kind) → ((n : ℕ) → p (id_at kind n) ≡ false) → (ns : List ℕ) → find p (map (id_at kind) ns) ≡ None
find_none p kind fails [] = refl
find_none p kind fails (n ∷ ns) = ap (λ b. cond b (Some (id_at kind n)) (find p (map (id_at kind) ns))) (fails n) ∙ find_none p kind fails ns

find_behind : (p : AnnId → Bool) (kind : Kind) → ((n : ℕ) → p (id_at kind n) ≡ false) → (ns : List ℕ) (ids : List AnnId) → find p (map (id_at kind) ns ++ ids) ≡ find p ids
find_behind p kind fails ns ids = find-append p (map (id_at kind) ns) ids ∙ ap (λ o. option_or o (find p ids)) (find_none p kind fails ns)

or_none : {X : Type 0} (o : Option X) → option_or o None ≡ o
or_none None = refl
or_none (Some x) = refl

find_before : (p : AnnId → Bool) (ids rest : List AnnId) → find p rest ≡ None → find p (ids ++ rest) ≡ find p ids
find_before p ids rest none = find-append p ids rest ∙ ap (option_or (find p ids)) none ∙ or_none (find p ids)

-- ---- the letters where a test passes nothing

no_spans : (layer : Annotations) (test : Mark → Bool) → ((x : _) → test (Span x) ≡ false) → (ids : List AnnId) → find (passes layer test) (ids_of_letter layer letter.Text ++ ids) ≡ find (passes layer test) ids
no_spans layer test fails = find_behind (passes layer test) letter.Text (λ n. never test Span fails (finite.get layer.spans (min n 999999999))) (numbers layer letter.Text)

no_events : (layer : Annotations) (test : Mark → Bool) → ((x : _) → test (Event x) ≡ false) → (ids : List AnnId) → find (passes layer test) (ids_of_letter layer letter.Event ++ ids) ≡ find (passes layer test) ids
no_events layer test fails = find_behind (passes layer test) letter.Event (λ n. never test Event fails (finite.get layer.events (min n 999999999))) (numbers layer letter.Event)

no_relations : (layer : Annotations) (test : Mark → Bool) → ((x : _) → test (Relation x) ≡ false) → (ids : List AnnId) → find (passes layer test) (ids_of_letter layer letter.Relation ++ ids) ≡ find (passes layer test) ids
no_relations layer test fails = find_behind (passes layer test) letter.Relation (λ n. never test Relation fails (finite.get layer.relations (min n 999999999))) (numbers layer letter.Relation)

no_attributes : (layer : Annotations) (test : Mark → Bool) → ((x : _) → test (Attribute x) ≡ false) → (ids : List AnnId)
    → find (passes layer test) (ids_of_letter layer letter.Attribute ++ (ids_of_letter layer letter.Legacy ++ ids)) ≡ find (passes layer test) ids
no_attributes layer test fails ids =
    find_behind (passes layer test) letter.Attribute (λ n. never test Attribute fails (finite.get layer.attributes (min n 999999999))) (numbers layer letter.Attribute) (ids_of_letter layer letter.Legacy ++ ids)
    ∙ find_behind (passes layer test) letter.Legacy (λ n. never test Attribute fails (finite.get layer.legacy (min n 999999999))) (numbers layer letter.Legacy) ids

no_normals : (layer : Annotations) (test : Mark → Bool) → ((x : _) → test (Normal x) ≡ false) → (ids : List AnnId) → find (passes layer test) (ids_of_letter layer letter.Normal ++ ids) ≡ find (passes layer test) ids
no_normals layer test fails = find_behind (passes layer test) letter.Normal (λ n. never test Normal fails (finite.get layer.normals (min n 999999999))) (numbers layer letter.Normal)

no_notes : (layer : Annotations) (test : Mark → Bool) → ((x : _) → test (Note x) ≡ false) → find (passes layer test) (ids_of_letter layer letter.Note ++ []) ≡ None
no_notes layer test fails = find_behind (passes layer test) letter.Note (λ n. never test Note fails (finite.get layer.notes (min n 999999999))) (numbers layer letter.Note) []

-- ---- an ID is the one that is named

turned : (a b : AnnId) → is_id a b ≡ true → is_id b a ≡ true
turned a b e = eq-eqb (rank b) (rank a) (sym (eqb-true (rank a) (rank b) e))

or_true : (a b : Bool) → a ≡ true → (a || b) ≡ true
or_true true b e = refl
or_true false b e = absurd (let differ : false ≡ true = e in cc)

both_left : (a b : Bool) → (a && b) ≡ true → a ≡ true
both_left true b e = refl
both_left false b e = e

both_right : (a b : Bool) → (a && b) ≡ true → b ≡ true
both_right true b e = e
both_right false b e = absurd (let differ : false ≡ true = e in cc)

-- ---- an annotation that no other names

pub first_of_namers : (layer : Annotations) (id : AnnId) (ids : List AnnId) → AreNamersOf layer id ids → slice_get ids 0 ≡ first_naming layer id
first_of_namers layer id ids are = ap (λ (xs : List AnnId). slice_get xs 0) are ∙ first_kept (names_it layer id) (ids_of layer)

-- ---- an attribute, a note and a reference on a target

attribute_names : (kind : ℕ) (target : AnnId) → PassesNamers target (is_attribute_on kind target)
attribute_names kind target (Attribute attribute) e = or_true (is_id target attribute.target) false (turned attribute.target target (both_right (attribute.kind.n == kind) (is_id attribute.target target) e))
attribute_names kind target mark e = absurd (let differ : false ≡ true = e in cc)

pub attribute_of_namers : (layer : Annotations) (kind : ℕ) (target : AnnId) (ids : List AnnId) → AreNamersOf layer target ids
    → find (λ other. option_map_or (is_attribute_on kind target) (mark_at layer other) false) ids ≡ attribute_on layer kind target
attribute_of_namers layer kind target ids are =
    let test = is_attribute_on kind target in
    let behind = ids_of_letter layer letter.Normal ++ (ids_of_letter layer letter.Note ++ []) in
    let attributes = ids_of_letter layer letter.Attribute in
    let legacy = ids_of_letter layer letter.Legacy in
    ap (find (passes layer test)) are ∙ find_namers layer target test (attribute_names kind target)
    ∙ no_spans layer test (λ _. refl) _ ∙ no_events layer test (λ _. refl) _ ∙ no_relations layer test (λ _. refl) _
    ∙ find-append (passes layer test) attributes (legacy ++ behind)
    ∙ ap (option_or (find (passes layer test) attributes))
    (find_before (passes layer test) legacy behind (no_normals layer test (λ _. refl) _ ∙ no_notes layer test (λ _. refl)))
    ∙ sym (find-append (passes layer test) attributes legacy)

note_names : (kind : List ℕ) (target : AnnId) → PassesNamers target (is_note_on kind target)
note_names kind target (Note note) e = or_true (is_id target note.target) false (turned note.target target (both_right (bytes_eq note.kind kind) (is_id note.target target) e))
note_names kind target mark e = absurd (let differ : false ≡ true = e in cc)

pub note_of_namers : (layer : Annotations) (kind : List ℕ) (target : AnnId) (ids : List AnnId) → AreNamersOf layer target ids
    → find (λ other. option_map_or (is_note_on kind target) (mark_at layer other) false) ids ≡ lowest (is_note_on kind target) layer letter.Note
note_of_namers layer kind target ids are =
    let test = is_note_on kind target in
    ap (find (passes layer test)) are ∙ find_namers layer target test (note_names kind target)
    ∙ no_spans layer test (λ _. refl) _ ∙ no_events layer test (λ _. refl) _ ∙ no_relations layer test (λ _. refl) _
    ∙ no_attributes layer test (λ _. refl) _ ∙ no_normals layer test (λ _. refl) _
    ∙ ap (find (passes layer test)) (append-nil (ids_of_letter layer letter.Note))

reference_names : (target : AnnId) (store entry : List ℕ) → PassesNamers target (is_reference_to target store entry)
reference_names target store entry (Normal normal) e = or_true (is_id target normal.target) false (turned normal.target target (both_left (is_id normal.target target) (bytes_eq normal.store store) (both_left (is_id normal.target target && bytes_eq normal.store store) (bytes_eq normal.entry entry) e)))
reference_names target store entry mark e = absurd (let differ : false ≡ true = e in cc)

pub reference_of_namers : (layer : Annotations) (target : AnnId) (store entry : List ℕ) (ids : List AnnId) → AreNamersOf layer target ids
    → find (λ other. option_map_or (is_reference_to target store entry) (mark_at layer other) false) ids ≡ lowest (is_reference_to target store entry) layer letter.Normal
reference_of_namers layer target store entry ids are =
    let test = is_reference_to target store entry in
    ap (find (passes layer test)) are ∙ find_namers layer target test (reference_names target store entry)
    ∙ no_spans layer test (λ _. refl) _ ∙ no_events layer test (λ _. refl) _ ∙ no_relations layer test (λ _. refl) _
    ∙ no_attributes layer test (λ _. refl) _
    ∙ find_before (passes layer test) (ids_of_letter layer letter.Normal) (ids_of_letter layer letter.Note ++ []) (no_notes layer test (λ _. refl))

-- ---- an event on a trigger

min_is : (n : ℕ) → n ≤ 999999999 → min n 999999999 ≡ n
min_is n low = omega arith

triggered : (id : AnnId) (trigger : ℕ) → id.kind ≡ letter.Text → (trigger == id.number) ≡ true → is_id id (id_at letter.Text trigger) ≡ true
triggered id trigger text e =
    let same : trigger ≡ id.number = eqb-true trigger id.number e in
    let number : min trigger 999999999 ≡ id.number = ap (λ n. min n 999999999) same ∙ min_is id.number id.within in
    eq-eqb (rank id) (rank (id_at letter.Text trigger)) (ap (λ k. letter_place k * 1000000000 + id.number) text ∙ ap (λ n. 0 * 1000000000 + n) (sym number))

trigger_names : (id : AnnId) → id.kind ≡ letter.Text → PassesNamers id (is_triggered_by id.number)
trigger_names id text (Event event) e = or_true (is_id id (id_at letter.Text event.trigger)) _ (triggered id event.trigger text e)
trigger_names id text mark e = absurd (let differ : false ≡ true = e in cc)

in_entries : (layer : Annotations) (number : ℕ) → NumbersFit layer.events → (es : List (ℕ × event_record.Event)) → AllByRecursion (λ e. finite.get layer.events e.0 ≡ Some e.1) es
    → list_any (passes layer (is_triggered_by number)) (map (id_at letter.Event) (map (λ e. e.0) es)) ≡ list_any (λ e. e.1.trigger == number) es
in_entries layer number fit [] all = refl
in_entries layer number fit (e ∷ es) all =
    let there : finite.get layer.events (min e.0 999999999) ≡ Some e.1 = ap (finite.get layer.events) (min_is e.0 (fit e.0 (ap is_some all.0))) ∙ all.0 in
    ap (λ o. option_map_or (is_triggered_by number) (option_map Event o) false || list_any (passes layer (is_triggered_by number)) (map (id_at letter.Event) (map (λ e. e.0) es))) there
    ∙ ap (λ b. (e.1.trigger == number) || b) (in_entries layer number fit es all.1)

pub trigger_of_namers : (layer : Annotations) (id : AnnId) (ids : List AnnId) → IsLayer layer → id.kind ≡ letter.Text → AreNamersOf layer id ids
    → list_any (λ other. option_map_or (is_triggered_by id.number) (mark_at layer other) false) ids ≡ list_any (λ entry. entry.1.trigger == id.number) (finite.entries layer.events)
trigger_of_namers layer id ids kept text are =
    let test = is_triggered_by id.number in
    let events = ids_of_letter layer letter.Event in
    let behind = ids_of_letter layer letter.Relation ++ (ids_of_letter layer letter.Attribute ++ (ids_of_letter layer letter.Legacy ++ (ids_of_letter layer letter.Normal ++ (ids_of_letter layer letter.Note ++ [])))) in
    sym (some_found (passes layer test) ids)
    ∙ ap is_some
    (ap (find (passes layer test)) are ∙ find_namers layer id test (trigger_names id text) ∙ no_spans layer test (λ _. refl) _
    ∙ find_before (passes layer test) events behind
    (no_relations layer test (λ _. refl) _ ∙ no_attributes layer test (λ _. refl) _ ∙ no_normals layer test (λ _. refl) _ ∙ no_notes layer test (λ _. refl)))
    ∙ some_found (passes layer test) events
    ∙ in_entries layer id.number kept.events (finite.entries layer.events) (entries_found layer.events)
