-- The written lines of a layer are an .ann file of that layer.
use Rattle.std.proofs.Common.{◌≡◌, refl, sym, ap, ap₂, ◌∙◌, subst, ℕ, ◌+◌, ◌≤◌, Bool, true, false, ◌||◌, List, [], ◌∷◌, ◌++◌, map, append-nil, append_assoc, codes, arith, IsUtf8, encode_utf8_all, Some, None, length, lit<}
use Rattle.std.proofs.lemmas.Bool.{true≢false}
use Rattle.std.proofs.lemmas.Grind.{flat_map-append}
use Rattle.std.specs.Option.{option_map_or}
use Rattle.std.specs.Ordering.{nat_cmp}
use Rattle.std.specs.List.{AllByRecursion, list_any, flat_map, filter_map}
use Rattle.std.specs.FinMap as finite
use Rattle.std.specs.FinMap.{entries_sorted, contains_key-keys}
use Rattle.mark_base.specs.declared.ann_id.AnnId.{AnnId}
use Rattle.mark_base.specs.declared.ann_id.Kind.{Kind}
use Rattle.mark_base.specs.declared.ann_id.Kind.TheVariants as letter
use Rattle.mark_base.specs.AnnIds.{spelling_of}
use Rattle.char_documents.specs.Texts.{reference_text}
use Rattle.conf_model.specs.Configurations.{Configuration}
use Rattle.conf_model.specs.ConfText.{type_name_at, relation_name_at}
use Rattle.annotation_conf.proofs.WrittenTexts.{each_append}
use Rattle.layer_model.specs.declared.span.Span.{Span}
use Rattle.layer_model.specs.declared.event.Event.{Event}
use Rattle.layer_model.specs.declared.relation.Relation.{Relation}
use Rattle.layer_model.specs.declared.attribute.Attribute.{Attribute}
use Rattle.layer_model.specs.declared.normal.Normal.{Normal}
use Rattle.layer_model.specs.declared.note.Note.{Note}
use Rattle.layer_model.specs.declared.class.Class.{Class}
use Rattle.layer_model.specs.Annotations.{Annotations}
use Rattle.layer_model.specs.Layers.{IsLayer, has_number}
use Rattle.layer_model.specs.Numbers.{NumbersFit}
use Rattle.mark_base.specs.ReadIds.{id_at}
use Rattle.layer_rules.specs.LayerRules.{is_id}
use Rattle.layer_rules.specs.WellFormed.{IsWellFormed}
use Rattle.layer_rules.proofs.PlaceLemmas.{entries_found}
use Rattle.ann_reader.specs.Lines as file
use Rattle.ann_reader.specs.Lines.{Line}
use Rattle.ann_reader.specs.LineForms.{form_of}
use Rattle.ann_reader.specs.LineFaults.{is_twice}
use Rattle.ann_reader.specs.AnnFiles.{Spells, is_line_of, said_in, classes_of, IsAnn}
use Rattle.ann_writer.specs.Words.{id_word, frags_word, pair_word, argument_words}
use Rattle.ann_writer.specs.AnnOf.{relation_role_at, attribute_name_at, value_words, span_line, event_line, relation_line, class_line, attribute_line, normal_line, note_line, lines_of, ann_of}
use Rattle.ann_writer.specs.Writable.{IsOfProgram}
use Rattle.ann_writer.proofs.LineForms.{body, body_with_text, line_is, line_with_text_is}
use Rattle.ann_writer.proofs.MarkLines.{IsHeld, IsMarkLine, span_said, event_said, relation_said, attribute_said, normal_said, note_said}
use Rattle.ann_writer.proofs.ClassLines.{IsClassLine, said_class, classes_said, classes_again}
use Rattle.ann_writer.proofs.FileRows.{Row, IsRow, AreRows, ended, numbered, lines_are, rows_spell, rows_said, rows_have, Rise, rows_once, mark_rows, base, rows_rise, rows_below, rise-append, small_entries, keys_own}

-- ---- the lines without their line feeds

abbrev span_body : Configuration → List ℕ → ℕ → Span → List ℕ
span_body conf text n span = body_with_text (spelling_of letter.Text n) (type_name_at conf span.kind.n) (frags_word span.frags ∷ []) (encode_utf8_all (reference_text text span.frags))

abbrev event_body : Configuration → ℕ → Event → List ℕ
event_body conf n event = body (spelling_of letter.Event n) (pair_word (type_name_at conf event.kind.n) (spelling_of letter.Text event.trigger)) (argument_words conf event.kind.n [] event.args)

abbrev relation_body : Configuration → ℕ → Relation → List ℕ
relation_body conf n relation =
    body (spelling_of letter.Relation n) (relation_name_at conf relation.kind.n)
    (pair_word (relation_role_at conf relation.kind.n false) (id_word relation.first) ∷ pair_word (relation_role_at conf relation.kind.n true) (id_word relation.second) ∷ [])

abbrev class_body : Configuration → Class → List ℕ
class_body conf class = body (codes "*") (relation_name_at conf class.kind.n) (map id_word class.members)

abbrev attribute_body : Configuration → Kind → ℕ → Attribute → List ℕ
attribute_body conf kind n attribute = body (spelling_of kind n) (attribute_name_at conf attribute.kind.n) (id_word attribute.target ∷ value_words conf attribute.kind.n attribute.value)

abbrev normal_body : ℕ → Normal → List ℕ
normal_body n normal = body_with_text (spelling_of letter.Normal n) (codes "Reference") (id_word normal.target ∷ pair_word normal.store normal.entry ∷ []) normal.text

abbrev note_body : ℕ → Note → List ℕ
note_body n note = body_with_text (spelling_of letter.Note n) note.kind (id_word note.target ∷ []) note.text

abbrev class_rows : Configuration → List Class → List Row
class_rows conf classes = map (λ class. record { line = class_body conf class; own = None; said = Some (said_class class) }) classes

-- ---- the rows of a file

abbrev note_part : Annotations → List Row
note_part layer = mark_rows letter.Note note_body (finite.entries layer.notes)

abbrev normal_part : Annotations → List Row
normal_part layer = mark_rows letter.Normal normal_body (finite.entries layer.normals)

abbrev legacy_part : Configuration → Annotations → List Row
legacy_part conf layer = mark_rows letter.Legacy (attribute_body conf letter.Legacy) (finite.entries layer.legacy)

abbrev attribute_part : Configuration → Annotations → List Row
attribute_part conf layer = mark_rows letter.Attribute (attribute_body conf letter.Attribute) (finite.entries layer.attributes)

abbrev relation_part : Configuration → Annotations → List Row
relation_part conf layer = mark_rows letter.Relation (relation_body conf) (finite.entries layer.relations)

abbrev event_part : Configuration → Annotations → List Row
event_part conf layer = mark_rows letter.Event (event_body conf) (finite.entries layer.events)

abbrev span_part : Configuration → List ℕ → Annotations → List Row
span_part conf text layer = mark_rows letter.Text (span_body conf text) (finite.entries layer.spans)

from_normals : Annotations → List Row
from_normals layer = normal_part layer ++ note_part layer

from_legacy : Configuration → Annotations → List Row
from_legacy conf layer = legacy_part conf layer ++ from_normals layer

from_attributes : Configuration → Annotations → List Row
from_attributes conf layer = attribute_part conf layer ++ from_legacy conf layer

from_classes : Configuration → Annotations → List Row
from_classes conf layer = class_rows conf layer.classes ++ from_attributes conf layer

from_relations : Configuration → Annotations → List Row
from_relations conf layer = relation_part conf layer ++ from_classes conf layer

from_events : Configuration → Annotations → List Row
from_events conf layer = event_part conf layer ++ from_relations conf layer

file_rows : Configuration → List ℕ → Annotations → List Row
file_rows conf text layer = span_part conf text layer ++ from_events conf layer

-- ---- the file is the rows with their ends

part_is : {V : Type 0} (kind : Kind) (line plain : ℕ → V → List ℕ) (es : List (ℕ × V)) → ((n : ℕ) (v : V) → line n v ≡ plain n v ++ codes "\n") → flat_map (λ (e : ℕ × V). line e.0 e.1) es ≡ flat_map ended (mark_rows kind plain es)
part_is kind line plain [] same = refl
part_is kind line plain (e ∷ es) same = ap₂ (λ a b. a ++ b) (same e.0 e.1) (part_is kind line plain es same)

span_is : (conf : Configuration) (text : List ℕ) (n : ℕ) (v : Span) → span_line conf text n v ≡ span_body conf text n v ++ codes "\n"
span_is conf text n v = line_with_text_is (spelling_of letter.Text n) (type_name_at conf v.kind.n) (frags_word v.frags ∷ []) (encode_utf8_all (reference_text text v.frags))

event_is : (conf : Configuration) (n : ℕ) (v : Event) → event_line conf n v ≡ event_body conf n v ++ codes "\n"
event_is conf n v = line_is (spelling_of letter.Event n) (pair_word (type_name_at conf v.kind.n) (spelling_of letter.Text v.trigger)) (argument_words conf v.kind.n [] v.args)

relation_is : (conf : Configuration) (n : ℕ) (v : Relation) → relation_line conf n v ≡ relation_body conf n v ++ codes "\n"
relation_is conf n v =
    line_is (spelling_of letter.Relation n) (relation_name_at conf v.kind.n)
    (pair_word (relation_role_at conf v.kind.n false) (id_word v.first) ∷ pair_word (relation_role_at conf v.kind.n true) (id_word v.second) ∷ [])

attribute_is : (conf : Configuration) (kind : Kind) (n : ℕ) (v : Attribute) → attribute_line conf kind n v ≡ attribute_body conf kind n v ++ codes "\n"
attribute_is conf kind n v = line_is (spelling_of kind n) (attribute_name_at conf v.kind.n) (id_word v.target ∷ value_words conf v.kind.n v.value)

normal_is : (n : ℕ) (v : Normal) → normal_line n v ≡ normal_body n v ++ codes "\n"
normal_is n v = line_with_text_is (spelling_of letter.Normal n) (codes "Reference") (id_word v.target ∷ pair_word v.store v.entry ∷ []) v.text

note_is : (n : ℕ) (v : Note) → note_line n v ≡ note_body n v ++ codes "\n"
note_is n v = line_with_text_is (spelling_of letter.Note n) v.kind (id_word v.target ∷ []) v.text

classes_part : (conf : Configuration) (classes : List Class) → flat_map (class_line conf) classes ≡ flat_map ended (class_rows conf classes)
classes_part conf [] = refl
classes_part conf (class ∷ classes) = ap₂ (λ a b. a ++ b) (line_is (codes "*") (relation_name_at conf class.kind.n) (map id_word class.members)) (classes_part conf classes)

two : (a b : List ℕ) (xs ys : List Row) → a ≡ flat_map ended xs → b ≡ flat_map ended ys → a ++ b ≡ flat_map ended (xs ++ ys)
two a b xs ys ha hb = ap₂ (λ p q. p ++ q) ha hb ∙ sym (flat_map-append ended xs ys)

eight : (a b c d e f g h : List ℕ) → ((((((a ++ b) ++ c) ++ d) ++ e) ++ f) ++ g) ++ h ≡ a ++ (b ++ (c ++ (d ++ (e ++ (f ++ (g ++ h))))))
eight a b c d e f g h = simp append_assoc

file_is : (conf : Configuration) (text : List ℕ) (layer : Annotations) → ann_of conf text layer ≡ flat_map ended (file_rows conf text layer)
unfolding ann_of file_rows from_events from_relations from_classes from_attributes from_legacy from_normals
file_is conf text layer =
    eight (lines_of (span_line conf text) layer.spans) (lines_of (event_line conf) layer.events) (lines_of (relation_line conf) layer.relations) (flat_map (class_line conf) layer.classes)
    (lines_of (attribute_line conf letter.Attribute) layer.attributes) (lines_of (attribute_line conf letter.Legacy) layer.legacy) (lines_of normal_line layer.normals) (lines_of note_line layer.notes)
    ∙ two _ _ _ _ (part_is letter.Text (span_line conf text) (span_body conf text) (finite.entries layer.spans) (span_is conf text))
    (two _ _ _ _ (part_is letter.Event (event_line conf) (event_body conf) (finite.entries layer.events) (event_is conf))
    (two _ _ _ _ (part_is letter.Relation (relation_line conf) (relation_body conf) (finite.entries layer.relations) (relation_is conf))
    (two _ _ _ _ (classes_part conf layer.classes)
    (two _ _ _ _ (part_is letter.Attribute (attribute_line conf letter.Attribute) (attribute_body conf letter.Attribute) (finite.entries layer.attributes) (attribute_is conf letter.Attribute))
    (two _ _ _ _ (part_is letter.Legacy (attribute_line conf letter.Legacy) (attribute_body conf letter.Legacy) (finite.entries layer.legacy) (attribute_is conf letter.Legacy))
    (two _ _ _ _ (part_is letter.Normal normal_line normal_body (finite.entries layer.normals) normal_is) (part_is letter.Note note_line note_body (finite.entries layer.notes) note_is)))))))

-- ---- each row says what it is

mark_row : (conf : Configuration) (text : List ℕ) (layer : Annotations) (kind : Kind) (n : ℕ) (line : List ℕ) → IsMarkLine conf text layer kind n line → IsRow conf text layer (record { line = line; own = Some (id_at kind n); said = None })
mark_row conf text layer kind n line h = record { unbroken = h.unbroken; unblank = h.unblank; spells = h.spells; own = h.own; head = h.head; said = h.unsaid }

rows_by : {V : Type 0} (conf : Configuration) (text : List ℕ) (layer : Annotations) (kind : Kind) (line : ℕ → V → List ℕ) (m : finite.FinMap nat_cmp V) (es : List (ℕ × V))
    → ((n : ℕ) (v : V) → finite.get m n ≡ Some v → IsMarkLine conf text layer kind n (line n v)) → AllByRecursion (λ (e : ℕ × V). finite.get m e.0 ≡ Some e.1) es → AreRows conf text layer (mark_rows kind line es)
rows_by conf text layer kind line m [] said all = tt
rows_by conf text layer kind line m (e ∷ es) said all = (mark_row conf text layer kind e.0 (line e.0 e.1) (said e.0 e.1 all.0), rows_by conf text layer kind line m es said all.1)

rows_of : {V : Type 0} (conf : Configuration) (text : List ℕ) (layer : Annotations) (kind : Kind) (line : ℕ → V → List ℕ) (m : finite.FinMap nat_cmp V)
    → ((n : ℕ) (v : V) → finite.get m n ≡ Some v → IsMarkLine conf text layer kind n (line n v)) → AreRows conf text layer (mark_rows kind line (finite.entries m))
rows_of conf text layer kind line m said = rows_by conf text layer kind line m (finite.entries m) said (entries_found m)

class_row : (conf : Configuration) (text : List ℕ) (layer : Annotations) (classes : List Class) → AllByRecursion (λ class. IsClassLine conf text layer class (class_body conf class)) classes → AreRows conf text layer (class_rows conf classes)
class_row conf text layer [] all = tt
class_row conf text layer (class ∷ classes) all =
    (record { unbroken = all.0.unbroken; unblank = all.0.unblank; spells = all.0.spells; own = all.0.own; head = all.0.head; said = all.0.said }, class_row conf text layer classes all.1)

are_rows : (conf : Configuration) (text : List ℕ) (layer : Annotations) → IsHeld conf text layer → AreRows conf text layer (file_rows conf text layer)
unfolding file_rows from_events from_relations from_classes from_attributes from_legacy from_normals
are_rows conf text layer h =
    each_append (IsRow conf text layer) _ _ (rows_of conf text layer letter.Text (span_body conf text) layer.spans (span_said conf text layer h))
    (each_append (IsRow conf text layer) _ _ (rows_of conf text layer letter.Event (event_body conf) layer.events (event_said conf text layer h))
    (each_append (IsRow conf text layer) _ _ (rows_of conf text layer letter.Relation (relation_body conf) layer.relations (relation_said conf text layer h))
    (each_append (IsRow conf text layer) _ _ (class_row conf text layer layer.classes (classes_said conf text layer h))
    (each_append (IsRow conf text layer) _ _ (rows_of conf text layer letter.Attribute (attribute_body conf letter.Attribute) layer.attributes (attribute_said conf text layer h letter.Attribute layer.attributes refl (λ k. refl) h.program.kept.attributes))
    (each_append (IsRow conf text layer) _ _ (rows_of conf text layer letter.Legacy (attribute_body conf letter.Legacy) layer.legacy (attribute_said conf text layer h letter.Legacy layer.legacy refl (λ k. refl) h.program.kept.legacy))
    (each_append (IsRow conf text layer) _ _ (rows_of conf text layer letter.Normal normal_body layer.normals (normal_said conf text layer h))
    (rows_of conf text layer letter.Note note_body layer.notes (note_said conf text layer h))))))))

-- ---- their IDs ascend

small : {V : Type 0} (m : finite.FinMap nat_cmp V) → NumbersFit m → AllByRecursion (λ (e : ℕ × V). e.0 ≤ 999999999) (finite.entries m)
small m fits = small_entries m fits (entries_found m)

from_nothing : {V : Type 0} (es : List (ℕ × V)) → AllByRecursion (λ (e : ℕ × V). 0 ≤ e.0) es
from_nothing [] = tt
from_nothing (e ∷ es) = (omega arith, from_nothing es)

part_rises : {V : Type 0} (kind : Kind) (line : ℕ → V → List ℕ) (m : finite.FinMap nat_cmp V) → NumbersFit m → Rise (base kind + 0) (mark_rows kind line (finite.entries m))
part_rises kind line m fits = rows_rise kind line 0 (finite.entries m) (entries_sorted m) (small m fits) (from_nothing (finite.entries m))

class_rise : (conf : Configuration) (low : ℕ) (classes : List Class) (ys : List Row) → Rise low ys → Rise low (class_rows conf classes ++ ys)
class_rise conf low [] ys rise = rise
class_rise conf low (class ∷ classes) ys rise = class_rise conf low classes ys rise

rises : (conf : Configuration) (text : List ℕ) (layer : Annotations) → IsHeld conf text layer → Rise 0 (file_rows conf text layer)
unfolding file_rows from_events from_relations from_classes from_attributes from_legacy from_normals
rises conf text layer h =
    let kept = h.program.kept in
    rise-append 1000000000 (span_part conf text layer) _ (rows_below letter.Text (span_body conf text) 1000000000 (finite.entries layer.spans) (lit< tt) (small layer.spans kept.spans))
    (rise-append 2000000000 (event_part conf layer) _ (rows_below letter.Event (event_body conf) 2000000000 (finite.entries layer.events) (lit< tt) (small layer.events kept.events))
    (rise-append 3000000000 (relation_part conf layer) _ (rows_below letter.Relation (relation_body conf) 3000000000 (finite.entries layer.relations) (lit< tt) (small layer.relations kept.relations))
    (class_rise conf 3000000000 layer.classes _
    (rise-append 4000000000 (attribute_part conf layer) _ (rows_below letter.Attribute (attribute_body conf letter.Attribute) 4000000000 (finite.entries layer.attributes) (lit< tt) (small layer.attributes kept.attributes))
    (rise-append 5000000000 (legacy_part conf layer) _ (rows_below letter.Legacy (attribute_body conf letter.Legacy) 5000000000 (finite.entries layer.legacy) (lit< tt) (small layer.legacy kept.legacy))
    (rise-append 6000000000 (normal_part layer) _ (rows_below letter.Normal normal_body 6000000000 (finite.entries layer.normals) (lit< tt) (small layer.normals kept.normals))
    (part_rises letter.Note note_body layer.notes kept.notes)
    5000000000 (omega arith) (part_rises letter.Normal normal_body layer.normals kept.normals))
    4000000000 (omega arith) (part_rises letter.Legacy (attribute_body conf letter.Legacy) layer.legacy kept.legacy))
    3000000000 (omega arith) (part_rises letter.Attribute (attribute_body conf letter.Attribute) layer.attributes kept.attributes)))
    2000000000 (omega arith) (part_rises letter.Relation (relation_body conf) layer.relations kept.relations))
    1000000000 (omega arith) (part_rises letter.Event (event_body conf) layer.events kept.events))
    0 (omega arith) (part_rises letter.Text (span_body conf text) layer.spans kept.spans)

-- ---- what they say of classes

unsaid : {V : Type 0} (kind : Kind) (line : ℕ → V → List ℕ) (es : List (ℕ × V)) (ys : List Row) → filter_map (λ (row : Row). row.said) (mark_rows kind line es ++ ys) ≡ filter_map (λ (row : Row). row.said) ys
unsaid kind line [] ys = refl
unsaid kind line (e ∷ es) ys = unsaid kind line es ys

nothing_said : {V : Type 0} (kind : Kind) (line : ℕ → V → List ℕ) (es : List (ℕ × V)) → filter_map (λ (row : Row). row.said) (mark_rows kind line es) ≡ []
nothing_said kind line [] = refl
nothing_said kind line (e ∷ es) = nothing_said kind line es

said_too : (conf : Configuration) (classes : List Class) (ys : List Row) → filter_map (λ (row : Row). row.said) (class_rows conf classes ++ ys) ≡ map said_class classes ++ filter_map (λ (row : Row). row.said) ys
said_too conf [] ys = refl
said_too conf (class ∷ classes) ys = ap (λ rest. said_class class ∷ rest) (said_too conf classes ys)

all_said : (conf : Configuration) (text : List ℕ) (layer : Annotations) → filter_map (λ (row : Row). row.said) (file_rows conf text layer) ≡ map said_class layer.classes
unfolding file_rows from_events from_relations from_classes from_attributes from_legacy from_normals
all_said conf text layer =
    unsaid letter.Text (span_body conf text) (finite.entries layer.spans) _ ∙ unsaid letter.Event (event_body conf) (finite.entries layer.events) _
    ∙ unsaid letter.Relation (relation_body conf) (finite.entries layer.relations) _ ∙ said_too conf layer.classes _
    ∙ ap (λ more. map said_class layer.classes ++ more)
    (unsaid letter.Attribute (attribute_body conf letter.Attribute) (finite.entries layer.attributes) _ ∙ unsaid letter.Legacy (attribute_body conf letter.Legacy) (finite.entries layer.legacy) _
    ∙ unsaid letter.Normal normal_body (finite.entries layer.normals) _ ∙ nothing_said letter.Note note_body (finite.entries layer.notes))
    ∙ append-nil (map said_class layer.classes)

-- ---- each ID of the layer is on a row

abbrev owns : AnnId → List Row → Bool
owns id rows = list_any (λ (row : Row). option_map_or (is_id id) row.own false) rows

front_by : (b : Bool) (c d : Bool) → (c ≡ true → d ≡ true) → (b || c) ≡ true → (b || d) ≡ true
front_by true c d more e = refl
front_by false c d more e = more e

in_front : (id : AnnId) (xs ys : List Row) → owns id xs ≡ true → owns id (xs ++ ys) ≡ true
in_front id [] ys there = absurd (true≢false (sym there))
in_front id (x ∷ xs) ys there = front_by (option_map_or (is_id id) x.own false) (owns id xs) (owns id (xs ++ ys)) (in_front id xs ys) there

behind_by : (b : Bool) {c : Bool} → c ≡ true → (b || c) ≡ true
behind_by true e = refl
behind_by false e = e

behind : (id : AnnId) (xs ys : List Row) → owns id ys ≡ true → owns id (xs ++ ys) ≡ true
behind id [] ys there = there
behind id (x ∷ xs) ys there = behind_by (option_map_or (is_id id) x.own false) (behind id xs ys there)

part_owns : {V : Type 0} (kind : Kind) (line : ℕ → V → List ℕ) (m : finite.FinMap nat_cmp V) (id : AnnId) → NumbersFit m → id.kind ≡ kind → finite.contains_key m id.number ≡ true → owns id (mark_rows kind line (finite.entries m)) ≡ true
part_owns kind line m id fits same there = keys_own kind line id (finite.entries m) same (small m fits) (sym (contains_key-keys m id.number) ∙ there)

has_row : (conf : Configuration) (text : List ℕ) (layer : Annotations) → IsHeld conf text layer → (id : AnnId) (kind : Kind) → id.kind ≡ kind → has_number layer kind id.number ≡ true → owns id (file_rows conf text layer) ≡ true
unfolding file_rows from_events from_relations from_classes from_attributes from_legacy from_normals
has_row conf text layer h id letter.Text same there =
    in_front id (span_part conf text layer) (from_events conf layer) (part_owns letter.Text (span_body conf text) layer.spans id h.program.kept.spans same there)
has_row conf text layer h id letter.Event same there =
    behind id (span_part conf text layer) (from_events conf layer)
    (in_front id (event_part conf layer) (from_relations conf layer) (part_owns letter.Event (event_body conf) layer.events id h.program.kept.events same there))
has_row conf text layer h id letter.Relation same there =
    behind id (span_part conf text layer) (from_events conf layer)
    (behind id (event_part conf layer) (from_relations conf layer)
    (in_front id (relation_part conf layer) (from_classes conf layer) (part_owns letter.Relation (relation_body conf) layer.relations id h.program.kept.relations same there)))
has_row conf text layer h id letter.Attribute same there =
    behind id (span_part conf text layer) (from_events conf layer)
    (behind id (event_part conf layer) (from_relations conf layer)
    (behind id (relation_part conf layer) (from_classes conf layer)
    (behind id (class_rows conf layer.classes) (from_attributes conf layer)
    (in_front id (attribute_part conf layer) (from_legacy conf layer) (part_owns letter.Attribute (attribute_body conf letter.Attribute) layer.attributes id h.program.kept.attributes same there)))))
has_row conf text layer h id letter.Legacy same there =
    behind id (span_part conf text layer) (from_events conf layer)
    (behind id (event_part conf layer) (from_relations conf layer)
    (behind id (relation_part conf layer) (from_classes conf layer)
    (behind id (class_rows conf layer.classes) (from_attributes conf layer)
    (behind id (attribute_part conf layer) (from_legacy conf layer)
    (in_front id (legacy_part conf layer) (from_normals layer) (part_owns letter.Legacy (attribute_body conf letter.Legacy) layer.legacy id h.program.kept.legacy same there))))))
has_row conf text layer h id letter.Normal same there =
    behind id (span_part conf text layer) (from_events conf layer)
    (behind id (event_part conf layer) (from_relations conf layer)
    (behind id (relation_part conf layer) (from_classes conf layer)
    (behind id (class_rows conf layer.classes) (from_attributes conf layer)
    (behind id (attribute_part conf layer) (from_legacy conf layer)
    (behind id (legacy_part conf layer) (from_normals layer)
    (in_front id (normal_part layer) (note_part layer) (part_owns letter.Normal normal_body layer.normals id h.program.kept.normals same there)))))))
has_row conf text layer h id letter.Note same there =
    behind id (span_part conf text layer) (from_events conf layer)
    (behind id (event_part conf layer) (from_relations conf layer)
    (behind id (relation_part conf layer) (from_classes conf layer)
    (behind id (class_rows conf layer.classes) (from_attributes conf layer)
    (behind id (attribute_part conf layer) (from_legacy conf layer)
    (behind id (legacy_part conf layer) (from_normals layer)
    (behind id (normal_part layer) (note_part layer)
    (part_owns letter.Note note_body layer.notes id h.program.kept.notes same there)))))))

-- ---- the file

numbers_fit : (layer : Annotations) → IsLayer layer → (kind : Kind) (number : ℕ) → has_number layer kind number ≡ true → number ≤ 999999999
numbers_fit layer is letter.Text number h = is.spans number h
numbers_fit layer is letter.Event number h = is.events number h
numbers_fit layer is letter.Relation number h = is.relations number h
numbers_fit layer is letter.Attribute number h = is.attributes number h
numbers_fit layer is letter.Legacy number h = is.legacy number h
numbers_fit layer is letter.Normal number h = is.normals number h
numbers_fit layer is letter.Note number h = is.notes number h

pub read_back : (conf : Configuration) (text : List ℕ) (layer : Annotations) → IsOfProgram conf text layer → IsWellFormed conf (length text) layer → IsUtf8 (ann_of conf text layer) → IsAnn conf text (ann_of conf text layer) layer
read_back conf text layer program well valid =
    let h : IsHeld conf text layer = record { program = program; well = well } in
    let rows = file_rows conf text layer in
    let all : AreRows conf text layer rows = are_rows conf text layer h in
    let lines : file.lines_of (ann_of conf text layer) ≡ numbered 1 rows = ap file.lines_of (file_is conf text layer) ∙ lines_are conf text layer rows all in
    record {
      valid = valid;
      spelt = subst (λ (ls : List Line). AllByRecursion (λ (line : Line). Spells conf text layer (form_of line.bytes)) ls) (sym lines) (rows_spell conf text layer 1 rows all);
      once = subst (λ (ls : List Line). AllByRecursion (λ line. is_twice ls line ≡ false) ls) (sym lines) (rows_once conf text layer rows all (rises conf text layer h));
      only = λ id there. ap (list_any (is_line_of id)) lines ∙ rows_have conf text layer id 1 rows all (has_row conf text layer h id id.kind refl there);
      numbers = numbers_fit layer program.kept;
      classes = sym (ap (λ (ls : List Line). classes_of (said_in conf ls)) lines ∙ ap classes_of (rows_said conf text layer 1 rows all ∙ all_said conf text layer) ∙ classes_again layer.classes program.kept.classes.ordered);
      well_formed = well;
    }
