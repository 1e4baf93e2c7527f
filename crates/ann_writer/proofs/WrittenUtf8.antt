-- The lines of a layer are UTF-8.
use Rattle.std.proofs.Common.{◌≡◌, refl, ℕ, ◌+◌, ◌&&◌, Bool, true, false, List, [], ◌∷◌, ◌++◌, map, decimal, codes, nat_lt, encode_utf8_all, Option, Some, None, option_map, unwrap_or, IsUtf8, if◌then◌else◌}
use Rattle.std.proofs.lemmas.Bool.{cond_both}
use Rattle.std.proofs.lemmas.List.Elements.{recursion_from_All}
use Rattle.std.proofs.lemmas.Str.{IsUtf8-nil, IsUtf8-append}
use Rattle.std.specs.Option.{option_map_or}
use Rattle.std.specs.Ordering.{nat_cmp}
use Rattle.std.specs.List.{AllByRecursion, flat_map}
use Rattle.std.specs.FinMap as finite
use Rattle.mark_base.specs.declared.ann_id.AnnId.{AnnId}
use Rattle.mark_base.specs.declared.ann_id.Kind.{Kind}
use Rattle.mark_base.specs.declared.ann_id.Kind.TheVariants as letter
use Rattle.mark_base.specs.declared.arguments.Arg.{Arg}
use Rattle.mark_base.specs.declared.fragments.Frag.{Frag}
use Rattle.mark_base.specs.AnnIds.{spelling_of}
use Rattle.type_hierarchy.specs.declared.type_row.TypeRow.{TypeRow}
use Rattle.char_documents.specs.Texts.{reference_text}
use Rattle.conf_model.specs.Configurations.{Configuration}
use Rattle.conf_model.specs.declared.role.Role.{Role}
use Rattle.conf_model.specs.declared.relation_type.RelationType.{RelationType}
use Rattle.conf_model.specs.declared.attribute_type.AttributeType.{AttributeType}
use Rattle.conf_model.specs.ConfText.{type_name_at, relation_name_at}
use Rattle.conf_model.specs.Lookups.{values_of, roles_of}
use Rattle.conf_model.specs.Sound.{IsSound, IsName, IsDeclaredName, IsRole, AreRoles, IsRelation, IsAttribute}
use Rattle.layer_model.specs.declared.span.Span.{Span}
use Rattle.layer_model.specs.declared.event.Event.{Event}
use Rattle.layer_model.specs.declared.relation.Relation.{Relation}
use Rattle.layer_model.specs.declared.attribute.Attribute.{Attribute}
use Rattle.layer_model.specs.declared.normal.Normal.{Normal}
use Rattle.layer_model.specs.declared.note.Note.{Note}
use Rattle.layer_model.specs.declared.class.Class.{Class}
use Rattle.layer_model.specs.Annotations.{Annotations}
use Rattle.layer_rules.specs.MarkRules.{filled}
use Rattle.layer_rules.proofs.PlaceLemmas.{entries_found}
use Rattle.ann_writer.specs.Words.{id_word, pair_word, frag_word, frags_word, reads_as, role_name_at, role_spelling, argument_words, words_behind, line_of, line_with_text}
use Rattle.ann_writer.specs.AnnOf.{span_line, event_line, relation_role_at, relation_line, class_line, attribute_name_at, value_name_at, value_words, attribute_line, normal_line, note_line, lines_of, ann_of}
use Rattle.ann_writer.specs.Writable.{NormalTexts, NoteTexts, IsOfProgram}
use Rattle.ann_writer.proofs.ShownTexts.{text_scalars, reference_valid}
use Rattle.ann_writer.proofs.WrittenBytes.{plain_utf8, decimal_utf8, spelling_utf8, joined_utf8, at_place}

-- ---- words

id_utf8 : (id : AnnId) → IsUtf8 (id_word id)
id_utf8 id = spelling_utf8 id.kind id.number

pair_utf8 : (name value : List ℕ) → IsUtf8 name → IsUtf8 value → IsUtf8 (pair_word name value)
pair_utf8 name value hn hv = IsUtf8-append (name ++ codes ":") value (IsUtf8-append name (codes ":") hn (plain_utf8 (codes ":") refl)) hv

frag_utf8 : (frag : Frag) → IsUtf8 (frag_word frag)
frag_utf8 frag =
    IsUtf8-append (decimal frag.start ++ codes " ") (decimal frag.end) (IsUtf8-append (decimal frag.start) (codes " ") (decimal_utf8 frag.start) (plain_utf8 (codes " ") refl)) (decimal_utf8 frag.end)

more_frags : (frags : List Frag) → IsUtf8 (flat_map (λ next. codes ";" ++ frag_word next) frags)
more_frags [] = IsUtf8-nil
more_frags (frag ∷ frags) =
    IsUtf8-append (codes ";" ++ frag_word frag) (flat_map (λ next. codes ";" ++ frag_word next) frags) (IsUtf8-append (codes ";") (frag_word frag) (plain_utf8 (codes ";") refl) (frag_utf8 frag)) (more_frags frags)

frags_utf8 : (frags : List Frag) → IsUtf8 (frags_word frags)
frags_utf8 [] = IsUtf8-nil
frags_utf8 (frag ∷ frags) = IsUtf8-append (frag_word frag) (flat_map (λ next. codes ";" ++ frag_word next) frags) (frag_utf8 frag) (more_frags frags)

ids_utf8 : (ids : List AnnId) → AllByRecursion IsUtf8 (map id_word ids)
ids_utf8 [] = tt
ids_utf8 (id ∷ ids) = (id_utf8 id, ids_utf8 ids)

-- ---- lines

behind_utf8 : (words : List (List ℕ)) → AllByRecursion IsUtf8 words → IsUtf8 (words_behind words)
behind_utf8 [] all = IsUtf8-nil
behind_utf8 (word ∷ words) all = IsUtf8-append (codes " " ++ word) (words_behind words) (IsUtf8-append (codes " ") word (plain_utf8 (codes " ") refl) all.0) (behind_utf8 words all.1)

head_utf8 : (first kind : List ℕ) (words : List (List ℕ)) → IsUtf8 first → IsUtf8 kind → AllByRecursion IsUtf8 words → IsUtf8 (first ++ codes "\t" ++ kind ++ words_behind words)
head_utf8 first kind words hf hk all =
    IsUtf8-append (first ++ codes "\t" ++ kind) (words_behind words)
    (IsUtf8-append (first ++ codes "\t") kind (IsUtf8-append first (codes "\t") hf (plain_utf8 (codes "\t") refl)) hk) (behind_utf8 words all)

line_utf8 : (first kind : List ℕ) (words : List (List ℕ)) → IsUtf8 first → IsUtf8 kind → AllByRecursion IsUtf8 words → IsUtf8 (line_of first kind words)
line_utf8 first kind words hf hk all = IsUtf8-append (first ++ codes "\t" ++ kind ++ words_behind words) (codes "\n") (head_utf8 first kind words hf hk all) (plain_utf8 (codes "\n") refl)

line_with_text_utf8 : (first kind : List ℕ) (words : List (List ℕ)) (text : List ℕ) → IsUtf8 first → IsUtf8 kind → AllByRecursion IsUtf8 words → IsUtf8 text → IsUtf8 (line_with_text first kind words text)
line_with_text_utf8 first kind words text hf hk all ht =
    let head = first ++ codes "\t" ++ kind ++ words_behind words in
    IsUtf8-append (head ++ codes "\t" ++ text) (codes "\n")
    (IsUtf8-append (head ++ codes "\t") text (IsUtf8-append head (codes "\t") (head_utf8 first kind words hf hk all) (plain_utf8 (codes "\t") refl)) ht) (plain_utf8 (codes "\n") refl)

-- ---- names of a configuration

type_utf8 : (conf : Configuration) → IsSound conf → (k : ℕ) → IsUtf8 (type_name_at conf k)
type_utf8 conf sound k =
    at_place (λ (row : TypeRow). IsDeclaredName row.name) conf.types (recursion_from_All (λ (row : TypeRow). IsDeclaredName row.name) conf.types sound.names) k
    (λ o. IsUtf8 (option_map_or (λ (row : TypeRow). row.name) o [])) IsUtf8-nil (λ row h. h.valid)

relation_utf8 : (conf : Configuration) → IsSound conf → (k : ℕ) → IsUtf8 (relation_name_at conf k)
relation_utf8 conf sound k =
    at_place (IsRelation conf) conf.relations (recursion_from_All (IsRelation conf) conf.relations sound.relations) k
    (λ o. IsUtf8 (option_map_or (λ (relation : RelationType). relation.name) o [])) IsUtf8-nil (λ relation h. h.name.valid)

ends_utf8 : (conf : Configuration) → IsSound conf → (k : ℕ) (second : Bool) → IsUtf8 (relation_role_at conf k second)
ends_utf8 conf sound k second =
    at_place (IsRelation conf) conf.relations (recursion_from_All (IsRelation conf) conf.relations sound.relations) k
    (λ o. IsUtf8 (unwrap_or (option_map (λ (relation : RelationType). if second then relation.second else relation.first) o) [])) IsUtf8-nil
    (λ relation h. cond_both second relation.second relation.first IsUtf8 (λ e. h.second.valid) (λ e. h.first.valid))

attribute_utf8 : (conf : Configuration) → IsSound conf → (k : ℕ) → IsUtf8 (attribute_name_at conf k)
attribute_utf8 conf sound k =
    at_place (IsAttribute conf) conf.attributes (recursion_from_All (IsAttribute conf) conf.attributes sound.attributes) k
    (λ o. IsUtf8 (unwrap_or (option_map (λ (attribute : AttributeType). attribute.name) o) [])) IsUtf8-nil (λ attribute h. h.name.valid)

are_values : (conf : Configuration) → IsSound conf → (k : ℕ) → AllByRecursion IsName (values_of conf k)
are_values conf sound k =
    at_place (IsAttribute conf) conf.attributes (recursion_from_All (IsAttribute conf) conf.attributes sound.attributes) k
    (λ o. AllByRecursion IsName (option_map_or (λ (attribute : AttributeType). attribute.values) o [])) tt (λ attribute h. recursion_from_All IsName attribute.values h.values)

value_utf8 : (conf : Configuration) → IsSound conf → (k value : ℕ) → IsUtf8 (value_name_at conf k value)
value_utf8 conf sound k value = at_place IsName (values_of conf k) (are_values conf sound k) value (λ o. IsUtf8 (unwrap_or o [])) IsUtf8-nil (λ name h. h.valid)

are_roles : (conf : Configuration) → IsSound conf → (event : ℕ) → AllByRecursion (IsRole conf) (roles_of conf event)
are_roles conf sound event =
    at_place (AreRoles conf) conf.roles (recursion_from_All (AreRoles conf) conf.roles sound.roles) event
    (λ o. AllByRecursion (IsRole conf) (option_map_or (λ (roles : List Role). roles) o [])) tt (λ roles h. recursion_from_All (IsRole conf) roles h.each)

role_utf8 : (conf : Configuration) → IsSound conf → (event role : ℕ) → IsUtf8 (role_name_at conf event role)
role_utf8 conf sound event role =
    at_place (IsRole conf) (roles_of conf event) (are_roles conf sound event) role
    (λ o. IsUtf8 (unwrap_or (option_map (λ (role : Role). role.name) o) [])) IsUtf8-nil (λ role h. h.name.valid)

spelled_utf8 : (conf : Configuration) → IsSound conf → (event role k : ℕ) → IsUtf8 (role_spelling conf event role k)
spelled_utf8 conf sound event role k =
    let name = role_name_at conf event role in
    let valid : IsUtf8 name = role_utf8 conf sound event role in
    cond_both (nat_lt 1 k && reads_as conf event (name ++ decimal k) role) (name ++ decimal k) name IsUtf8 (λ e. IsUtf8-append name (decimal k) valid (decimal_utf8 k)) (λ e. valid)

arguments_utf8 : (conf : Configuration) → IsSound conf → (event : ℕ) (before args : List Arg) → AllByRecursion IsUtf8 (argument_words conf event before args)
arguments_utf8 conf sound event before [] = tt
arguments_utf8 conf sound event before (arg ∷ args) = (
  pair_utf8 (role_spelling conf event arg.role (filled arg.role before + 1)) (id_word arg.target) (spelled_utf8 conf sound event arg.role (filled arg.role before + 1)) (id_utf8 arg.target),
  arguments_utf8 conf sound event (before ++ arg ∷ []) args,
)

value_words_utf8 : (conf : Configuration) → IsSound conf → (k : ℕ) (value : Option ℕ) → AllByRecursion IsUtf8 (value_words conf k value)
value_words_utf8 conf sound k None = tt
value_words_utf8 conf sound k (Some value) = (value_utf8 conf sound k value, tt)

-- ---- the lines of each letter

span_utf8 : (conf : Configuration) (text : List ℕ) (layer : Annotations) → IsOfProgram conf text layer → (n : ℕ) (span : Span) → IsUtf8 (span_line conf text n span)
span_utf8 conf text layer program n span =
    line_with_text_utf8 (spelling_of letter.Text n) (type_name_at conf span.kind.n) (frags_word span.frags ∷ []) (encode_utf8_all (reference_text text span.frags))
    (spelling_utf8 letter.Text n) (type_utf8 conf program.sound span.kind.n) (frags_utf8 span.frags, tt) (reference_valid text span.frags (text_scalars text program.valid program.characters))

event_utf8 : (conf : Configuration) → IsSound conf → (n : ℕ) (event : Event) → IsUtf8 (event_line conf n event)
event_utf8 conf sound n event =
    line_utf8 (spelling_of letter.Event n) (pair_word (type_name_at conf event.kind.n) (spelling_of letter.Text event.trigger)) (argument_words conf event.kind.n [] event.args) (spelling_utf8 letter.Event n)
    (pair_utf8 (type_name_at conf event.kind.n) (spelling_of letter.Text event.trigger) (type_utf8 conf sound event.kind.n) (spelling_utf8 letter.Text event.trigger)) (arguments_utf8 conf sound event.kind.n [] event.args)

relation_line_utf8 : (conf : Configuration) → IsSound conf → (n : ℕ) (relation : Relation) → IsUtf8 (relation_line conf n relation)
relation_line_utf8 conf sound n relation =
    let k = relation.kind.n in
    line_utf8 (spelling_of letter.Relation n) (relation_name_at conf k) (pair_word (relation_role_at conf k false) (id_word relation.first) ∷ pair_word (relation_role_at conf k true) (id_word relation.second) ∷ [])
    (spelling_utf8 letter.Relation n) (relation_utf8 conf sound k) (
      pair_utf8 (relation_role_at conf k false) (id_word relation.first) (ends_utf8 conf sound k false) (id_utf8 relation.first),
      (pair_utf8 (relation_role_at conf k true) (id_word relation.second) (ends_utf8 conf sound k true) (id_utf8 relation.second), tt),
    )

class_utf8 : (conf : Configuration) → IsSound conf → (class : Class) → IsUtf8 (class_line conf class)
class_utf8 conf sound class =
    line_utf8 (codes "*") (relation_name_at conf class.kind.n) (map id_word class.members) (plain_utf8 (codes "*") refl) (relation_utf8 conf sound class.kind.n) (ids_utf8 class.members)

attribute_line_utf8 : (conf : Configuration) → IsSound conf → (kind : Kind) (n : ℕ) (attribute : Attribute) → IsUtf8 (attribute_line conf kind n attribute)
attribute_line_utf8 conf sound kind n attribute =
    line_utf8 (spelling_of kind n) (attribute_name_at conf attribute.kind.n) (id_word attribute.target ∷ value_words conf attribute.kind.n attribute.value)
    (spelling_utf8 kind n) (attribute_utf8 conf sound attribute.kind.n) (id_utf8 attribute.target, value_words_utf8 conf sound attribute.kind.n attribute.value)

normal_utf8 : (n : ℕ) (normal : Normal) → NormalTexts normal → IsUtf8 (normal_line n normal)
normal_utf8 n normal h =
    line_with_text_utf8 (spelling_of letter.Normal n) (codes "Reference") (id_word normal.target ∷ pair_word normal.store normal.entry ∷ []) normal.text
    (spelling_utf8 letter.Normal n) (plain_utf8 (codes "Reference") refl) (id_utf8 normal.target, (pair_utf8 normal.store normal.entry h.store h.entry, tt)) h.text

note_utf8 : (n : ℕ) (note : Note) → NoteTexts note → IsUtf8 (note_line n note)
note_utf8 n note h = line_with_text_utf8 (spelling_of letter.Note n) note.kind (id_word note.target ∷ []) note.text (spelling_utf8 letter.Note n) h.kind (id_utf8 note.target, tt) h.text

-- ---- the file

lines_by : {V : Type 0} (line : ℕ → V → List ℕ) (m : finite.FinMap nat_cmp V) (es : List (ℕ × V)) → ((n : ℕ) (v : V) → finite.get m n ≡ Some v → IsUtf8 (line n v))
    → AllByRecursion (λ (e : ℕ × V). finite.get m e.0 ≡ Some e.1) es → AllByRecursion (λ (e : ℕ × V). IsUtf8 (line e.0 e.1)) es
lines_by line m [] valid found = tt
lines_by line m (e ∷ es) valid found = (valid e.0 e.1 found.0, lines_by line m es valid found.1)

lines_utf8 : {V : Type 0} (line : ℕ → V → List ℕ) (m : finite.FinMap nat_cmp V) → ((n : ℕ) (v : V) → finite.get m n ≡ Some v → IsUtf8 (line n v)) → IsUtf8 (lines_of line m)
lines_utf8 line m valid = joined_utf8 (λ e. line e.0 e.1) (finite.entries m) (lines_by line m (finite.entries m) valid (entries_found m))

classes_by : (conf : Configuration) → IsSound conf → (classes : List Class) → AllByRecursion (λ class. IsUtf8 (class_line conf class)) classes
classes_by conf sound [] = tt
classes_by conf sound (class ∷ classes) = (class_utf8 conf sound class, classes_by conf sound classes)

-- the lines of a layer of a program are UTF-8
pub ann_utf8 : (conf : Configuration) (text : List ℕ) (layer : Annotations) → IsOfProgram conf text layer → IsUtf8 (ann_of conf text layer)
unfolding ann_of
ann_utf8 conf text layer program =
    let sound = program.sound in
    IsUtf8-append _ _
    (IsUtf8-append _ _
    (IsUtf8-append _ _
    (IsUtf8-append _ _
    (IsUtf8-append _ _
    (IsUtf8-append _ _
    (IsUtf8-append _ _ (lines_utf8 (span_line conf text) layer.spans (λ n span is. span_utf8 conf text layer program n span)) (lines_utf8 (event_line conf) layer.events (λ n event is. event_utf8 conf sound n event)))
    (lines_utf8 (relation_line conf) layer.relations (λ n relation is. relation_line_utf8 conf sound n relation)))
    (joined_utf8 (class_line conf) layer.classes (classes_by conf sound layer.classes)))
    (lines_utf8 (attribute_line conf letter.Attribute) layer.attributes (λ n attribute is. attribute_line_utf8 conf sound letter.Attribute n attribute)))
    (lines_utf8 (attribute_line conf letter.Legacy) layer.legacy (λ n attribute is. attribute_line_utf8 conf sound letter.Legacy n attribute)))
    (lines_utf8 normal_line layer.normals (λ n normal is. normal_utf8 n normal (program.texts.normals n normal is))))
    (lines_utf8 note_line layer.notes (λ n note is. note_utf8 n note (program.texts.notes n note is)))
