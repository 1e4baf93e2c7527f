-- The line of each annotation says that annotation.
use Rattle.std.proofs.Common.{◌≡◌, refl, sym, ap, ap₂, ◌∙◌, subst, ℕ, ◌<◌, ◌≤◌, min, Bool, true, false, cond, not, ◌||◌, ◌&&◌, ◌==◌, List, [], ◌∷◌, ◌++◌, length, append-nil, nat_lt, nat_le, decimal, codes, arith, tests, chars, IsUtf8, encode_utf8_all, Option, Some, None, is_some, option_map, option_and_then, slice_get}
use Rattle.std.proofs.lemmas.Bool.{or_from, or_parts, and_parts, true≢false}
use Rattle.std.specs.Coded.{le_prop}
use lib.Utf8.{scalars}
use Rattle.std.specs.Option.{is_none, option_map_or}
use Rattle.std.specs.Char.{is_whitespace}
use Rattle.std.specs.Str.{NonePass}
use Rattle.std.specs.List.{AllByRecursion, list_all, list_any}
use Rattle.std.specs.Ordering.{nat_cmp}
use Rattle.std.specs.FinMap as finite
use Rattle.mark_base.specs.declared.ann_id.AnnId.{AnnId}
use Rattle.mark_base.specs.declared.ann_id.Kind.{Kind}
use Rattle.mark_base.specs.declared.ann_id.Kind.TheVariants as letter
use Rattle.mark_base.specs.declared.fragments.Frag.{Frag}
use Rattle.mark_base.specs.declared.arguments.Arg.{Arg}
use Rattle.mark_base.specs.declared.table_places.TypeId.{TypeId}
use Rattle.mark_base.specs.declared.name.NameFault.{NameFault}
use Rattle.mark_base.specs.AnnIds.{letter_of, spelling_of}
use Rattle.char_documents.specs.Texts.{all_lie_in, lies_in, reference_text}
use Rattle.conf_model.specs.Configurations.{Configuration}
use Rattle.conf_model.specs.ConfText.{type_name_at, relation_name_at}
use Rattle.conf_model.specs.Lookups.{values_of}
use Rattle.conf_model.specs.Sound.{IsSound}
use Rattle.annotation_conf.proofs.Written.{IsWord}
use Rattle.annotation_conf.proofs.WrittenLists.{is_other, none-append, none_less}
use Rattle.layer_model.specs.declared.mark.Mark.{Mark}
use Rattle.layer_model.specs.declared.mark.Mark.TheVariants as marked
use Rattle.layer_model.specs.declared.span.Span.{Span}
use Rattle.layer_model.specs.declared.event.Event.{Event}
use Rattle.layer_model.specs.declared.relation.Relation.{Relation}
use Rattle.layer_model.specs.declared.attribute.Attribute.{Attribute}
use Rattle.layer_model.specs.declared.normal.Normal.{Normal}
use Rattle.layer_model.specs.declared.note.Note.{Note}
use Rattle.layer_model.specs.declared.class.Class.{Class}
use Rattle.layer_model.specs.declared.rule.Rule.{Rule}
use Rattle.layer_model.specs.declared.flaw.FlawPlace.TheVariants as at
use Rattle.layer_model.specs.Annotations.{Annotations}
use Rattle.layer_model.specs.Coherent.{is_span_letter}
use Rattle.layer_model.specs.Layers.{mark_of as marked_of}
use Rattle.layer_model.specs.Numbers.{NumbersFit}
use Rattle.mark_base.specs.ReadIds.{id_at, id_read}
use Rattle.layer_rules.specs.FlawPlaces.{by_place}
use Rattle.layer_rules.specs.MarkRules.{where_so, unknown_type, unknown_class, bad_fragments, unknown_value, is_bad_value}
use Rattle.layer_rules.specs.LayerRules.{bad_text}
use Rattle.layer_rules.specs.BadTexts.{are_fragments, is_bad_text, is_bad_store, is_bad_entry}
use Rattle.layer_rules.specs.AttributeValues.{Declared}
use Rattle.layer_rules.specs.Targets.{is_event_type}
use Rattle.layer_rules.specs.WellFormed.{IsWellFormed, Never, no_class}
use Rattle.layer_rules.proofs.PlaceLemmas.{at_entry}
use Rattle.ann_reader.specs.Lines.{is_blank, is_blank_byte}
use Rattle.ann_reader.specs.LineForms.{Form, TextForm, EventForm, RelationForm, AttributeForm, NormalForm, NoteForm, form_of, head_field}
use Rattle.ann_reader.specs.LineForms as forms
use Rattle.ann_reader.specs.LineIds.{own_word, own_id}
use Rattle.ann_reader.specs.NamesRead.{value_read}
use Rattle.ann_reader.specs.LineMeanings.{mark_of, said_of, event_by, args_of, relation_by, ends_of, Ends, is_role, attribute_by}
use Rattle.ann_reader.specs.AnnFiles.{HasMark, Spells}
use Rattle.ann_writer.specs.Words.{id_word, frags_word, pair_word, argument_words, words_behind}
use Rattle.ann_writer.specs.AnnOf.{relation_role_at, attribute_name_at, value_name_at, value_words}
use Rattle.ann_writer.specs.Writable.{IsOfProgram}
use Rattle.ann_reader.proofs.FormFacts.{own_head}
use Rattle.ann_writer.proofs.WritableLemmas.{writable}
use Rattle.ann_writer.proofs.PlainWords.{IsPlain, parts, no_feed, name_plain, name_colon, spelling_plain, bytes_free, past_parts, decimal_plain}
use Rattle.mark_base.proofs.IdLemmas.{spelling_read}
use Rattle.ann_writer.proofs.FragWords.{IsShort, id_read_back, ends, ends_plain, spaced}
use Rattle.ann_writer.proofs.NameFacts.{IsTypeName, type_facts, event_known, event_facts, IsRelationName, relation_facts, IsAttributeName, attribute_facts, IsValueName, value_facts}
use Rattle.ann_writer.proofs.RoleWords.{AreDeclared, declared_each, pair_plain, words_plain, pairs_read_back, args_read_back, written_pairs}
use Rattle.ann_writer.proofs.ShownTexts.{ends_line, free_text, reference_bytes, reference_shown, text_kept, text_scalars, no_feed_in}
use Rattle.ann_writer.proofs.LineForms.{body, body_with_text, text_line, event_line_read, relation_line_read, attribute_line_read, is_added, normal_line_read, note_line_read, reference_plain}

-- ---- what a line of an annotation comes to

pub record IsMarkLine (conf : Configuration) (text : List ℕ) (layer : Annotations) (kind : Kind) (n : ℕ) (line : List ℕ) : Type 0 where
  pub unbroken : NonePass (λ c. c == 10) line
  pub unblank : is_blank line ≡ false
  pub spells : Spells conf text layer (form_of line)
  pub own : own_id (form_of line) ≡ Some (id_at kind n)
  pub head : id_read (head_field line) ≡ Some (id_at kind n)
  pub unsaid : said_of conf (form_of line) ≡ None

-- what the line rests on
pub record IsHeld (conf : Configuration) (text : List ℕ) (layer : Annotations) : Type 0 where
  pub program : IsOfProgram conf text layer
  pub well : IsWellFormed conf (length text) layer

letter_seen : (kind : Kind) → is_blank_byte (letter_of kind) ≡ false
letter_seen letter.Text = refl
letter_seen letter.Event = refl
letter_seen letter.Relation = refl
letter_seen letter.Attribute = refl
letter_seen letter.Legacy = refl
letter_seen letter.Normal = refl
letter_seen letter.Note = refl

unblank_by : (kind : Kind) (n : ℕ) (rest : List ℕ) → is_blank (spelling_of kind n ++ rest) ≡ false
unblank_by kind n rest = ap (λ b. b && list_all is_blank_byte (decimal n ++ rest)) (letter_seen kind)

min_is : (n : ℕ) → n ≤ 999999999 → min n 999999999 ≡ n
min_is n h = omega arith

has_mark : (conf : Configuration) (layer : Annotations) (form : Form) (kind : Kind) (n : ℕ) (mark : Mark) → n ≤ 999999999 → own_word form ≡ Some (spelling_of kind n) → mark_of conf form ≡ Some mark
    → marked_of layer kind n ≡ Some mark → HasMark conf layer form
has_mark conf layer form kind n mark small own spelt held = record {
  id = id_at kind n;
  mark = mark;
  headed = ap (option_and_then id_read) own ∙ spelling_read kind n small;
  spelt = spelt;
  held = ap (marked_of layer kind) (min_is n small) ∙ held;
}

-- the rules of a place
rule_at : {V : Type 0} (f : AnnId → Mark → Option Rule) (g : ℕ → Class → Option Rule) (layer : Annotations) (kind : Kind) (wrap : V → Mark) (m : finite.FinMap nat_cmp V)
    → ((k : ℕ) → marked_of layer kind k ≡ option_map wrap (finite.get m k)) → NumbersFit m → (n : ℕ) (v : V) → finite.get m n ≡ Some v → Never (by_place f g layer) → f (id_at kind n) (wrap v) ≡ None
rule_at f g layer kind wrap m same fits n v is none = sym (at_entry f g layer kind wrap m same fits (n, v) is) ∙ none (at.Mark (id_at kind n))

some_none : {X : Type 0} {x : X} → Some x ≡ None → ⊥
some_none e = cc

not_so : (b : Bool) (rule : Rule) → where_so b rule ≡ None → b ≡ false
not_so true rule e = absurd (some_none e)
not_so false rule e = refl

not_not : (b : Bool) → not b ≡ false → b ≡ true
not_not true e = refl
not_not false e = absurd (true≢false e)

-- a line without a text
words_line : (conf : Configuration) (text : List ℕ) (layer : Annotations) (kind : Kind) (n : ℕ) (line : List ℕ) (rest : List ℕ) (form : Form) → n ≤ 999999999 → line ≡ spelling_of kind n ++ 9 ∷ rest
    → NonePass (λ c. c == 10) rest → form_of line ≡ form → Spells conf text layer form → own_word form ≡ Some (spelling_of kind n) → said_of conf form ≡ None → IsMarkLine conf text layer kind n line
words_line conf text layer kind n line rest form small is unbroken read spells own unsaid = record {
  unbroken = subst (NonePass (λ c. c == 10)) (sym is) (none-append (λ c. c == 10) (spelling_of kind n) (9 ∷ rest) (no_feed (spelling_of kind n) (spelling_plain kind n small).free) (refl, unbroken));
  unblank = ap is_blank is ∙ unblank_by kind n (9 ∷ rest);
  spells = subst (Spells conf text layer) (sym read) spells;
  own = ap own_id read ∙ ap (option_and_then id_read) own ∙ spelling_read kind n small;
  head = own_head line (id_at kind n) (ap own_id read ∙ ap (option_and_then id_read) own ∙ spelling_read kind n small);
  unsaid = ap (said_of conf) read ∙ unsaid;
}

words_none : (p : ℕ → Bool) → p 32 ≡ false → (kind : List ℕ) (words : List (List ℕ)) → NonePass p kind → AllByRecursion (NonePass p) words → NonePass p (kind ++ words_behind words)
words_none p space kind [] h all = none-append p kind [] h tt
words_none p space kind (word ∷ words) h all = none-append p kind (32 ∷ (word ++ words_behind words)) h (space, words_none p space word words all.0 all.1)

feeds : (words : List (List ℕ)) → AllByRecursion IsPlain words → AllByRecursion (NonePass (λ c. c == 10)) words
feeds [] all = tt
feeds (word ∷ words) all = (no_feed word all.0.free, feeds words all.1)

pub unbroken_words : (kind : List ℕ) (words : List (List ℕ)) → IsPlain kind → AllByRecursion IsPlain words → NonePass (λ c. c == 10) (kind ++ words_behind words)
unbroken_words kind words h all = words_none (λ c. c == 10) refl kind words (no_feed kind h.free) (feeds words all)

pub id_plain : (id : AnnId) → IsPlain (id_word id)
id_plain id = spelling_plain id.kind id.number id.within

-- ---- E

same_event : (kind : TypeId) (args : List Arg) (m n : ℕ) (p : m ≤ 999999999) (q : n ≤ 999999999) → m ≡ n
    → ◌≡◌ {A = Event} (record { kind = kind; trigger = m; args = args; within = p }) (record { kind = kind; trigger = n; args = args; within = q })
same_event kind args m n p q e =
    let P : ℕ → Type 0 = λ x. (r : x ≤ 999999999) → ◌≡◌ {A = Event} (record { kind = kind; trigger = m; args = args; within = p }) (record { kind = kind; trigger = x; args = args; within = r }) in
    (subst P e (λ r. ap (λ (w : m ≤ 999999999). record { kind = kind; trigger = m; args = args; within = w }) (le_prop p r))) q

pub event_said : (conf : Configuration) (text : List ℕ) (layer : Annotations) → IsHeld conf text layer → (n : ℕ) (event : Event) → finite.get layer.events n ≡ Some event
    → IsMarkLine conf text layer letter.Event n (body (spelling_of letter.Event n) (pair_word (type_name_at conf event.kind.n) (spelling_of letter.Text event.trigger)) (argument_words conf event.kind.n [] event.args))
unfolding mark_of
event_said conf text layer h n event is =
    let sound = h.program.sound in
    let fits = h.program.kept.events in
    let small : n ≤ 999999999 = fits n (ap is_some is) in
    let k = event.kind.n in
    let known : is_event_type conf event.kind ≡ true =
    not_not (is_event_type conf event.kind) (not_so (not (is_event_type conf event.kind)) _ (rule_at (λ id. unknown_type conf) (λ i. unknown_class conf) layer letter.Event marked.Event layer.events (λ j. refl) fits n event is h.well.types)) in
    let name = type_name_at conf k in
    let facts : IsTypeName conf k name = type_facts conf sound k (event_known conf event.kind known) in
    let declared : AreDeclared conf k event.args = declared_each _ event.args ((writable conf text layer h.program.kept h.well).events n event is) in
    let first = spelling_of letter.Event n in
    let trigger = spelling_of letter.Text event.trigger in
    let words = argument_words conf k [] event.args in
    let pairs = written_pairs conf k [] event.args in
    let plain : IsPlain name = name_plain name facts.word in
    let whole : IsPlain (pair_word name trigger) = pair_plain name trigger plain (spelling_plain letter.Text event.trigger event.within).free in
    let all : AllByRecursion IsPlain words = words_plain conf sound k [] event.args declared in
    let form : Form = EventForm first name trigger pairs in
    let spelt : mark_of conf form ≡ Some (marked.Event event) =
    ap (option_and_then (λ id. event_by id (id_read trigger) (args_of conf id pairs))) (event_facts conf event.kind name facts known)
    ∙ ap₂ (event_by event.kind) (spelling_read letter.Text event.trigger event.within) (args_read_back conf sound event.kind [] event.args declared)
    ∙ ap (λ e. Some (marked.Event e)) (same_event event.kind event.args (min event.trigger 999999999) event.trigger (id_at letter.Text event.trigger).within event.within (min_is event.trigger event.within)) in
    words_line conf text layer letter.Event n (body first (pair_word name trigger) words) (pair_word name trigger ++ words_behind words) form small refl
    (unbroken_words (pair_word name trigger) words whole all)
    (event_line_read n name trigger words pairs small plain (name_colon name facts.word) whole all (pairs_read_back conf sound k [] event.args declared)) (
      has_mark conf layer form letter.Event n (marked.Event event) small refl spelt (ap (option_map marked.Event) is),
      ap (λ o. option_map_or (λ (id : AnnId). is_span_letter id.kind) o false) (spelling_read letter.Text event.trigger event.within),
    ) refl refl

-- ---- R

pub relation_said : (conf : Configuration) (text : List ℕ) (layer : Annotations) → IsHeld conf text layer → (n : ℕ) (relation : Relation) → finite.get layer.relations n ≡ Some relation
    → IsMarkLine conf text layer letter.Relation n (body (spelling_of letter.Relation n) (relation_name_at conf relation.kind.n)
    (pair_word (relation_role_at conf relation.kind.n false) (id_word relation.first) ∷ pair_word (relation_role_at conf relation.kind.n true) (id_word relation.second) ∷ []))
unfolding mark_of
relation_said conf text layer h n relation is =
    let sound = h.program.sound in
    let fits = h.program.kept.relations in
    let small : n ≤ 999999999 = fits n (ap is_some is) in
    let k = relation.kind.n in
    let known : is_none (slice_get conf.relations k) ≡ false =
    not_so (is_none (slice_get conf.relations k)) _ (rule_at (λ id. unknown_type conf) (λ i. unknown_class conf) layer letter.Relation marked.Relation layer.relations (λ j. refl) fits n relation is h.well.types) in
    let name = relation_name_at conf k in
    let a = relation_role_at conf k false in
    let b = relation_role_at conf k true in
    let facts : IsRelationName conf k name a b = relation_facts conf sound k known in
    let x = id_word relation.first in
    let y = id_word relation.second in
    let first = spelling_of letter.Relation n in
    let plain : IsPlain name = name_plain name facts.word in
    let one : IsPlain a = name_plain a facts.first_word in
    let two : IsPlain b = name_plain b facts.second_word in
    let left : IsPlain (pair_word a x) = pair_plain a x one (id_plain relation.first).free in
    let right : IsPlain (pair_word b y) = pair_plain b y two (id_plain relation.second).free in
    let words = pair_word a x ∷ pair_word b y ∷ [] in
    let form : Form = RelationForm first name (record { role = a; target = x }) (record { role = b; target = y }) in
    let ends : ends_of conf k (record { role = a; target = x }) (record { role = b; target = y }) ≡ Some (record { first = x; second = y }) =
    ap₂ (λ (s t : Bool). cond (s && t) (Some (let e : Ends = record { first = x; second = y } in e)) (cond (is_role conf k true a && is_role conf k false b) (Some (record { first = y; second = x })) None)) facts.first_role facts.second_role in
    let spelt : mark_of conf form ≡ Some (marked.Relation relation) =
    ap (option_and_then (λ id. option_and_then (λ (e : Ends). relation_by id (id_read e.first) (id_read e.second)) (ends_of conf id (record { role = a; target = x }) (record { role = b; target = y })))) facts.read
    ∙ ap (option_and_then (λ (e : Ends). relation_by k (id_read e.first) (id_read e.second))) ends
    ∙ ap₂ (relation_by k) (id_read_back relation.first) (id_read_back relation.second) in
    words_line conf text layer letter.Relation n (body first name words) (name ++ words_behind words) form small refl (unbroken_words name words plain (left, (right, tt)))
    (relation_line_read n name a x b y small plain one.some two.some (name_colon a facts.first_word) (name_colon b facts.second_word) left right)
    (has_mark conf layer form letter.Relation n (marked.Relation relation) small refl spelt (ap (option_map marked.Relation) is)) refl refl

-- ---- A and M

record IsValueWords (conf : Configuration) (k : ℕ) (value : Option ℕ) (words : List (List ℕ)) (word : Option (List ℕ)) : Type 0 where
  plain : AllByRecursion IsPlain words
  form : (first name target : List ℕ) → forms.attribute_by first (name ∷ target ∷ words) ≡ AttributeForm first name target word
  read : value_read conf k word ≡ Declared value

not_past : (v n : ℕ) → not (nat_lt v n) ≡ false → v < n
not_past v n e = search (arith, tests)

value_said : (conf : Configuration) → IsSound conf → (k : ℕ) (value : Option ℕ) → is_none (slice_get conf.attributes k) ≡ false → is_bad_value (length (values_of conf k)) value ≡ false
    → IsValueWords conf k value (value_words conf k value) (option_map (value_name_at conf k) value)
value_said conf sound k None known good = record { plain = tt; form = λ first name target. refl; read = refl }
value_said conf sound k (Some v) known good =
    let facts : IsValueName conf k v (value_name_at conf k v) = value_facts conf sound k v known (not_past v (length (values_of conf k)) good) in
    record { plain = (name_plain (value_name_at conf k v) facts.word, tt); form = λ first name target. refl; read = facts.read }

pub attribute_said : (conf : Configuration) (text : List ℕ) (layer : Annotations) → IsHeld conf text layer → (kind : Kind) (m : finite.FinMap nat_cmp Attribute) → is_added kind ≡ true
    → ((k : ℕ) → marked_of layer kind k ≡ option_map marked.Attribute (finite.get m k)) → NumbersFit m → (n : ℕ) (attribute : Attribute) → finite.get m n ≡ Some attribute
    → IsMarkLine conf text layer kind n (body (spelling_of kind n) (attribute_name_at conf attribute.kind.n) (id_word attribute.target ∷ value_words conf attribute.kind.n attribute.value))
unfolding mark_of
attribute_said conf text layer h kind m added same fits n attribute is =
    let sound = h.program.sound in
    let small : n ≤ 999999999 = fits n (ap is_some is) in
    let k = attribute.kind.n in
    let known : is_none (slice_get conf.attributes k) ≡ false =
    not_so (is_none (slice_get conf.attributes k)) _ (rule_at (λ id. unknown_type conf) (λ i. unknown_class conf) layer kind marked.Attribute m same fits n attribute is h.well.types) in
    let good : is_bad_value (length (values_of conf k)) attribute.value ≡ false =
    not_so (is_bad_value (length (values_of conf k)) attribute.value) _ (rule_at (λ id. unknown_value conf) no_class layer kind marked.Attribute m same fits n attribute is h.well.values) in
    let name = attribute_name_at conf k in
    let facts : IsAttributeName conf k name = attribute_facts conf sound k known in
    let value : IsValueWords conf k attribute.value (value_words conf k attribute.value) (option_map (value_name_at conf k) attribute.value) = value_said conf sound k attribute.value known good in
    let target = id_word attribute.target in
    let first = spelling_of kind n in
    let words = target ∷ value_words conf k attribute.value in
    let plain : IsPlain name = name_plain name facts.word in
    let all : AllByRecursion IsPlain words = (id_plain attribute.target, value.plain) in
    let form : Form = AttributeForm first name target (option_map (value_name_at conf k) attribute.value) in
    let spelt : mark_of conf form ≡ Some (marked.Attribute attribute) =
    ap (option_and_then (λ id. attribute_by id (id_read target) (value_read conf id (option_map (value_name_at conf k) attribute.value)))) facts.read
    ∙ ap₂ (attribute_by k) (id_read_back attribute.target) value.read in
    words_line conf text layer kind n (body first name words) (name ++ words_behind words) form small refl (unbroken_words name words plain all)
    (attribute_line_read kind n name words form added small plain all (value.form first name target))
    (has_mark conf layer form kind n (marked.Attribute attribute) small refl spelt (same n ∙ ap (option_map marked.Attribute) is)) refl refl

-- ---- lines with a text

text_unbroken : (kind : List ℕ) (words : List (List ℕ)) (shown : List ℕ) → NonePass (λ c. c == 10) (kind ++ words_behind words) → NonePass ends_line shown → NonePass (λ c. c == 10) ((kind ++ words_behind words) ++ 9 ∷ shown)
text_unbroken kind words shown h free = none-append (λ c. c == 10) (kind ++ words_behind words) (9 ∷ shown) h (refl, no_feed_in shown free)

-- ---- #

pub note_said : (conf : Configuration) (text : List ℕ) (layer : Annotations) → IsHeld conf text layer → (n : ℕ) (note : Note) → finite.get layer.notes n ≡ Some note
    → IsMarkLine conf text layer letter.Note n (body_with_text (spelling_of letter.Note n) note.kind (id_word note.target ∷ []) note.text)
unfolding mark_of
note_said conf text layer h n note is =
    let fits = h.program.kept.notes in
    let small : n ≤ 999999999 = fits n (ap is_some is) in
    let good : is_bad_text note.text ≡ false = not_so (is_bad_text note.text) _ (rule_at (λ id. bad_text) no_class layer letter.Note marked.Note layer.notes (λ j. refl) fits n note is h.well.texts) in
    let free : NonePass ends_line note.text = free_text note.text (or_parts (nat_lt 4000 (length (chars note.text))) (list_any ends_line note.text) good).1 in
    let word : IsWord note.kind = record { valid = (h.program.texts.notes n note is).kind; faultless = (h.program.texts.notes n note is).name } in
    let plain : IsPlain note.kind = name_plain note.kind word in
    let target = id_word note.target in
    let first = spelling_of letter.Note n in
    let form : Form = NoteForm first note.kind target note.text in
    let spelt : mark_of conf form ≡ Some (marked.Note note) =
    ap (λ (o : Option NameFault). cond (is_none o) (option_map (λ id. marked.Note (record { kind = note.kind; target = id; text = note.text })) (id_read target)) None) word.faultless
    ∙ ap (option_map (λ id. marked.Note (record { kind = note.kind; target = id; text = note.text }))) (id_read_back note.target) in
    words_line conf text layer letter.Note n (body_with_text first note.kind (target ∷ []) note.text) ((note.kind ++ words_behind (target ∷ [])) ++ 9 ∷ note.text) form small refl
    (text_unbroken note.kind (target ∷ []) note.text (unbroken_words note.kind (target ∷ []) plain (id_plain note.target, tt)) free)
    (note_line_read n note.kind target note.text small plain (id_plain note.target) (text_kept note.text free))
    (has_mark conf layer form letter.Note n (marked.Note note) small refl spelt (ap (option_map marked.Note) is)) refl refl

-- ---- N

white_parts : (c : ℕ) → is_whitespace c ≡ false → parts c ≡ false
white_parts c h = or_from _ _ (or_from _ _ (or_from _ _ (is_other is_whitespace 32 refl c h) (is_other is_whitespace 9 refl c h)) (is_other is_whitespace 10 refl c h)) (is_other is_whitespace 13 refl c h)

free_chars : (p : ℕ → Bool) (cs : List ℕ) → list_any p cs ≡ false → NonePass p cs
free_chars p [] e = tt
free_chars p (c ∷ cs) e = let both = or_parts (p c) (list_any p cs) e in (both.0, free_chars p cs both.1)

some_of : (xs : List ℕ) → (length xs == 0) ≡ false → 0 < length xs
some_of [] e = absurd (true≢false e)
some_of (x ∷ xs) e = omega arith

entry_plain : (entry : List ℕ) → IsUtf8 entry → is_bad_entry entry ≡ false → IsPlain entry
entry_plain entry valid good =
    let both = or_parts (length entry == 0) (list_any is_whitespace (chars entry)) good in
    record { some = some_of entry both.0; free = bytes_free parts past_parts entry valid (none_less is_whitespace parts white_parts (chars entry) (free_chars is_whitespace (chars entry) both.1)) }

pub normal_said : (conf : Configuration) (text : List ℕ) (layer : Annotations) → IsHeld conf text layer → (n : ℕ) (normal : Normal) → finite.get layer.normals n ≡ Some normal
    → IsMarkLine conf text layer letter.Normal n (body_with_text (spelling_of letter.Normal n) (codes "Reference") (id_word normal.target ∷ pair_word normal.store normal.entry ∷ []) normal.text)
unfolding mark_of
normal_said conf text layer h n normal is =
    let fits = h.program.kept.normals in
    let small : n ≤ 999999999 = fits n (ap is_some is) in
    let good = not_so (is_bad_text normal.text || is_bad_store normal.store || is_bad_entry normal.entry) _ (rule_at (λ id. bad_text) no_class layer letter.Normal marked.Normal layer.normals (λ j. refl) fits n normal is h.well.texts) in
    let two = or_parts (is_bad_text normal.text || is_bad_store normal.store) (is_bad_entry normal.entry) good in
    let one = or_parts (is_bad_text normal.text) (is_bad_store normal.store) two.0 in
    let free : NonePass ends_line normal.text = free_text normal.text (or_parts (nat_lt 4000 (length (chars normal.text))) (list_any ends_line normal.text) one.0).1 in
    let both = or_parts (is_bad_entry normal.store) (list_any (λ c. c == 58) normal.store) one.1 in
    let store : IsPlain normal.store = entry_plain normal.store ((h.program.texts.normals n normal is).store) both.0 in
    let entry : IsPlain normal.entry = entry_plain normal.entry (h.program.texts.normals n normal is).entry two.1 in
    let colon : NonePass (λ c. c == 58) normal.store = free_chars (λ c. c == 58) normal.store both.1 in
    let target = id_word normal.target in
    let pair = pair_word normal.store normal.entry in
    let whole : IsPlain pair = pair_plain normal.store normal.entry store entry.free in
    let first = spelling_of letter.Normal n in
    let form : Form = NormalForm first target normal.store normal.entry normal.text in
    let spelt : mark_of conf form ≡ Some (marked.Normal normal) =
    ap (option_map (λ id. marked.Normal (record { target = id; store = normal.store; entry = normal.entry; text = normal.text }))) (id_read_back normal.target) in
    words_line conf text layer letter.Normal n (body_with_text first (codes "Reference") (target ∷ pair ∷ []) normal.text) ((codes "Reference" ++ words_behind (target ∷ pair ∷ [])) ++ 9 ∷ normal.text) form small refl
    (text_unbroken (codes "Reference") (target ∷ pair ∷ []) normal.text (unbroken_words (codes "Reference") (target ∷ pair ∷ []) reference_plain (id_plain normal.target, (whole, tt))) free)
    (normal_line_read n target normal.store normal.entry normal.text small (id_plain normal.target) colon whole (text_kept normal.text free))
    (has_mark conf layer form letter.Normal n (marked.Normal normal) small refl spelt (ap (option_map marked.Normal) is)) refl refl

-- ---- T

short_frags : (text : List ℕ) (frags : List Frag) → length text ≤ 200000 → all_lie_in text frags ≡ true → AllByRecursion IsShort frags
short_frags text [] few h = tt
short_frags text (frag ∷ frags) few h =
    let parts_ = and_parts (lies_in text frag) (all_lie_in text frags) h in
    let both = and_parts (nat_le frag.start frag.end) (nat_le frag.end (length text)) parts_.0 in
    let start = at_most frag.start frag.end both.0 in
    let end = at_most frag.end (length text) both.1 in
    (record { start = omega arith; end = omega arith }, short_frags text frags few parts_.1)
  where
    at_most : (a b : ℕ) → nat_le a b ≡ true → a ≤ b
    at_most a b e = search (arith, tests)

span_parts : (conf : Configuration) (text : List ℕ) (layer : Annotations) → IsHeld conf text layer → (n : ℕ) (kind : TypeId) (frags : List Frag) → finite.get layer.spans n ≡ Some (record { kind = kind; frags = frags })
    → are_fragments frags ≡ true → AllByRecursion IsShort frags
    → IsMarkLine conf text layer letter.Text n (body_with_text (spelling_of letter.Text n) (type_name_at conf kind.n) (frags_word frags ∷ []) (encode_utf8_all (reference_text text frags)))
unfolding mark_of
span_parts conf text layer h n kind [] is some all = absurd (true≢false (sym some))
span_parts conf text layer h n kind (frag ∷ more) is some all =
    let sound = h.program.sound in
    let fits = h.program.kept.spans in
    let small : n ≤ 999999999 = fits n (ap is_some is) in
    let span : Span = record { kind = kind; frags = frag ∷ more } in
    let known : is_none (slice_get conf.types kind.n) ≡ false =
    not_so (is_none (slice_get conf.types kind.n)) _ (rule_at (λ id. unknown_type conf) (λ i. unknown_class conf) layer letter.Text marked.Span layer.spans (λ j. refl) fits n span is h.well.types) in
    let name = type_name_at conf kind.n in
    let facts : IsTypeName conf kind.n name = type_facts conf sound kind.n known in
    let characters : scalars text ≡ true = text_scalars text h.program.valid h.program.characters in
    let shown = encode_utf8_all (reference_text text (frag ∷ more)) in
    let free : NonePass ends_line shown = reference_bytes text (frag ∷ more) characters in
    let plain : IsPlain name = name_plain name facts.word in
    let first = spelling_of letter.Text n in
    let fields_ = decimal frag.start ∷ ends frag more in
    let all_plain : AllByRecursion IsPlain fields_ = (let few = all.0.start in decimal_plain frag.start (omega arith), ends_plain frag more all.0 all.1) in
    let second : name ++ words_behind (frags_word (frag ∷ more) ∷ []) ≡ name ++ words_behind fields_ = ap (λ x. name ++ 32 ∷ x) (append-nil (frags_word (frag ∷ more)) ∙ spaced frag more) in
    let form : Form = TextForm first name (frag ∷ more) shown in
    let spelt : mark_of conf form ≡ Some (marked.Span span) = ap (option_map (λ id. marked.Span (record { kind = id; frags = frag ∷ more }))) facts.read in
    words_line conf text layer letter.Text n (body_with_text first name (frags_word (frag ∷ more) ∷ []) shown) ((name ++ words_behind (frags_word (frag ∷ more) ∷ [])) ++ 9 ∷ shown) form small refl
    (text_unbroken name (frags_word (frag ∷ more) ∷ []) shown (subst (NonePass (λ c. c == 10)) (sym second) (unbroken_words name fields_ plain all_plain)) free)
    (text_line n name frag more shown small plain all.0 all.1 (text_kept shown free))
    (has_mark conf layer form letter.Text n (marked.Span span) small refl spelt (ap (option_map marked.Span) is), reference_shown text (frag ∷ more) characters) refl refl

pub span_said : (conf : Configuration) (text : List ℕ) (layer : Annotations) → IsHeld conf text layer → (n : ℕ) (span : Span) → finite.get layer.spans n ≡ Some span
    → IsMarkLine conf text layer letter.Text n (body_with_text (spelling_of letter.Text n) (type_name_at conf span.kind.n) (frags_word span.frags ∷ []) (encode_utf8_all (reference_text text span.frags)))
span_said conf text layer h n span is =
    let fits = h.program.kept.spans in
    let some : are_fragments span.frags ≡ true =
    not_not (are_fragments span.frags) (not_so (not (are_fragments span.frags)) _ (rule_at (λ id. bad_fragments) no_class layer letter.Text marked.Span layer.spans (λ j. refl) fits n span is h.well.fragments)) in
    span_parts conf text layer h n span.kind span.frags is some (short_frags text span.frags h.program.short ((writable conf text layer h.program.kept h.well).spans n span is))
