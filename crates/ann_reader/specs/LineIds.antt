-- The IDs that a line has: its own, and those that it names, in their order on the line.
use Rattle.std.specs.Prelude.{ℕ, Bool, false, List, [], ◌∷◌, map, slice_index, Option, Some, None, option_and_then, is_none}
use Rattle.std.specs.Option.{option_map_or}
use Rattle.mark_base.specs.declared.ann_id.AnnId.{AnnId}
use Rattle.mark_base.specs.declared.ann_id.Kind.{Kind}
use Rattle.layer_model.specs.Coherent.{is_span_letter, is_span_or_event_letter, is_attributed_letter, is_noted_letter}
use Rattle.ann_reader.specs.declared.id_letters.Letters.{Letters}
use Rattle.ann_reader.specs.declared.id_letters.Letters.TheVariants.{Spans, SpansOrEvents, Attributed, AnyButNotes}
use Rattle.mark_base.specs.ReadIds.{id_read}
use Rattle.mark_base.specs.AnnIds.{kind_read}
use Rattle.ann_reader.specs.LineForms.{Form, BadForm, TextForm, EventForm, RelationForm, AttributeForm, ClassForm, NormalForm, NoteForm}

-- the letter may stand there
abbrev pub may_stand : Letters → Kind → Bool
may_stand Spans kind = is_span_letter kind
may_stand SpansOrEvents kind = is_span_or_event_letter kind
may_stand Attributed kind = is_attributed_letter kind
may_stand AnyButNotes kind = is_noted_letter kind

-- a word in the place of an ID, with the letters that may stand there
pub record IdWord : Type 0 where
  pub letters : Letters
  pub word : List ℕ

-- a word where only these letters may stand
abbrev pub of_letters : Letters → List ℕ → IdWord
of_letters letters word = record { letters = letters; word = word }

-- what a line names: trigger, arguments, target or members
abbrev pub id_words : Form → List IdWord
id_words BadForm = []
id_words (TextForm _ _ _ _) = []
id_words (EventForm _ _ trigger pairs) = of_letters Spans trigger ∷ map (λ pair. of_letters SpansOrEvents pair.target) pairs
id_words (RelationForm _ _ a b) = of_letters SpansOrEvents a.target ∷ of_letters SpansOrEvents b.target ∷ []
id_words (AttributeForm _ _ target _) = of_letters Attributed target ∷ []
id_words (ClassForm _ ids) = map (of_letters Spans) ids
id_words (NormalForm _ target _ _ _) = of_letters SpansOrEvents target ∷ []
id_words (NoteForm _ _ target _) = of_letters AnyButNotes target ∷ []

-- the first field of a line that has an ID of its own
abbrev pub own_word : Form → Option (List ℕ)
own_word BadForm = None
own_word (TextForm first _ _ _) = Some first
own_word (EventForm first _ _ _) = Some first
own_word (RelationForm first _ _ _) = Some first
own_word (AttributeForm first _ _ _) = Some first
own_word (ClassForm _ _) = None
own_word (NormalForm first _ _ _ _) = Some first
own_word (NoteForm first _ _ _) = Some first

-- the ID of a line
abbrev pub own_id : Form → Option AnnId
own_id form = option_and_then id_read (own_word form)

-- the word begins with none of the seven letters
abbrev pub has_no_letter : IdWord → Bool
has_no_letter id_word = is_none (kind_read (slice_index id_word.word 0))

-- the word spells no ID
abbrev pub is_misspelt : IdWord → Bool
is_misspelt id_word = is_none (id_read id_word.word)

-- a line has an ID of its own, and it is misspelt
abbrev pub is_own_misspelt : Form → Bool
is_own_misspelt form = option_map_or (λ word. is_none (id_read word)) (own_word form) false
