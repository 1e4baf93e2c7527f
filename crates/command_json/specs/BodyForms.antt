-- The forms of the bodies that spell commands, one for each word of `do`.
use Rattle.std.specs.Prelude.{ℕ, List, [], ◌∷◌, map, codes, bytes_eq, find, Option, None, option_map, if◌then◌else◌}
use Rattle.serde_json.specs.Data.{Data}
use Rattle.layer_core.specs.declared.command.Command.{Command}
use Rattle.layer_core.specs.declared.command.Command.TheVariants as ask
use Rattle.command_json.specs.Spellings.{of_two, of_three}
use Rattle.command_json.specs.BodyFields.{has_only, text_at, name_at, name_if_there, ann_id_at, frags_at, argument_at, entry_at, ann_ids_at, arguments_at}

-- a form: the word of `do`, the fields beside it, and the command that they spell, where each that has to be there is
pub record Form : Type 0 where
  pub word : List ℕ
  pub fields : List (List ℕ)
  pub command : Data → Option Command

-- ---- spans

-- a new span
abbrev pub add_span : Form
add_span = record {
  word = codes "add-span";
  fields = map codes ("type" ∷ "at" ∷ []);
  command = λ body. of_two ask.AddSpan (name_at (codes "type") body) (frags_at (codes "at") body);
}

-- another type for a span
abbrev pub retype : Form
retype = record {
  word = codes "retype";
  fields = map codes ("id" ∷ "type" ∷ []);
  command = λ body. of_two ask.RetypeSpan (ann_id_at (codes "id") body) (name_at (codes "type") body);
}

-- other fragments for a span
abbrev pub move_span : Form
move_span = record {
  word = codes "move";
  fields = map codes ("id" ∷ "at" ∷ []);
  command = λ body. of_two ask.MoveSpan (ann_id_at (codes "id") body) (frags_at (codes "at") body);
}

-- ---- events

-- a new event, stated by a span
abbrev pub add_event : Form
add_event = record {
  word = codes "add-event";
  fields = map codes ("type" ∷ "trigger" ∷ "args" ∷ []);
  command = λ body. of_three ask.AddEvent (name_at (codes "type") body) (ann_id_at (codes "trigger") body) (arguments_at (codes "args") body);
}

-- one more argument of an event
abbrev pub add_arg : Form
add_arg = record {
  word = codes "add-arg";
  fields = map codes ("id" ∷ "arg" ∷ []);
  command = λ body. of_two ask.AddArg (ann_id_at (codes "id") body) (argument_at (codes "arg") body);
}

-- the first such argument taken out
abbrev pub remove_arg : Form
remove_arg = record {
  word = codes "remove-arg";
  fields = map codes ("id" ∷ "arg" ∷ []);
  command = λ body. of_two ask.RemoveArg (ann_id_at (codes "id") body) (argument_at (codes "arg") body);
}

-- ---- relations and attributes

-- a new relation
abbrev pub add_relation : Form
add_relation = record {
  word = codes "add-relation";
  fields = map codes ("type" ∷ "first" ∷ "second" ∷ []);
  command = λ body. of_three ask.AddRelation (name_at (codes "type") body) (ann_id_at (codes "first") body) (ann_id_at (codes "second") body);
}

-- the field `value` may be absent
abbrev pub set_attribute : Form
set_attribute = record {
  word = codes "set-attribute";
  fields = map codes ("type" ∷ "of" ∷ "value" ∷ []);
  command = λ body. of_three ask.SetAttribute (name_at (codes "type") body) (ann_id_at (codes "of") body) (name_if_there (codes "value") body);
}

-- an attribute taken away
abbrev pub clear_attribute : Form
clear_attribute = record {
  word = codes "clear-attribute";
  fields = map codes ("id" ∷ []);
  command = λ body. option_map ask.ClearAttribute (ann_id_at (codes "id") body);
}

-- ---- classes

-- spans that are one class
abbrev pub equate : Form
equate = record {
  word = codes "equate";
  fields = map codes ("type" ∷ "members" ∷ []);
  command = λ body. of_two ask.Equate (name_at (codes "type") body) (ann_ids_at (codes "members") body);
}

-- a span taken out of its class
abbrev pub unequate : Form
unequate = record {
  word = codes "unequate";
  fields = map codes ("type" ∷ "id" ∷ []);
  command = λ body. of_two ask.Unequate (name_at (codes "type") body) (ann_id_at (codes "id") body);
}

-- ---- notes and references

-- a note, or another text for it
abbrev pub set_note : Form
set_note = record {
  word = codes "set-note";
  fields = map codes ("of" ∷ "type" ∷ "text" ∷ []);
  command = λ body. of_three ask.SetNote (ann_id_at (codes "of") body) (name_at (codes "type") body) (text_at (codes "text") body);
}

-- a reference to an entry of a store, or another text for it
abbrev pub set_reference : Form
set_reference = record {
  word = codes "set-reference";
  fields = map codes ("of" ∷ "entry" ∷ "text" ∷ []);
  command = λ body.
      of_three (λ target named text. ask.SetReference target named.store named.entry text)
      (ann_id_at (codes "of") body) (entry_at (codes "entry") body) (text_at (codes "text") body);
}

-- ---- any annotation

-- an annotation taken away
abbrev pub delete : Form
delete = record {
  word = codes "delete";
  fields = map codes ("id" ∷ []);
  command = λ body. option_map ask.Delete (ann_id_at (codes "id") body);
}

-- an annotation taken away with all that names it
abbrev pub purge : Form
purge = record {
  word = codes "purge";
  fields = map codes ("id" ∷ []);
  command = λ body. option_map ask.Purge (ann_id_at (codes "id") body);
}

-- ---- all forms

-- every command but the loading of a layer
abbrev pub forms : List Form
forms =
    add_span ∷ retype ∷ move_span ∷ add_event ∷ add_arg ∷ remove_arg ∷ add_relation ∷ set_attribute ∷ clear_attribute ∷ equate ∷ unequate ∷ set_note
    ∷ set_reference ∷ delete ∷ purge ∷ []

-- the form of a word
abbrev pub form_of : List ℕ → Option Form
form_of word = find (λ form. bytes_eq word form.word) forms

-- the command that a body of a form spells, which has `do`, the fields of the form and no other
abbrev pub spelt_by : Data → Form → Option Command
spelt_by body form = if has_only (codes "do" ∷ form.fields) body then form.command body else None
