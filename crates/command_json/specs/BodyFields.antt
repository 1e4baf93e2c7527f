-- The fields of a body, which is a JSON object: each is a text, or a list of texts, that spells something.
use Rattle.std.specs.Prelude.{ℕ, Bool, false, List, [], ◌∷◌, bytes_eq, Option, Some, None, option_map, option_and_then}
use Rattle.std.specs.List.{list_any, list_all}
use Rattle.serde_json.specs.Data.{Data, object, Items, no_items, item, Members, no_members, member}
use Rattle.serde_json.specs.Find.{get, as_str, as_array}
use Rattle.mark_base.specs.declared.ann_id.AnnId.{AnnId}
use Rattle.mark_base.specs.declared.fragments.Frag.{Frag}
use Rattle.mark_base.specs.declared.named_args.NamedArg.{NamedArg}
use Rattle.command_json.specs.declared.spelling.StoreEntry.{StoreEntry}
use Rattle.mark_base.specs.ReadIds.{id_read}
use Rattle.command_json.specs.Spellings.{of_two, frags_read, name_read, argument_read, entry_read}

-- ---- which fields there are

-- the keys of an object; the last value of a repeated key is the one that it has
abbrev pub keys_of : Members → List (List ℕ)
keys_of no_members = []
keys_of (member key value more) = key ∷ keys_of more

-- a key is among some
abbrev pub is_listed : List (List ℕ) → List ℕ → Bool
is_listed keys key = list_any (bytes_eq key) keys

-- an object that has no field but these
abbrev pub has_only : List (List ℕ) → Data → Bool
has_only keys (object members) = list_all (is_listed keys) (keys_of members)
has_only keys _ = false

-- ---- one text

-- the text at a key
abbrev pub text_at : List ℕ → Data → Option (List ℕ)
text_at key body = option_and_then as_str (get key body)

-- the name at a key
abbrev pub name_at : List ℕ → Data → Option (List ℕ)
name_at key body = option_and_then name_read (text_at key body)

-- a name, or none where there is no value
abbrev pub name_or_none : Option Data → Option (Option (List ℕ))
name_or_none (Some value) = option_map Some (option_and_then name_read (as_str value))
name_or_none None = Some None

-- the name at a key that may be absent
abbrev pub name_if_there : List ℕ → Data → Option (Option (List ℕ))
name_if_there key body = name_or_none (get key body)

-- the ID at a key
abbrev pub ann_id_at : List ℕ → Data → Option AnnId
ann_id_at key body = option_and_then id_read (text_at key body)

-- the fragments at a key
abbrev pub frags_at : List ℕ → Data → Option (List Frag)
frags_at key body = option_and_then frags_read (text_at key body)

-- the argument at a key
abbrev pub argument_at : List ℕ → Data → Option NamedArg
argument_at key body = option_and_then argument_read (text_at key body)

-- the entry of a store at a key
abbrev pub entry_at : List ℕ → Data → Option StoreEntry
entry_at key body = option_and_then entry_read (text_at key body)

-- ---- a list of texts

-- what the items of a list spell, where each is a text that spells something
abbrev pub each_read : {X : Type 0} → (List ℕ → Option X) → Items → Option (List X)
each_read reads no_items = Some []
each_read reads (item value more) = of_two (λ x xs. x ∷ xs) (option_and_then reads (as_str value)) (each_read reads more)

-- the list at a key
abbrev pub list_at : List ℕ → Data → Option Items
list_at key body = option_and_then as_array (get key body)

-- the IDs in the list at a key
abbrev pub ann_ids_at : List ℕ → Data → Option (List AnnId)
ann_ids_at key body = option_and_then (each_read id_read) (list_at key body)

-- the arguments in the list at a key
abbrev pub arguments_at : List ℕ → Data → Option (List NamedArg)
arguments_at key body = option_and_then (each_read argument_read) (list_at key body)
