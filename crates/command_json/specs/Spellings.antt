-- How fragments, names, arguments and entries of stores are spelt in the texts of a command.
use Rattle.std.specs.Prelude.{ℕ, ◌==◌, Bool, List, map, Option, Some, None, is_none, option_map, option_and_then, if◌then◌else◌}
use Rattle.std.specs.List.{list_any, before_first, after_first, slice_split}
use Rattle.mark_base.specs.declared.ann_id.AnnId.{AnnId}
use Rattle.mark_base.specs.declared.fragments.Frag.{Frag}
use Rattle.mark_base.specs.declared.named_args.NamedArg.{NamedArg}
use Rattle.mark_base.specs.AnnIds.{number_read}
pub use Rattle.mark_base.specs.Lists.{all_of}
use Rattle.mark_base.specs.Names.{name_fault}
use Rattle.mark_base.specs.ReadIds.{id_read}
use Rattle.command_json.specs.declared.spelling.StoreEntry.{StoreEntry}

-- what is made of two parts, where both are there
abbrev pub of_two : {A B Z : Type 0} → (A → B → Z) → Option A → Option B → Option Z
of_two make one two = option_and_then (λ a. option_map (make a) two) one

-- what is made of three parts, where all are there
abbrev pub of_three : {A B C Z : Type 0} → (A → B → C → Z) → Option A → Option B → Option C → Option Z
of_three make one two three = option_and_then (λ a. of_two (make a) two three) one

-- ---- a text by its parts

-- a byte stands in a text
abbrev pub has_byte : ℕ → List ℕ → Bool
has_byte c text = list_any (λ b. b == c) text

-- what stands before the first such byte
abbrev pub before_byte : ℕ → List ℕ → List ℕ
before_byte c text = before_first (λ b. b == c) text

-- what stands behind the first such byte
abbrev pub behind_byte : ℕ → List ℕ → List ℕ
behind_byte c text = after_first (λ b. b == c) text

-- ---- fragments (brat standoff manual, "Text-bound annotations")

-- the fragment of a start and an end
abbrev pub frag_of : ℕ → ℕ → Frag
frag_of start end = record { start = start; end = end }

-- the fragment that a text spells: its start, one space and its end
unfoldable pub frag_read : List ℕ → Option Frag
frag_read text = if has_byte 32 text then of_two frag_of (number_read (before_byte 32 text)) (number_read (behind_byte 32 text)) else None

-- the fragments that a text spells, joined by `;`
abbrev pub frags_read : List ℕ → Option (List Frag)
frags_read text = all_of (map frag_read (slice_split (λ b. b == 59) text))

-- ---- names, arguments and entries

-- the name that a text is
abbrev pub name_read : List ℕ → Option (List ℕ)
name_read text = if is_none (name_fault text) then Some text else None

-- the argument of a role and a target
abbrev pub argument_of : List ℕ → AnnId → NamedArg
argument_of role target = record { role = role; target = target }

-- the argument that a text spells: its role, `:` and the ID of its target
unfoldable pub argument_read : List ℕ → Option NamedArg
argument_read text = if has_byte 58 text then of_two argument_of (name_read (before_byte 58 text)) (id_read (behind_byte 58 text)) else None

-- the entry that a text spells: its store, `:` and the entry, in which `:` may stand too
abbrev pub entry_read : List ℕ → Option StoreEntry
entry_read text = if has_byte 58 text then Some (record { store = before_byte 58 text; entry = behind_byte 58 text }) else None
