-- The words and lines of an .ann file as they are written (brat standoff manual).
use Rattle.std.specs.Prelude.{ℕ, ◌+◌, ◌==◌, ◌&&◌, Bool, false, List, [], ◌∷◌, ◌++◌, nat_lt, decimal, codes, if◌then◌else◌, unwrap_or}
use Rattle.std.specs.Option.{option_map_or}
use Rattle.std.specs.List.{flat_map}
use Rattle.mark_base.specs.declared.ann_id.AnnId.{AnnId}
use Rattle.mark_base.specs.declared.arguments.Arg.{Arg}
use Rattle.mark_base.specs.declared.fragments.Frag.{Frag}
use Rattle.mark_base.specs.AnnIds.{spelling_of}
use Rattle.conf_model.specs.Configurations.{Configuration}
use Rattle.conf_model.specs.Lookups.{role_name}
use Rattle.layer_rules.specs.MarkRules.{filled}
use Rattle.ann_reader.specs.Roles.{role_read}

-- an ID
abbrev pub id_word : AnnId → List ℕ
id_word id = spelling_of id.kind id.number

-- a role with its target, a type with its trigger, or a store with its entry
abbrev pub pair_word : List ℕ → List ℕ → List ℕ
pair_word name value = name ++ codes ":" ++ value

-- a fragment: its start and its end
abbrev pub frag_word : Frag → List ℕ
frag_word frag = decimal frag.start ++ codes " " ++ decimal frag.end

-- fragments, with `;` between each two
abbrev pub frags_word : List Frag → List ℕ
frags_word [] = []
frags_word (frag ∷ more) = frag_word frag ++ flat_map (λ next. codes ";" ++ frag_word next) more

-- a word reads back as a role of an event type
abbrev pub reads_as : Configuration → ℕ → List ℕ → ℕ → Bool
reads_as conf event word role = option_map_or (λ read. read == role) (role_read conf event word) false

-- the name of a role
abbrev pub role_name_at : Configuration → ℕ → ℕ → List ℕ
role_name_at conf event role = unwrap_or (role_name conf event role) []

-- the name of a role, for its k-th argument with the number k where that reads back as the role
abbrev pub role_spelling : Configuration → ℕ → ℕ → ℕ → List ℕ
role_spelling conf event role k =
    let name = role_name_at conf event role in if nat_lt 1 k && reads_as conf event (name ++ decimal k) role then name ++ decimal k else name

-- the arguments of an event behind those that stand before them; an argument is the k-th of its role where it is the k-th that stands in it
abbrev pub argument_words : Configuration → ℕ → List Arg → List Arg → List (List ℕ)
argument_words conf event before [] = []
argument_words conf event before (arg ∷ args) =
    pair_word (role_spelling conf event arg.role (filled arg.role before + 1)) (id_word arg.target) ∷ argument_words conf event (before ++ arg ∷ []) args

-- words, each behind a space
abbrev pub words_behind : List (List ℕ) → List ℕ
words_behind words = flat_map (λ word. codes " " ++ word) words

-- a line: its first field, a TAB, a type and more words, and a line feed
abbrev pub line_of : List ℕ → List ℕ → List (List ℕ) → List ℕ
line_of first kind words = first ++ codes "\t" ++ kind ++ words_behind words ++ codes "\n"

-- a line that has a third field, behind a second TAB
abbrev pub line_with_text : List ℕ → List ℕ → List (List ℕ) → List ℕ → List ℕ
line_with_text first kind words text = first ++ codes "\t" ++ kind ++ words_behind words ++ codes "\t" ++ text ++ codes "\n"
