-- The columns of a layer: a line for each token of the text, with the token, a TAB and its label.
use Rattle.std.specs.Prelude.{ℕ, List, map, ◌++◌, codes, encode_utf8_all}
use Rattle.std.specs.List.{flat_map}
use Rattle.mark_base.specs.declared.fragments.Frag.{Frag}
use Rattle.char_documents.specs.Texts.{covered}
use Rattle.char_documents.specs.Tokens.{tokens_of}
use Rattle.conf_model.specs.Configurations.{Configuration}
use Rattle.conf_model.specs.ConfText.{type_name_at}
use Rattle.layer_model.specs.Annotations.{Annotations}
use Rattle.token_columns.specs.declared.label.Label.{Label}
use Rattle.token_columns.specs.declared.label.Label.TheVariants.{Out, Begin, Inside}
use Rattle.token_columns.specs.declared.run.Run.{Run}
use Rattle.token_columns.specs.Labels.{label_of, runs_of}

-- a label: `O`, or `B-` or `I-` with the name of a type
abbrev pub label_word : Configuration → Label → List ℕ
label_word conf Out = codes "O"
label_word conf (Begin kind) = codes "B-" ++ type_name_at conf kind.n
label_word conf (Inside kind) = codes "I-" ++ type_name_at conf kind.n

-- the bytes of a token
abbrev pub token_text : List ℕ → Frag → List ℕ
token_text text token = encode_utf8_all (covered text token)

-- the line of a token with a label, without its line feed
abbrev pub labelled_line : Configuration → List ℕ → Frag → Label → List ℕ
labelled_line conf text token label = token_text text token ++ codes "\t" ++ label_word conf label

-- the line of a token among these spans
abbrev pub column_line : Configuration → List ℕ → List Run → Frag → List ℕ
column_line conf text runs token = labelled_line conf text token (label_of runs token)

-- the lines of a layer, one a token
abbrev pub column_lines : Configuration → List ℕ → Annotations → List (List ℕ)
column_lines conf text layer = map (column_line conf text (runs_of layer)) (tokens_of text)

-- the columns of a layer: its lines, each with a line feed
unfoldable pub columns : Configuration → List ℕ → Annotations → List ℕ
columns conf text layer = flat_map (λ line. line ++ codes "\n") (column_lines conf text layer)
