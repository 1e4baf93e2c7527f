-- The command that the body of a message spells.
use Rattle.std.specs.Prelude.{ℕ, List, codes, Option, None, option_and_then, if◌then◌else◌}
use Rattle.std.specs.Str.{is_utf8}
use Rattle.serde_json.specs.Data.{Data}
use Rattle.serde_json.specs.Read.{read}
use Rattle.layer_core.specs.declared.command.Command.{Command}
use Rattle.command_json.specs.BodyFields.{text_at}
use Rattle.command_json.specs.BodyForms.{form_of, spelt_by}

-- the command that a JSON value spells, by the form of the word at `do`
abbrev pub command_in : Data → Option Command
command_in body = option_and_then (spelt_by body) (option_and_then form_of (text_at (codes "do") body))

-- the JSON value of a body, in which the last value of a repeated key counts
unfoldable pub value_of : List ℕ → Option Data
value_of body = if is_utf8 body then read body else None

-- the command that a body spells
unfoldable pub command_of : List ℕ → Option Command
command_of body = option_and_then command_in (value_of body)
