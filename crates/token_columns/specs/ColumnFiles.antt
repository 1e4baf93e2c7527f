-- Which layer a column file shows.
use Rattle.std.specs.Prelude.{◌≡◌, ℕ, not, List, length, chars, encode_utf8_all, IsUtf8}
use Rattle.std.specs.List.{filter}
use Rattle.std.specs.Str.Lines.{lines}
use Rattle.conf_model.specs.Configurations.{Configuration}
use Rattle.conf_model.specs.Sound.{IsSound}
use Rattle.layer_model.specs.Annotations.{Annotations}
use Rattle.layer_model.specs.Layers.{IsLayer}
use Rattle.layer_rules.specs.WellFormed.{IsWellFormed}
use Rattle.token_columns.specs.Columns.{column_lines}
use Rattle.token_columns.specs.Fits.{Fits}
use Rattle.token_columns.specs.ReadColumns.{is_blank}

-- the lines that are not blank; a line feed ends each, with at most one carriage return before it, and the last may lack it
abbrev pub lines_of : List ℕ → List (List ℕ)
lines_of bytes = filter (λ line. not (is_blank line)) (lines bytes)

-- the bytes are the columns of a layer, which is well-formed and fits
pub record IsColumns (conf : Configuration) (text bytes : List ℕ) (layer : Annotations) : Type 0 where
  pub valid : IsUtf8 bytes
  pub shown : lines_of bytes ≡ column_lines conf text layer
  pub fits : Fits text layer
  pub well_formed : IsWellFormed conf (length text) layer

-- a configuration, a text and a layer as every program has them: the configuration is sound, the layer keeps what layers keep, and the characters of the text are scalar values
pub record IsOfProgram (conf : Configuration) (text : List ℕ) (layer : Annotations) : Type 0 where
  pub sound : IsSound conf
  pub kept : IsLayer layer
  pub valid : IsUtf8 (encode_utf8_all text)
  pub characters : chars (encode_utf8_all text) ≡ text
