-- At which byte of a text's UTF-8 a character begins (private calls only).
use Rattle.std.specs.Prelude.{◌≡◌, ℕ, ◌*◌, ◌/◌, ◌+◌, ◌<◌, List, length, chars, take, encode_utf8_all, slice_index}

-- the byte at which the character of an index begins, or the end where the text has as many characters
unfoldable pub byte_of : List ℕ → ℕ → ℕ
byte_of text index = length (encode_utf8_all (take index (chars text)))

-- the marks are the bytes at which the characters 0, 256, 512 and so on begin, as far as the text goes
pub record IsMarked (text marks : List ℕ) : Type 0 where
  pub count : length marks ≡ length (chars text) / 256 + 1
  pub places : (k : ℕ) → k < length marks → slice_index marks k ≡ byte_of text (256 * k)
