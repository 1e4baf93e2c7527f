-- Documents of ASCII, whose bytes are their characters (private calls only).
use Rattle.std.specs.Prelude.{◌≡◌, ℕ, List}
use Rattle.std.specs.Str.{IsAscii}

-- the characters of a document are these bytes
pub record IsPlain (text bytes : List ℕ) : Type 0 where
  pub same : bytes ≡ text
  pub ascii : IsAscii bytes
