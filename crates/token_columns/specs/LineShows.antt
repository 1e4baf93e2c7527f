-- What the values of a reader show (private calls only).
use Rattle.std.specs.Prelude.{ℕ, List}
use denote.Ref.{Bor}

-- a text
abbrev pub seen_text : Bor (List ℕ) → List ℕ
seen_text text = text.now
