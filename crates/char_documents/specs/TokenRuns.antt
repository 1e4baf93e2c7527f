-- A run of characters while it is read (private calls only).
use Rattle.std.specs.Prelude.{ℕ, List, [], ◌∷◌, Option, Some, None}
use Rattle.mark_base.specs.declared.fragments.Frag.{Frag}
use Rattle.char_documents.specs.Tokens.{join_run}

-- the token of a run that ends at place, where one is open
abbrev pub closed : Option ℕ → ℕ → List Frag
closed None place = []
closed (Some start) place = record { start = start; end = place } ∷ []

-- the tokens from place on, with the run that is open there
abbrev pub run_on : Option ℕ → ℕ → List Frag → List Frag
run_on None place tokens = tokens
run_on (Some start) place tokens = join_run start place tokens
