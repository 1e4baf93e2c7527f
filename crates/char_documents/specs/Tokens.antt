-- The tokens of a text: the maximal runs of characters that are not white space, in order.
use Rattle.std.specs.Prelude.{ℕ, ◌+◌, ◌==◌, List, [], ◌∷◌, if◌then◌else◌}
use Rattle.std.specs.Char.{is_whitespace}
use Rattle.mark_base.specs.declared.fragments.Frag.{Frag}

-- a run of characters from start up to place, and the tokens from place on: a token that starts at place goes on with the run
abbrev pub join_run : ℕ → ℕ → List Frag → List Frag
join_run start place [] = record { start = start; end = place } ∷ []
join_run start place (token ∷ tokens) =
    if token.start == place then record { start = start; end = token.end } ∷ tokens
    else record { start = start; end = place } ∷ token ∷ tokens

-- the tokens of characters of which the first stands at place: white space begins none, and another character begins one
abbrev pub tokens_from : ℕ → List ℕ → List Frag
tokens_from place [] = []
tokens_from place (c ∷ cs) =
    if is_whitespace c then tokens_from (place + 1) cs else join_run place (place + 1) (tokens_from (place + 1) cs)

-- the tokens of a text
unfoldable pub tokens_of : List ℕ → List Frag
tokens_of text = tokens_from 0 text
