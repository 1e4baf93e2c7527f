-- Small texts, a configuration and spans, worked out by hand.
use Rattle.std.specs.Prelude.{ℕ, List, [], ◌∷◌, codes, None, true, false}
use Rattle.mark_base.specs.declared.fragments.Frag.{Frag}
use Rattle.conf_model.specs.Configurations.{Configuration}
use Rattle.token_columns.specs.declared.run.Run.{Run}
use Rattle.token_columns.specs.declared.run.Placed.{Placed}

-- one type that spans may have, and one that they may not
abbrev pub conf : Configuration
conf = record {
  types = record { name = codes "Location"; parent = None; usable = true; event = false } ∷ record { name = codes "Thing"; parent = None; usable = false; event = false } ∷ [];
  roles = [] ∷ [] ∷ [];
  relations = [];
  attributes = [];
  overlaps = [];
}

-- a text of four tokens
abbrev pub text : List ℕ
text = codes "New York is big"

-- a place from one character up to another
abbrev pub from_to : ℕ → ℕ → Run
from_to start end = record { kind = record { n = 0 }; start = start; end = end }

-- the same under a number
abbrev pub place : ℕ → ℕ → ℕ → Placed
place number start end = record { number = number; pieces = 1; run = from_to start end }

-- a token
abbrev pub token : ℕ → ℕ → Frag
token start end = record { start = start; end = end }
