-- A small tree of types and the spans of one text, worked out by hand.
use Rattle.std.specs.Prelude.{ℕ, Bool, true, false, List, [], ◌∷◌, Option, Some, None}
use Rattle.mark_base.specs.declared.fragments.Frag.{Frag}
use Rattle.mark_base.specs.declared.table_places.TypeId.{TypeId}
use Rattle.type_hierarchy.specs.declared.type_row.TypeRow.{TypeRow}
use Rattle.layer_model.specs.declared.span.Span.{Span}

-- a type of a one-letter name
abbrev pub type_of : ℕ → Option TypeId → Bool → TypeRow
type_of letter parent usable = record { name = letter ∷ []; parent = parent; usable = usable; event = false }

-- an agent, which is not used itself, two kinds of agent below it, and a place
abbrev pub types : List TypeRow
types = type_of 65 None false ∷ type_of 66 (Some (record { n = 0 })) true ∷ type_of 67 (Some (record { n = 0 })) true ∷ type_of 68 None true ∷ []

-- a fragment
abbrev pub from_to : ℕ → ℕ → Frag
from_to start end = record { start = start; end = end }

-- a span of a type
abbrev pub span_of : ℕ → List Frag → Span
span_of kind frags = record { kind = record { n = kind }; frags = frags }

-- a place, and one of the second kind of agent that starts earlier and has a gap
abbrev pub spans : List (ℕ × Span)
spans = (1, span_of 3 (from_to 2 5 ∷ [])) ∷ (2, span_of 2 (from_to 0 1 ∷ from_to 4 5 ∷ [])) ∷ []
