-- Small layers, on which the definitions are shown at work.
use Rattle.std.specs.Prelude.{ℕ, min, List, [], ◌∷◌, Some, None}
use Rattle.std.specs.FinMap as finite
use Rattle.std.proofs.Math.Nat.{min-le_right}
use Rattle.mark_base.specs.declared.arguments.Arg.{Arg}
use Rattle.layer_model.specs.declared.span.Span.{Span}
use Rattle.layer_model.specs.declared.event.Event.{Event}
use Rattle.layer_model.specs.Annotations.{Annotations}
use Rattle.content_keys.specs.WorkedLayers.{arg, t}
use Rattle.match_scores.specs.Standing.{Standing}

-- a span of a type over the characters from `start` up to `end`
abbrev pub span : ℕ → ℕ → ℕ → Span
span kind start end = record { kind = record { n = kind }; frags = record { start = start; end = end } ∷ [] }

-- an event of a type on the span of a number
abbrev pub event : ℕ → ℕ → List Arg → Event
event kind number args = record { kind = record { n = kind }; trigger = min number 999999999; args = args; within = min-le_right number 999999999 }

-- a layer with these spans and events by their numbers, ascending, and nothing else
abbrev pub layer_with : List (ℕ × Span) → List (ℕ × Event) → Annotations
layer_with spans events = record {
  spans = finite.from_sorted spans;
  events = finite.from_sorted events;
  relations = finite.from_sorted [];
  attributes = finite.from_sorted [];
  legacy = finite.from_sorted [];
  normals = finite.from_sorted [];
  notes = finite.from_sorted [];
  classes = [];
}

-- T1 is a person, and T2 the word of the meeting E1 of this person
abbrev pub ann_spans : List (ℕ × Span)
ann_spans = (1, span 0 0 3) ∷ (2, span 1 4 7) ∷ []

-- the meeting E1 of T1
abbrev pub ann_events : List (ℕ × Event)
ann_events = (1, event 1 2 (arg 0 (t 1) ∷ [])) ∷ []

-- the layer of the first annotator
abbrev pub ann : Annotations
ann = layer_with ann_spans ann_events

-- the same under other IDs, and a place T3
abbrev pub bob_spans : List (ℕ × Span)
bob_spans = (1, span 1 4 7) ∷ (2, span 0 0 3) ∷ (3, span 2 15 19) ∷ []

-- the same meeting
abbrev pub bob_events : List (ℕ × Event)
bob_events = (1, event 1 1 (arg 0 (t 2) ∷ [])) ∷ []

-- the layer of the second annotator
abbrev pub bob : Annotations
bob = layer_with bob_spans bob_events

-- one document, on which the first two of three annotators have a layer
abbrev pub two_layers : Standing
two_layers = record { raters = 3; documents = (Some ann ∷ Some bob ∷ None ∷ []) ∷ [] }
