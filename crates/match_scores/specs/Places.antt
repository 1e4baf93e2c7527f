-- The annotations of a layer by the places of their contents in a table (private calls only).
use Rattle.std.specs.Prelude.{◌≡◌, ℕ, ◌+◌, ◌<◌, ◌≤◌, ◌^◌, Bool, false, not, List, length, map, filter, count_by, sum_by, All, get_or, slice_index, Option, Some, None, ⊤, IfSome}
use Rattle.std.specs.Option.{option_map_or}
use Rattle.layer_model.specs.Annotations.{Annotations}
use Rattle.layer_model.specs.Coherent.{IsCoherent}
use Rattle.content_keys.specs.LayerContents.{class_contents_of, contents_of}
use Rattle.content_keys.specs.declared.placed_layer.Placed.{Placed}
use Rattle.match_scores.specs.declared.sort.Sort.{Sort}
use Rattle.match_scores.specs.declared.sort.Sort.TheVariants.{Spans, Events, Relations}
use Rattle.match_scores.specs.declared.places.Places.{Places}
use Rattle.match_scores.specs.declared.layer_in_table.Marks.{Marks}
use Rattle.match_scores.specs.Matches.{Part, Both, FirstOnly, SecondOnly, is_of_sort, contents_of_sort, stands_in}
use Rattle.match_scores.specs.Standing.{Layers, layer_of}
use Rattle.match_scores.specs.declared.tally.Tallies.{Tallies}
use Rattle.match_scores.specs.Tallies.{cell}

-- the places of the annotations of a sort
abbrev pub places_of : Sort → List Placed → List ℕ
places_of sort marks = map (λ mark. mark.place) (filter (λ mark. is_of_sort sort mark.id.kind) marks)

-- whether a place is marked
abbrev pub is_here : List Bool → ℕ → Bool
is_here here place = get_or here place false

-- the places that are listed are those that are marked
abbrev pub AreHere : List ℕ → List Bool → Type 0
AreHere places here = (place : ℕ) → is_here here place ≡ stands_in places place

-- the places of a sort
abbrev pub places_in : Marks → Sort → Places
places_in marks Spans = marks.spans
places_in marks Events = marks.events
places_in marks Relations = marks.relations

-- the places, in a table of these contents, of the annotations of a sort in a layer
pub record ArePlaces (table : List ℕ) (layer : Annotations) (sort : Sort) (places : Places) : Type 0 where
  pub contents : map (slice_index table) places.list.items ≡ contents_of_sort layer sort
  pub within : All (λ place. place < length table) places.list.items
  pub here : AreHere places.list.items places.here.items

-- a layer has few enough annotations for the counts of 4,096 documents
unfoldable pub IsFew : Annotations → Type 0
IsFew layer = length (contents_of layer) ≤ 2 ^ 40

-- how many contents a layer has: those of its annotations of any sort, and those of its classes
abbrev pub contents_in : Annotations → ℕ
contents_in layer = length (contents_of layer) + length (class_contents_of layer)

-- the places of the annotations of each sort in a layer, and how many contents it has
pub record AreMarks (table : List ℕ) (layer : Annotations) (marks : Marks) : Type 0 where
  pub whole : IsCoherent layer
  pub sorts : (sort : Sort) → ArePlaces table layer sort (places_in marks sort)
  pub few : IsFew layer
  pub size : marks.size ≡ contents_in layer

-- the same where a layer stands, and no places where none stands
abbrev pub IsMarked : List ℕ → Option Annotations → Option Marks → Type 0
IsMarked table None None = ⊤
IsMarked table None (Some marks) = ⊥
IsMarked table (Some layer) None = ⊥
IsMarked table (Some layer) (Some marks) = AreMarks table layer marks

-- the places of the layers that stand on a document
pub record AreMarked (table : List ℕ) (layers : Layers) (marks : List (Option Marks)) : Type 0 where
  pub long : length marks ≡ length layers
  pub each : (rater : ℕ) → rater < length layers → IsMarked table (layer_of layers rater) (get_or marks rater None)

-- how many contents the layers that stand have, each layer's counted for itself
abbrev pub contents_standing : Layers → ℕ
contents_standing layers = sum_by (λ layer. option_map_or contents_in layer 0) layers

-- the same by what is kept of a layer
abbrev pub size_of : Option Marks → ℕ
size_of marks = option_map_or (λ marks. marks.size) marks 0

-- a count of two lists of places
abbrev pub count_places : Part → Places → Places → ℕ
count_places Both first second = count_by (λ place. is_here second.here.items place) first.list.items
count_places FirstOnly first second = count_by (λ place. not (is_here second.here.items place)) first.list.items
count_places SecondOnly first second = count_by (λ place. not (is_here first.here.items place)) second.list.items

-- a count of two layers by their places: nothing where one of them is not there
unfoldable pub met : Sort → Part → Option Marks → Option Marks → ℕ
met sort part None second = 0
met sort part (Some first) None = 0
met sort part (Some first) (Some second) = count_places part (places_in first sort) (places_in second sort)

-- the places of a rater on a document
abbrev pub marks_at : List (Option Marks) → ℕ → Option Marks
marks_at marks rater = get_or marks rater None

-- the counts of each two raters change as one document's places do
abbrev pub Moves : ℕ → List Tallies → List Tallies → List (Option Marks) → List (Option Marks) → Type 0
Moves raters old new before after =
    (a b : ℕ) (sort : Sort) (part : Part) → a < b → b < raters → cell raters new a b sort part + met sort part (marks_at before a) (marks_at before b) ≡ cell raters old a b sort part + met sort part (marks_at after a) (marks_at after b)

-- each layer is coherent
abbrev pub AreCoherent : Layers → Type 0
AreCoherent layers = (rater : ℕ) → IfSome (layer_of layers rater) IsCoherent
