-- Tables of contents: each content once, by a place from 0, behind those that it names.
use Rattle.std.specs.Prelude.{◌≡◌, ◌≢◌, ◌⊎◌, ℕ, ◌+◌, ◌*◌, ◌<◌, ◌≤◌, List, [], ◌∷◌, ◌++◌, map, length, take, slice_index, slice_index_or, Option, MatchOption}
use Rattle.std.specs.Ordering.{nat_cmp}
use Rattle.std.specs.Cmp.Lexicographic.{slice_cmp}
use Rattle.std.specs.BTreeMap.{BTreeMap, get}
use Rattle.content_keys.specs.Numbers.{sorted}
use Rattle.content_keys.specs.Nodes.{Node, Names, number}

-- the numbers of contents, each of which names earlier ones by their places, behind those of earlier ones
abbrev pub values_from : List ℕ → List (Node ℕ) → List ℕ
values_from vs [] = vs
values_from vs (s ∷ ss) = values_from (vs ++ number (slice_index vs) s ∷ []) ss

-- the numbers of the contents of a table
abbrev pub values : List (Node ℕ) → List ℕ
values ss = values_from [] ss

-- pairs of role and place ascend where these do
abbrev pub link_rank : ℕ × ℕ → ℕ
link_rank p = p.0 * 4294967296 + p.1

-- each content names earlier ones, its bag ascends, and no two are the same
pub record IsTable (ss : List (Node ℕ)) : Type 0 where
  pub short : length ss ≤ 4294967296
  pub below : (i x : ℕ) (d : Node ℕ) → i < length ss → Names x (slice_index_or ss i d) → x < i
  pub rising : (i : ℕ) (d : Node ℕ) → i < length ss → sorted (map link_rank (slice_index_or ss i d).bag) ≡ map link_rank (slice_index_or ss i d).bag
  pub distinct : (i j : ℕ) (d : Node ℕ) → i < length ss → j < length ss → slice_index_or ss i d ≡ slice_index_or ss j d → i ≡ j

-- the place of a number, or that it is nowhere
abbrev pub IsPlace : List ℕ → ℕ → Option ℕ → Type 0
IsPlace vs v o = MatchOption o ((j : ℕ) → j < length vs → slice_index vs j ≢ v) (λ j. (j < length vs) × (slice_index vs j ≡ v))

-- roles and places as one list of numbers
abbrev pub links : List (ℕ × ℕ) → List ℕ
links [] = []
links (p ∷ ps) = p.0 ∷ p.1 ∷ links ps

-- a content as one list of numbers, its word
abbrev pub flat : Node ℕ → List ℕ
flat s = length s.own ∷ [] ++ s.own ++ length s.named ∷ [] ++ s.named ++ links s.bag

-- where a content stands in a table, or that it does not
abbrev pub IsAt : List (Node ℕ) → Node ℕ → Option ℕ → Type 0
IsAt ss s o = MatchOption o ((j : ℕ) (d : Node ℕ) → j < length ss → slice_index_or ss j d ≢ s) (λ j. (j < length ss) × ((d : Node ℕ) → slice_index_or ss j d ≡ s))

-- where the content of a word stands in a table, or that it does not
abbrev pub IsWordAt : List (Node ℕ) → List ℕ → Option ℕ → Type 0
IsWordAt ss w o = MatchOption o ((j : ℕ) (d : Node ℕ) → j < length ss → flat (slice_index_or ss j d) ≢ w) (λ j. (j < length ss) × ((d : Node ℕ) → flat (slice_index_or ss j d) ≡ w))

-- the map finds each content of the table by its word
pub record IsIndexed (ss : List (Node ℕ)) (m : BTreeMap (List ℕ) ℕ) : Type 0 where
  pub table : IsTable ss
  pub finds : (w : List ℕ) → IsWordAt ss w (get (slice_cmp nat_cmp) m w)

-- a content may be added to a table
pub record MayAdd (ss : List (Node ℕ)) (s : Node ℕ) : Type 0 where
  pub room : length ss < 4294967295
  pub below : (x : ℕ) → Names x s → x < length ss
  pub rising : sorted (map link_rank s.bag) ≡ map link_rank s.bag

-- the second list begins with the first
abbrev pub Starts : {X : Type 0} → List X → List X → Type 0
Starts old new = take (length old) new ≡ old

-- the table with a content behind it where it was not there, which stands at a place
pub record IsAdded (ss : List (Node ℕ)) (s : Node ℕ) (t : List (Node ℕ)) (i : ℕ) : Type 0 where
  pub grows : (t ≡ ss) ⊎ (t ≡ ss ++ s ∷ [])
  pub within : i < length t
  pub here : (d : Node ℕ) → slice_index_or t i d ≡ s

-- of the contents that the second list has behind those of the first, each passes
abbrev pub AddsOnly : (ℕ → Type 0) → List ℕ → List ℕ → Type 0
AddsOnly P old new = (place : ℕ) → length old ≤ place → place < length new → P (slice_index new place)
