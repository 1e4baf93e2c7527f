-- Exact matches: which annotations two layers have in common, whatever their IDs.
use Rattle.std.specs.Prelude.{ℕ, Bool, true, false, not, ◌==◌, List, map, filter, count_by, Option, Some, None}
use Rattle.std.specs.List.{list_any}
use Rattle.mark_base.specs.declared.ann_id.Kind.{Kind}
use Rattle.mark_base.specs.declared.ann_id.Kind.TheVariants as letter
use Rattle.layer_model.specs.Annotations.{Annotations}
use Rattle.content_keys.specs.LayerContents.{contents_of}
use Rattle.match_scores.specs.declared.sort.Sort.{Sort}
use Rattle.match_scores.specs.declared.sort.Sort.TheVariants.{Spans, Events, Relations}

-- the annotations of a sort by the letter of their IDs: T a span, E an event, R a relation (brat standoff manual)
abbrev pub is_of_sort : Sort → Kind → Bool
is_of_sort Spans letter.Text = true
is_of_sort Events letter.Event = true
is_of_sort Relations letter.Relation = true
is_of_sort sort kind = false

-- the contents of the annotations of a sort in a layer
unfoldable pub contents_of_sort : Annotations → Sort → List ℕ
contents_of_sort layer sort = map (λ entry. entry.1) (filter (λ entry. is_of_sort sort entry.0.kind) (contents_of layer))

-- a content stands among others
unfoldable pub stands_in : List ℕ → ℕ → Bool
stands_in others content = list_any (λ other. other == content) others

-- how many of these contents also stand among the others
unfoldable pub count_shared : List ℕ → List ℕ → ℕ
count_shared contents others = count_by (λ content. stands_in others content) contents

-- how many of these contents do not stand among the others
unfoldable pub count_alone : List ℕ → List ℕ → ℕ
count_alone contents others = count_by (λ content. not (stands_in others content)) contents

-- what is counted of two layers: what both have, what the first has alone, and what the second has alone
pub data Part : Type 0 where
  Both : Part
  FirstOnly : Part
  SecondOnly : Part

-- the count of two lists of contents
abbrev pub count_part : Part → List ℕ → List ℕ → ℕ
count_part Both first second = count_shared first second
count_part FirstOnly first second = count_alone first second
count_part SecondOnly first second = count_alone second first

-- the count of two layers of one document: nothing where one of them is not there
unfoldable pub matched : Sort → Part → Option Annotations → Option Annotations → ℕ
matched sort part None second = 0
matched sort part (Some first) None = 0
matched sort part (Some first) (Some second) = count_part part (contents_of_sort first sort) (contents_of_sort second sort)
