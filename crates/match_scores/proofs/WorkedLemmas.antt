-- The lines of small layers, computed.
use Rattle.std.proofs.Common.{◌≡◌, ℕ, ◌+◌, List, [], ◌++◌, map, Option, None, ap}
use Rattle.std.specs.Prelude.{option_map}
use Rattle.std.specs.List.{filter}
use Rattle.std.specs.Ordering.{nat_cmp}
use Rattle.std.specs.FinMap as finite
use lib.Dec.{T}
use Rattle.mark_base.specs.declared.ann_id.AnnId.{AnnId}
use Rattle.mark_base.specs.declared.ann_id.Kind.{Kind}
use Rattle.mark_base.specs.declared.ann_id.Kind.TheVariants as letter
use Rattle.mark_base.specs.ReadIds.{id_at}
use Rattle.layer_model.specs.declared.span.Span.{Span}
use Rattle.layer_model.specs.declared.event.Event.{Event}
use Rattle.layer_model.specs.declared.relation.Relation.{Relation}
use Rattle.layer_model.specs.declared.attribute.Attribute.{Attribute}
use Rattle.layer_model.specs.declared.normal.Normal.{Normal}
use Rattle.layer_model.specs.declared.mark.Mark.{Mark}
use Rattle.layer_model.specs.declared.mark.Mark.TheVariants as marked
use Rattle.layer_model.specs.Layers.{mark_of}
use Rattle.content_keys.specs.LayerContents.{content_in}
use Rattle.match_scores.specs.declared.sort.Sort.{Sort}
use Rattle.match_scores.specs.Matches.{Both, FirstOnly, SecondOnly, contents_of_sort, count_part, is_of_sort, matched}
use Rattle.match_scores.specs.Standing.{line_of, line_with, total_of}
use Rattle.match_scores.specs.WorkedLayers.{ann_events, ann_spans, bob_events, bob_spans, layer_with, two_layers}

-- the marks of a layer of spans and events
abbrev mark_in : List (ℕ × Span) → List (ℕ × Event) → Kind → ℕ → Option Mark
mark_in spans events letter.Text n = option_map marked.Span (finite.find nat_cmp n spans)
mark_in spans events letter.Event n = option_map marked.Event (finite.find nat_cmp n events)
mark_in spans events kind n = None

-- its IDs
abbrev ids_in : List (ℕ × Span) → List (ℕ × Event) → List AnnId
ids_in spans events = map (id_at letter.Text) (map (λ e. e.0) spans) ++ (map (id_at letter.Event) (map (λ e. e.0) events) ++ [])

-- its contents of a sort
abbrev plain : List (ℕ × Span) → List (ℕ × Event) → Sort → List ℕ
plain spans events sort =
    map (λ (e : AnnId × ℕ). e.1) (filter (λ (e : AnnId × ℕ). is_of_sort sort e.0.kind) (map (λ id. (id, content_in (λ x. mark_in spans events x.kind x.number) id)) (ids_in spans events)))

module _ (spans : List (ℕ × Span)) (events : List (ℕ × Event)) (rise : T (finite.is_sorted nat_cmp spans)) (rise' : T (finite.is_sorted nat_cmp events)) where
  mark_is : (kind : Kind) (n : ℕ) → mark_of (layer_with spans events) kind n ≡ mark_in spans events kind n
  mark_is letter.Text n = ap (option_map marked.Span) (finite.get-from_sorted nat_cmp spans n rise)
  mark_is letter.Event n = ap (option_map marked.Event) (finite.get-from_sorted nat_cmp events n rise')
  mark_is letter.Relation n = ap (option_map marked.Relation) (finite.get-from_sorted nat_cmp [] n tt)
  mark_is letter.Attribute n = ap (option_map marked.Attribute) (finite.get-from_sorted nat_cmp [] n tt)
  mark_is letter.Legacy n = ap (option_map marked.Attribute) (finite.get-from_sorted nat_cmp [] n tt)
  mark_is letter.Normal n = ap (option_map marked.Normal) (finite.get-from_sorted nat_cmp [] n tt)
  mark_is letter.Note n = ap (option_map marked.Note) (finite.get-from_sorted nat_cmp [] n tt)

  plain_is : (sort : Sort) → contents_of_sort (layer_with spans events) sort ≡ plain spans events sort
  unfolding contents_of_sort
  plain_is sort = λ i.
      map (λ (e : AnnId × ℕ). e.1) (filter (λ (e : AnnId × ℕ). is_of_sort sort e.0.kind) (map (λ id. (id, content_in (λ x. mark_is x.kind x.number i) id))
      (map (id_at letter.Text) (map (λ e. e.0) (finite.entries-from_sorted nat_cmp spans rise i))
      ++ (map (id_at letter.Event) (map (λ e. e.0) (finite.entries-from_sorted nat_cmp events rise' i))
      ++ (map (id_at letter.Relation) (map (λ e. e.0) (finite.entries-from_sorted {X = Relation} nat_cmp [] tt i))
      ++ (map (id_at letter.Attribute) (map (λ e. e.0) (finite.entries-from_sorted {X = Attribute} nat_cmp [] tt i))
      ++ (map (id_at letter.Legacy) (map (λ e. e.0) (finite.entries-from_sorted {X = Attribute} nat_cmp [] tt i))
      ++ (map (id_at letter.Normal) (map (λ e. e.0) (finite.entries-from_sorted {X = Normal} nat_cmp [] tt i)) ++ []))))))))

-- the line of the first two annotators, by plain contents
pub line_is : (sort : Sort) → line_of two_layers 0 1 sort ≡ line_with (0 + count_part Both (plain ann_spans ann_events sort) (plain bob_spans bob_events sort)) (0 + count_part FirstOnly (plain ann_spans ann_events sort) (plain bob_spans bob_events sort)) (0 + count_part SecondOnly (plain ann_spans ann_events sort) (plain bob_spans bob_events sort))
unfolding total_of matched
line_is sort = λ i.
    line_with (0 + count_part Both (plain_is ann_spans ann_events tt tt sort i) (plain_is bob_spans bob_events tt tt sort i))
    (0 + count_part FirstOnly (plain_is ann_spans ann_events tt tt sort i) (plain_is bob_spans bob_events tt tt sort i))
    (0 + count_part SecondOnly (plain_is ann_spans ann_events tt tt sort i) (plain_is bob_spans bob_events tt tt sort i))
