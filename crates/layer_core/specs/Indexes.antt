-- The index of a layer: who names whom, and where spans lie (private calls only).
use Rattle.std.specs.Prelude.{◌≡◌, ℕ, ◌/◌, ◌%◌, ◌==◌, ◌&&◌, not, Bool, true, false, if◌then◌else◌, List, [], ◌∷◌, Option, Some, None, option_map}
use Rattle.std.specs.Option.{option_map_or}
use Rattle.std.specs.List.{list_any, flat_map}
use Rattle.std.specs.Ordering.{nat_cmp, ordering_then}
use Rattle.std.specs.declared.cmp.Ordering.{Ordering}
use Rattle.std.specs.BTreeSet.{BTreeSet, contains}
use Rattle.std.specs.FinMap as finite
use Rattle.mark_base.specs.declared.ann_id.AnnId.{AnnId}
use Rattle.mark_base.specs.declared.ann_id.Kind.{Kind}
use Rattle.mark_base.specs.declared.ann_id.Kind.TheVariants as letter
use Rattle.mark_base.specs.declared.fragments.Frag.{Frag}
use Rattle.mark_base.specs.ReadIds.{id_at}
use Rattle.overlap_rules.specs.TouchingSpans.{Held}
use Rattle.layer_model.specs.Annotations.{Annotations}
use Rattle.layer_model.specs.Classes.{rank}
use Rattle.layer_model.specs.Layers.{mark_at}
use Rattle.layer_rules.specs.LayerRules.{is_id}
use Rattle.layer_rules.specs.MarkRules.{named_by}
use Rattle.layer_core.specs.declared.index.Index.{Index}
use Rattle.layer_core.specs.CommandRules.{is_span_letter}
use Rattle.layer_core.specs.Namers.{is_but, names_it}

-- ---- the ID of a place among all IDs

-- the letter of a place among T, E, R, A, M, N and #
abbrev pub letter_at : ℕ → Option Kind
letter_at place =
    if place == 0 then Some letter.Text else if place == 1 then Some letter.Event else if place == 2 then Some letter.Relation else if place == 3 then Some letter.Attribute
    else if place == 4 then Some letter.Legacy else if place == 5 then Some letter.Normal else if place == 6 then Some letter.Note else None

-- the ID of a place, where it is one of an ID
abbrev pub id_of_place : ℕ → Option AnnId
id_of_place place = option_map (λ kind. id_at kind (place % 1000000000)) (letter_at (place / 1000000000))

-- ---- who names whom

-- pairs of places: of what is named, and of what names it
abbrev pub Pairs : Type 0
Pairs = BTreeSet (ℕ × ℕ)

-- the order of pairs: by what is named, then by what names it
abbrev pub pair_cmp : ℕ × ℕ → ℕ × ℕ → Ordering
pair_cmp a b = ordering_then (nat_cmp a.0 b.0) (nat_cmp a.1 b.1)

-- a pair is among these
abbrev pub has_pair : Pairs → ℕ → ℕ → Bool
has_pair pairs named namer = contains pair_cmp pairs (named, namer)

-- what was a pair still is
abbrev pub KeepsPairs : Pairs → Pairs → Type 0
KeepsPairs before after = (named namer : ℕ) → has_pair before named namer ≡ true → has_pair after named namer ≡ true

-- what was a pair still is, but for those of one that names
abbrev pub KeepsOthers : ℕ → Pairs → Pairs → Type 0
KeepsOthers gone before after = (named namer : ℕ) → (namer ≡ gone → ⊥) → has_pair before named namer ≡ true → has_pair after named namer ≡ true

-- each of some IDs makes a pair with the place of what names it
abbrev pub HasPairs : Pairs → ℕ → List AnnId → Type 0
HasPairs pairs namer ids = (id : AnnId) → list_any (is_id id) ids ≡ true → has_pair pairs (rank id) namer ≡ true

-- the IDs that the annotation of an ID names, where it is there
abbrev pub named_at : Annotations → AnnId → List AnnId
named_at layer id = option_map_or named_by (mark_at layer id) []

-- each annotation, but the one that is left out, makes a pair with each ID that it names; there may be other pairs
abbrev pub HoldsNamers : Option AnnId → Annotations → Pairs → Type 0
HoldsNamers but layer pairs = (id other : AnnId) → is_but but other ≡ false → names_it layer id other ≡ true → has_pair pairs (rank id) (rank other) ≡ true

-- an annotation is not the one that is left out, and names the one of an ID
abbrev pub is_namer : Option AnnId → Annotations → AnnId → AnnId → Bool
is_namer but layer id other = not (is_but but other) && names_it layer id other

-- the annotation of a place, where it names the one of an ID
abbrev pub namer_at : Option AnnId → Annotations → AnnId → ℕ → List AnnId
namer_at but layer id place = option_map_or (λ other. if is_namer but layer id other then other ∷ [] else []) (id_of_place place) []

-- those of the places in some pairs
abbrev pub namers_among : Option AnnId → Annotations → AnnId → List (ℕ × ℕ) → List AnnId
namers_among but layer id pairs = flat_map (λ pair. namer_at but layer id pair.1) pairs

-- ---- where spans lie

-- the fragments of the span of a number
abbrev pub frags_at : Annotations → ℕ → Option (List Frag)
frags_at layer number = option_map (λ span. span.frags) (finite.get layer.spans number)

-- the spans of the layer and no others are held
abbrev pub HoldsSpans : Annotations → Held → Type 0
HoldsSpans layer held = (number : ℕ) → finite.get held number ≡ frags_at layer number

-- a number is that of the span that is left out, where one is
abbrev pub is_but_span : Option AnnId → ℕ → Bool
is_but_span but number = option_map_or (λ id. is_span_letter id.kind && id.number == number) but false

-- a span that changed is held as it stands in the layer now, and the others are as before
abbrev pub HoldsAgain : Annotations → AnnId → Held → Held → Type 0
HoldsAgain layer changed before after =
    (number : ℕ) → finite.get after number ≡ (if is_but_span (Some changed) number then frags_at layer number else finite.get before number)

-- the index of a layer, as far as it does not speak of the annotation that is left out
pub record IsIndex (but : Option AnnId) (layer : Annotations) (index : Index) : Type 0 where
  pub namers : HoldsNamers but layer index.namers
  pub spans : (number : ℕ) → is_but_span but number ≡ false → finite.get index.spans number ≡ frags_at layer number
