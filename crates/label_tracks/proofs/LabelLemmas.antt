-- The labels of tokens, from what was found for each.
use Rattle.std.proofs.Common.{◌≡◌, ℕ, ◌<◌, ◌≤◌, ◌^◌, List, [], ◌∷◌, length, map, get_or, Option, Some, None, refl, ◌∙◌, ap, arith}
use Rattle.std.specs.Option.{option_map_or}
use Rattle.std.specs.List.{range_with_len}
use Rattle.std.specs.FinMap as finite
use Rattle.std.proofs.lemmas.List.{get_or-map, length-map}
use Rattle.mark_base.specs.declared.fragments.Frag.{Frag}
use Rattle.char_documents.specs.Tokens.{tokens_of}
use Rattle.type_hierarchy.specs.declared.type_row.TypeRow.{TypeRow}
use Rattle.layer_model.specs.declared.span.Span.{Span}
use Rattle.layer_model.specs.Annotations.{Annotations}
use Rattle.label_tracks.specs.declared.candidate.Candidate.{Candidate}
use Rattle.label_tracks.specs.Candidates.{first_covering}
use Rattle.label_tracks.specs.Labels.{label_at, labels_of}
use Rattle.label_tracks.specs.Levels.{AreGroups, Grouping, group_at, grouping_of}
use Rattle.label_tracks.specs.Offers.{label_of}
use Rattle.label_tracks.proofs.LevelLemmas.{group_read}
use Rattle.label_tracks.proofs.TokenOrder.{tokens_few}

one_label : (rows : List TypeRow) (level : ℕ) (o : Option Candidate)
    → label_of (map (group_at rows level) (range_with_len 0 (length rows))) o ≡ option_map_or (λ (first : Candidate). group_at rows level first.kind.n) o 0
one_label rows level None = refl
one_label rows level (Some first) = group_read rows level first.kind.n

all_labels : (rows : List TypeRow) (level : ℕ) (spans : List (ℕ × Span)) (tokens : List Frag)
    → map (label_of (map (group_at rows level) (range_with_len 0 (length rows)))) (map (λ (token : Frag). first_covering token.start spans) tokens)
    ≡ map (λ (token : Frag). label_at rows level spans token.start) tokens
all_labels rows level spans [] = refl
all_labels rows level spans (token ∷ tokens) =
    ap (λ x. x ∷ map (label_of (map (group_at rows level) (range_with_len 0 (length rows)))) (map (λ (t : Frag). first_covering t.start spans) tokens)) (one_label rows level (first_covering token.start spans))
    ∙ ap (λ l. label_at rows level spans token.start ∷ l) (all_labels rows level spans tokens)

-- the row is the definition's
pub row_labels : (rows : List TypeRow) (groups : Grouping) (layer : Annotations) (text : List ℕ) (tokens : List Frag) (found : List (Option Candidate)) (labels : List ℕ)
    → groups ≡ grouping_of rows groups.level → tokens ≡ tokens_of text → found ≡ map (λ (token : Frag). first_covering token.start (finite.entries layer.spans)) tokens
    → labels ≡ map (label_of groups.groups) found → labels ≡ labels_of rows groups.level layer text
unfolding grouping_of labels_of
row_labels rows groups layer text tokens found labels of_rows split firsts given =
    given ∙ ap (λ (g : Grouping). map (label_of g.groups) found) of_rows
    ∙ ap (map (label_of (map (group_at rows groups.level) (range_with_len 0 (length rows))))) (firsts ∙ ap (map (λ (token : Frag). first_covering token.start (finite.entries layer.spans))) split)
    ∙ all_labels rows groups.level (finite.entries layer.spans) (tokens_of text)

-- it has a label for each token
pub row_tokens : (text : List ℕ) (tokens : List Frag) (first : Frag → Option Candidate) (found : List (Option Candidate)) (label : Option Candidate → ℕ) (labels : List ℕ)
    → tokens ≡ tokens_of text → found ≡ map first tokens → labels ≡ map label found → length labels ≡ length (tokens_of text)
row_tokens text tokens first found label labels split firsts given =
    ap length given ∙ length-map found label ∙ ap length firsts ∙ length-map tokens first ∙ ap length split

pub row_fits : (text labels : List ℕ) → length text ≤ 200000 → length labels ≡ length (tokens_of text) → length labels < 2 ^ 32
row_fits text labels short same = let few = tokens_few text in omega arith

-- and each is below the width
label_below : (groups : List ℕ) (width : ℕ) → AreGroups groups width → (o : Option Candidate) → label_of groups o < width
label_below groups width kept None = let some = kept.some in omega arith
label_below groups width kept (Some first) = kept.below first.kind.n

pub row_below : (groups : List ℕ) (width : ℕ) (found : List (Option Candidate)) (labels : List ℕ) → AreGroups groups width → labels ≡ map (label_of groups) found
    → (i : ℕ) → i < length labels → get_or labels i 0 < width
row_below groups width found labels kept given i within =
    let near : i < length found = (let same = ap length given in let mapped = length-map found (label_of groups) in omega arith) in
    let read : get_or labels i 0 ≡ label_of groups (get_or found i None) = ap (λ l. get_or l i 0) given ∙ get_or-map (label_of groups) found i None 0 near in
    let small : label_of groups (get_or found i None) < width = label_below groups width kept (get_or found i None) in
    omega arith
