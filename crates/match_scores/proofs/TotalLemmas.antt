-- The counts of each two raters are those of a recount.
use Rattle.std.proofs.Common.{◌≡◌, ℕ, ◌+◌, ◌<◌, ◌≤◌, ◌^◌, not, List, [], ◌∷◌, ◌++◌, length, length-set, get_or, set, replicate, sym, ap, ◌∙◌, arith, subst, inl, inr, Option, Some, None}
use Rattle.std.specs.List.{sum_by}
use Rattle.std.specs.Option.{IfSome}
use Rattle.std.proofs.lemmas.List.{get_or-set_same, get_or-set_other, get_or_append_left, get_or_push, length_push, length-replicate, get_or-replicate, get_or_past, set_past}
use Rattle.std.proofs.lemmas.List.Elements.{All-from_get_or}
use Rattle.std.proofs.lemmas.List.Sums.{get_or-le-sum_by, sum_by-le, sum_by-set, sum_by_push, count_by-le-length}
use Rattle.std.proofs.lemmas.Bool.{cases_eq, cases_lt}
use Rattle.layer_model.specs.Annotations.{Annotations}
use Rattle.match_scores.specs.declared.sort.Sort.{Sort}
use Rattle.match_scores.specs.declared.tally.Tallies.{Tallies}
use Rattle.match_scores.specs.Matches.{Part, Both, FirstOnly, SecondOnly, contents_of_sort, count_alone, count_shared, matched, stands_in}
use Rattle.match_scores.specs.Standing.{Layers, document_at, layer_of, total_of}
use Rattle.match_scores.specs.Places.{IsFew}
use Rattle.match_scores.specs.Counted.{AreFew, AreTotals, Shifts}
use Rattle.match_scores.specs.Tallies.{IsSquare, cell}
use Rattle.match_scores.proofs.PlaceLemmas.{sort_few}

-- ---- a count of two layers is small

count_small : (l m : Annotations) (sort : Sort) (part : Part) → IsFew l → IsFew m → matched sort part (Some l) (Some m) ≤ 2 ^ 40
unfolding matched count_shared count_alone IsFew
count_small l m sort Both few few' = omega (arith, few, count_by-le-length (λ c. stands_in (contents_of_sort m sort) c) (contents_of_sort l sort), sort_few l sort)
count_small l m sort FirstOnly few few' = omega (arith, few, count_by-le-length (λ c. not (stands_in (contents_of_sort m sort) c)) (contents_of_sort l sort), sort_few l sort)
count_small l m sort SecondOnly few few' = omega (arith, few', count_by-le-length (λ c. not (stands_in (contents_of_sort l sort) c)) (contents_of_sort m sort), sort_few m sort)

pub matched_small : (sort : Sort) (part : Part) (o p : Option Annotations) → IfSome o IsFew → IfSome p IsFew → matched sort part o p ≤ 2 ^ 40
unfolding matched
matched_small sort part None p h k = omega arith
matched_small sort part (Some l) None h k = omega arith
matched_small sort part (Some l) (Some m) h k = count_small l m sort part h k

-- few stay few where one layer comes that is few
pub few_set : (layers : Layers) (rater : ℕ) (o : Option Annotations) → AreFew layers → IfSome o IsFew → AreFew (set layers rater o)
few_set layers rater o few here = λ k.
    let P : Option Annotations → Type 0 = λ p. IfSome p IsFew in
    elim (cases_eq k rater) [
      | inl e ↦ elim (cases_lt rater (length layers)) [
        | inl h ↦ subst P (sym (ap (λ j. get_or (set layers rater o) j None) e ∙ get_or-set_same layers rater o None h)) here
        | inr h ↦ subst P (sym (ap (λ l. get_or l k None) (set_past layers rater o h))) (few k)
      ]
      | inr ne ↦ subst P (sym (get_or-set_other layers rater k o None ne)) (few k)
    ]

pub total_small : (raters : ℕ) (documents : List Layers) (totals : List Tallies) → AreTotals raters documents totals → (a b : ℕ) (sort : Sort) (part : Part) → total_of documents a b sort part ≤ 2 ^ 52
unfolding total_of
total_small raters documents totals are a b sort part =
    let f : Layers → ℕ = λ layers. matched sort part (layer_of layers a) (layer_of layers b) in
    let each = sum_by-le f (2 ^ 40) documents (All-from_get_or (λ layers. f layers ≤ 2 ^ 40) documents [] (λ d h. matched_small sort part (layer_of (document_at documents d) a) (layer_of (document_at documents d) b) (are.small d h a) (are.small d h b))) in
    omega (arith, are.few)

-- ---- before a document changes

pub totals_enough : (raters : ℕ) (documents : List Layers) (totals : List Tallies) → AreTotals raters documents totals → (d : ℕ) → d < length documents → (a b : ℕ) (sort : Sort) (part : Part) → a < b → b < raters → matched sort part (layer_of (document_at documents d) a) (layer_of (document_at documents d) b) ≤ cell raters totals a b sort part
unfolding total_of
totals_enough raters documents totals are d h a b sort part hab hb =
    let f : Layers → ℕ = λ layers. matched sort part (layer_of layers a) (layer_of layers b) in
    let part_of_all : f (document_at documents d) ≤ sum_by f documents = get_or-le-sum_by f documents d [] h in
    let recount : cell raters totals a b sort part ≡ sum_by f documents = are.recount a b sort part hab hb in
    omega arith

pub totals_room : (raters : ℕ) (documents : List Layers) (totals : List Tallies) → AreTotals raters documents totals → (layers : Layers) → AreFew layers → (a b : ℕ) (sort : Sort) (part : Part) → a < b → b < raters → cell raters totals a b sort part + matched sort part (layer_of layers a) (layer_of layers b) < 2 ^ 64
totals_room raters documents totals are layers few a b sort part hab hb =
    omega (arith, are.recount a b sort part hab hb, total_small raters documents totals are a b sort part, matched_small sort part (layer_of layers a) (layer_of layers b) (few a) (few b))

-- ---- after it has

pub totals_posted : (raters : ℕ) (documents : List Layers) (totals : List Tallies) → AreTotals raters documents totals → (d : ℕ) → d < length documents → (after : List Tallies) (layers : Layers) → length layers ≡ raters → AreFew layers → length after ≡ length totals → Shifts raters totals after (document_at documents d) layers → AreTotals raters (set documents d layers) after
unfolding total_of
totals_posted raters documents totals are d h after layers long few same shifts = record {
  raters_few = are.raters_few;
  few = rw (length-set documents d layers) are.few;
  whole = λ k l.
      let inside : k < length documents = omega (arith, length-set documents d layers) in
      elim (cases_eq k d) [
        | inl e ↦ rw (e, get_or-set_same documents d layers [] h) long
        | inr ne ↦ rw (get_or-set_other documents d k layers [] ne) (are.whole k inside)
      ];
  small = λ k l.
      let inside : k < length documents = omega (arith, length-set documents d layers) in
      elim (cases_eq k d) [
        | inl e ↦ rw (e, get_or-set_same documents d layers [] h) few
        | inr ne ↦ rw (get_or-set_other documents d k layers [] ne) (are.small k inside)
      ];
  square = same ∙ are.square;
  recount = λ a b sort part hab hb.
      let f : Layers → ℕ = λ layers. matched sort part (layer_of layers a) (layer_of layers b) in
      let sums : sum_by f (set documents d layers) + f (document_at documents d) ≡ sum_by f documents + f layers = sum_by-set f documents d layers [] h in
      let moved : cell raters after a b sort part + f (document_at documents d) ≡ cell raters totals a b sort part + f layers = shifts a b sort part hab hb in
      let recount : cell raters totals a b sort part ≡ sum_by f documents = are.recount a b sort part hab hb in
      omega arith;
}

-- ---- the beginning, and one document more

pub totals_none : (raters : ℕ) (totals : List Tallies) → raters ≤ 16 → IsSquare raters totals → ((a b : ℕ) (sort : Sort) (part : Part) → cell raters totals a b sort part ≡ 0) → AreTotals raters [] totals
unfolding total_of
totals_none raters totals few square empty = record {
  raters_few = few;
  few = omega arith;
  whole = λ d h. absurd (omega arith);
  small = λ d h. absurd (omega arith);
  square = square;
  recount = λ a b sort part hab hb. empty a b sort part;
}

-- no layer stands on a document that is new
vacant_at : (raters a : ℕ) → layer_of (replicate raters None) a ≡ None
vacant_at raters a =
    elim (cases_lt a raters) [
      | inl h ↦ get_or-replicate raters a None None h
      | inr h ↦ get_or_past (replicate raters None) a None (omega (arith, length-replicate {A = Option Annotations} raters None))
    ]

few_vacant : (raters : ℕ) → AreFew (replicate raters None)
few_vacant raters = λ k. let P : Option Annotations → Type 0 = λ p. IfSome p IsFew in subst P (sym (vacant_at raters k)) tt

pub totals_admitted : (raters : ℕ) (documents : List Layers) (totals : List Tallies) → AreTotals raters documents totals → length documents < 4096 → AreTotals raters (documents ++ replicate raters None ∷ []) totals
unfolding total_of matched
totals_admitted raters documents totals are room =
    let new : Layers = replicate raters None in
    let long : length (documents ++ new ∷ []) ≡ length documents + 1 = length_push documents new in
    record {
      raters_few = are.raters_few;
      few = omega arith;
      whole = λ k l.
          elim (cases_lt k (length documents)) [
            | inl h ↦ rw (get_or_append_left documents (new ∷ []) [] k h) (are.whole k h)
            | inr h ↦
                let e : length documents ≡ k = omega arith in
                rw (get_or_push documents new [] k e) (length-replicate {A = Option Annotations} raters None)
          ];
      small = λ k l.
          let P : Layers → Type 0 = AreFew in
          elim (cases_lt k (length documents)) [
            | inl h ↦ subst P (sym (get_or_append_left documents (new ∷ []) [] k h)) (are.small k h)
            | inr h ↦
                let e : length documents ≡ k = omega arith in
                subst P (sym (get_or_push documents new [] k e)) (few_vacant raters)
          ];
      square = are.square;
      recount = λ a b sort part hab hb.
          let f : Layers → ℕ = λ layers. matched sort part (layer_of layers a) (layer_of layers b) in
          let sums : sum_by f (documents ++ new ∷ []) ≡ sum_by f documents + f new = sum_by_push f documents new in
          let none : f new ≡ 0 = ap (λ o. matched sort part o (layer_of new b)) (vacant_at raters a) in
          let recount : cell raters totals a b sort part ≡ sum_by f documents = are.recount a b sort part hab hb in
          omega arith;
    }
