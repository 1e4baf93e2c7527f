-- A layer on a document goes, and another comes.
use Rattle.std.proofs.Common.{◌≡◌, ℕ, ◌+◌, ◌<◌, ◌≤◌, ◌^◌, List, length, length-set, set, sym, ap, ◌∙◌, arith, subst, Option}
use Rattle.layer_model.specs.Annotations.{Annotations}
use Rattle.match_scores.specs.declared.sort.Sort.{Sort}
use Rattle.match_scores.specs.declared.layer_in_table.Marks.{Marks}
use Rattle.match_scores.specs.declared.tally.Tallies.{Tallies}
use Rattle.match_scores.specs.Matches.{Part, matched}
use Rattle.match_scores.specs.Standing.{Layers, layer_of}
use Rattle.match_scores.specs.Places.{AreMarked, IsMarked, Moves, marks_at, met}
use Rattle.match_scores.specs.Counted.{Shifts}
use Rattle.match_scores.specs.Tallies.{cell}
use Rattle.match_scores.proofs.PlaceLemmas.{Differ}
use Rattle.match_scores.proofs.MarkLemmas.{marked_set, met_at, moves_shift}

-- equal lists have equal places
pub marked_same : (table : List ℕ) (l k : Layers) (m n : List (Option Marks)) → k ≡ l → n ≡ m → AreMarked table l m → AreMarked table k n
marked_same table l k m n e f are =
    let P : Layers → Type 0 = λ j. AreMarked table j n in
    let Q : List (Option Marks) → Type 0 = λ j. AreMarked table l j in
    subst P (sym e) (subst Q (sym f) are)

module _ (table : List ℕ) (differ : Differ table) (raters : ℕ) (layers before : Layers) (marks seen : List (Option Marks)) (are : AreMarked table layers marks) (same : layers ≡ before) (value : seen ≡ marks) (long : length before ≡ raters) where
  length_is : length layers ≡ raters
  length_is = ap length same ∙ long

  pub seat_enough : (totals : List Tallies) → ((a b : ℕ) (sort : Sort) (part : Part) → a < b → b < raters → matched sort part (layer_of before a) (layer_of before b) ≤ cell raters totals a b sort part) → (a b : ℕ) (sort : Sort) (part : Part) → a < b → b < raters → met sort part (marks_at seen a) (marks_at seen b) ≤ cell raters totals a b sort part
  seat_enough totals enough a b sort part h k =
      let l : length layers ≡ raters = length_is in
      let ha : a < length layers = omega arith in
      let hb : b < length layers = omega arith in
      let e : met sort part (marks_at seen a) (marks_at seen b) ≡ matched sort part (layer_of before a) (layer_of before b) =
      ap (λ l. met sort part (marks_at l a) (marks_at l b)) value ∙ met_at table differ layers marks are a b sort part ha hb ∙ ap (λ l. matched sort part (layer_of l a) (layer_of l b)) same in
      omega (arith, e, enough a b sort part h k)

  module _ (rater : ℕ) (o : Option Annotations) (m : Option Marks) (inside : rater < raters) (here : IsMarked table o m) where
    pub will : AreMarked table (set layers rater o) (set marks rater m)
    will = let l : length layers ≡ raters = length_is in marked_set table layers marks rater o m are (omega arith) here

    pub seat_room : (totals : List Tallies) → ((a b : ℕ) (sort : Sort) (part : Part) → a < b → b < raters → cell raters totals a b sort part + matched sort part (layer_of (set before rater o) a) (layer_of (set before rater o) b) < 2 ^ 64) → (a b : ℕ) (sort : Sort) (part : Part) → a < b → b < raters → cell raters totals a b sort part + met sort part (marks_at (set seen rater m) a) (marks_at (set seen rater m) b) < 2 ^ 64
    seat_room totals room a b sort part h k =
        let l : length (set layers rater o) ≡ raters = length-set layers rater o ∙ length_is in
        let ha : a < length (set layers rater o) = omega arith in
        let hb : b < length (set layers rater o) = omega arith in
        let e : met sort part (marks_at (set seen rater m) a) (marks_at (set seen rater m) b) ≡ matched sort part (layer_of (set before rater o) a) (layer_of (set before rater o) b) =
        ap (λ l. met sort part (marks_at (set l rater m) a) (marks_at (set l rater m) b)) value
        ∙ met_at table differ (set layers rater o) (set marks rater m) will a b sort part ha hb
        ∙ ap (λ l. matched sort part (layer_of (set l rater o) a) (layer_of (set l rater o) b)) same in
        omega (arith, e, room a b sort part h k)

    pub seat_shifts : (old new : List Tallies) (now : List (Option Marks)) (after : Layers) → now ≡ set seen rater m → after ≡ set layers rater o → Moves raters old new seen now → Shifts raters old new before after
    seat_shifts old new now after e f moves =
        let M : List (Option Marks) → Type 0 = λ l. Moves raters old new l now in
        let N : List (Option Marks) → Type 0 = λ l. Moves raters old new marks l in
        let moved : Moves raters old new marks (set marks rater m) = subst N (e ∙ ap (λ l. set l rater m) value) (subst M value moves) in
        let P : Layers → Type 0 = λ l. Shifts raters old new l after in
        let Q : Layers → Type 0 = λ l. Shifts raters old new layers l in
        subst P same (subst Q (sym f) (moves_shift table differ raters old new layers (set layers rater o) marks (set marks rater m) are will length_is (length-set layers rater o ∙ length_is) moved))
