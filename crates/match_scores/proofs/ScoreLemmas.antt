-- One document among all.
use Rattle.std.proofs.Common.{◌≡◌, ℕ, ◌+◌, ◌<◌, ◌≤◌, ◌^◌, List, [], length, length-set, set, sym, ap, ◌∙◌, arith, subst, Option, Result, Ok, Err}
use Rattle.std.specs.Option.{IfSome}
use Rattle.std.specs.Result.{OnErr, OnOk}
use Rattle.std.proofs.lemmas.List.{set-get_or}
use Rattle.layer_model.specs.Annotations.{Annotations}
use Rattle.match_scores.specs.declared.sort.Sort.{Sort}
use Rattle.match_scores.specs.declared.tally.Tallies.{Tallies}
use Rattle.match_scores.specs.Matches.{Part, matched}
use Rattle.match_scores.specs.Standing.{Layers, document_at, layer_of}
use Rattle.match_scores.specs.Places.{IsFew}
use Rattle.match_scores.specs.Counted.{AreFew, AreTotals, Shifts}
use Rattle.match_scores.specs.Tallies.{cell}
use Rattle.match_scores.proofs.TotalLemmas.{few_set, totals_enough, totals_posted, totals_room}

-- what holds of an outcome
pub on_outcome : {X E : Type 0} (A B C : Type 0) (r : Result X E) → OnOk r A → OnErr r B → (A → C) → (B → C) → C
on_outcome A B C (Ok x) a b f g = f a
on_outcome A B C (Err x) a b f g = g b

pub on_both : {X E : Type 0} (A B : Type 0) (r : Result X E) → OnOk r A → OnOk r B → OnOk r (A × B)
on_both A B (Ok x) a b = (a, b)
on_both A B (Err x) a b = tt

pub on_err : {X E : Type 0} (A B : Type 0) (r : Result X E) → OnErr r A → (A → B) → OnErr r B
on_err A B (Ok x) a f = tt
on_err A B (Err x) a f = f a

pub on_ok : {X E : Type 0} (A B : Type 0) (r : Result X E) → OnOk r A → (A → B) → OnOk r B
on_ok A B (Ok x) a f = f a
on_ok A B (Err x) a f = tt

module _ (raters : ℕ) (documents : List Layers) (totals : List Tallies) (are : AreTotals raters documents totals) (d : ℕ) (h : d < length documents) (layers : Layers) (is : layers ≡ document_at documents d) (seen : List Tallies) (value : seen ≡ totals) where
  pub document_long : length layers ≡ raters
  document_long = ap length is ∙ are.whole d h

  few : AreFew layers
  few = let P : Layers → Type 0 = AreFew in subst P (sym is) (are.small d h)

  pub document_enough : (a b : ℕ) (sort : Sort) (part : Part) → a < b → b < raters → matched sort part (layer_of layers a) (layer_of layers b) ≤ cell raters seen a b sort part
  document_enough a b sort part l k =
      let e : matched sort part (layer_of layers a) (layer_of layers b) ≡ matched sort part (layer_of (document_at documents d) a) (layer_of (document_at documents d) b) = ap (λ x. matched sort part (layer_of x a) (layer_of x b)) is in
      let f : cell raters seen a b sort part ≡ cell raters totals a b sort part = ap (λ x. cell raters x a b sort part) value in
      omega (arith, e, f, totals_enough raters documents totals are d h a b sort part l k)

  pub document_room : (rater : ℕ) (o : Option Annotations) → IfSome o IsFew → (a b : ℕ) (sort : Sort) (part : Part) → a < b → b < raters → cell raters seen a b sort part + matched sort part (layer_of (set layers rater o) a) (layer_of (set layers rater o) b) < 2 ^ 64
  document_room rater o small a b sort part l k =
      let f : cell raters seen a b sort part ≡ cell raters totals a b sort part = ap (λ x. cell raters x a b sort part) value in
      omega (arith, f, totals_room raters documents totals are (set layers rater o) (few_set layers rater o few small) a b sort part l k)

  -- a layer came in the place of another, or none did
  after_any : (now : Layers) (written after : List Tallies) → length now ≡ raters → AreFew now → length written ≡ length seen → after ≡ written → Shifts raters seen written layers now → AreTotals raters (set documents d now) after
  after_any now written after long small same e shifts =
      let P : List Tallies → Type 0 = λ t. AreTotals raters (set documents d now) t in
      let S : List Tallies → Type 0 = λ t. Shifts raters t written layers now in
      let T : Layers → Type 0 = λ l. Shifts raters totals written l now in
      subst P (sym e) (totals_posted raters documents totals are d h written now long small (same ∙ ap length value) (subst T is (subst S value shifts)))

  pub after_set : (rater : ℕ) (o : Option Annotations) → IfSome o IsFew → (now : Layers) (written after : List Tallies) → now ≡ set layers rater o → length written ≡ length seen → after ≡ written → Shifts raters seen written layers now → AreTotals raters (set documents d now) after
  after_set rater o small now written after e same f shifts =
      let P : Layers → Type 0 = AreFew in
      after_any now written after (ap length e ∙ length-set layers rater o ∙ document_long) (subst P (sym e) (few_set layers rater o few small)) same f shifts

  pub after_same : (now : Layers) (written after : List Tallies) → now ≡ layers → length written ≡ length seen → after ≡ written → Shifts raters seen written layers now → AreTotals raters (set documents d now) after
  after_same now written after e same f shifts =
      let P : Layers → Type 0 = AreFew in
      after_any now written after (ap length e ∙ document_long) (subst P (sym e) few) same f shifts

  pub same_documents : (now : Layers) → now ≡ layers → set documents d now ≡ documents
  same_documents now e = ap (set documents d) (e ∙ is) ∙ set-get_or documents d []
