-- Verdicts that are set and taken back, and lists that are known by their verdicts.
use Rattle.std.proofs.Common.{◌≡◌, ◌≢◌, ℕ, ◌+◌, ◌*◌, ◌<◌, ◌≤◌, ◌==◌, true, false, not, if◌then◌else◌, cond, List, [], ◌∷◌, map, filter, refl, sym, ◌∙◌, ap, eq-eqb, ne_eqb, Option, Some, None, inl, inr, arith}
use Rattle.std.proofs.lemmas.Bool.Decides.{eqb_tells}
use Rattle.std.specs.List.{AllByRecursion, filter_map}
use Rattle.std.specs.List.Sorted.{IsStrictlySortedBy}
use Rattle.std.specs.Ordering.{nat_cmp, match_ordering}
use Rattle.std.specs.Cmp.{ranked}
use Rattle.std.specs.declared.cmp.Ordering.TheVariants.{Less, Equal, Greater}
use Rattle.mark_base.specs.declared.ann_id.AnnId.{AnnId}
use Rattle.mark_base.specs.declared.ann_id.Kind.{Kind}
use Rattle.mark_base.specs.declared.ann_id.Kind.TheVariants as letter
use Rattle.layer_model.specs.Annotations.{Annotations}
use Rattle.layer_model.specs.Classes.{letter_place, rank}
use Rattle.content_keys.proofs.IdLemmas.{same_rank}
use Rattle.unanimous_merge.specs.declared.item.ItemId.{ItemId}
use Rattle.unanimous_merge.specs.Items.{Held, leaders, name_of}
use Rattle.unanimous_merge.specs.Readings.{Reading}
use Rattle.unanimous_merge.specs.Unanimous.{in_each}
use Rattle.curator_decisions.specs.declared.verdict.Verdict.{Verdict}
use Rattle.curator_decisions.specs.Decisions.{Ascend, Decided, is_in, is_in_by, item_rank, verdict_on, with_verdict, without_verdict}
use Rattle.curator_decisions.specs.Curated.{classes_taken, layer_of, numbered_behind, taken}
use Rattle.curator_decisions.specs.DecidedLaws.{DecisionsAreAMap, OthersStay, OthersStaySet, SameVerdicts, SameVerdictsSameLayer, VerdictIsSet, VerdictIsTakenBack}
use Rattle.curator_decisions.proofs.CuratedParts.{none_some}

-- ---- an item is known by its rank

place_small : (kind : Kind) → letter_place kind ≤ 6
place_small letter.Text = omega arith
place_small letter.Event = omega arith
place_small letter.Relation = omega arith
place_small letter.Attribute = omega arith
place_small letter.Legacy = omega arith
place_small letter.Normal = omega arith
place_small letter.Note = omega arith

parts : (p q m n : ℕ) → m < 7000000000 → n < 7000000000 → p * 7000000000 + m ≡ q * 7000000000 + n → (p ≡ q) × (m ≡ n)
parts p q m n small few e = (omega arith, omega arith)

rank_small : (id : AnnId) → rank id < 7000000000
rank_small id = let p : letter_place id.kind ≤ 6 = place_small id.kind in let w : id.number ≤ 999999999 = id.within in omega arith

pub same_item_rank : (a b : ItemId) → item_rank a ≡ item_rank b → (a.holder ≡ b.holder) × (a.id ≡ b.id)
same_item_rank a b e =
    let both : (a.holder ≡ b.holder) × (rank a.id ≡ rank b.id) = parts a.holder b.holder (rank a.id) (rank b.id) (rank_small a.id) (rank_small b.id) e in
    (both.0, same_rank a.id b.id both.1)

pub same_item : (a b : ItemId) → item_rank a ≡ item_rank b → a ≡ b
same_item a b e = let s : (a.holder ≡ b.holder) × (a.id ≡ b.id) = same_item_rank a b e in λ i. record { holder = s.0 i; id = s.1 i }

-- ---- the verdict on the first item, and on others

pub verdict_here : (item : ItemId) (one : ItemId × Verdict) (others : Decided) → item_rank one.0 ≡ item_rank item → verdict_on item (one ∷ others) ≡ Some one.1
verdict_here item one others e = ap (λ b. if b then Some one.1 else verdict_on item others) (eq-eqb (item_rank one.0) (item_rank item) e)

pub verdict_past : (item : ItemId) (one : ItemId × Verdict) (others : Decided) → (item_rank one.0 ≡ item_rank item → ⊥) → verdict_on item (one ∷ others) ≡ verdict_on item others
verdict_past item one others e = ap (λ b. if b then Some one.1 else verdict_on item others) (ne_eqb (item_rank one.0) (item_rank item) e)

-- ---- verdicts that are set

pub set_on : (decided : Decided) (item : ItemId) (verdict : Verdict) → verdict_on item (with_verdict decided item verdict) ≡ Some verdict
set_on [] item verdict = verdict_here item (item, verdict) [] refl
set_on (one ∷ others) item verdict =
    elim (nat_cmp (item_rank item) (item_rank one.0)) as (λ o. o ≡ nat_cmp (item_rank item) (item_rank one.0) → verdict_on item (match_ordering o ((item, verdict) ∷ one ∷ others) ((item, verdict) ∷ others) (one ∷ with_verdict others item verdict)) ≡ Some verdict) [
      | Less ↦ λ _. verdict_here item (item, verdict) (one ∷ others) refl
      | Equal ↦ λ _. verdict_here item (item, verdict) others refl
      | Greater ↦ λ w.
          let above : item_rank one.0 < item_rank item = ranked (item_rank item) (item_rank one.0) Greater w in
          verdict_past item one (with_verdict others item verdict) (λ e. omega arith) ∙ set_on others item verdict
    ] refl

-- by ranks
pub set_others : (decided : Decided) (item : ItemId) (verdict : Verdict) (other : ItemId) → (item_rank item ≡ item_rank other → ⊥) → verdict_on other (with_verdict decided item verdict) ≡ verdict_on other decided
set_others [] item verdict other apart = verdict_past other (item, verdict) [] apart
set_others (one ∷ others) item verdict other apart =
    elim (nat_cmp (item_rank item) (item_rank one.0)) as (λ o. o ≡ nat_cmp (item_rank item) (item_rank one.0) → verdict_on other (match_ordering o ((item, verdict) ∷ one ∷ others) ((item, verdict) ∷ others) (one ∷ with_verdict others item verdict)) ≡ verdict_on other (one ∷ others)) [
      | Less ↦ λ _. verdict_past other (item, verdict) (one ∷ others) apart
      | Equal ↦ λ w.
          let same : item_rank item ≡ item_rank one.0 = ranked (item_rank item) (item_rank one.0) Equal w in
          verdict_past other (item, verdict) others apart ∙ sym (verdict_past other one others (λ e. apart (same ∙ e)))
      | Greater ↦ λ _. ap (λ v. if item_rank one.0 == item_rank other then Some one.1 else v) (set_others others item verdict other apart)
    ] refl

-- ---- verdicts that are taken back

pub taken_on : (decided : Decided) (item : ItemId) → verdict_on item (without_verdict decided item) ≡ None
taken_on [] item = refl
taken_on (one ∷ others) item =
    elim (item_rank one.0 == item_rank item) as (λ b. (item_rank one.0 == item_rank item) ≡ b → verdict_on item (cond (not b) (one ∷ without_verdict others item) (without_verdict others item)) ≡ None) [
      | true ↦ λ _. taken_on others item
      | false ↦ λ e. ap (λ b. if b then Some one.1 else verdict_on item (without_verdict others item)) e ∙ taken_on others item
    ] refl

pub taken_others : (decided : Decided) (item other : ItemId) → (item_rank item ≡ item_rank other → ⊥) → verdict_on other (without_verdict decided item) ≡ verdict_on other decided
taken_others [] item other apart = refl
taken_others (one ∷ others) item other apart =
    elim (eqb_tells (item_rank one.0) (item_rank item)) [
      | inl p ↦
          ap (λ b. verdict_on other (cond (not b) (one ∷ without_verdict others item) (without_verdict others item))) p.0
          ∙ taken_others others item other apart
          ∙ sym (verdict_past other one others (λ e. apart (sym p.1 ∙ e)))
      | inr p ↦
          ap (λ b. verdict_on other (cond (not b) (one ∷ without_verdict others item) (without_verdict others item))) p.0
          ∙ ap (λ v. if item_rank one.0 == item_rank other then Some one.1 else v) (taken_others others item other apart)
    ]

-- ---- by items

apart_by : (item other : ItemId) → other ≢ item → item_rank item ≡ item_rank other → ⊥
apart_by item other apart e = apart (same_item other item (sym e))

pub is_set : VerdictIsSet
is_set = set_on

pub others_set : OthersStaySet
others_set decided item verdict other apart = set_others decided item verdict other (apart_by item other apart)

pub is_taken : VerdictIsTakenBack
is_taken = taken_on

pub others_stay : OthersStay
others_stay decided item other apart = taken_others decided item other (apart_by item other apart)

-- ---- lists that are known by their verdicts

abbrev ranks : Decided → List ℕ
ranks xs = map (λ one. item_rank one.0) xs

abbrev Above : ℕ → Decided → Type 0
Above n xs = AllByRecursion (λ y. nat_cmp n y ≡ Less) (ranks xs)

head_above : (x : ItemId × Verdict) (xs : Decided) → Ascend (x ∷ xs) → Above (item_rank x.0) xs
unfolding IsStrictlySortedBy
head_above x xs h = h.0

tail_ascends : (x : ItemId × Verdict) (xs : Decided) → Ascend (x ∷ xs) → Ascend xs
unfolding IsStrictlySortedBy
tail_ascends x xs h = h.1

-- what stands below all the items has no verdict
none_below : (item : ItemId) (n : ℕ) (xs : Decided) → item_rank item ≤ n → Above n xs → verdict_on item xs ≡ None
none_below item n [] low h = refl
none_below item n (x ∷ xs) low h =
    let above : n < item_rank x.0 = ranked n (item_rank x.0) Less (sym h.0) in
    verdict_past item x xs (λ e. omega arith) ∙ none_below item n xs low h.1

-- an item below the first one has no verdict
none_lower : (item : ItemId) (y : ItemId × Verdict) (ys : Decided) → Ascend (y ∷ ys) → item_rank item < item_rank y.0 → verdict_on item (y ∷ ys) ≡ None
none_lower item y ys up low = verdict_past item y ys (λ e. omega arith) ∙ none_below item (item_rank y.0) ys (omega arith) (head_above y ys up)

-- the first item of one list is not below that of the other
not_lower : (x : ItemId × Verdict) (xs : Decided) (y : ItemId × Verdict) (ys : Decided) → Ascend (y ∷ ys) → SameVerdicts (x ∷ xs) (y ∷ ys) → item_rank x.0 < item_rank y.0 → ⊥
not_lower x xs y ys up same low = none_some (sym (none_lower x.0 y ys up low) ∙ sym (same x.0) ∙ verdict_here x.0 x xs refl)

abbrev inside : Verdict → Option Verdict → Verdict
inside d (Some v) = v
inside d None = d

pub known : DecisionsAreAMap
known [] [] up rise same = refl
known [] (y ∷ ys) up rise same = none_some (same y.0 ∙ verdict_here y.0 y ys refl)
known (x ∷ xs) [] up rise same = none_some (sym (same x.0) ∙ verdict_here x.0 x xs refl)
known (x ∷ xs) (y ∷ ys) up rise same =
    elim (nat_cmp (item_rank x.0) (item_rank y.0)) as (λ o. o ≡ nat_cmp (item_rank x.0) (item_rank y.0) → (x ∷ xs) ≡ (y ∷ ys)) [
      | Less ↦ λ w. absurd (not_lower x xs y ys rise same (ranked (item_rank x.0) (item_rank y.0) Less w))
      | Greater ↦ λ w. absurd (not_lower y ys x xs up (λ item. sym (same item)) (ranked (item_rank x.0) (item_rank y.0) Greater w))
      | Equal ↦ λ w. joined (known xs ys (tail_ascends x xs up) (tail_ascends y ys rise)) (ranked (item_rank x.0) (item_rank y.0) Equal w)
    ] refl
  where
    rest : item_rank x.0 ≡ item_rank y.0 → SameVerdicts xs ys
    rest e item =
        elim (eqb_tells (item_rank x.0) (item_rank item)) [
          | inl p ↦
              none_below item (item_rank x.0) xs (omega (arith, p.1)) (head_above x xs up)
              ∙ sym (none_below item (item_rank y.0) ys (omega (arith, p.1, e)) (head_above y ys rise))
          | inr p ↦ sym (verdict_past item x xs p.1) ∙ same item ∙ verdict_past item y ys (λ f. p.1 (e ∙ f))
        ]

    joined : (SameVerdicts xs ys → xs ≡ ys) → item_rank x.0 ≡ item_rank y.0 → (x ∷ xs) ≡ (y ∷ ys)
    joined tails e =
        let item : x.0 ≡ y.0 = same_item x.0 y.0 e in
        let verdict : x.1 ≡ y.1 = ap (inside x.1) (sym (verdict_here x.0 x xs refl) ∙ same x.0 ∙ verdict_here x.0 y ys (sym e)) in
        let others : xs ≡ ys = tails (rest e) in
        λ i. (item i, verdict i) ∷ others i

-- ---- the layer

-- the layer of the items that are in
abbrev made : List Reading → List Held → Annotations
made layers items =
    layer_of (record { marks = filter_map (taken layers (numbered_behind [] items)) (numbered_behind [] items); classes = classes_taken layers (numbered_behind [] items) })

pub same_layer : SameVerdictsSameLayer
same_layer layers a b same =
    let all : is_in layers a ≡ is_in layers b = λ i held. is_in_by (same (name_of held) i) (in_each layers held.content) in
    λ i. made layers (filter (all i) (leaders layers))
