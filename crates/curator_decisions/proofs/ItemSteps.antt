-- A step from accepted decisions is judged by the item that it changes: each other two items that are in were in before.
use Rattle.std.proofs.Common.{◌≡◌, ℕ, ◌<◌, ◌≤◌, ◌⊎◌, ◌↔◌, ◌==◌, Bool, true, false, cond, List, [], ◌∷◌, map, length, filter, refl, sym, ◌∙◌, ap, subst, inl, inr, None, arith}
use Rattle.std.proofs.lemmas.Bool.Decides.{eqb_tells}
use Rattle.std.specs.Option.{option_map, option_or}
use Rattle.std.specs.List.{count_by}
use Rattle.mark_base.specs.declared.ann_id.AnnId.{AnnId}
use Rattle.mark_base.specs.declared.ann_id.Kind.{Kind}
use Rattle.mark_base.specs.declared.ann_id.Kind.TheVariants as letter
use Rattle.conf_model.specs.Configurations.{Configuration}
use Rattle.layer_model.specs.Annotations.{Annotations}
use Rattle.layer_model.specs.Classes.{letter_place, rank}
use Rattle.layer_model.specs.Layers.{IsLayer}
use Rattle.layer_rules.specs.LayerRules.{counted_with}
use Rattle.layer_rules.specs.WellFormed.{IsWellFormed, Obeys, commit_fault, least_flaw}
use Rattle.content_keys.specs.Nodes.{IsIn}
use Rattle.content_keys.proofs.IdLemmas.{same_rank}
use Rattle.unanimous_merge.specs.Items.{Held, held_from, leaders, name_of}
use Rattle.unanimous_merge.specs.Readings.{Reading, contents, readings}
use Rattle.curator_decisions.specs.declared.decision_fault.DecisionFault.TheVariants.{Broken}
use Rattle.curator_decisions.specs.Clashes.{AreApart, JudgesItem, ObeysByItems, StandTogether, StandsBeside, TakingBackByItem, VerdictsByItem, clash}
use Rattle.curator_decisions.specs.Curated.{count_of_letter, curated, letter_of_item}
use Rattle.curator_decisions.specs.CuratedLaws.{AreFinished}
use Rattle.curator_decisions.specs.DecisionFaults.{decision_fault, first_broken, item_fault, layer_fault, missing, needed}
use Rattle.curator_decisions.specs.Decisions.{Decided, is_in, item_rank, items_in, with_verdict, without_verdict}
use Rattle.curator_decisions.proofs.BreaksThree.{Coheres, Unflawed, all_in}
use Rattle.curator_decisions.proofs.CuratedClashes.{all_of, all_pairs, obeying_together, pairs_all, together_obey}
use Rattle.curator_decisions.proofs.CuratedCounts.{few_counted, few_in, layer_fits}
use Rattle.curator_decisions.proofs.CuratedItems.{Differ, Earlier, firsts_differ, firsts_keep, held_rise, in_firsts}
use Rattle.curator_decisions.proofs.CuratedNames.{IsWhole}
use Rattle.curator_decisions.proofs.CuratedParts.{Row, not_both, unmapped}
use Rattle.curator_decisions.proofs.DecidedSteps.{found, none_missing, nothing_lacks, one_content, or_none, same_in}
use Rattle.curator_decisions.proofs.DecidedVerdicts.{set_others, taken_others}
use Rattle.curator_decisions.proofs.ListLemmas.{Pairs, bit, count_cons, filter_in, in_filter, pairs_both, pairs_filter, pairs_more, two_of}

-- ---- items are in the order of their ranks

place_small : (kind : Kind) → letter_place kind ≤ 6
place_small letter.Text = omega arith
place_small letter.Event = omega arith
place_small letter.Relation = omega arith
place_small letter.Attribute = omega arith
place_small letter.Legacy = omega arith
place_small letter.Normal = omega arith
place_small letter.Note = omega arith

rank_small : (id : AnnId) → rank id < 7000000000
rank_small id = let p : letter_place id.kind ≤ 6 = place_small id.kind in let w : id.number ≤ 999999999 = id.within in omega arith

abbrev pub Before : Held → Held → Type 0
Before a b = item_rank (name_of a) < item_rank (name_of b)

pub leaders_rise : (rows : List Row) → Pairs Before (leaders (readings rows))
leaders_rise rows =
    pairs_more (λ a b. Earlier a b × Differ a b) Before (leaders (readings rows)) (λ a b i j h. before a b i j h.0 h.1)
    (pairs_both Earlier Differ (leaders (readings rows)) (firsts_keep Earlier (held_from 0 (map contents (readings rows))) (held_rise rows 0)) (firsts_differ (held_from 0 (map contents (readings rows)))))
  where
    before : (a b : Held) → IsIn a (leaders (readings rows)) → IsIn b (leaders (readings rows)) → Earlier a b → Differ a b → Before a b
    before a b i j early differ = elim early [
      | inl low ↦ let x : rank a.id < 7000000000 = rank_small a.id in let l : a.holder < b.holder = low in omega arith
      | inr up ↦
          let holder : a.holder ≡ b.holder = up.0 in
          let low : rank a.id ≤ rank b.id = up.1 in
          elim (eqb_tells (rank a.id) (rank b.id)) [
            | inl p ↦ absurd (differ (sym (one_content (readings rows) 0 a b (in_firsts (held_from 0 (map contents (readings rows))) a i) (in_firsts (held_from 0 (map contents (readings rows))) b j) up.0 (same_rank a.id b.id p.1))))
            | inr p ↦ let apart : rank a.id ≡ rank b.id → ⊥ = p.1 in omega arith
          ]
    ]

-- ---- what is filtered

pairs_unfilter : {X : Type 0} (R : X → X → Type 0) (p : X → Bool) (xs : List X) → Pairs R (filter p xs) → Pairs (λ a b. p a ≡ true → p b ≡ true → R a b) xs
pairs_unfilter R p [] h = tt
pairs_unfilter {X} R p (x ∷ xs) h =
    elim (p x) as (λ t. p x ≡ t → Pairs R (cond t (x ∷ filter p xs) (filter p xs)) → ((y : X) → IsIn y xs → p x ≡ true → p y ≡ true → R x y) × Pairs (λ a b. p a ≡ true → p b ≡ true → R a b) xs) [
      | true ↦ λ e g. (λ y k a b. g.0 y (filter_in p xs y k b), pairs_unfilter R p xs g.1)
      | false ↦ λ e g. (λ y k a b. not_both (p x) a e, pairs_unfilter R p xs g)
    ] refl h

pairs_refilter : {X : Type 0} (R : X → X → Type 0) (p : X → Bool) (xs : List X) → Pairs (λ a b. p a ≡ true → p b ≡ true → R a b) xs → Pairs R (filter p xs)
pairs_refilter R p xs h = pairs_more (λ a b. p a ≡ true → p b ≡ true → R a b) R (filter p xs) (λ a b i j f. f (in_filter p xs a i).1 (in_filter p xs b j).1) (pairs_filter (λ a b. p a ≡ true → p b ≡ true → R a b) p xs h)

-- where each that is counted and passes one test passes the other, there are no more
count_more : {X : Type 0} (t p q : X → Bool) (xs : List X) → ((x : X) → IsIn x xs → t x ≡ true → p x ≡ true → q x ≡ true) → count_by t (filter p xs) ≤ count_by t (filter q xs)
count_more t p q [] h = omega arith
count_more {X} t p q (x ∷ xs) h =
    let rest : count_by t (filter p xs) ≤ count_by t (filter q xs) = count_more t p q xs (λ y k. h y (inr k)) in
    elim (p x) as (λ a. p x ≡ a → count_by t (cond a (x ∷ filter p xs) (filter p xs)) ≤ count_by t (filter q (x ∷ xs))) [
      | false ↦ λ e. elim (q x) as (λ b. count_by t (filter p xs) ≤ count_by t (cond b (x ∷ filter q xs) (filter q xs))) [
        | true ↦ omega (arith, rest, count_cons t x (filter q xs))
        | false ↦ rest
      ]
      | true ↦ λ e. elim (q x) as (λ b. q x ≡ b → count_by t (x ∷ filter p xs) ≤ count_by t (cond b (x ∷ filter q xs) (filter q xs))) [
        | true ↦ λ f. omega (arith, rest, count_cons t x (filter p xs), count_cons t x (filter q xs))
        | false ↦ λ f. elim (t x) as (λ b. t x ≡ b → count_by t (x ∷ filter p xs) ≤ count_by t (filter q xs)) [
          | true ↦ λ g. not_both (q x) (h x (inl refl) g e) f
          | false ↦ λ g. let none : bit (t x) ≡ 0 = ap bit g in omega (arith, rest, none, count_cons t x (filter p xs))
        ] refl
      ] refl
    ] refl

-- ---- items that are in before and behind a step

module _ (conf : Configuration) (rows : List Row) (old new : Held → Bool) (held : Held) (there : IsIn held (leaders (readings rows))) (same : (x : Held) → IsIn x (leaders (readings rows)) → (x ≡ held) ⊎ (new x ≡ old x)) where
  abbrev all : List Held
  all = leaders (readings rows)

  abbrev Quiet : Held → Held → Type 0
  Quiet a b = clash conf (readings rows) a b ≡ false

  module _ (together : StandTogether conf (readings rows) (filter old all)) (beside : new held ≡ true → StandsBeside conf (readings rows) (filter new all) held) where
    apart_from : new held ≡ true → (x : Held) → IsIn x all → new x ≡ true → AreApart conf (readings rows) held x
    apart_from so x k into = all_in (AreApart conf (readings rows) held) (filter new all) (beside so).apart x (filter_in new all x k into)

    quiet : (a b : Held) → IsIn a all → IsIn b all → Before a b → (old a ≡ true → old b ≡ true → Quiet a b) → new a ≡ true → new b ≡ true → Quiet a b
    quiet a b i j low was na nb = elim (same a i) [
      | inl here ↦
          let so : new held ≡ true = sym (ap new here) ∙ na in
          let P : Held → Type 0 = λ z. Quiet z b in
          subst P (sym here) ((apart_from so b j nb).0 (subst (λ z. Before z b) here low))
      | inr keeps ↦ elim (same b j) [
        | inl here ↦
            let so : new held ≡ true = sym (ap new here) ∙ nb in
            let P : Held → Type 0 = λ z. Quiet a z in
            subst P (sym here) ((apart_from so a i na).1 (subst (λ z. Before a z) here low))
        | inr stays ↦ was (sym keeps ∙ na) (sym stays ∙ nb)
      ]
    ]

    abbrev of_letter : Kind → Held → Bool
    of_letter kind one = letter_place (letter_of_item one) == letter_place kind

    -- where the item is not counted, or not in, no more are counted than before
    no_more : (kind : Kind) → (of_letter kind held ≡ true → new held ≡ true → ⊥) → count_of_letter kind (filter new all) ≤ 10000
    no_more kind out =
        let was : count_of_letter kind (filter old all) ≤ 10000 = together.few kind in
        let more : count_of_letter kind (filter new all) ≤ count_of_letter kind (filter old all) =
        count_more (of_letter kind) new old all (λ x k counted into. elim (same x k) [
          | inl here ↦ absurd (out (sym (ap (of_letter kind) here) ∙ counted) (sym (ap new here) ∙ into))
          | inr keeps ↦ sym keeps ∙ into
        ]) in
        omega arith

    still_few : (kind : Kind) → count_of_letter kind (filter new all) ≤ 10000
    still_few kind = elim (eqb_tells (letter_place (letter_of_item held)) (letter_place kind)) [
      | inr p ↦ no_more kind (λ counted so. not_both (of_letter kind held) counted p.0)
      | inl p ↦ elim (new held) as (λ b. new held ≡ b → count_of_letter kind (filter new all) ≤ 10000) [
        | false ↦ λ out. no_more kind (λ counted so. not_both (new held) so out)
        | true ↦ λ so.
            let few : count_of_letter (letter_of_item held) (filter new all) ≤ 10000 = (beside so).few in
            subst (λ n. count_by (λ (one : Held). letter_place (letter_of_item one) == n) (filter new all) ≤ 10000) p.1 few
      ] refl
    ]

    pub still_together : StandTogether conf (readings rows) (filter new all)
    still_together = record {
      apart = pairs_all Quiet (filter new all)
          (pairs_refilter Quiet new all
          (pairs_more (λ a b. Before a b × (old a ≡ true → old b ≡ true → Quiet a b)) (λ a b. new a ≡ true → new b ≡ true → Quiet a b) all (λ a b i j h. quiet a b i j h.0 h.1)
          (pairs_both Before (λ a b. old a ≡ true → old b ≡ true → Quiet a b) all (leaders_rise rows) (pairs_unfilter Quiet old all (all_pairs Quiet (filter old all) together.apart)))));
      few = still_few;
    }

  pub stands_beside : StandTogether conf (readings rows) (filter new all) → new held ≡ true → StandsBeside conf (readings rows) (filter new all) held
  stands_beside together so = record {
    apart = all_of (AreApart conf (readings rows) held) (filter new all) (λ x k. by x (two_of (λ a b. Before a b × Quiet a b) (filter new all)
        (pairs_both Before Quiet (filter new all) (pairs_filter Before new all (leaders_rise rows)) (all_pairs Quiet (filter new all) together.apart)) held x (filter_in new all held there so) k));
    few = together.few (letter_of_item held);
  }
    where
      by : (x : Held) → (held ≡ x) ⊎ ((Before held x × Quiet held x) ⊎ (Before x held × Quiet x held)) → AreApart conf (readings rows) held x
      by x (inl e) = (
        λ low. absurd (let s : item_rank (name_of held) ≡ item_rank (name_of x) = ap (λ z. item_rank (name_of z)) e in omega arith),
        λ low. absurd (let s : item_rank (name_of held) ≡ item_rank (name_of x) = ap (λ z. item_rank (name_of z)) e in omega arith),
      )
      by x (inr (inl h)) = (λ low. h.1, λ low. absurd (let g : item_rank (name_of held) < item_rank (name_of x) = h.0 in omega arith))
      by x (inr (inr h)) = (λ low. absurd (let g : item_rank (name_of x) < item_rank (name_of held) = h.0 in omega arith), λ low. h.1)

-- ---- laws

-- a layer with no least flaw is well-formed
abbrev pub Flawless : Type 0
Flawless = (conf : Configuration) (characters : ℕ) (layer : Annotations) → least_flaw conf characters layer ≡ None → IsWellFormed conf characters layer

pub by_items : Coheres → ObeysByItems
by_items cohere conf characters [] decided done closed = absurd (let some : 0 < 0 = done.some in omega arith)
by_items cohere conf characters (row ∷ rows) decided done closed =
    let layers : (r : Row) → IsIn r (row ∷ rows) → IsLayer r.1 = all_in (λ (z : Row). IsLayer z.1) (row ∷ rows) done.layers in
    let obey : (r : Row) → IsIn r (row ∷ rows) → Obeys conf characters r.1 = all_in (λ (z : Row). Obeys conf characters z.1) (row ∷ rows) done.obey in
    let whole : (r : Row) → IsIn r (row ∷ rows) → IsWhole r = λ r k. (layers r k, cohere conf characters r.1 (layers r k) (obey r k).well_formed) in
    let counts : (r : Row) → IsIn r (row ∷ rows) → (kind : Kind) → length (counted_with r.1 kind) ≤ 10000 = λ r k. few_counted r.1 (layer_fits r.1 (layers r k)) (obey r k).well_formed.room in
    (obeying_together row rows whole decided closed (few_in (row ∷ rows) decided done.few counts) conf characters obey, together_obey row rows whole decided closed (few_in (row ∷ rows) decided done.few counts) conf characters obey)

-- a layer has no fault exactly where it obeys
fault_obeys : Flawless → (conf : Configuration) (characters : ℕ) (layers : List Reading) (decided : Decided) → layer_fault conf characters layers decided ≡ None → Obeys conf characters (curated layers decided)
fault_obeys flawless conf characters layers decided e =
    let two : (option_map (λ flaw. flaw.rule) (least_flaw conf characters (curated layers decided)) ≡ None) × (commit_fault conf (curated layers decided) ≡ None) =
    or_none (option_map (λ flaw. flaw.rule) (least_flaw conf characters (curated layers decided))) (commit_fault conf (curated layers decided)) (unmapped Broken (first_broken conf characters (curated layers decided)) e) in
    record { well_formed = flawless conf characters (curated layers decided) (unmapped (λ flaw. flaw.rule) (least_flaw conf characters (curated layers decided)) two.0); enough = two.1 }

obeys_fault : Unflawed → (conf : Configuration) (characters : ℕ) (layers : List Reading) (decided : Decided) → Obeys conf characters (curated layers decided) → layer_fault conf characters layers decided ≡ None
obeys_fault unflawed conf characters layers decided obeys =
    let flaw : least_flaw conf characters (curated layers decided) ≡ None = unflawed conf characters (curated layers decided) obeys.well_formed in
    λ i. option_map Broken (option_or (option_map (λ f. f.rule) (flaw i)) (obeys.enough i))

-- the decisions behind a step have no fault exactly where the item stands beside the others that are in
judged : Coheres → Unflawed → Flawless → (conf : Configuration) (characters : ℕ) (rows : List Row) (decided changed : Decided) (held : Held) → AreFinished conf characters rows
    → missing (readings rows) decided ≡ None → layer_fault conf characters (readings rows) decided ≡ None → missing (readings rows) changed ≡ None
    → IsIn held (leaders (readings rows)) → ((x : Held) → IsIn x (leaders (readings rows)) → (x ≡ held) ⊎ (is_in (readings rows) changed x ≡ is_in (readings rows) decided x)) → JudgesItem conf characters rows changed held
judged cohere unflawed flawless conf characters rows decided changed held done closed quiet still there same =
    let was : StandTogether conf (readings rows) (items_in (readings rows) decided) = (by_items cohere conf characters rows decided done closed).0 (fault_obeys flawless conf characters (readings rows) decided quiet) in
    let now : Obeys conf characters (curated (readings rows) changed) ↔ StandTogether conf (readings rows) (items_in (readings rows) changed) = by_items cohere conf characters rows changed done still in (
      λ e so. stands_beside conf rows (is_in (readings rows) decided) (is_in (readings rows) changed) held there same (now.0 (fault_obeys flawless conf characters (readings rows) changed e)) so,
      λ beside. obeys_fault unflawed conf characters (readings rows) changed (now.1 (still_together conf rows (is_in (readings rows) decided) (is_in (readings rows) changed) held there same was beside)),
    )

-- accepted decisions leave a layer with no fault
accepted_quiet : (conf : Configuration) (characters : ℕ) (layers : List Reading) (decided : Decided) → decision_fault conf characters layers decided ≡ None → layer_fault conf characters layers decided ≡ None
accepted_quiet conf characters layers decided accepted =
    (or_none (needed (missing layers decided)) (layer_fault conf characters layers decided) (or_none (item_fault layers decided) (option_or (needed (missing layers decided)) (layer_fault conf characters layers decided)) accepted).1).1

pub verdicts_by_item : Coheres → Unflawed → Flawless → VerdictsByItem
verdicts_by_item cohere unflawed flawless conf characters rows decided item verdict held done accepted is lacks =
    judged cohere unflawed flawless conf characters rows decided (with_verdict decided item verdict) held done (none_missing conf characters (readings rows) decided item accepted) (accepted_quiet conf characters (readings rows) decided accepted)
    (nothing_lacks conf characters (readings rows) decided item accepted (with_verdict decided item verdict) (set_others decided item verdict) held is lacks)
    (found conf characters (readings rows) decided item accepted (with_verdict decided item verdict) (set_others decided item verdict) held is).0
    (same_in conf characters (readings rows) decided item accepted (with_verdict decided item verdict) (set_others decided item verdict) held is)

pub taking_back_by_item : Coheres → Unflawed → Flawless → TakingBackByItem
taking_back_by_item cohere unflawed flawless conf characters rows decided item held done accepted is lacks =
    judged cohere unflawed flawless conf characters rows decided (without_verdict decided item) held done (none_missing conf characters (readings rows) decided item accepted) (accepted_quiet conf characters (readings rows) decided accepted)
    (nothing_lacks conf characters (readings rows) decided item accepted (without_verdict decided item) (taken_others decided item) held is lacks)
    (found conf characters (readings rows) decided item accepted (without_verdict decided item) (taken_others decided item) held is).0
    (same_in conf characters (readings rows) decided item accepted (without_verdict decided item) (taken_others decided item) held is)
