-- Decisions that are accepted stay accepted by a step that is not refused: what an item that is in names can be missing
-- only about the item that the step changes, and there the step has looked.
use Rattle.std.proofs.Common.{◌≡◌, ℕ, ◌⊎◌, ◌==◌, ◌≤◌, suc, ◌&&◌, Bool, true, false, not, cond, List, [], ◌∷◌, map, filter, refl, sym, ◌∙◌, ap, inl, inr, Option, Some, None, arith}
use Rattle.std.proofs.lemmas.Bool.Decides.{eqb_tells}
use Rattle.std.specs.Option.{is_some, option_map_or, option_or}
use Rattle.std.specs.List.{find, list_all, list_any}
use Rattle.std.specs.Ordering.{nat_cmp, match_ordering}
use Rattle.std.specs.declared.cmp.Ordering.TheVariants.{Less, Equal, Greater}
use Rattle.mark_base.specs.declared.ann_id.AnnId.{AnnId}
use Rattle.conf_model.specs.Configurations.{Configuration}
use Rattle.content_keys.specs.Nodes.{IsIn}
use Rattle.content_keys.proofs.BagLemmas.{IsIn-either, map-IsIn}
use Rattle.unanimous_merge.specs.declared.item.ItemId.{ItemId}
use Rattle.unanimous_merge.specs.Items.{Held, held_by, held_from, leaders, name_of}
use Rattle.unanimous_merge.specs.Readings.{Reading, content_under, contents}
use Rattle.unanimous_merge.specs.Unanimous.{in_each}
use Rattle.curator_decisions.specs.declared.verdict.Verdict.{Verdict}
use Rattle.curator_decisions.specs.declared.decision_fault.DecisionFault.{DecisionFault}
use Rattle.curator_decisions.specs.declared.decision_fault.DecisionFault.TheVariants.{NeedsItem, NoItem}
use Rattle.curator_decisions.specs.Decisions.{Decided, held_as, is_in, is_in_by, item_rank, verdict_on, with_verdict, without_verdict}
use Rattle.curator_decisions.specs.DecisionFaults.{changed_fault, decision_fault, item_fault, lacking, layer_fault, missing, names, needed, undecided_fault, verdict_fault}
use Rattle.curator_decisions.specs.DecidedLaws.{AcceptedWithVerdict, AcceptedWithoutVerdict}
use Rattle.curator_decisions.proofs.DecidedVerdicts.{same_item_rank, set_others, taken_others}
use Rattle.curator_decisions.proofs.ClassLemmas.{none_any}
use Rattle.curator_decisions.proofs.CuratedItems.{Differ, firsts_differ, in_firsts}
use Rattle.curator_decisions.proofs.CuratedNames.{Closed, named_none}
use Rattle.curator_decisions.proofs.ListLemmas.{two_of}
use Rattle.curator_decisions.proofs.CuratedParts.{find_none, none_found, none_some, not_both, unmapped}

-- ---- tests and options

swap : (a b : Bool) → (a && b) ≡ false → (b && a) ≡ false
swap true true e = e
swap true false e = refl
swap false true e = refl
swap false false e = refl

-- a test that fails with one that is met
first_fails : (a b : Bool) → (a && b) ≡ false → b ≡ true → a ≡ false
first_fails true b e so = not_both b so e
first_fails false b e so = refl

and_false : (a b : Bool) → b ≡ false → (a && b) ≡ false
and_false true b e = e
and_false false b e = refl

tests_same : (a b : ℕ) → (a == b) ≡ true → a ≡ b
tests_same a b so = elim (eqb_tells a b) [ inl p ↦ p.1 | inr p ↦ not_both (a == b) so p.0 ]

or_else : {X : Type 0} → X → Option X → X
or_else d (Some z) = z
or_else d None = d

found_is : {X : Type 0} (p : X → Bool) (xs : List X) (x : X) → find p xs ≡ Some x → IsIn x xs × (p x ≡ true)
unfolding or_else
found_is p [] x e = none_some e
found_is {X} p (y ∷ ys) x e =
    elim (p y) as (λ b. p y ≡ b → cond b (Some y) (find p ys) ≡ Some x → ((x ≡ y) ⊎ IsIn x ys) × (p x ≡ true)) [
      | true ↦ λ t h. let same : x ≡ y = sym (ap (or_else y) h) in (inl same, ap p same ∙ t)
      | false ↦ λ _ h. let r : IsIn x ys × (p x ≡ true) = found_is p ys x h in (inr r.0, r.1)
    ] refl e

pub or_none : {X : Type 0} (a b : Option X) → option_or a b ≡ None → (a ≡ None) × (b ≡ None)
or_none (Some x) b e = none_some (sym e)
or_none None b e = (refl, e)

-- ---- what is missing after a change at one item

module _ {X : Type 0} (all : List X) (named : X → X → Bool) (old new : X → Bool) (held : X) (same : (x : X) → IsIn x all → (x ≡ held) ⊎ (new x ≡ old x)) (closed : Closed all named old)
    (lacks : cond (new held) (find (λ other. named held other && not (new other)) all) (find (λ other. named other held && new other) all) ≡ None) where
  -- where the changed item is in, it names nothing that is out
  by_held : new held ≡ true → (other : X) → IsIn other all → new other ≡ false → named held other ≡ false
  by_held into other j out =
      let none : find (λ o. named held o && not (new o)) all ≡ None = sym (ap (λ b. cond b (find (λ o. named held o && not (new o)) all) (find (λ o. named o held && new o) all)) into) ∙ lacks in
      first_fails (named held other) (not (new other)) (none_found (λ o. named held o && not (new o)) all none other j) (ap not out)

  -- where it is out, nothing that is in names it
  of_held : new held ≡ false → (one : X) → IsIn one all → (new one && named one held) ≡ false
  of_held out one i =
      let none : find (λ o. named o held && new o) all ≡ None = sym (ap (λ b. cond b (find (λ o. named held o && not (new o)) all) (find (λ o. named o held && new o) all)) out) ∙ lacks in
      swap (named one held) (new one) (none_found (λ o. named o held && new o) all none one i)

  one_names : (one other : X) → IsIn one all → IsIn other all → new other ≡ false → (new one && named one other) ≡ false
  one_names one other i j out = elim (same other j) [
    | inl there ↦ ap (λ z. new one && named one z) there ∙ of_held (sym (ap new there) ∙ out) one i
    | inr kept ↦ elim (same one i) [
      | inl here ↦
          ap (λ z. new z && named z other) here
          ∙ (elim (new held) as (λ b. new held ≡ b → (b && named held other) ≡ false) [
            | true ↦ λ into. by_held into other j out
            | false ↦ λ _. refl
          ] refl)
      | inr stays ↦ ap (λ b. b && named one other) stays ∙ named_none all named old closed one other i j (sym kept ∙ out)
    ]
  ]

  closed_still : Closed all named new
  closed_still = find_none (λ other. not (new other) && list_any (λ one. new one && named one other) all) all (λ other j.
      elim (new other) as (λ b. new other ≡ b → (not b && list_any (λ one. new one && named one other) all) ≡ false) [
        | true ↦ λ _. refl
        | false ↦ λ out. none_any (λ one. new one && named one other) all (λ one i. one_names one other i j out)
      ] refl)

-- ---- leaders have names of their own

in_layer : (layer : Reading) (n : ℕ) (h : Held) → IsIn h (held_by n (contents layer)) → (h.holder ≡ n) × (h.content ≡ content_under layer h.id)
in_layer layer n h k =
    let r : (e : AnnId × ℕ) × (IsIn e (contents layer) × (h ≡ record { holder = n; id = e.0; content = e.1 })) =
    map-IsIn (λ (e : AnnId × ℕ). let z : Held = record { holder = n; id = e.0; content = e.1 } in z) h (contents layer) k in
    let q : (id : AnnId) × (IsIn id layer.ids × (r.0 ≡ (id, content_under layer id))) = map-IsIn (λ (id : AnnId). let z : AnnId × ℕ = (id, content_under layer id) in z) r.0 layer.ids r.1.0 in
    let id : h.id ≡ q.0 = ap (λ (z : Held). z.id) r.1.1 ∙ ap (λ (z : AnnId × ℕ). z.0) q.1.1 in
    (ap (λ (z : Held). z.holder) r.1.1, ap (λ (z : Held). z.content) r.1.1 ∙ ap (λ (z : AnnId × ℕ). z.1) q.1.1 ∙ ap (content_under layer) (sym id))

holder_from : (layers : List Reading) (n : ℕ) (h : Held) → IsIn h (held_from n (map contents layers)) → n ≤ h.holder
holder_from [] n h k = absurd k
holder_from (layer ∷ layers) n h k = elim (IsIn-either h (held_by n (contents layer)) (held_from (suc n) (map contents layers)) k) [
  | inl i ↦ let e : h.holder ≡ n = (in_layer layer n h i).0 in omega arith
  | inr j ↦ let l : suc n ≤ h.holder = holder_from layers (suc n) h j in omega arith
]

-- a holder has one content under an ID
pub one_content : (layers : List Reading) (n : ℕ) (a b : Held) → IsIn a (held_from n (map contents layers)) → IsIn b (held_from n (map contents layers)) → a.holder ≡ b.holder → a.id ≡ b.id → a.content ≡ b.content
one_content [] n a b i j holder id = absurd i
one_content (layer ∷ layers) n a b i j holder id =
    elim (IsIn-either a (held_by n (contents layer)) (held_from (suc n) (map contents layers)) i) [
      | inl p ↦ elim (IsIn-either b (held_by n (contents layer)) (held_from (suc n) (map contents layers)) j) [
        | inl q ↦ (in_layer layer n a p).1 ∙ ap (content_under layer) id ∙ sym (in_layer layer n b q).1
        | inr q ↦ let e : a.holder ≡ n = (in_layer layer n a p).0 in let l : suc n ≤ b.holder = holder_from layers (suc n) b q in absurd (omega arith)
      ]
      | inr p ↦ elim (IsIn-either b (held_by n (contents layer)) (held_from (suc n) (map contents layers)) j) [
        | inl q ↦ let e : b.holder ≡ n = (in_layer layer n b q).0 in let l : suc n ≤ a.holder = holder_from layers (suc n) a p in absurd (omega arith)
        | inr q ↦ one_content layers (suc n) a b p q holder id
      ]
    ]

one_leader : (layers : List Reading) (a b : Held) → IsIn a (leaders layers) → IsIn b (leaders layers) → item_rank (name_of a) ≡ item_rank (name_of b) → a ≡ b
one_leader layers a b i j e =
    let among : List Held = held_from 0 (map contents layers) in
    let name : (a.holder ≡ b.holder) × (a.id ≡ b.id) = same_item_rank (name_of a) (name_of b) e in
    let content : a.content ≡ b.content = one_content layers 0 a b (in_firsts among a i) (in_firsts among b j) name.0 name.1 in
    elim (two_of Differ (leaders layers) (firsts_differ among) a b i j) [
      | inl same ↦ same
      | inr apart ↦ elim apart [ inl p ↦ absurd (p (sym content)) | inr q ↦ absurd (q content) ]
    ]

-- ---- the decided items stay items

all_both : (a b : Bool) → (a && b) ≡ true → (a ≡ true) × (b ≡ true)
all_both true b e = (refl, e)
all_both false b e = not_both false e refl

all_with : (p : ItemId × Verdict → Bool) (decided : Decided) (item : ItemId) (verdict : Verdict) → p (item, verdict) ≡ true → list_all p decided ≡ true → list_all p (with_verdict decided item verdict) ≡ true
all_with p [] item verdict new all = ap (λ b. b && true) new
all_with p (one ∷ others) item verdict new all =
    elim (nat_cmp (item_rank item) (item_rank one.0)) as (λ o. list_all p (match_ordering o ((item, verdict) ∷ one ∷ others) ((item, verdict) ∷ others) (one ∷ with_verdict others item verdict)) ≡ true) [
      | Less ↦ ap (λ b. b && list_all p (one ∷ others)) new ∙ all
      | Equal ↦ ap (λ b. b && list_all p others) new ∙ (all_both (p one) (list_all p others) all).1
      | Greater ↦
          let both : (p one ≡ true) × (list_all p others ≡ true) = all_both (p one) (list_all p others) all in
          ap (λ b. b && list_all p (with_verdict others item verdict)) both.0 ∙ all_with p others item verdict new both.1
    ]

all_kept : {X : Type 0} (p q : X → Bool) (xs : List X) → list_all p xs ≡ true → list_all p (filter q xs) ≡ true
all_kept p q [] all = refl
all_kept p q (x ∷ xs) all =
    let both : (p x ≡ true) × (list_all p xs ≡ true) = all_both (p x) (list_all p xs) all in
    elim (q x) as (λ b. list_all p (cond b (x ∷ filter q xs) (filter q xs)) ≡ true) [
      | true ↦ ap (λ b. b && list_all p (filter q xs)) both.0 ∙ all_kept p q xs both.1
      | false ↦ all_kept p q xs both.1
    ]

abbrev fault_where : Bool → Option DecisionFault
fault_where items = cond items None (Some NoItem)

items_are : (b : Bool) → fault_where b ≡ None → b ≡ true
items_are true e = refl
items_are false e = none_some (sym e)

-- ---- a step

module _ (conf : Configuration) (characters : ℕ) (layers : List Reading) (decided : Decided) (item : ItemId) (accepted : decision_fault conf characters layers decided ≡ None) where
  -- each decided item is one
  were_items : list_all (λ one. is_some (held_as layers one.0)) decided ≡ true
  were_items = items_are (list_all (λ one. is_some (held_as layers one.0)) decided) (or_none (item_fault layers decided) (option_or (needed (missing layers decided)) (layer_fault conf characters layers decided)) accepted).0

  pub none_missing : missing layers decided ≡ None
  none_missing =
      let rest : option_or (needed (missing layers decided)) (layer_fault conf characters layers decided) ≡ None =
      (or_none (item_fault layers decided) (option_or (needed (missing layers decided)) (layer_fault conf characters layers decided)) accepted).1 in
      unmapped (λ one. NeedsItem (name_of one)) (missing layers decided) (or_none (needed (missing layers decided)) (layer_fault conf characters layers decided) rest).0

  -- the changed decisions have the verdicts of the old ones on all items but one
  module _ (changed : Decided) (others : (other : ItemId) → (item_rank item ≡ item_rank other → ⊥) → verdict_on other changed ≡ verdict_on other decided) (held : Held) (is : held_as layers item ≡ Some held) where
    pub found : IsIn held (leaders layers) × ((item_rank (name_of held) == item_rank item) ≡ true)
    found = found_is (λ h. item_rank (name_of h) == item_rank item) (leaders layers) held is

    pub same_in : (x : Held) → IsIn x (leaders layers) → (x ≡ held) ⊎ (is_in layers changed x ≡ is_in layers decided x)
    same_in x k = elim (eqb_tells (item_rank item) (item_rank (name_of x))) [
      | inl p ↦ inl (one_leader layers x held k found.0 (sym p.1 ∙ sym (tests_same (item_rank (name_of held)) (item_rank item) found.1)))
      | inr p ↦ inr (ap (λ v. is_in_by v (in_each layers x.content)) (others (name_of x) p.1))
    ]

    -- where the step lacks nothing, nothing is missing behind it
    pub nothing_lacks : lacking layers changed held ≡ None → missing layers changed ≡ None
    nothing_lacks lacks = closed_still (leaders layers) (names layers) (is_in layers decided) (is_in layers changed) held same_in none_missing lacks

    stays : list_all (λ one. is_some (held_as layers one.0)) changed ≡ true → changed_fault conf characters layers changed held ≡ None → decision_fault conf characters layers changed ≡ None
    stays items fault =
        let both : (needed (lacking layers changed held) ≡ None) × (layer_fault conf characters layers changed ≡ None) = or_none (needed (lacking layers changed held)) (layer_fault conf characters layers changed) fault in
        let lacks : lacking layers changed held ≡ None = unmapped (λ one. NeedsItem (name_of one)) (lacking layers changed held) both.0 in
        let nothing : missing layers changed ≡ None = nothing_lacks lacks in
        λ i. option_or (fault_where (items i)) (option_or (needed (nothing i)) (both.1 i))

pub with_stays : AcceptedWithVerdict
with_stays conf characters layers decided item verdict accepted fault =
    elim (held_as layers item) as (λ o. held_as layers item ≡ o →
    option_map_or (λ held. option_or (verdict_fault (is_in layers decided held) verdict) (changed_fault conf characters layers (with_verdict decided item verdict) held)) o (Some NoItem) ≡ None
    → decision_fault conf characters layers (with_verdict decided item verdict) ≡ None) [
      | None ↦ λ _ e. none_some (sym e)
      | Some held ↦ λ is e.
          let changed : changed_fault conf characters layers (with_verdict decided item verdict) held ≡ None =
          (or_none (verdict_fault (is_in layers decided held) verdict) (changed_fault conf characters layers (with_verdict decided item verdict) held) e).1 in
          let items : list_all (λ one. is_some (held_as layers one.0)) (with_verdict decided item verdict) ≡ true =
          all_with (λ one. is_some (held_as layers one.0)) decided item verdict (ap is_some is) (were_items conf characters layers decided item accepted) in
          stays conf characters layers decided item accepted (with_verdict decided item verdict) (set_others decided item verdict) held is items changed
    ] refl fault

pub without_stays : AcceptedWithoutVerdict
without_stays conf characters layers decided item accepted fault =
    elim (held_as layers item) as (λ o. held_as layers item ≡ o →
    option_map_or (λ held. option_or (undecided_fault (verdict_on item decided)) (changed_fault conf characters layers (without_verdict decided item) held)) o (Some NoItem) ≡ None
    → decision_fault conf characters layers (without_verdict decided item) ≡ None) [
      | None ↦ λ _ e. none_some (sym e)
      | Some held ↦ λ is e.
          let changed : changed_fault conf characters layers (without_verdict decided item) held ≡ None =
          (or_none (undecided_fault (verdict_on item decided)) (changed_fault conf characters layers (without_verdict decided item) held) e).1 in
          let items : list_all (λ one. is_some (held_as layers one.0)) (without_verdict decided item) ≡ true =
          all_kept (λ one. is_some (held_as layers one.0)) (λ one. not (item_rank one.0 == item_rank item)) decided (were_items conf characters layers decided item accepted) in
          stays conf characters layers decided item accepted (without_verdict decided item) (taken_others decided item) held is items changed
    ] refl fault
