-- With no decisions the items that are in are annotations of the first layer, one of each content that stands in every
-- layer.
use Rattle.std.proofs.Common.{◌≡◌, ℕ, ◌==◌, ◌&&◌, ◌||◌, ne_eqb, Bool, true, false, not, cond, List, [], ◌∷◌, ◌++◌, map, filter, refl, sym, ◌∙◌, ap, subst, inl, inr}
use Rattle.std.proofs.lemmas.Bool.Decides.{eqb_tells}
use Rattle.std.specs.List.{list_all, list_any}
use Rattle.mark_base.specs.declared.ann_id.AnnId.{AnnId}
use Rattle.layer_model.specs.Annotations.{Annotations}
use Rattle.content_keys.specs.Nodes.{IsIn}
use Rattle.content_keys.specs.LayerContents.{content_of, ids_of}
use Rattle.content_keys.proofs.BagLemmas.{map-IsIn, map_map}
use Rattle.unanimous_merge.specs.Items.{Held, firsts, held_by, held_from, stands}
use Rattle.unanimous_merge.specs.Readings.{Reading, contents, reading_of}
use Rattle.unanimous_merge.specs.Unanimous.{in_each}
use Rattle.unanimous_merge.proofs.ListLemmas.{any_map}
use Rattle.curator_decisions.specs.Decisions.{items_in}
use Rattle.curator_decisions.proofs.CuratedItems.{in_firsts}
use Rattle.curator_decisions.proofs.ListLemmas.{filter_nothing, filter_twice, in_filter}

-- contents that stand among the first annotations have their leaders there
firsts_front : (test : ℕ → Bool) (xs rest : List Held) → ((k : ℕ) → test k ≡ true → list_any (λ o. o.content == k) xs ≡ true)
    → filter (λ h. test h.content) (firsts (xs ++ rest)) ≡ filter (λ h. test h.content) (firsts xs)
firsts_front test [] rest all = filter_nothing (λ h. test h.content) (firsts rest) (λ h. none h.content)
  where
    none : (k : ℕ) → test k ≡ false
    none k = elim (test k) as (λ b. test k ≡ b → b ≡ false) [ true ↦ λ e. absurd (let f : false ≡ true = all k e in cc) | false ↦ λ _. refl ] refl
firsts_front test (x ∷ xs) rest all =
    ap (λ zs. cond (test x.content) (x ∷ zs) zs)
    (filter_twice (λ h. test h.content) (λ o. not (o.content == x.content)) (firsts (xs ++ rest))
    ∙ firsts_front (λ k. not (k == x.content) && test k) xs rest more
    ∙ sym (filter_twice (λ h. test h.content) (λ o. not (o.content == x.content)) (firsts xs)))
  where
    more : (k : ℕ) → (not (k == x.content) && test k) ≡ true → list_any (λ o. o.content == k) xs ≡ true
    more k t = elim (eqb_tells k x.content) [
      | inl p ↦ absurd (let f : false ≡ true = sym (ap (λ b. not b && test k) p.0) ∙ t in cc)
      | inr p ↦
          let so : test k ≡ true = sym (ap (λ b. not b && test k) p.0) ∙ t in
          sym (ap (λ b. b || list_any (λ o. o.content == k) xs) (ne_eqb x.content k (λ e. p.1 (sym e)))) ∙ all k so
    ]

-- ---- the items that are in

module _ (first : Annotations) (others : List Reading) where
  abbrev pub layers : List Reading
  layers = reading_of first ∷ others

  abbrev pub c : AnnId → ℕ
  c = content_of first

  -- an annotation of the first layer
  abbrev pub own : AnnId → Held
  own id = record { holder = 0; id = id; content = c id }

  abbrev pub chosen : List Held
  chosen = filter (λ h. in_each layers h.content) (firsts (map own (ids_of first)))

  held_is : held_by 0 (contents (reading_of first)) ≡ map own (ids_of first)
  held_is = map_map (λ (entry : AnnId × ℕ). let h : Held = record { holder = 0; id = entry.0; content = entry.1 } in h) (λ (id : AnnId). (id, c id)) (ids_of first)

  first_has : (k : ℕ) → in_each layers k ≡ true → list_any (λ o. o.content == k) (map own (ids_of first)) ≡ true
  first_has k t =
      any_map (λ (o : Held). o.content == k) own (ids_of first)
      ∙ sym (any_map (λ (e : AnnId × ℕ). e.1 == k) (λ (id : AnnId). (id, c id)) (ids_of first))
      ∙ both (stands k (contents (reading_of first))) (list_all (λ layer. stands k (contents layer)) others) t
    where
      both : (a b : Bool) → (a && b) ≡ true → a ≡ true
      both true b h = refl
      both false b h = h

  pub items_are : items_in layers [] ≡ chosen
  items_are =
      ap (λ xs. filter (λ h. in_each layers h.content) (firsts (xs ++ held_from 1 (map contents others)))) held_is
      ∙ firsts_front (in_each layers) (map own (ids_of first)) (held_from 1 (map contents others)) first_has

  -- an item is an annotation of the first layer, and its content stands in each
  pub record IsChosen (h : Held) : Type 0 where
    pub holder : h.holder ≡ 0
    pub content : h.content ≡ c h.id
    pub listed : IsIn h.id (ids_of first)
    pub each : in_each layers h.content ≡ true

  chosen_is : (h : Held) → IsIn h (map own (ids_of first)) → in_each layers h.content ≡ true → IsChosen h
  chosen_is h k t =
      let r : (id : AnnId) × (IsIn id (ids_of first) × (h ≡ own id)) = map-IsIn own h (ids_of first) k in
      let same : h.id ≡ r.0 = ap (λ (z : Held). z.id) r.1.1 in
      record {
        holder = ap (λ (z : Held). z.holder) r.1.1;
        content = ap (λ (z : Held). z.content) r.1.1 ∙ ap c (sym same);
        listed = subst (λ z. IsIn z (ids_of first)) (sym same) r.1.0;
        each = t;
      }

  pub are_chosen : (h : Held) → IsIn h chosen → IsChosen h
  are_chosen h k =
      let r : IsIn h (firsts (map own (ids_of first))) × (in_each layers h.content ≡ true) = in_filter (λ o. in_each layers o.content) (firsts (map own (ids_of first))) h k in
      chosen_is h (in_firsts (map own (ids_of first)) h r.0) r.1
