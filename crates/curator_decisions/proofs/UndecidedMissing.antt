-- With no decisions nothing is missing: what is in names only what is in.
use Rattle.std.proofs.Common.{◌≡◌, ℕ, ◌==◌, ◌&&◌, true, false, not, List, [], ◌++◌, map, slice_get, refl, sym, ◌∙◌, ap, subst, inl, inr, Some, None}
use Rattle.std.proofs.lemmas.Bool.Decides.{eqb_tells}
use Rattle.std.specs.Option.{option_map_or}
use Rattle.std.specs.List.{list_any}
use Rattle.mark_base.specs.declared.ann_id.AnnId.{AnnId}
use Rattle.layer_model.specs.Annotations.{Annotations}
use Rattle.layer_model.specs.Coherent.{IsCoherent}
use Rattle.layer_model.specs.Layers.{IsLayer}
use Rattle.content_keys.specs.Nodes.{IsIn, Node}
use Rattle.content_keys.specs.LayerContents.{content_of, node_of}
use Rattle.content_keys.proofs.BagLemmas.{IsIn-either, map-IsIn}
use Rattle.content_keys.proofs.IdLemmas.{ids_have}
use Rattle.unanimous_merge.specs.Items.{Held, leaders}
use Rattle.unanimous_merge.specs.Readings.{Reading, reading_of, readings}
use Rattle.unanimous_merge.specs.Unanimous.{in_each}
use Rattle.curator_decisions.specs.DecisionFaults.{missing, named_contents, names}
use Rattle.curator_decisions.specs.Decisions.{is_in}
use Rattle.curator_decisions.proofs.ClassLemmas.{none_any}
use Rattle.curator_decisions.proofs.UndecidedItems.{IsChosen, are_chosen, items_are, layers}
use Rattle.curator_decisions.proofs.ListLemmas.{filter_in}
use Rattle.curator_decisions.proofs.CuratedParts.{find_none, not_both}
use Rattle.curator_decisions.proofs.CuratedNames.{HasNode, IsWhole, has_node, node_is}
use Rattle.curator_decisions.proofs.UnanimousNames.{names_each}

module _ (first : Annotations) (rows : List (List ℕ × Annotations)) (is : IsLayer first) (whole : IsCoherent first) (all : (row : List ℕ × Annotations) → IsIn row rows → IsWhole row) where
  abbrev all_layers : List Reading
  all_layers = layers first (readings rows)

  -- the contents that an item names stand in each layer
  named_each : (held : Held) → IsChosen first (readings rows) held → (k : ℕ) → IsIn k (named_contents (reading_of first) held.id) → in_each all_layers k ≡ true
  named_each held c k i =
      let m : HasNode first held.id = has_node first held.id (ids_have first is held.id c.listed) in
      let node : node_of first held.id ≡ Some m.node = node_is first held.id m.mark m.node m.there m.made in
      let each : in_each all_layers (content_of first held.id) ≡ true = ap (in_each all_layers) (sym c.content) ∙ c.each in
      let P : List ℕ → Type 0 = IsIn k in
      let among : IsIn k (map (content_of first) m.node.named ++ map (λ link. content_of first link.1) m.node.bag) =
      subst P (ap (λ o. option_map_or (λ (n : Node AnnId). map (content_of first) n.named ++ map (λ link. content_of first link.1) n.bag) o []) node) i in
      elim (IsIn-either k (map (content_of first) m.node.named) (map (λ link. content_of first link.1) m.node.bag) among) [
        | inl a ↦
            let r : (y : AnnId) × (IsIn y m.node.named × (k ≡ content_of first y)) = map-IsIn (content_of first) k m.node.named a in
            ap (in_each all_layers) r.1.1 ∙ names_each first is whole rows all held.id m.node node each r.0 (inl r.1.0)
        | inr b ↦
            let r : (link : ℕ × AnnId) × (IsIn link m.node.bag × (k ≡ content_of first link.1)) = map-IsIn (λ (link : ℕ × AnnId). content_of first link.1) k m.node.bag b in
            ap (in_each all_layers) r.1.1 ∙ names_each first is whole rows all held.id m.node node each r.0.1 (inr (r.0.0, r.1.0))
      ]

  -- an item that is in does not name one that is not
  not_named : (other held : Held) → is_in all_layers [] other ≡ false → IsIn held (leaders all_layers) → (is_in all_layers [] held && names all_layers held other) ≡ false
  not_named other held out k =
      elim (is_in all_layers [] held) as (λ b. is_in all_layers [] held ≡ b → (b && names all_layers held other) ≡ false) [
        | false ↦ λ _. refl
        | true ↦ λ e.
            let P : List Held → Type 0 = IsIn held in
            let c : IsChosen first (readings rows) held = are_chosen first (readings rows) held (subst P (items_are first (readings rows)) (filter_in (is_in all_layers []) (leaders all_layers) held k e)) in
            ap (λ o. option_map_or (λ (layer : Reading). list_any (λ content. content == other.content) (named_contents layer held.id)) o false) (ap (slice_get all_layers) c.holder)
            ∙ none_any (λ content. content == other.content) (named_contents (reading_of first) held.id) (λ n i. elim (eqb_tells n other.content) [
              | inl p ↦ not_both (in_each all_layers other.content) (ap (in_each all_layers) (sym p.1) ∙ named_each held c n i) out
              | inr p ↦ p.0
            ])
      ] refl

  pub nothing_missing : missing all_layers [] ≡ None
  nothing_missing = find_none (λ other. not (is_in all_layers [] other) && list_any (λ held. is_in all_layers [] held && names all_layers held other) (leaders all_layers)) (leaders all_layers) (λ other k.
      elim (is_in all_layers [] other) as (λ b. is_in all_layers [] other ≡ b → (not b && list_any (λ held. is_in all_layers [] held && names all_layers held other) (leaders all_layers)) ≡ false) [
        | true ↦ λ _. refl
        | false ↦ λ out. none_any (λ held. is_in all_layers [] held && names all_layers held other) (leaders all_layers) (λ held i. not_named other held out i)
      ] refl)
