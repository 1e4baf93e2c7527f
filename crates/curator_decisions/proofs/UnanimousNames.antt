-- A content that stands in each layer names contents that do.
use Rattle.std.proofs.Common.{◌≡◌, ℕ, ◌⊎◌, ◌==◌, ◌&&◌, ◌||◌, eqb-true, eq-eqb, Bool, true, false, List, [], ◌∷◌, refl, sym, ◌∙◌, ap, inl, inr, Some}
use Rattle.std.specs.List.{list_any}
use Rattle.mark_base.specs.declared.ann_id.AnnId.{AnnId}
use Rattle.layer_model.specs.Annotations.{Annotations}
use Rattle.layer_model.specs.Coherent.{IsCoherent}
use Rattle.layer_model.specs.Layers.{IsLayer}
use Rattle.content_keys.specs.Nodes.{AreAlike, IsIn, Names, Node}
use Rattle.content_keys.specs.LayerContents.{content_of, ids_of, node_of}
use Rattle.content_keys.proofs.BuiltLemmas.{coherent_built}
use Rattle.content_keys.proofs.ContentLemmas.{Twin, twin}
use Rattle.content_keys.proofs.IdLemmas.{ids_have}
use Rattle.content_keys.proofs.LawLemmas.{parts_decide}
use Rattle.content_keys.proofs.NodeLemmas.{number_alike}
use Rattle.unanimous_merge.specs.Items.{stands}
use Rattle.unanimous_merge.specs.Readings.{contents, reading_of, readings}
use Rattle.unanimous_merge.specs.Unanimous.{in_each}
use Rattle.unanimous_merge.proofs.ListLemmas.{any_map}
use Rattle.curator_decisions.proofs.CuratedNames.{HasNode, IsWhole, has_node, named_built, node_is, some_node}
use Rattle.curator_decisions.proofs.UndecidedItems.{layers}
use Rattle.curator_decisions.proofs.ListLemmas.{or_true}

stands_at : (l : Annotations) (k : ℕ) (ids : List AnnId) → list_any (λ id. content_of l id == k) ids ≡ true → (z : AnnId) × (IsIn z ids × (content_of l z ≡ k))
stands_at l k [] h = absurd (let f : false ≡ true = h in cc)
stands_at l k (id ∷ ids) h =
    elim (content_of l id == k) as (λ b. (content_of l id == k) ≡ b → (b || list_any (λ x. content_of l x == k) ids) ≡ true → (z : AnnId) × (((z ≡ id) ⊎ IsIn z ids) × (content_of l z ≡ k))) [
      | true ↦ λ e _. (id, (inl refl, eqb-true _ _ e))
      | false ↦ λ _ g. let r : (z : AnnId) × (IsIn z ids × (content_of l z ≡ k)) = stands_at l k ids g in (r.0, (inr r.1.0, r.1.1))
    ] refl h

at_stands : (l : Annotations) (k : ℕ) (ids : List AnnId) (z : AnnId) → IsIn z ids → content_of l z ≡ k → list_any (λ id. content_of l id == k) ids ≡ true
at_stands l k [] z i e = absurd i
at_stands l k (id ∷ ids) z i e = elim i [
  | inl same ↦ ap (λ b. b || list_any (λ x. content_of l x == k) ids) (eq-eqb (content_of l id) k (ap (content_of l) (sym same) ∙ e))
  | inr m ↦ ap (λ b. (content_of l id == k) || b) (at_stands l k ids z m e) ∙ or_true _
]

stands_is : (l : Annotations) (k : ℕ) → stands k (contents (reading_of l)) ≡ list_any (λ id. content_of l id == k) (ids_of l)
stands_is l k = any_map (λ (e : AnnId × ℕ). e.1 == k) (λ (id : AnnId). (id, content_of l id)) (ids_of l)

stands_too : (first : Annotations) → IsCoherent first → (old : AnnId) (s : Node AnnId) → node_of first old ≡ Some s → (y : AnnId) → Names y s → (l : Annotations) → IsLayer l → IsCoherent l
    → stands (content_of first old) (contents (reading_of l)) ≡ true → stands (content_of first y) (contents (reading_of l)) ≡ true
stands_too first whole old s e y n l is cohere h =
    let z : (z : AnnId) × (IsIn z (ids_of l) × (content_of l z ≡ content_of first old)) = stands_at l (content_of first old) (ids_of l) (sym (stands_is l (content_of first old)) ∙ h) in
    let t : HasNode l z.0 = has_node l z.0 (ids_have l is z.0 z.1.0) in
    let there : node_of l z.0 ≡ Some t.node = node_is l z.0 t.mark t.node t.there t.made in
    let alike : AreAlike (content_of first) (content_of l) s t.node = (parts_decide first l (coherent_built first whole) (coherent_built l cohere) old z.0 s t.node e there).0 (sym z.1.1) in
    let w : Twin (content_of first) (content_of l) t.node y = twin (content_of first) (content_of l) s t.node (number_alike (content_of first) (content_of l) s t.node alike) y n in
    let listed : IsIn w.other (ids_of l) = some_node l 18 w.other (named_built l cohere z.0 t.node there w.other w.named) in
    stands_is l (content_of first y) ∙ at_stands l (content_of first y) (ids_of l) w.other listed (sym w.same)

and_both : (a b c d : Bool) → (a && b) ≡ true → (a ≡ true → c ≡ true) → (b ≡ true → d ≡ true) → (c && d) ≡ true
and_both true b c d h f g = (λ i. f refl i && g h i)
and_both false b c d h f g = absurd (let e : false ≡ true = h in cc)

each_too : (first : Annotations) → IsCoherent first → (old : AnnId) (s : Node AnnId) → node_of first old ≡ Some s → (y : AnnId) → Names y s → (rows : List (List ℕ × Annotations)) → ((row : List ℕ × Annotations) → IsIn row rows → IsWhole row)
    → in_each (readings rows) (content_of first old) ≡ true → in_each (readings rows) (content_of first y) ≡ true
each_too first whole old s e y n [] all h = refl
each_too first whole old s e y n (row ∷ rows) all h =
    let w : IsWhole row = all row (inl refl) in
    and_both (stands (content_of first old) (contents (reading_of row.1))) (in_each (readings rows) (content_of first old)) (stands (content_of first y) (contents (reading_of row.1))) (in_each (readings rows) (content_of first y)) h
    (stands_too first whole old s e y n row.1 w.0 w.1) (each_too first whole old s e y n rows (λ r k. all r (inr k)))

-- what an annotation names has a content that stands in each layer where its own does
pub names_each : (first : Annotations) → IsLayer first → IsCoherent first → (rows : List (List ℕ × Annotations)) → ((row : List ℕ × Annotations) → IsIn row rows → IsWhole row) → (old : AnnId) (s : Node AnnId) → node_of first old ≡ Some s
    → in_each (layers first (readings rows)) (content_of first old) ≡ true → (y : AnnId) → Names y s → in_each (layers first (readings rows)) (content_of first y) ≡ true
names_each first is whole rows all old s e each y n =
    and_both (stands (content_of first old) (contents (reading_of first))) (in_each (readings rows) (content_of first old)) (stands (content_of first y) (contents (reading_of first))) (in_each (readings rows) (content_of first y)) each
    (stands_too first whole old s e y n first is whole) (each_too first whole old s e y n rows all)
