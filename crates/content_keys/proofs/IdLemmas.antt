-- IDs by their places, and which IDs a layer has.
use Rattle.std.proofs.Common.{◌≡◌, ℕ, ◌+◌, ◌*◌, ◌≤◌, ◌⊎◌, min, Bool, true, false, ◌||◌, List, [], ◌∷◌, map, refl, sym, ap, ◌∙◌, subst, arith, inl, inr, Option, Some, None, IsSome, is_some, option_map, option_and_then, cond, ◌==◌}
use Rattle.std.specs.List.{list_any}
use Rattle.std.specs.Ordering.{nat_cmp, eq_by_cmp}
use Rattle.std.specs.Cmp.{Equal-is, nat_cmp_total, tied_itself}
use Rattle.std.specs.Ordering.{is_eq}
use Rattle.std.specs.FinMap as finite
use Rattle.std.specs.FinMap.{contains_key-keys, nat_cmp-IsAntisymmetric}
use Rattle.mark_base.specs.declared.ann_id.AnnId.{AnnId}
use Rattle.mark_base.specs.declared.ann_id.Kind.{Kind}
use Rattle.mark_base.specs.declared.ann_id.Kind.TheVariants as letter
use Rattle.mark_base.specs.ReadIds.{id_at}
use Rattle.mark_base.proofs.IdLemmas.{id_at-id, id_of_parts}
use Rattle.layer_model.specs.declared.mark.Mark.{Mark}
use Rattle.layer_model.specs.declared.mark.Mark.TheVariants as marked
use Rattle.layer_model.specs.Annotations.{Annotations}
use Rattle.layer_model.specs.Classes.{letter_place, rank}
use Rattle.layer_model.specs.Layers.{IsLayer, mark_of}
use Rattle.layer_model.specs.Numbers.{NumbersFit}
use Rattle.content_keys.specs.Nodes.{IsIn, Node}
use Rattle.content_keys.specs.LayerContents.{ids_of, ids_of_letter, node_of, node_of_mark}
use Rattle.content_keys.proofs.BagLemmas.{IsIn-map, map-IsIn, IsIn-left, IsIn-right, IsIn-either}

-- ---- an ID is known by its place

kind_at : ℕ → Kind
kind_at n =
    cond (n == 0) letter.Text (cond (n == 1) letter.Event (cond (n == 2) letter.Relation (cond (n == 3) letter.Attribute (cond (n == 4) letter.Legacy (cond (n == 5) letter.Normal letter.Note)))))

at_place : (kind : Kind) → kind_at (letter_place kind) ≡ kind
unfolding kind_at
at_place letter.Text = refl
at_place letter.Event = refl
at_place letter.Relation = refl
at_place letter.Attribute = refl
at_place letter.Legacy = refl
at_place letter.Normal = refl
at_place letter.Note = refl

same_numbers : (p q m n : ℕ) → m ≤ 999999999 → n ≤ 999999999 → p * 1000000000 + m ≡ q * 1000000000 + n → (p ≡ q) × (m ≡ n)
same_numbers p q m n small few e = (omega arith, omega arith)

pub same_rank : (a b : AnnId) → rank a ≡ rank b → a ≡ b
same_rank a b e =
    let parts = same_numbers (letter_place a.kind) (letter_place b.kind) a.number b.number a.within b.within e in
    let kinds : a.kind ≡ b.kind = sym (at_place a.kind) ∙ ap kind_at parts.0 ∙ at_place b.kind in
    id_of_parts a b.kind b.number kinds parts.1 ∙ id_at-id b

-- ---- numbers among the keys of a map

any_in : (q : ℕ) (ns : List ℕ) → list_any (eq_by_cmp nat_cmp q) ns ≡ true → IsIn q ns
any_in q [] h = cc
any_in q (n ∷ ns) h =
    elim (eq_by_cmp nat_cmp q n) as (λ b. eq_by_cmp nat_cmp q n ≡ b → (b || list_any (eq_by_cmp nat_cmp q) ns) ≡ true → (q ≡ n) ⊎ IsIn q ns) [
      | true ↦ λ e _. inl (nat_cmp-IsAntisymmetric q n ((Equal-is (nat_cmp q n)).0 e))
      | false ↦ λ _ g. inr (any_in q ns g)
    ] refl h

or_true : (b : Bool) → (b || true) ≡ true
or_true true = refl
or_true false = refl

in_any : (q : ℕ) (ns : List ℕ) → IsIn q ns → list_any (eq_by_cmp nat_cmp q) ns ≡ true
in_any q [] h = absurd h
in_any q (n ∷ ns) h = elim h [
  | inl e ↦
      let tied : eq_by_cmp nat_cmp q n ≡ true = ap (eq_by_cmp nat_cmp q) (sym e) ∙ ap is_eq (tied_itself nat_cmp_total q) in
      ap (λ b. b || list_any (eq_by_cmp nat_cmp q) ns) tied
  | inr k ↦ ap (λ b. eq_by_cmp nat_cmp q n || b) (in_any q ns k) ∙ or_true _
]

-- ---- the IDs of a letter

none_some : {X : Type 0} {x : X} → None ≡ Some x → ⊥
none_some e = cc

-- what has a node stands in its map
stands : {V : Type 0} (wrap : V → Mark) (o : Option V) (s : Node AnnId) → option_and_then node_of_mark (option_map wrap o) ≡ Some s → is_some o ≡ true
stands wrap None s e = absurd (none_some e)
stands wrap (Some v) s e = refl

has_id : {V : Type 0} (kind : Kind) (m : finite.FinMap nat_cmp V) (n : ℕ) → finite.contains_key m n ≡ true → IsIn (id_at kind n) (map (id_at kind) (finite.keys m))
has_id kind m n h = IsIn-map (id_at kind) n (finite.keys m) (any_in n (finite.keys m) (sym (contains_key-keys m n) ∙ h))

module _ (l : Annotations) where
  abbrev at_kind : Kind → ℕ → Option (Node AnnId)
  at_kind kind n = option_and_then node_of_mark (mark_of l kind n)

  listed_at : (kind : Kind) (n : ℕ) (s : Node AnnId) → at_kind kind n ≡ Some s → IsIn (id_at kind n) (ids_of l)
  listed_at letter.Text n s e = IsIn-left _ _ _ (has_id letter.Text l.spans n (stands marked.Span _ s e))
  listed_at letter.Event n s e = IsIn-right _ (ids_of_letter l letter.Text) _ (IsIn-left _ _ _ (has_id letter.Event l.events n (stands marked.Event _ s e)))
  listed_at letter.Relation n s e =
      IsIn-right _ (ids_of_letter l letter.Text) _ (IsIn-right _ (ids_of_letter l letter.Event) _ (IsIn-left _ _ _ (has_id letter.Relation l.relations n (stands marked.Relation _ s e))))
  listed_at letter.Attribute n s e =
      IsIn-right _ (ids_of_letter l letter.Text) _ (IsIn-right _ (ids_of_letter l letter.Event) _ (IsIn-right _ (ids_of_letter l letter.Relation) _ (
      IsIn-left _ _ _ (has_id letter.Attribute l.attributes n (stands marked.Attribute _ s e)))))
  listed_at letter.Legacy n s e =
      IsIn-right _ (ids_of_letter l letter.Text) _ (IsIn-right _ (ids_of_letter l letter.Event) _ (IsIn-right _ (ids_of_letter l letter.Relation) _ (
      IsIn-right _ (ids_of_letter l letter.Attribute) _ (IsIn-left _ _ _ (has_id letter.Legacy l.legacy n (stands marked.Attribute _ s e))))))
  listed_at letter.Normal n s e =
      IsIn-right _ (ids_of_letter l letter.Text) _ (IsIn-right _ (ids_of_letter l letter.Event) _ (IsIn-right _ (ids_of_letter l letter.Relation) _ (
      IsIn-right _ (ids_of_letter l letter.Attribute) _ (IsIn-right _ (ids_of_letter l letter.Legacy) _ (IsIn-left _ _ _ (has_id letter.Normal l.normals n (stands marked.Normal _ s e)))))))
  listed_at letter.Note n s e = absurd (no_note (finite.get l.notes n) e)
    where
      no_note : (o : Option _) → option_and_then node_of_mark (option_map marked.Note o) ≡ Some s → ⊥
      no_note None g = none_some g
      no_note (Some note) g = none_some g

  -- each annotation with a content is among the IDs of the layer
  pub in_ids : (id : AnnId) (s : Node AnnId) → node_of l id ≡ Some s → IsIn id (ids_of l)
  in_ids id s e = subst (λ x. IsIn x (ids_of l)) (id_at-id id) (listed_at id.kind id.number s e)

  -- each of the IDs of the layer has a content
  pub ids_have : IsLayer l → (id : AnnId) → IsIn id (ids_of l) → IsSome (node_of l id)
  ids_have keeps id h = elim (IsIn-either id (ids_of_letter l letter.Text) _ h) [
    | inl a ↦ made letter.Text marked.Span l.spans (λ n. refl) (λ v. refl) keeps.spans id a
    | inr b ↦ elim (IsIn-either id (ids_of_letter l letter.Event) _ b) [
      | inl a ↦ made letter.Event marked.Event l.events (λ n. refl) (λ v. refl) keeps.events id a
      | inr b ↦ elim (IsIn-either id (ids_of_letter l letter.Relation) _ b) [
        | inl a ↦ made letter.Relation marked.Relation l.relations (λ n. refl) (λ v. refl) keeps.relations id a
        | inr b ↦ elim (IsIn-either id (ids_of_letter l letter.Attribute) _ b) [
          | inl a ↦ made letter.Attribute marked.Attribute l.attributes (λ n. refl) (λ v. refl) keeps.attributes id a
          | inr b ↦ elim (IsIn-either id (ids_of_letter l letter.Legacy) _ b) [
            | inl a ↦ made letter.Legacy marked.Attribute l.legacy (λ n. refl) (λ v. refl) keeps.legacy id a
            | inr b ↦ elim (IsIn-either id (ids_of_letter l letter.Normal) _ b) [
              | inl a ↦ made letter.Normal marked.Normal l.normals (λ n. refl) (λ v. refl) keeps.normals id a
              | inr b ↦ absurd b
            ]
          ]
        ]
      ]
    ]
  ]
    where
      made : {V : Type 0} (kind : Kind) (wrap : V → Mark) (m : finite.FinMap nat_cmp V) → ((n : ℕ) → mark_of l kind n ≡ option_map wrap (finite.get m n)) → ((v : V) → IsSome (node_of_mark (wrap v)))
          → NumbersFit m → (id : AnnId) → IsIn id (map (id_at kind) (finite.keys m)) → IsSome (node_of l id)
      made kind wrap m same all fits id h =
          let r : (n : ℕ) × (IsIn n (finite.keys m) × (id ≡ id_at kind n)) = map-IsIn (id_at kind) id (finite.keys m) h in
          let there : finite.contains_key m r.0 ≡ true = contains_key-keys m r.0 ∙ in_any r.0 (finite.keys m) r.1.0 in
          let small : r.0 ≤ 999999999 = fits r.0 there in
          let number : min r.0 999999999 ≡ r.0 = omega arith in
          let mark : mark_of l kind (min r.0 999999999) ≡ option_map wrap (finite.get m r.0) = ap (mark_of l kind) number ∙ same r.0 in
          subst (λ x. IsSome (node_of l x)) (sym r.1.1) (subst (λ o. IsSome (option_and_then node_of_mark o)) (sym mark) (of_get (finite.get m r.0) there))
        where
          of_get : (o : Option _) → is_some o ≡ true → IsSome (option_and_then node_of_mark (option_map wrap o))
          of_get None e = cc
          of_get (Some v) e = all v
