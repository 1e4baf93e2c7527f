-- The counterpart is the lowest annotation of the other layer with the same content, and contents are equal where the parts are.
use Rattle.std.proofs.Common.{◌≡◌, ℕ, zero, suc, ◌<◌, ◌≤◌, length, get_or, min, Bool, true, false, ◌&&◌, cond, T, List, [], ◌∷◌, ◌++◌, map, refl, sym, ap, ◌∙◌, subst, arith, inl, inr, Option, Some, None, IsSome, option_and_then, ◌↔◌}
use Rattle.std.proofs.lemmas.Bool.Decides.{eqb_tells}
use Rattle.std.proofs.lemmas.Option.{same_Some}
use Rattle.std.specs.List.{AllByRecursion}
use Rattle.std.specs.List.Sorted.{IsNonDecreasingBy}
use Rattle.std.specs.Map.{keys_of}
use Rattle.std.specs.Ordering.{nat_cmp, is_lt}
use Rattle.std.specs.Cmp.{ranked}
use Rattle.std.specs.FinMap as finite
use Rattle.std.specs.FinMap.{entries_sorted}
use Rattle.std.specs.FinMap.Entries.{below_all, is_sorted}
use Rattle.std.specs.declared.cmp.Ordering.TheVariants.{Less, Equal, Greater}
use Rattle.mark_base.specs.declared.ann_id.AnnId.{AnnId}
use Rattle.mark_base.specs.declared.ann_id.Kind.{Kind}
use Rattle.mark_base.specs.declared.ann_id.Kind.TheVariants as letter
use Rattle.mark_base.specs.ReadIds.{id_at}
use Rattle.layer_model.specs.Annotations.{Annotations}
use Rattle.layer_model.specs.Classes.{letter_place, rank}
use Rattle.layer_model.specs.Layers.{IsLayer}
use Rattle.content_keys.specs.Nodes.{AreAlike, IsIn, Node, number}
use Rattle.content_keys.specs.LayerContents.{content_of, contents_of, ids_of, node_of}
use Rattle.content_keys.specs.Counterparts.{IsLowest, behind, counterpart_in, first_with}
use Rattle.content_keys.specs.Places.{AreBuilt}
use Rattle.content_keys.proofs.ContentLemmas.{content_of_parts}
use Rattle.content_keys.proofs.IdLemmas.{ids_have, in_ids, same_rank}
use Rattle.content_keys.proofs.NodeLemmas.{alike, number_alike}

-- ---- the IDs of a layer ascend

-- each ID is at most each behind it
Up : List AnnId → Type 0
Up [] = Unit {0}
Up (x ∷ xs) = AllByRecursion (λ y. rank x ≤ rank y) xs × Up xs

left : (a b : Bool) → T (a && b) → T a
left true b h = tt
left false b h = h

right : (a b : Bool) → T (a && b) → T b
right true b h = h
right false b h = absurd h

is_less : (a b : ℕ) → T (is_lt (nat_cmp a b)) → a < b
is_less a b h = elim (nat_cmp a b) as (λ r. r ≡ nat_cmp a b → T (is_lt r) → a < b) [
  | Less ↦ λ w _. ranked a b Less w
  | Equal ↦ λ _ g. absurd g
  | Greater ↦ λ _ g. absurd g
] refl h

below : {V : Type 0} (kind : Kind) (n : ℕ) (es : List (ℕ × V)) → T (below_all nat_cmp n es) → AllByRecursion (λ y. rank (id_at kind n) ≤ rank y) (map (id_at kind) (keys_of es))
below kind n [] h = tt
below kind n (e ∷ es) h =
    let less : n < e.0 = is_less n e.0 (left _ _ h) in
    ((let least : min n 999999999 ≤ min e.0 999999999 = omega arith in omega arith), below kind n es (right _ _ h))

up_letter : {V : Type 0} (kind : Kind) (es : List (ℕ × V)) → T (is_sorted nat_cmp es) → Up (map (id_at kind) (keys_of es))
unfolding Up
up_letter kind [] h = tt
up_letter kind (e ∷ es) h = (below kind e.0 es (left _ _ h), up_letter kind es (right _ _ h))

-- each ID is of a letter from a place on
AreFrom : ℕ → List AnnId → Type 0
AreFrom place xs = AllByRecursion (λ y. place ≤ letter_place y.kind) xs

all_more : {X : Type 0} (P Q : X → Type 0) → ((x : X) → P x → Q x) → (xs : List X) → AllByRecursion P xs → AllByRecursion Q xs
all_more P Q f [] h = tt
all_more P Q f (x ∷ xs) h = (f x h.0, all_more P Q f xs h.1)

all_append : {X : Type 0} (P : X → Type 0) (xs ys : List X) → AllByRecursion P xs → AllByRecursion P ys → AllByRecursion P (xs ++ ys)
all_append P [] ys h g = g
all_append P (x ∷ xs) ys h g = (h.0, all_append P xs ys h.1 g)

from_letter : (kind : Kind) (ns : List ℕ) → AreFrom (letter_place kind) (map (id_at kind) ns)
unfolding AreFrom
from_letter kind [] = tt
from_letter kind (n ∷ ns) = (omega arith, from_letter kind ns)

across : (kind : Kind) (n place : ℕ) (y : AnnId) → letter_place kind < place → place ≤ letter_place y.kind → rank (id_at kind n) ≤ rank y
across kind n place y less from = let small : min n 999999999 ≤ 999999999 = omega arith in omega arith

record Sorted (place : ℕ) (xs : List AnnId) : Type 0 where
  up : Up xs
  from : AreFrom place xs

-- the IDs of one letter before those of later ones
joined : {V : Type 0} (kind : Kind) (es : List (ℕ × V)) (place : ℕ) (ys : List AnnId) → T (is_sorted nat_cmp es) → letter_place kind < place → Sorted place ys → Sorted (letter_place kind) (map (id_at kind) (keys_of es) ++ ys)
unfolding Up AreFrom
joined {V} kind es place ys sorted less rest = record {
  up = go es sorted;
  from = all_append (λ y. letter_place kind ≤ letter_place y.kind) (map (id_at kind) (keys_of es)) ys (from_letter kind (keys_of es))
      (all_more (λ y. place ≤ letter_place y.kind) (λ y. letter_place kind ≤ letter_place y.kind) (λ y h. omega arith) ys rest.from);
}
  where
    go : (fs : List (ℕ × V)) → T (is_sorted nat_cmp fs) → Up (map (id_at kind) (keys_of fs) ++ ys)
    go [] h = rest.up
    go (f ∷ fs) h = (
      all_append (λ y. rank (id_at kind f.0) ≤ rank y) (map (id_at kind) (keys_of fs)) ys (below kind f.0 fs (left _ _ h))
          (all_more (λ y. place ≤ letter_place y.kind) (λ y. rank (id_at kind f.0) ≤ rank y) (λ y g. across kind f.0 place y less g) ys rest.from),
      go fs (right _ _ h),
    )

ids_up : (l : Annotations) → Up (ids_of l)
unfolding Up AreFrom
ids_up l =
    let none : Sorted 7 [] = record { up = tt; from = tt } in
    (joined letter.Text (finite.entries l.spans) 1 _ (entries_sorted l.spans) (omega arith)
    (joined letter.Event (finite.entries l.events) 2 _ (entries_sorted l.events) (omega arith)
    (joined letter.Relation (finite.entries l.relations) 3 _ (entries_sorted l.relations) (omega arith)
    (joined letter.Attribute (finite.entries l.attributes) 4 _ (entries_sorted l.attributes) (omega arith)
    (joined letter.Legacy (finite.entries l.legacy) 5 _ (entries_sorted l.legacy) (omega arith)
    (joined letter.Normal (finite.entries l.normals) 7 [] (entries_sorted l.normals) (omega arith) none)))))).up

all_at : {X : Type 0} (P : X → Type 0) (xs : List X) → AllByRecursion P xs → (j : ℕ) (d : X) → j < length xs → P (get_or xs j d)
all_at P [] h j d l = absurd (omega arith)
all_at P (x ∷ xs) h zero d l = h.0
all_at P (x ∷ xs) h (suc j) d l = all_at P xs h.1 j d (omega arith)

up_rises : (xs : List AnnId) → Up xs → IsNonDecreasingBy rank xs
unfolding Up
up_rises [] h i j d le l = absurd (omega arith)
up_rises (x ∷ xs) h zero zero d le l = let same : rank x ≤ rank x = omega arith in same
up_rises (x ∷ xs) h zero (suc j) d le l = all_at (λ y. rank x ≤ rank y) xs h.0 j d (omega arith)
up_rises (x ∷ xs) h (suc i) zero d le l = absurd (omega arith)
up_rises (x ∷ xs) h (suc i) (suc j) d le l = up_rises xs h.1 i j d (omega arith) (omega arith)

-- the IDs of a layer ascend by their ranks
pub ids_rise : (l : Annotations) → IsNonDecreasingBy rank (ids_of l)
ids_rise l = up_rises (ids_of l) (ids_up l)

-- ---- what is found

module _ (f : AnnId → ℕ) where
  abbrev with : List AnnId → List (AnnId × ℕ)
  with ids = map (λ id. (id, f id)) ids

  behind_in : (id : AnnId) (ids : List AnnId) → IsIn id ids → behind id (with ids) ≡ Some (f id)
  behind_in id [] h = absurd h
  behind_in id (x ∷ xs) h =
      elim (eqb_tells (rank x) (rank id)) [
        | inl p ↦ (λ i. cond (p.0 i) (Some (f x)) (behind id (with xs))) ∙ ap (λ y. Some (f y)) (same_rank x id p.1)
        | inr p ↦ (λ i. cond (p.0 i) (Some (f x)) (behind id (with xs))) ∙ behind_in id xs (elim h [ inl e ↦ absurd (p.1 (ap rank (sym e))) | inr k ↦ k ])
      ]

  in_behind : (id : AnnId) (ids : List AnnId) (c : ℕ) → behind id (with ids) ≡ Some c → IsIn id ids × (c ≡ f id)
  in_behind id [] c e = cc
  in_behind id (x ∷ xs) c e =
      elim (eqb_tells (rank x) (rank id)) [
        | inl p ↦
            let g : Some (f x) ≡ Some c = sym (λ i. cond (p.0 i) (Some (f x)) (behind id (with xs))) ∙ e in
            let same : x ≡ id = same_rank x id p.1 in
            (inl (sym same), sym (same_Some _ _ g) ∙ ap f same)
        | inr p ↦
            let r = in_behind id xs c (sym (λ i. cond (p.0 i) (Some (f x)) (behind id (with xs))) ∙ e) in
            (inr r.0, r.1)
      ]

  record First (ids : List AnnId) (c : ℕ) (y : AnnId) : Type 0 where
    among : IsIn y ids
    is : f y ≡ c
    lowest : (z : AnnId) → IsIn z ids → f z ≡ c → rank y ≤ rank z

  of_all : (x : AnnId) (xs : List AnnId) → AllByRecursion (λ y. rank x ≤ rank y) xs → (z : AnnId) → IsIn z xs → rank x ≤ rank z
  of_all x [] h z k = absurd k
  of_all x (y ∷ ys) h z k = elim k [ inl e ↦ subst (λ w. rank x ≤ rank w) (sym e) h.0 | inr m ↦ of_all x ys h.1 z m ]

  first_is : (ids : List AnnId) (c : ℕ) (y : AnnId) → Up ids → first_with (with ids) c ≡ Some y → First ids c y
  unfolding Up
  first_is [] c y up e = cc
  first_is (x ∷ xs) c y up e =
      elim (eqb_tells (f x) c) [
        | inl p ↦
            let g : Some x ≡ Some y = sym (λ i. cond (p.0 i) (Some x) (first_with (with xs) c)) ∙ e in
            let same : x ≡ y = same_Some _ _ g in
            subst (First (x ∷ xs) c) same record {
              among = inl refl;
              is = p.1;
              lowest = λ z k _. elim k [ inl q ↦ subst (λ w. rank x ≤ rank w) (sym q) (let n : rank x ≤ rank x = omega arith in n) | inr m ↦ of_all x xs up.0 z m ];
            }
        | inr p ↦
            let r : First xs c y = first_is xs c y up.1 (sym (λ i. cond (p.0 i) (Some x) (first_with (with xs) c)) ∙ e) in
            record {
              among = inr r.among;
              is = r.is;
              lowest = λ z k q. elim k [ inl s ↦ absurd (p.1 (ap f (sym s) ∙ q)) | inr m ↦ r.lowest z m q ];
            }
      ]

  none_is : (ids : List AnnId) (c : ℕ) → first_with (with ids) c ≡ None → (z : AnnId) → IsIn z ids → f z ≡ c → ⊥
  none_is [] c e z k q = k
  none_is (x ∷ xs) c e z k q =
      elim (eqb_tells (f x) c) [
        | inl p ↦ let g : Some x ≡ None = sym (λ i. cond (p.0 i) (Some x) (first_with (with xs) c)) ∙ e in cc
        | inr p ↦ elim k [
          | inl s ↦ absurd (p.1 (ap f (sym s) ∙ q))
          | inr m ↦ none_is xs c (sym (λ i. cond (p.0 i) (Some x) (first_with (with xs) c)) ∙ e) z m q
        ]
      ]

-- ---- the laws

some_node : (o : Option (Node AnnId)) → IsSome o → (s : Node AnnId) × (o ≡ Some s)
some_node None h = absurd (no h)
  where
    no : IsSome {T = Node AnnId} None → ⊥
    no s = cc
some_node (Some s) h = (s, refl)

module _ (layer other : Annotations) (keeps : IsLayer layer) (keep : IsLayer other) (id : AnnId) where
  listed : (l : Annotations) (x : AnnId) → IsSome (node_of l x) → IsIn x (ids_of l)
  listed l x h = let s = some_node (node_of l x) h in in_ids l x s.0 s.1

  by_behind : (o : Option ℕ) → behind id (contents_of layer) ≡ o → IsLowest layer other id (option_and_then (first_with (contents_of other)) o)
  by_behind None e = λ there same.
      let some : behind id (contents_of layer) ≡ Some (content_of layer id) = behind_in (content_of layer) id (ids_of layer) (listed layer id same.one) in
      let g : ◌≡◌ {A = Option ℕ} None (Some (content_of layer id)) = sym e ∙ some in
      cc
  by_behind (Some c) e = by_first (first_with (contents_of other) c) refl
    where
      ours : IsIn id (ids_of layer) × (c ≡ content_of layer id)
      ours = in_behind (content_of layer) id (ids_of layer) c e

      by_first : (o : Option AnnId) → first_with (contents_of other) c ≡ o → IsLowest layer other id o
      by_first None g = λ there same. none_is (content_of other) (ids_of other) c g there (listed other there same.two) (sym same.content ∙ sym ours.1)
      by_first (Some y) g =
          let r : First (content_of other) (ids_of other) c y = first_is (content_of other) (ids_of other) c y (ids_up other) g in (
            record { one = ids_have layer keeps id ours.0; two = ids_have other keep y r.among; content = sym ours.1 ∙ sym r.is },
            λ there same. r.lowest there (listed other there same.two) (sym same.content ∙ sym ours.1),
          )

  pub lowest_found : IsLowest layer other id (counterpart_in (contents_of layer) (contents_of other) id)
  lowest_found = by_behind (behind id (contents_of layer)) refl

pub parts_decide : (a b : Annotations) → AreBuilt a → AreBuilt b → (x y : AnnId) (s t : Node AnnId) → node_of a x ≡ Some s → node_of b y ≡ Some t
    → (content_of a x ≡ content_of b y) ↔ AreAlike (content_of a) (content_of b) s t
parts_decide a b whole all x y s t p q =
    let m : content_of a x ≡ number (content_of a) s = made a whole x s p in
    let n : content_of b y ≡ number (content_of b) t = made b all y t q in
    (λ e. alike (content_of a) (content_of b) s t (sym m ∙ e ∙ n), λ h. m ∙ number_alike (content_of a) (content_of b) s t h ∙ sym n)
  where
    made : (l : Annotations) → AreBuilt l → (z : AnnId) (u : Node AnnId) → node_of l z ≡ Some u → content_of l z ≡ number (content_of l) u
    made l c z u e =
        let P : Option (Node AnnId) → Type 0 = IsSome in
        content_of_parts (node_of l) 18 19 z u (c z (subst P (sym e) refl)) (omega arith) e
