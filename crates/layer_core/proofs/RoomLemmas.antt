-- In a well-formed layer at most 10,000 annotations of each sort are counted together, and no more where one goes.
use Rattle.std.proofs.Common.{◌≡◌, ℕ, ◌-◌, ◌≤◌, zero, suc, Bool, true, false, cond, List, [], ◌∷◌, ◌++◌, map, length, slice_get, Option, Some, None, refl, sym, ◌∙◌, ap, subst, eq-eqb, arith}
use Rattle.std.proofs.lemmas.List.{length-append}
use Rattle.std.proofs.lemmas.Option.{slice_get_past}
use Rattle.std.specs.Option.{option_map, option_map_or}
use Rattle.std.specs.List.{AllByRecursion}
use Rattle.std.specs.Ordering.{nat_cmp}
use Rattle.std.specs.Cmp.{nat_cmp_total}
use Rattle.std.specs.FinMap as finite
use Rattle.std.specs.FinMap.{len-entries, len-remove}
use Rattle.mark_base.specs.declared.ann_id.AnnId.{AnnId}
use Rattle.mark_base.specs.declared.ann_id.Kind.{Kind}
use Rattle.mark_base.specs.declared.ann_id.Kind.TheVariants as letter
use Rattle.mark_base.specs.ReadIds.{id_at}
use Rattle.layer_model.specs.declared.mark.Mark.{Mark}
use Rattle.layer_model.specs.declared.mark.Mark.TheVariants as marked
use Rattle.layer_model.specs.declared.rule.Rule.TheVariants.{LayerFull}
use Rattle.layer_model.specs.declared.flaw.FlawPlace.TheVariants as at
use Rattle.layer_model.specs.Annotations.{Annotations}
use Rattle.layer_model.specs.Classes.{rank}
use Rattle.layer_model.specs.Layers.{IsLayer, mark_of, without_number}
use Rattle.layer_model.specs.Numbers.{NumbersFit}
use Rattle.layer_model.specs.LayerIds.{ids_of_letter}
use Rattle.layer_rules.specs.FlawPlaces.{by_place}
use Rattle.layer_rules.specs.MarkRules.{where_so}
use Rattle.layer_rules.specs.LayerRules.{classes_full, counted_letter, counted_with, is_id, layer_full}
use Rattle.layer_rules.specs.WellFormed.{Never, at_layer_full}
use Rattle.layer_rules.proofs.PlaceLemmas.{at_entries}
use Rattle.layer_core.proofs.ElsewhereLemmas.{along, no_some, not_so}

-- ---- lists

to_mapped : {X Y : Type 0} (P : Y → Type 0) (f : X → Y) (xs : List X) → AllByRecursion (λ x. P (f x)) xs → AllByRecursion P (map f xs)
to_mapped P f [] all = tt
to_mapped P f (x ∷ xs) all = (all.0, to_mapped P f xs all.1)

both_all : {X : Type 0} (P : X → Type 0) (xs ys : List X) → AllByRecursion P xs → AllByRecursion P ys → AllByRecursion P (xs ++ ys)
both_all P [] ys one other = other
both_all P (x ∷ xs) ys one other = (one.0, both_all P xs ys one.1 other)

-- what is so of each is so of the one at an index
pub picked : {X : Type 0} (P : X → Type 0) (xs : List X) (i : ℕ) (x : X) → AllByRecursion P xs → slice_get xs i ≡ Some x → P x
picked P [] i x all is = absurd (no_some is)
picked P (y ∷ xs) zero x all is = subst P (the_same is) all.0
  where
    the_same : {Y : Type 0} {a b : Y} → Some a ≡ Some b → a ≡ b
    the_same e = cc
picked P (y ∷ xs) (suc i) x all is = picked P xs i x all.1 is

-- a list with nothing at an index ends before it
pub nothing_at : {X : Type 0} (xs : List X) (i : ℕ) → slice_get xs i ≡ None → length xs ≤ i
nothing_at [] i e = omega arith
nothing_at (x ∷ xs) zero e = absurd (no_some (sym e))
nothing_at (x ∷ xs) (suc i) e = let later = nothing_at xs i e in omega arith

same_length : {X Y : Type 0} (f : X → Y) (xs : List X) → length (map f xs) ≡ length xs
same_length f [] = refl
same_length f (x ∷ xs) = ap suc (same_length f xs)

-- ---- a well-formed layer

-- where none of some IDs is the one at an index, they end before it
none_there : (ids : List AnnId) (i : ℕ) → AllByRecursion (λ id. option_map_or (is_id id) (slice_get ids i) false ≡ false) ids → length ids ≤ i
none_there ids i all = split (slice_get ids i) refl
  where
    split : (o : Option AnnId) → slice_get ids i ≡ o → length ids ≤ i
    split None is = nothing_at ids i is
    split (Some id) is =
        let apart : is_id id id ≡ false = sym (ap (λ o. option_map_or (is_id id) o false) is) ∙ picked (λ other. option_map_or (is_id other) (slice_get ids i) false ≡ false) ids i id all is in
        let itself : is_id id id ≡ true = eq-eqb (rank id) (rank id) refl in
        absurd (let f : true ≡ false = sym itself ∙ apart in cc)

not_last : {V : Type 0} (layer : Annotations) (kind : Kind) (wrap : V → Mark) (m : finite.FinMap nat_cmp V) → Never (at_layer_full layer)
    → ((n : ℕ) → mark_of layer kind n ≡ option_map wrap (finite.get m n)) → NumbersFit m
    → AllByRecursion (λ id. option_map_or (is_id id) (slice_get (counted_with layer kind) 10000) false ≡ false) (map (id_at kind) (finite.keys m))
not_last layer kind wrap m room same fits =
    to_mapped (λ id. option_map_or (is_id id) (slice_get (counted_with layer kind) 10000) false ≡ false) (id_at kind) (finite.keys m)
    (to_mapped (λ n. option_map_or (is_id (id_at kind n)) (slice_get (counted_with layer kind) 10000) false ≡ false) (λ e. e.0) (finite.entries m)
    (along (λ e. by_place (layer_full layer) classes_full layer (at.Mark (id_at kind e.0)) ≡ layer_full layer (id_at kind e.0) (wrap e.1))
    (λ e. option_map_or (is_id (id_at kind e.0)) (slice_get (counted_with layer kind) 10000) false ≡ false) (finite.entries m)
    (λ e is. not_so (option_map_or (is_id (id_at kind e.0)) (slice_get (counted_with layer kind) 10000) false) (LayerFull (counted_letter kind)) (sym is ∙ room (at.Mark (id_at kind e.0))))
    (at_entries (layer_full layer) classes_full layer kind wrap m same fits)))

few_attributes : (layer : Annotations) → IsLayer layer → Never (at_layer_full layer) → length (counted_with layer letter.Attribute) ≤ 10000
few_attributes layer is room =
    none_there (counted_with layer letter.Attribute) 10000
    (both_all (λ id. option_map_or (is_id id) (slice_get (counted_with layer letter.Attribute) 10000) false ≡ false) (ids_of_letter layer letter.Attribute) (ids_of_letter layer letter.Legacy)
    (not_last layer letter.Attribute marked.Attribute layer.attributes room (λ n. refl) is.attributes) (not_last layer letter.Legacy marked.Attribute layer.legacy room (λ n. refl) is.legacy))

pub few_counted : (layer : Annotations) → IsLayer layer → Never (at_layer_full layer) → (kind : Kind) → length (counted_with layer kind) ≤ 10000
few_counted layer is room letter.Text = none_there (ids_of_letter layer letter.Text) 10000 (not_last layer letter.Text marked.Span layer.spans room (λ n. refl) is.spans)
few_counted layer is room letter.Event = none_there (ids_of_letter layer letter.Event) 10000 (not_last layer letter.Event marked.Event layer.events room (λ n. refl) is.events)
few_counted layer is room letter.Relation = none_there (ids_of_letter layer letter.Relation) 10000 (not_last layer letter.Relation marked.Relation layer.relations room (λ n. refl) is.relations)
few_counted layer is room letter.Attribute = few_attributes layer is room
few_counted layer is room letter.Legacy = few_attributes layer is room
few_counted layer is room letter.Normal = none_there (ids_of_letter layer letter.Normal) 10000 (not_last layer letter.Normal marked.Normal layer.normals room (λ n. refl) is.normals)
few_counted layer is room letter.Note = none_there (ids_of_letter layer letter.Note) 10000 (not_last layer letter.Note marked.Note layer.notes room (λ n. refl) is.notes)

-- ---- where an annotation goes

fewer_keys : {V : Type 0} (kind : Kind) (m : finite.FinMap nat_cmp V) (n : ℕ) → length (map (id_at kind) (finite.keys (finite.remove m n))) ≤ length (map (id_at kind) (finite.keys m))
fewer_keys {V} kind m n =
    let less : finite.len (finite.remove m n) ≤ finite.len m =
    subst (λ k. k ≤ finite.len m) (sym (len-remove nat_cmp_total m n)) (either (finite.contains_key m n)) in
    omega (arith, less, counted (finite.remove m n), counted m)
  where
    either : (b : Bool) → cond b (finite.len m - 1) (finite.len m) ≤ finite.len m
    either true = omega arith
    either false = omega arith

    counted : (k : finite.FinMap nat_cmp V) → length (map (id_at kind) (finite.keys k)) ≡ finite.len k
    counted k = same_length (id_at kind) (finite.keys k) ∙ same_length (λ e. e.0) (finite.entries k) ∙ sym (len-entries k)

fewer_first : (xs less ys : List AnnId) → length less ≤ length xs → length (less ++ ys) ≤ length (xs ++ ys)
fewer_first xs less ys h = omega (arith, h, length-append xs ys, length-append less ys)

fewer_last : (xs ys less : List AnnId) → length less ≤ length ys → length (xs ++ less) ≤ length (xs ++ ys)
fewer_last xs ys less h = omega (arith, h, length-append xs ys, length-append xs less)

pub fewer_counted : (l : Annotations) (kind other : Kind) (n : ℕ) → length (counted_with (without_number l kind n) other) ≤ length (counted_with l other)
fewer_counted l letter.Text letter.Text n = fewer_keys letter.Text l.spans n
fewer_counted l letter.Event letter.Event n = fewer_keys letter.Event l.events n
fewer_counted l letter.Relation letter.Relation n = fewer_keys letter.Relation l.relations n
fewer_counted l letter.Attribute letter.Attribute n = fewer_first _ _ (ids_of_letter l letter.Legacy) (fewer_keys letter.Attribute l.attributes n)
fewer_counted l letter.Attribute letter.Legacy n = fewer_first _ _ (ids_of_letter l letter.Legacy) (fewer_keys letter.Attribute l.attributes n)
fewer_counted l letter.Legacy letter.Attribute n = fewer_last (ids_of_letter l letter.Attribute) _ _ (fewer_keys letter.Legacy l.legacy n)
fewer_counted l letter.Legacy letter.Legacy n = fewer_last (ids_of_letter l letter.Attribute) _ _ (fewer_keys letter.Legacy l.legacy n)
fewer_counted l letter.Normal letter.Normal n = fewer_keys letter.Normal l.normals n
fewer_counted l letter.Note letter.Note n = fewer_keys letter.Note l.notes n
fewer_counted l kind other n = omega arith

-- an annotation of a sort of which there are few enough is not one too many
pub not_full : (layer : Annotations) (id : AnnId) (mark : Mark) → length (counted_with layer id.kind) ≤ 10000 → layer_full layer id mark ≡ None
not_full layer id mark few = ap (λ o. where_so (option_map_or (is_id id) o false) (LayerFull (counted_letter id.kind))) (slice_get_past (counted_with layer id.kind) 10000 few)
