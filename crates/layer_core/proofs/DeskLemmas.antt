-- Numbers that are free, and marks that are put in the place of others.
use Rattle.std.proofs.Common.{◌≡◌, ℕ, ◌<◌, ◌≤◌, ◌||◌, min, Bool, true, false, cond, T, List, [], ◌∷◌, Some, None, unwrap_or, refl, sym, ◌∙◌, ap, arith}
use Rattle.std.specs.List.{list_any, AllByRecursion}
use Rattle.std.specs.List.Sorted.{IsStrictlySortedBy}
use Rattle.std.specs.Map.{keys_of}
use Rattle.std.specs.Ordering.{nat_cmp, eq_by_cmp, is_eq}
use Rattle.std.specs.declared.cmp.Ordering.TheVariants.{Less}
use Rattle.std.specs.Cmp.{nat_cmp_total, tied_itself}
use Rattle.std.specs.FinMap as finite
use Rattle.std.specs.FinMap.{get-insert, get-remove, same_map, nat_cmp-IsAntisymmetric, contains_key-keys, from_entries, entries_sorted, len-entries}
use Rattle.std.specs.FinMap.Entries.{is_sorted, below_all}
use Rattle.std.proofs.Math.Bridge.{le_prop}
use Rattle.mark_base.specs.declared.ann_id.Kind.{Kind}
use Rattle.mark_base.specs.declared.ann_id.Kind.TheVariants as letter
use Rattle.mark_base.specs.declared.arguments.Arg.{Arg}
use Rattle.mark_base.specs.declared.table_places.TypeId.{TypeId}
use Rattle.layer_core.specs.MadeLayers.{with_new}
use Rattle.layer_model.specs.declared.mark.Mark.TheVariants as marked
use Rattle.layer_model.specs.Annotations.{Annotations}
use Rattle.layer_model.specs.Numbers.{NumbersFit, greatest_of}
use Rattle.layer_model.specs.Layers.{IsLayer, count, greatest, has_number}
use Rattle.layer_model.proofs.Maps.{same_list}
use Rattle.layer_model.proofs.Numbers.{few}
use Rattle.layer_rules.proofs.PlaceLemmas.{is_less, left, right}

-- ---- numbers that no ID has are free

pub min_is : (n : ℕ) → n ≤ 999999999 → min n 999999999 ≡ n
min_is n h = omega arith

above_in : {V : Type 0} (m : finite.FinMap nat_cmp V) (n : ℕ) → NumbersFit m → 999999999 < n → finite.contains_key m n ≡ false
above_in m n fits high =
    elim (finite.contains_key m n) as (λ b. finite.contains_key m n ≡ b → b ≡ false) [
      | true ↦ λ e. absurd (let low : n ≤ 999999999 = fits n e in omega arith)
      | false ↦ λ _. refl
    ] refl

pub above : (layer : Annotations) → IsLayer layer → (kind : Kind) (n : ℕ) → 999999999 < n → has_number layer kind n ≡ false
above layer kept letter.Text n high = above_in layer.spans n kept.spans high
above layer kept letter.Event n high = above_in layer.events n kept.events high
above layer kept letter.Relation n high = above_in layer.relations n kept.relations high
above layer kept letter.Attribute n high = above_in layer.attributes n kept.attributes high
above layer kept letter.Legacy n high = above_in layer.legacy n kept.legacy high
above layer kept letter.Normal n high = above_in layer.normals n kept.normals high
above layer kept letter.Note n high = above_in layer.notes n kept.notes high

-- ---- a mark in the place of another

again : {X : Type 0} (m : finite.FinMap nat_cmp X) (k : ℕ) (v : X) → finite.insert (finite.remove m k) k v ≡ finite.insert m k v
again {X} m k v =
    same_map nat_cmp_total nat_cmp-IsAntisymmetric _ _ (λ q.
    get-insert nat_cmp_total (finite.remove m k) k v q ∙ ap (cond (eq_by_cmp nat_cmp q k) (Some v)) (get-remove nat_cmp_total m k q)
    ∙ elim (eq_by_cmp nat_cmp q k) as (λ b. cond b (Some v) (cond b None (finite.get m q)) ≡ cond b (Some v) (finite.get m q)) [ true ↦ refl | false ↦ refl ]
    ∙ sym (get-insert nat_cmp_total m k v q))

-- ---- how many annotations there are, and the greatest of their numbers

above_each : {X : Type 0} (k : ℕ) (es : List (ℕ × X)) → T (below_all nat_cmp k es) → AllByRecursion (λ q. nat_cmp k q ≡ Less) (keys_of es)
above_each k [] h = tt
above_each k (e ∷ es) h = (is_less (nat_cmp k e.0) (left _ _ h), above_each k es (right _ _ h))

rising : {X : Type 0} (es : List (ℕ × X)) → T (is_sorted nat_cmp es) → IsStrictlySortedBy nat_cmp (keys_of es)
unfolding IsStrictlySortedBy
rising [] h = tt
rising (e ∷ es) h = (above_each e.0 es (left _ _ h), rising es (right _ _ h))

few_in : {X : Type 0} (m : finite.FinMap nat_cmp X) → NumbersFit m → finite.len m ≤ 1000000000
few_in {X} m fits =
    let up : IsStrictlySortedBy nat_cmp (keys_of (finite.entries m)) = rising (finite.entries m) (entries_sorted m) in
    let fit : NumbersFit (from_entries {R = nat_cmp} (finite.entries m)) =
    λ q h. fits q
    (contains_key-keys m q ∙ sym (ap (λ (xs : List (ℕ × X)). list_any (eq_by_cmp nat_cmp q) (keys_of xs)) (same_list (finite.entries m) up))
    ∙ sym (contains_key-keys (from_entries {R = nat_cmp} (finite.entries m)) q) ∙ h) in
    let counted = len-entries m in
    omega (arith, few (finite.entries m) up fit)

pub count_low : (layer : Annotations) → IsLayer layer → (kind : Kind) → count layer kind ≤ 1000000000
count_low layer kept letter.Text = few_in layer.spans kept.spans
count_low layer kept letter.Event = few_in layer.events kept.events
count_low layer kept letter.Relation = few_in layer.relations kept.relations
count_low layer kept letter.Attribute = few_in layer.attributes kept.attributes
count_low layer kept letter.Legacy = few_in layer.legacy kept.legacy
count_low layer kept letter.Normal = few_in layer.normals kept.normals
count_low layer kept letter.Note = few_in layer.notes kept.notes

or_right : (a b : Bool) → b ≡ true → (a || b) ≡ true
or_right true b e = refl
or_right false b e = e

each_low : (ks : List ℕ) → ((q : ℕ) → list_any (eq_by_cmp nat_cmp q) ks ≡ true → q ≤ 999999999) → unwrap_or (greatest_of ks) 0 ≤ 999999999
each_low [] f = omega arith
each_low (k ∷ ks) f =
    let here : k ≤ 999999999 = f k (ap (λ r. is_eq r || list_any (eq_by_cmp nat_cmp k) ks) (tied_itself nat_cmp_total k)) in
    let more_ : unwrap_or (greatest_of ks) 0 ≤ 999999999 = each_low ks (λ q h. f q (or_right _ _ h)) in
    omega arith

low_in : {X : Type 0} (m : finite.FinMap nat_cmp X) → NumbersFit m → unwrap_or (greatest_of (finite.keys m)) 0 ≤ 999999999
low_in m fits = each_low (finite.keys m) (λ q h. fits q (contains_key-keys m q ∙ h))

low_at : (layer : Annotations) → IsLayer layer → (kind : Kind) → unwrap_or (greatest layer kind) 0 ≤ 999999999
low_at layer kept letter.Text = low_in layer.spans kept.spans
low_at layer kept letter.Event = low_in layer.events kept.events
low_at layer kept letter.Relation = low_in layer.relations kept.relations
low_at layer kept letter.Attribute = low_in layer.attributes kept.attributes
low_at layer kept letter.Legacy = low_in layer.legacy kept.legacy
low_at layer kept letter.Normal = low_in layer.normals kept.normals
low_at layer kept letter.Note = low_in layer.notes kept.notes

pub greatest_low : (layer : Annotations) → IsLayer layer → (kind : Kind) (n : ℕ) → Some n ≡ greatest layer kind → n ≤ 999999999
greatest_low layer kept kind n is = let same : n ≡ unwrap_or (greatest layer kind) 0 = ap (λ o. unwrap_or o 0) is in let low = low_at layer kept kind in omega arith

-- ---- an event is told by its fields

pub one_event : (layer : Annotations) (kind : TypeId) (trigger : ℕ) (args : List Arg) (p q : trigger ≤ 999999999)
    → Some (with_new layer letter.Event (marked.Event (record { kind = kind; trigger = trigger; args = args; within = p })))
    ≡ Some (with_new layer letter.Event (marked.Event (record { kind = kind; trigger = trigger; args = args; within = q })))
one_event layer kind trigger args p q =
    ap (λ (w : trigger ≤ 999999999). Some (with_new layer letter.Event (marked.Event (record { kind = kind; trigger = trigger; args = args; within = w })))) (le_prop p q)
