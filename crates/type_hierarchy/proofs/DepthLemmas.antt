-- More steps than a type has ancestors change nothing of its depth.
use Rattle.std.proofs.Common.{◌≡◌, ℕ, ◌+◌, ◌<◌, ◌≤◌, List, Option, Some, None, zero, suc, length, nat_lt, refl, sym, ◌∙◌, ap, arith}
use Rattle.std.specs.Option.{option_map_or}
use Rattle.std.proofs.lemmas.Bool.{lt-ltb, le-ltb, cond-true, cond-false}
use Rattle.mark_base.specs.declared.table_places.TypeId.{TypeId}
use Rattle.type_hierarchy.specs.declared.type_row.TypeRow.{TypeRow}
use Rattle.type_hierarchy.specs.TypeTrees.{depth_by, depth_of, parent_of}
use Rattle.type_hierarchy.specs.Indexed.{ParentsBefore}

-- a step up, where both counts of steps give the same above
same_up : (f g : ℕ → ℕ) (o : Option TypeId) (n : ℕ) → ((parent : TypeId) → o ≡ Some parent → parent.n < n) → ((k : ℕ) → k < n → f k ≡ g k)
    → option_map_or (λ (parent : TypeId). f parent.n + 1) o 0 ≡ option_map_or (λ (parent : TypeId). g parent.n + 1) o 0
same_up f g None n below same = refl
same_up f g (Some parent) n below same = ap (λ k. k + 1) (same parent.n (below parent refl))

none_up : (f : ℕ → ℕ) (o : Option TypeId) → ((parent : TypeId) → o ≡ Some parent → parent.n < 0) → option_map_or (λ (parent : TypeId). f parent.n + 1) o 0 ≡ 0
none_up f None below = refl
none_up f (Some parent) below = absurd (let h = below parent refl in omega arith)

pub steps_enough : (rows : List TypeRow) → ParentsBefore rows → (f g n : ℕ) → n ≤ f → n ≤ g → depth_by f rows n ≡ depth_by g rows n
steps_enough rows before zero zero n a b = refl
steps_enough rows before zero (suc g) n a b =
    let root : n ≡ 0 = omega arith in
    sym (none_up (λ k. depth_by g rows k) (parent_of rows n) (λ parent is. let h = before n parent is in omega arith))
steps_enough rows before (suc f) zero n a b =
    let root : n ≡ 0 = omega arith in
    none_up (λ k. depth_by f rows k) (parent_of rows n) (λ parent is. let h = before n parent is in omega arith)
steps_enough rows before (suc f) (suc g) n a b =
    same_up (λ k. depth_by f rows k) (λ k. depth_by g rows k) (parent_of rows n) n (before n) (λ k lt. steps_enough rows before f g k (omega arith) (omega arith))

-- the depth below a parent, and of a type without one
pub depth_below : (rows : List TypeRow) → ParentsBefore rows → (low : ℕ) (parent : TypeId)
    → parent_of rows low ≡ Some parent → depth_by parent.n rows parent.n + 1 ≡ depth_by low rows low
depth_below rows before zero parent up = absurd (let h = before zero parent up in omega arith)
depth_below rows before (suc low) parent up =
    let near : parent.n ≤ low = (let h = before (suc low) parent up in omega arith) in
    ap (λ k. k + 1) (steps_enough rows before parent.n low parent.n (omega arith) near)
    ∙ sym (ap (λ o. option_map_or (λ (p : TypeId). depth_by low rows p.n + 1) o 0) up)

pub depth_at_root : (rows : List TypeRow) (low : ℕ) → parent_of rows low ≡ None → 0 ≡ depth_by low rows low
depth_at_root rows zero up = refl
depth_at_root rows (suc low) up = sym (ap (λ o. option_map_or (λ (p : TypeId). depth_by low rows p.n + 1) o 0) up)

-- a type of the tree, and a number that is none
pub depth_within : (rows : List TypeRow) → ParentsBefore rows → (id : TypeId) → id.n < length rows → Some (depth_by id.n rows id.n) ≡ depth_of rows id
unfolding depth_of
depth_within rows before id within =
    ap Some (steps_enough rows before id.n (length rows) id.n (omega arith) (omega arith))
    ∙ sym (cond-true (nat_lt id.n (length rows)) (Some (depth_by (length rows) rows id.n)) None (lt-ltb id.n (length rows) within))

pub depth_outside : (rows : List TypeRow) (id : TypeId) → length rows ≤ id.n → None ≡ depth_of rows id
unfolding depth_of
depth_outside rows id past = sym (cond-false (nat_lt id.n (length rows)) (Some (depth_by (length rows) rows id.n)) None (le-ltb id.n (length rows) past))
