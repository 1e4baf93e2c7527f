-- More steps than a type has ancestors change nothing.
use Rattle.std.proofs.Common.{◌≡◌, ℕ, ◌<◌, ◌≤◌, ◌==◌, ◌||◌, ◌&&◌, Bool, true, false, List, Option, Some, None, zero, suc, length, get_or, option_and_then, refl, sym, ◌∙◌, ap, arith}
use Rattle.std.specs.Option.{option_map_or}
use Rattle.std.proofs.lemmas.Bool.{ne_eqb, lt-ltb, le-ltb}
use Rattle.std.proofs.lemmas.Option.{slice_get-get_or}
use Rattle.mark_base.specs.declared.table_places.TypeId.{TypeId}
use Rattle.type_hierarchy.specs.declared.type_row.TypeRow.{TypeRow}
use Rattle.type_hierarchy.specs.TypeTrees.{climbs, is_under, parent_of}
use Rattle.type_hierarchy.specs.Indexed.{ParentsBefore}

or_false : (b : Bool) → (b || false) ≡ b
or_false true = refl
or_false false = refl

-- a step up, where both counts of steps suffice above
same_up : (f g : ℕ → Bool) (o : Option TypeId) (n : ℕ) → ((parent : TypeId) → o ≡ Some parent → parent.n < n) → ((k : ℕ) → k < n → f k ≡ g k)
    → option_map_or (λ (parent : TypeId). f parent.n) o false ≡ option_map_or (λ (parent : TypeId). g parent.n) o false
same_up f g None n below same = refl
same_up f g (Some parent) n below same = same parent.n (below parent refl)

none_up : (f : ℕ → Bool) (o : Option TypeId) → ((parent : TypeId) → o ≡ Some parent → parent.n < 0) → option_map_or (λ (parent : TypeId). f parent.n) o false ≡ false
none_up f None below = refl
none_up f (Some parent) below = absurd (let h = below parent refl in omega arith)

pub steps_enough : (rows : List TypeRow) → ParentsBefore rows → (f g n high : ℕ) → n ≤ f → n ≤ g → climbs f rows n high ≡ climbs g rows n high
steps_enough rows before zero zero n high a b = refl
steps_enough rows before zero (suc g) n high a b =
    let root : n ≡ 0 = omega arith in
    let none : option_map_or (λ (parent : TypeId). climbs g rows parent.n high) (parent_of rows n) false ≡ false =
    none_up (λ k. climbs g rows k high) (parent_of rows n) (λ parent is. let h = before n parent is in omega arith) in
    sym (ap (λ x. (n == high) || x) none ∙ or_false (n == high))
steps_enough rows before (suc f) zero n high a b =
    let root : n ≡ 0 = omega arith in
    let none : option_map_or (λ (parent : TypeId). climbs f rows parent.n high) (parent_of rows n) false ≡ false =
    none_up (λ k. climbs f rows k high) (parent_of rows n) (λ parent is. let h = before n parent is in omega arith) in
    ap (λ x. (n == high) || x) none ∙ or_false (n == high)
steps_enough rows before (suc f) (suc g) n high a b =
    ap (λ x. (n == high) || x)
    (same_up (λ k. climbs f rows k high) (λ k. climbs g rows k high) (parent_of rows n) n (before n) (λ k lt. steps_enough rows before f g k high (omega arith) (omega arith)))

-- the parent of a type by its row
pub parent_is : (rows : List TypeRow) (place n : ℕ) (row : TypeRow) (o : Option TypeId) → n < length rows → place ≡ n
    → (get_or rows place row).parent ≡ o → parent_of rows n ≡ o
parent_is rows place n row o within same is =
    ap (option_and_then (λ r. r.parent)) (slice_get-get_or rows n row within) ∙ sym (ap (λ k. (get_or rows k row).parent) same) ∙ is

-- from a type that is not the other, the climb goes on at its parent, or ends
pub climb_up : (rows : List TypeRow) → ParentsBefore rows → (low high : ℕ) (parent : TypeId) → (low ≡ high → ⊥)
    → parent_of rows low ≡ Some parent → climbs parent.n rows parent.n high ≡ climbs low rows low high
climb_up rows before zero high parent apart up = absurd (let h = before zero parent up in omega arith)
climb_up rows before (suc low) high parent apart up =
    let near : parent.n ≤ low = (let h = before (suc low) parent up in omega arith) in
    steps_enough rows before parent.n low parent.n high (omega arith) near
    ∙ sym (ap (λ o. option_map_or (λ (p : TypeId). climbs low rows p.n high) o false) up)
    ∙ sym (ap (λ b. b || option_map_or (λ (p : TypeId). climbs low rows p.n high) (parent_of rows (suc low)) false) (ne_eqb (suc low) high apart))

pub climb_ends : (rows : List TypeRow) (low high : ℕ) → (low ≡ high → ⊥) → parent_of rows low ≡ None → false ≡ climbs low rows low high
climb_ends rows zero high apart up = sym (ne_eqb zero high apart)
climb_ends rows (suc low) high apart up =
    sym (ap (λ o. option_map_or (λ (p : TypeId). climbs low rows p.n high) o false) up)
    ∙ sym (ap (λ b. b || option_map_or (λ (p : TypeId). climbs low rows p.n high) (parent_of rows (suc low)) false) (ne_eqb (suc low) high apart))

-- a type of the tree, and a number that is none
pub under_within : (rows : List TypeRow) → ParentsBefore rows → (low high : TypeId) → low.n < length rows → climbs low.n rows low.n high.n ≡ is_under rows low high
unfolding is_under
under_within rows before low high within =
    steps_enough rows before low.n (length rows) low.n high.n (omega arith) (omega arith)
    ∙ sym (ap (λ b. b && climbs (length rows) rows low.n high.n) (lt-ltb low.n (length rows) within))

pub under_outside : (rows : List TypeRow) (low high : TypeId) → length rows ≤ low.n → false ≡ is_under rows low high
unfolding is_under
under_outside rows low high past = sym (ap (λ b. b && climbs (length rows) rows low.n high.n) (le-ltb low.n (length rows) past))
