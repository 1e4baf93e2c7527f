-- A number above the greatest is free.
use Rattle.std.proofs.Common.{◌≡◌, ℕ, ◌<◌, max, false, ◌||◌, List, [], ◌∷◌, refl, ◌∙◌, ap, Option, Some, None, unwrap_or, arith}
use Rattle.std.specs.Ordering.{nat_cmp, eq_by_cmp}
use Rattle.std.specs.Cmp.{unsigned_tied}
use Rattle.std.specs.List.{list_any}
use Rattle.std.specs.FinMap as finite
use Rattle.std.specs.FinMap.{contains_key-keys}
use Rattle.std.proofs.lemmas.Bool.{ne_eqb}
use Rattle.mark_base.specs.declared.ann_id.Kind.{Kind}
use Rattle.mark_base.specs.declared.ann_id.Kind.TheVariants as letter
use Rattle.layer_model.specs.Annotations.{Annotations}
use Rattle.layer_model.specs.Numbers.{IsAbove, greatest_of}
use Rattle.layer_model.specs.Layers.{greatest, has_number}

differs : (a b : ℕ) → b < a → eq_by_cmp nat_cmp a b ≡ false
differs a b h = unsigned_tied a b ∙ ne_eqb a b (λ e. omega arith)

above_rest : (n k : ℕ) (o : Option ℕ) → max k (unwrap_or o 0) < n → IsAbove n o
above_rest n k None h = tt
above_rest n k (Some m) h = omega arith

not_among : (ks : List ℕ) (n : ℕ) → IsAbove n (greatest_of ks) → list_any (eq_by_cmp nat_cmp n) ks ≡ false
not_among [] n h = refl
not_among (k ∷ ks) n h =
    let most : max k (unwrap_or (greatest_of ks) 0) < n = h in
    ap (λ b. b || list_any (eq_by_cmp nat_cmp n) ks) (differs n k (omega arith)) ∙ not_among ks n (above_rest n k (greatest_of ks) most)

free_in : {X : Type 0} (m : finite.FinMap nat_cmp X) (n : ℕ) → IsAbove n (greatest_of (finite.keys m)) → finite.contains_key m n ≡ false
free_in m n h = contains_key-keys m n ∙ not_among (finite.keys m) n h

pub free : (l : Annotations) (kind : Kind) (n : ℕ) → IsAbove n (greatest l kind) → has_number l kind n ≡ false
free l letter.Text n h = free_in l.spans n h
free l letter.Event n h = free_in l.events n h
free l letter.Relation n h = free_in l.relations n h
free l letter.Attribute n h = free_in l.attributes n h
free l letter.Legacy n h = free_in l.legacy n h
free l letter.Normal n h = free_in l.normals n h
free l letter.Note n h = free_in l.notes n h
