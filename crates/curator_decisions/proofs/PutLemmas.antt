-- What is put in place of what stood.
use Rattle.std.proofs.Common.{◌≡◌, ℕ, true, false, refl, sym, ◌∙◌, ap, Some, None, cond, is_some}
use Rattle.std.specs.Ordering.{nat_cmp, eq_by_cmp}
use Rattle.std.specs.Cmp.{nat_cmp_total, tied_itself}
use Rattle.std.specs.Ordering.{is_eq}
use Rattle.std.specs.FinMap as finite
use Rattle.std.specs.FinMap.{get-insert, get-remove, same_map, nat_cmp-IsAntisymmetric}
use Rattle.mark_base.specs.declared.ann_id.Kind.{Kind}
use Rattle.mark_base.specs.declared.ann_id.Kind.TheVariants as letter
use Rattle.layer_model.specs.declared.mark.Mark.{Mark}
use Rattle.layer_model.specs.declared.mark.Mark.TheVariants as marked
use Rattle.layer_model.specs.Annotations.{Annotations}
use Rattle.layer_model.specs.Layers.{has_number, is_of_kind, with_marked, without_number}

over : {X : Type 0} (m : finite.FinMap nat_cmp X) (k : ℕ) (v : X) → finite.insert (finite.remove m k) k v ≡ finite.insert m k v
over {X} m k v =
    same_map nat_cmp_total nat_cmp-IsAntisymmetric _ _ (λ q.
    get-insert nat_cmp_total (finite.remove m k) k v q ∙ ap (cond (eq_by_cmp nat_cmp q k) (Some v)) (get-remove nat_cmp_total m k q)
    ∙ elim (eq_by_cmp nat_cmp q k) as (λ b. cond b (Some v) (cond b None (finite.get m q)) ≡ cond b (Some v) (finite.get m q)) [
      | true ↦ refl
      | false ↦ refl
    ] ∙ sym (get-insert nat_cmp_total m k v q))

gone : {X : Type 0} (m : finite.FinMap nat_cmp X) (k : ℕ) → finite.contains_key (finite.remove m k) k ≡ false
gone m k =
    ap is_some (get-remove nat_cmp_total m k k ∙ ap (λ r. cond (is_eq r) None (finite.get m k)) (tied_itself nat_cmp_total k))

pub free_then : (l : Annotations) (kind : Kind) (n : ℕ) → has_number (without_number l kind n) kind n ≡ false
free_then l letter.Text n = gone l.spans n
free_then l letter.Event n = gone l.events n
free_then l letter.Relation n = gone l.relations n
free_then l letter.Attribute n = gone l.attributes n
free_then l letter.Legacy n = gone l.legacy n
free_then l letter.Normal n = gone l.normals n
free_then l letter.Note n = gone l.notes n

pub put_over : (l : Annotations) (kind : Kind) (n : ℕ) (mark : Mark) → is_of_kind kind mark ≡ true → with_marked (without_number l kind n) kind n mark ≡ with_marked l kind n mark
put_over l letter.Text n (marked.Span x) fits = ap (λ m. let k : Annotations = record l { spans = m } in k) (over l.spans n x)
put_over l letter.Event n (marked.Event x) fits = ap (λ m. let k : Annotations = record l { events = m } in k) (over l.events n x)
put_over l letter.Relation n (marked.Relation x) fits = ap (λ m. let k : Annotations = record l { relations = m } in k) (over l.relations n x)
put_over l letter.Attribute n (marked.Attribute x) fits = ap (λ m. let k : Annotations = record l { attributes = m } in k) (over l.attributes n x)
put_over l letter.Legacy n (marked.Attribute x) fits = ap (λ m. let k : Annotations = record l { legacy = m } in k) (over l.legacy n x)
put_over l letter.Normal n (marked.Normal x) fits = ap (λ m. let k : Annotations = record l { normals = m } in k) (over l.normals n x)
put_over l letter.Note n (marked.Note x) fits = ap (λ m. let k : Annotations = record l { notes = m } in k) (over l.notes n x)
put_over l kind n mark fits = absurd (let e : false ≡ true = fits in cc)
