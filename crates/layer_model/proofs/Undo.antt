-- What is put and taken again leaves a layer as it was.
use Rattle.std.proofs.Common.{◌≡◌, ℕ, true, false, refl, sym, ◌∙◌, ap, Option, Some, None, cond, is_some}
use Rattle.std.specs.Ordering.{nat_cmp, eq_by_cmp, is_eq}
use Rattle.std.specs.Cmp.{nat_cmp_total}
use Rattle.std.specs.FinMap as finite
use Rattle.std.specs.FinMap.{get-insert, get-remove, get_tied, same_map, nat_cmp-IsAntisymmetric}
use Rattle.std.specs.declared.cmp.Ordering.{Ordering}
use Rattle.std.specs.declared.cmp.Ordering.TheVariants.{Less, Equal, Greater}
use Rattle.mark_base.specs.declared.ann_id.Kind.{Kind}
use Rattle.mark_base.specs.declared.ann_id.Kind.TheVariants as letter
use Rattle.layer_model.specs.declared.mark.Mark.{Mark}
use Rattle.layer_model.specs.declared.mark.Mark.TheVariants as marked
use Rattle.layer_model.specs.Annotations.{Annotations}
use Rattle.layer_model.specs.Layers.{has_number, is_of_kind, with_marked, without_number}

nothing : {X : Type 0} (o : Option X) → is_some o ≡ false → o ≡ None
nothing None e = refl
nothing (Some x) e = absurd (let e2 : true ≡ false = e in cc)

equal : (r : Ordering) → is_eq r ≡ true → r ≡ Equal
equal Less p = absurd (let e : false ≡ true = p in cc)
equal Equal p = refl
equal Greater p = absurd (let e : false ≡ true = p in cc)

undone : {X : Type 0} (m : finite.FinMap nat_cmp X) (k : ℕ) (v : X) → is_some (finite.get m k) ≡ false → finite.remove (finite.insert m k v) k ≡ m
undone {X} m k v none =
    same_map nat_cmp_total nat_cmp-IsAntisymmetric _ _ (λ q.
    get-remove nat_cmp_total (finite.insert m k v) k q ∙ ap (cond (eq_by_cmp nat_cmp q k) None) (get-insert nat_cmp_total m k v q)
    ∙ elim (eq_by_cmp nat_cmp q k) as (λ b. eq_by_cmp nat_cmp q k ≡ b → cond b None (cond b (Some v) (finite.get m q)) ≡ finite.get m q) [
      | true ↦ λ e. sym (sym (get_tied nat_cmp_total m q k (equal _ e)) ∙ nothing _ none)
      | false ↦ λ _. refl
    ] refl)

pub taken_again : (l : Annotations) (kind : Kind) (n : ℕ) (mark : Mark) → is_of_kind kind mark ≡ true → has_number l kind n ≡ false → without_number (with_marked l kind n mark) kind n ≡ l
taken_again l letter.Text n (marked.Span x) fits new = ap (λ m. let k : Annotations = record l { spans = m } in k) (undone l.spans n x new)
taken_again l letter.Event n (marked.Event x) fits new = ap (λ m. let k : Annotations = record l { events = m } in k) (undone l.events n x new)
taken_again l letter.Relation n (marked.Relation x) fits new = ap (λ m. let k : Annotations = record l { relations = m } in k) (undone l.relations n x new)
taken_again l letter.Attribute n (marked.Attribute x) fits new = ap (λ m. let k : Annotations = record l { attributes = m } in k) (undone l.attributes n x new)
taken_again l letter.Legacy n (marked.Attribute x) fits new = ap (λ m. let k : Annotations = record l { legacy = m } in k) (undone l.legacy n x new)
taken_again l letter.Normal n (marked.Normal x) fits new = ap (λ m. let k : Annotations = record l { normals = m } in k) (undone l.normals n x new)
taken_again l letter.Note n (marked.Note x) fits new = ap (λ m. let k : Annotations = record l { notes = m } in k) (undone l.notes n x new)
taken_again l kind n mark fits new = absurd (let e : false ≡ true = fits in cc)
