-- What a layer has under an ID once an annotation or a class more is put into it.
use Rattle.std.proofs.Common.{◌≡◌, ℕ, ◌⊎◌, inl, inr, Bool, true, false, List, refl, sym, ◌∙◌, ap, Option, Some, None, cond, is_some, option_map}
use Rattle.std.specs.Ordering.{nat_cmp, eq_by_cmp, is_eq}
use Rattle.std.specs.Cmp.{nat_cmp_total, eq_by_cmp_equiv}
use Rattle.std.specs.FinMap as finite
use Rattle.std.specs.FinMap.{get-insert, get_tied, nat_cmp-IsAntisymmetric}
use Rattle.std.specs.declared.cmp.Ordering.{Ordering}
use Rattle.std.specs.declared.cmp.Ordering.TheVariants.{Less, Equal, Greater}
use Rattle.mark_base.specs.declared.ann_id.Kind.{Kind}
use Rattle.mark_base.specs.declared.ann_id.Kind.TheVariants as letter
use Rattle.layer_model.specs.declared.class.Class.{Class}
use Rattle.layer_model.specs.declared.mark.Mark.{Mark}
use Rattle.layer_model.specs.declared.mark.Mark.TheVariants as marked
use Rattle.layer_model.specs.Annotations.{Annotations}
use Rattle.layer_model.specs.Layers.{has_number, is_of_kind, mark_of, with_marked, with_classes}

nothing : {X : Type 0} (o : Option X) → is_some o ≡ false → o ≡ None
nothing None e = refl
nothing (Some x) e = absurd (let e2 : true ≡ false = e in cc)

equal : (r : Ordering) → is_eq r ≡ true → r ≡ Equal
equal Less p = absurd (let e : false ≡ true = p in cc)
equal Equal p = refl
equal Greater p = absurd (let e : false ≡ true = p in cc)

-- ---- in one map

put_here : {X Y : Type 0} (f : X → Y) (m : finite.FinMap nat_cmp X) (k : ℕ) (v : X) → option_map f (finite.get (finite.insert m k v) k) ≡ Some (f v)
put_here f m k v =
    ap (option_map f) (get-insert nat_cmp_total m k v k ∙ ap (λ b. cond b (Some v) (finite.get m k)) ((eq_by_cmp_equiv nat_cmp_total).refl k))

put_keeps : {X Y : Type 0} (f : X → Y) (m : finite.FinMap nat_cmp X) (k : ℕ) (v : X) (q : ℕ) (y : Y)
    → is_some (finite.get m k) ≡ false → option_map f (finite.get m q) ≡ Some y → option_map f (finite.get (finite.insert m k v) q) ≡ Some y
put_keeps {X} {Y} f m k v q y new h =
    ap (option_map f) (get-insert nat_cmp_total m k v q)
    ∙ elim (eq_by_cmp nat_cmp q k) as (λ b. eq_by_cmp nat_cmp q k ≡ b → option_map f (cond b (Some v) (finite.get m q)) ≡ Some y) [
      | true ↦ λ e.
          let gone : finite.get m q ≡ None = sym (get_tied nat_cmp_total m q k (equal _ e)) ∙ nothing _ new in
          let lost : None ≡ Some y = sym (ap (option_map f) gone) ∙ h in cc
      | false ↦ λ _. h
    ] refl

put_came : {X : Type 0} (m : finite.FinMap nat_cmp X) (k : ℕ) (v : X) (q : ℕ)
    → finite.contains_key (finite.insert m k v) q ≡ true → (finite.contains_key m q ≡ true) ⊎ (q ≡ k)
put_came {X} m k v q h =
    let P : Bool → Type 0 = λ b. eq_by_cmp nat_cmp q k ≡ b → is_some (cond b (Some v) (finite.get m q)) ≡ true → (finite.contains_key m q ≡ true) ⊎ (q ≡ k) in
    let cases : P (eq_by_cmp nat_cmp q k) =
    elim (eq_by_cmp nat_cmp q k) as P [ true ↦ λ e _. inr (nat_cmp-IsAntisymmetric q k (equal _ e)) | false ↦ λ _ t. inl t ] in
    cases refl (sym (ap is_some (get-insert nat_cmp_total m k v q)) ∙ h)

-- ---- in a layer

-- an annotation that is put stands there
pub stands_here : (l : Annotations) (kind : Kind) (n : ℕ) (mark : Mark) → is_of_kind kind mark ≡ true → mark_of (with_marked l kind n mark) kind n ≡ Some mark
stands_here l letter.Text n (marked.Span x) fits = put_here marked.Span l.spans n x
stands_here l letter.Event n (marked.Event x) fits = put_here marked.Event l.events n x
stands_here l letter.Relation n (marked.Relation x) fits = put_here marked.Relation l.relations n x
stands_here l letter.Attribute n (marked.Attribute x) fits = put_here marked.Attribute l.attributes n x
stands_here l letter.Legacy n (marked.Attribute x) fits = put_here marked.Attribute l.legacy n x
stands_here l letter.Normal n (marked.Normal x) fits = put_here marked.Normal l.normals n x
stands_here l letter.Note n (marked.Note x) fits = put_here marked.Note l.notes n x
stands_here l kind n mark fits = absurd (let e : false ≡ true = fits in cc)

-- what stands under other numbers stays
pub stands_still : (l : Annotations) (kind : Kind) (n : ℕ) (mark : Mark) (other : Kind) (q : ℕ) (y : Mark)
    → has_number l kind n ≡ false → mark_of l other q ≡ Some y → mark_of (with_marked l kind n mark) other q ≡ Some y
stands_still l letter.Text n (marked.Span x) letter.Text q y new h = put_keeps marked.Span l.spans n x q y new h
stands_still l letter.Text n (marked.Span x) _ q y new h = h
stands_still l letter.Event n (marked.Event x) letter.Event q y new h = put_keeps marked.Event l.events n x q y new h
stands_still l letter.Event n (marked.Event x) _ q y new h = h
stands_still l letter.Relation n (marked.Relation x) letter.Relation q y new h = put_keeps marked.Relation l.relations n x q y new h
stands_still l letter.Relation n (marked.Relation x) _ q y new h = h
stands_still l letter.Attribute n (marked.Attribute x) letter.Attribute q y new h = put_keeps marked.Attribute l.attributes n x q y new h
stands_still l letter.Attribute n (marked.Attribute x) _ q y new h = h
stands_still l letter.Legacy n (marked.Attribute x) letter.Legacy q y new h = put_keeps marked.Attribute l.legacy n x q y new h
stands_still l letter.Legacy n (marked.Attribute x) _ q y new h = h
stands_still l letter.Normal n (marked.Normal x) letter.Normal q y new h = put_keeps marked.Normal l.normals n x q y new h
stands_still l letter.Normal n (marked.Normal x) _ q y new h = h
stands_still l letter.Note n (marked.Note x) letter.Note q y new h = put_keeps marked.Note l.notes n x q y new h
stands_still l letter.Note n (marked.Note x) _ q y new h = h
stands_still l kind n mark other q y new h = h

-- what stands in the layer stood before, or is what was put
pub came_from : (l : Annotations) (kind : Kind) (n : ℕ) (mark : Mark) (other : Kind) (q : ℕ)
    → has_number (with_marked l kind n mark) other q ≡ true → (has_number l other q ≡ true) ⊎ ((other ≡ kind) × (q ≡ n))
came_from l letter.Text n (marked.Span x) letter.Text q h = elim (put_came l.spans n x q h) [ inl t ↦ inl t | inr e ↦ inr (refl, e) ]
came_from l letter.Text n (marked.Span x) _ q h = inl h
came_from l letter.Event n (marked.Event x) letter.Event q h = elim (put_came l.events n x q h) [ inl t ↦ inl t | inr e ↦ inr (refl, e) ]
came_from l letter.Event n (marked.Event x) _ q h = inl h
came_from l letter.Relation n (marked.Relation x) letter.Relation q h = elim (put_came l.relations n x q h) [ inl t ↦ inl t | inr e ↦ inr (refl, e) ]
came_from l letter.Relation n (marked.Relation x) _ q h = inl h
came_from l letter.Attribute n (marked.Attribute x) letter.Attribute q h = elim (put_came l.attributes n x q h) [ inl t ↦ inl t | inr e ↦ inr (refl, e) ]
came_from l letter.Attribute n (marked.Attribute x) _ q h = inl h
came_from l letter.Legacy n (marked.Attribute x) letter.Legacy q h = elim (put_came l.legacy n x q h) [ inl t ↦ inl t | inr e ↦ inr (refl, e) ]
came_from l letter.Legacy n (marked.Attribute x) _ q h = inl h
came_from l letter.Normal n (marked.Normal x) letter.Normal q h = elim (put_came l.normals n x q h) [ inl t ↦ inl t | inr e ↦ inr (refl, e) ]
came_from l letter.Normal n (marked.Normal x) _ q h = inl h
came_from l letter.Note n (marked.Note x) letter.Note q h = elim (put_came l.notes n x q h) [ inl t ↦ inl t | inr e ↦ inr (refl, e) ]
came_from l letter.Note n (marked.Note x) _ q h = inl h
came_from l kind n mark other q h = inl h

-- an annotation more leaves the classes as they are
pub classes_stay : (l : Annotations) (kind : Kind) (n : ℕ) (mark : Mark) → (with_marked l kind n mark).classes ≡ l.classes
classes_stay l letter.Text n (marked.Span x) = refl
classes_stay l letter.Event n (marked.Event x) = refl
classes_stay l letter.Relation n (marked.Relation x) = refl
classes_stay l letter.Attribute n (marked.Attribute x) = refl
classes_stay l letter.Legacy n (marked.Attribute x) = refl
classes_stay l letter.Normal n (marked.Normal x) = refl
classes_stay l letter.Note n (marked.Note x) = refl
classes_stay l kind n mark = refl

-- other classes leave the annotations as they are
pub marks_stay : (l : Annotations) (classes : List Class) (kind : Kind) (n : ℕ) → mark_of (with_classes l classes) kind n ≡ mark_of l kind n
marks_stay l classes letter.Text n = refl
marks_stay l classes letter.Event n = refl
marks_stay l classes letter.Relation n = refl
marks_stay l classes letter.Attribute n = refl
marks_stay l classes letter.Legacy n = refl
marks_stay l classes letter.Normal n = refl
marks_stay l classes letter.Note n = refl

pub numbers_stay : (l : Annotations) (classes : List Class) (kind : Kind) (n : ℕ) → has_number (with_classes l classes) kind n ≡ has_number l kind n
numbers_stay l classes letter.Text n = refl
numbers_stay l classes letter.Event n = refl
numbers_stay l classes letter.Relation n = refl
numbers_stay l classes letter.Attribute n = refl
numbers_stay l classes letter.Legacy n = refl
numbers_stay l classes letter.Normal n = refl
numbers_stay l classes letter.Note n = refl
