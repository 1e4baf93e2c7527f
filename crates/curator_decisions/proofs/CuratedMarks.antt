-- The layer of marks that are put one after another under IDs that differ, and the letters of marks.
use Rattle.std.proofs.Common.{◌≡◌, ◌≢◌, ℕ, ◌+◌, ◌*◌, ◌⊎◌, Bool, true, false, cond, List, [], ◌∷◌, length, refl, sym, ◌∙◌, ap, subst, inl, inr, Option, Some, None, is_some}
use Rattle.std.proofs.lemmas.Option.{same_Some}
use Rattle.std.specs.Option.{option_map}
use Rattle.std.specs.List.{fold}
use Rattle.std.specs.Ordering.{nat_cmp, eq_by_cmp, is_eq}
use Rattle.std.specs.Cmp.{nat_cmp_total, eq_by_cmp_equiv}
use Rattle.std.specs.declared.cmp.Ordering.{Ordering}
use Rattle.std.specs.declared.cmp.Ordering.TheVariants.{Less, Equal, Greater}
use Rattle.std.specs.FinMap as finite
use Rattle.std.specs.FinMap.{get-empty, get-insert, nat_cmp-IsAntisymmetric}
use Rattle.mark_base.specs.declared.ann_id.AnnId.{AnnId}
use Rattle.mark_base.specs.declared.ann_id.Kind.{Kind}
use Rattle.mark_base.specs.declared.ann_id.Kind.TheVariants as letter
use Rattle.layer_model.specs.declared.class.Class.{Class}
use Rattle.layer_model.specs.declared.mark.Mark.{Mark}
use Rattle.layer_model.specs.declared.mark.Mark.TheVariants as marked
use Rattle.layer_model.specs.Annotations.{Annotations, no_marks}
use Rattle.layer_model.specs.Classes.{letter_place, rank}
use Rattle.layer_model.specs.Layers.{is_of_kind, mark_at, mark_of, with_classes, with_mark, with_marked}
use Rattle.content_keys.specs.Nodes.{IsIn}
use Rattle.curator_decisions.specs.Curated.{curated_letter, renamed}
use Rattle.curator_decisions.proofs.CuratedParts.{has_key, none_some}
use Rattle.curator_decisions.proofs.ListLemmas.{Pairs}

equal : (r : Ordering) → is_eq r ≡ true → r ≡ Equal
equal Less p = absurd (let e : false ≡ true = p in cc)
equal Equal p = refl
equal Greater p = absurd (let e : false ≡ true = p in cc)

-- ---- in one map

put_here : {X Y : Type 0} (f : X → Y) (m : finite.FinMap nat_cmp X) (k : ℕ) (v : X) → option_map f (finite.get (finite.insert m k v) k) ≡ Some (f v)
put_here f m k v = ap (option_map f) (get-insert nat_cmp_total m k v k ∙ ap (λ b. cond b (Some v) (finite.get m k)) ((eq_by_cmp_equiv nat_cmp_total).refl k))

put_other : {X Y : Type 0} (f : X → Y) (m : finite.FinMap nat_cmp X) (k : ℕ) (v : X) (q : ℕ) → (q ≡ k → ⊥) → option_map f (finite.get (finite.insert m k v) q) ≡ option_map f (finite.get m q)
put_other f m k v q apart =
    ap (option_map f) (get-insert nat_cmp_total m k v q)
    ∙ elim (eq_by_cmp nat_cmp q k) as (λ b. eq_by_cmp nat_cmp q k ≡ b → option_map f (cond b (Some v) (finite.get m q)) ≡ option_map f (finite.get m q)) [
      | true ↦ λ e. absurd (apart (nat_cmp-IsAntisymmetric q k (equal _ e)))
      | false ↦ λ _. refl
    ] refl

put_came : {X Y : Type 0} (f : X → Y) (m : finite.FinMap nat_cmp X) (k : ℕ) (v : X) (q : ℕ) (y : Y) → option_map f (finite.get (finite.insert m k v) q) ≡ Some y → (option_map f (finite.get m q) ≡ Some y) ⊎ (q ≡ k)
put_came {X} {Y} f m k v q y h =
    let P : Bool → Type 0 = λ b. eq_by_cmp nat_cmp q k ≡ b → option_map f (cond b (Some v) (finite.get m q)) ≡ Some y → (option_map f (finite.get m q) ≡ Some y) ⊎ (q ≡ k) in
    let cases : P (eq_by_cmp nat_cmp q k) = elim (eq_by_cmp nat_cmp q k) as P [ true ↦ λ e _. inr (nat_cmp-IsAntisymmetric q k (equal _ e)) | false ↦ λ _ t. inl t ] in
    cases refl (sym (ap (option_map f) (get-insert nat_cmp_total m k v q)) ∙ h)

-- ---- in a layer

with_letter : {A : Type 0} {q : ℕ} (kind : Kind) (n : ℕ) → A ⊎ (q ≡ n) → A ⊎ ((kind ≡ kind) × (q ≡ n))
with_letter kind n h = elim h [ inl a ↦ inl a | inr e ↦ inr (refl, e) ]

stands_here : (l : Annotations) (kind : Kind) (n : ℕ) (mark : Mark) → is_of_kind kind mark ≡ true → mark_of (with_marked l kind n mark) kind n ≡ Some mark
stands_here l letter.Text n (marked.Span x) fits = put_here marked.Span l.spans n x
stands_here l letter.Event n (marked.Event x) fits = put_here marked.Event l.events n x
stands_here l letter.Relation n (marked.Relation x) fits = put_here marked.Relation l.relations n x
stands_here l letter.Attribute n (marked.Attribute x) fits = put_here marked.Attribute l.attributes n x
stands_here l letter.Legacy n (marked.Attribute x) fits = put_here marked.Attribute l.legacy n x
stands_here l letter.Normal n (marked.Normal x) fits = put_here marked.Normal l.normals n x
stands_here l letter.Note n (marked.Note x) fits = put_here marked.Note l.notes n x
stands_here l kind n mark fits = absurd (let e : false ≡ true = fits in cc)

stays : (l : Annotations) (kind : Kind) (n : ℕ) (mark : Mark) (k : Kind) (q : ℕ) → (k ≡ kind → q ≡ n → ⊥) → mark_of (with_marked l kind n mark) k q ≡ mark_of l k q
stays l letter.Text n (marked.Span x) letter.Text q apart = put_other marked.Span l.spans n x q (apart refl)
stays l letter.Event n (marked.Event x) letter.Event q apart = put_other marked.Event l.events n x q (apart refl)
stays l letter.Relation n (marked.Relation x) letter.Relation q apart = put_other marked.Relation l.relations n x q (apart refl)
stays l letter.Attribute n (marked.Attribute x) letter.Attribute q apart = put_other marked.Attribute l.attributes n x q (apart refl)
stays l letter.Legacy n (marked.Attribute x) letter.Legacy q apart = put_other marked.Attribute l.legacy n x q (apart refl)
stays l letter.Normal n (marked.Normal x) letter.Normal q apart = put_other marked.Normal l.normals n x q (apart refl)
stays l letter.Note n (marked.Note x) letter.Note q apart = put_other marked.Note l.notes n x q (apart refl)
stays l kind n mark k q apart = refl

came : (l : Annotations) (kind : Kind) (n : ℕ) (mark : Mark) (k : Kind) (q : ℕ) (got : Mark) → mark_of (with_marked l kind n mark) k q ≡ Some got → (mark_of l k q ≡ Some got) ⊎ ((k ≡ kind) × (q ≡ n))
came l letter.Text n (marked.Span x) letter.Text q got h = with_letter letter.Text n (put_came marked.Span l.spans n x q got h)
came l letter.Event n (marked.Event x) letter.Event q got h = with_letter letter.Event n (put_came marked.Event l.events n x q got h)
came l letter.Relation n (marked.Relation x) letter.Relation q got h = with_letter letter.Relation n (put_came marked.Relation l.relations n x q got h)
came l letter.Attribute n (marked.Attribute x) letter.Attribute q got h = with_letter letter.Attribute n (put_came marked.Attribute l.attributes n x q got h)
came l letter.Legacy n (marked.Attribute x) letter.Legacy q got h = with_letter letter.Legacy n (put_came marked.Attribute l.legacy n x q got h)
came l letter.Normal n (marked.Normal x) letter.Normal q got h = with_letter letter.Normal n (put_came marked.Normal l.normals n x q got h)
came l letter.Note n (marked.Note x) letter.Note q got h = with_letter letter.Note n (put_came marked.Note l.notes n x q got h)
came l kind n mark k q got h = inl h

-- ---- marks put one after another

abbrev pub built : Annotations → List (AnnId × Mark) → Annotations
built l entries = fold (λ layer entry. with_mark layer entry.0 entry.1) l entries

-- the entries stand under two IDs
abbrev pub Apart : AnnId × Mark → AnnId × Mark → Type 0
Apart a b = rank a.0 ≢ rank b.0

pub record Came (entries : List (AnnId × Mark)) (kind : Kind) (n : ℕ) : Type 0 where
  pub entry : AnnId × Mark
  pub among : IsIn entry entries
  pub kind_is : kind ≡ entry.0.kind
  pub number_is : n ≡ entry.0.number

later : (e : AnnId × Mark) (es : List (AnnId × Mark)) (kind : Kind) (n : ℕ) → Came es kind n → Came (e ∷ es) kind n
later e es kind n c = record { entry = c.entry; among = inr c.among; kind_is = c.kind_is; number_is = c.number_is }

-- what stands in the layer was put there
pub put_by : (es : List (AnnId × Mark)) (l : Annotations) (kind : Kind) (n : ℕ) (mark : Mark) → mark_of (built l es) kind n ≡ Some mark → (mark_of l kind n ≡ Some mark) ⊎ Came es kind n
put_by [] l kind n mark h = inl h
put_by (e ∷ es) l kind n mark h = elim (put_by es (with_mark l e.0 e.1) kind n mark h) [
  | inl g ↦ elim (came l e.0.kind e.0.number e.1 kind n mark g) [
    | inl before ↦ inl before
    | inr same ↦ inr record { entry = e; among = inl refl; kind_is = same.0; number_is = same.1 }
  ]
  | inr c ↦ inr (later e es kind n c)
]

-- what is put under other IDs changes nothing
untouched : (es : List (AnnId × Mark)) (l : Annotations) (id : AnnId) → ((e : AnnId × Mark) → IsIn e es → rank id ≢ rank e.0) → mark_at (built l es) id ≡ mark_at l id
untouched [] l id h = refl
untouched (e ∷ es) l id h =
    untouched es (with_mark l e.0 e.1) id (λ x k. h x (inr k))
    ∙ stays l e.0.kind e.0.number e.1 id.kind id.number (λ k n. h e (inl refl) (λ i. letter_place (k i) * 1000000000 + n i))

-- what is put stands in the layer
pub put_stands : (es : List (AnnId × Mark)) (l : Annotations) → Pairs Apart es → (e : AnnId × Mark) → IsIn e es → is_of_kind e.0.kind e.1 ≡ true → mark_at (built l es) e.0 ≡ Some e.1
put_stands [] l up e k fits = absurd k
put_stands (x ∷ xs) l up e k fits = elim k [
  | inl same ↦
      let P : AnnId × Mark → Type 0 = λ z. is_of_kind z.0.kind z.1 ≡ true → mark_at (built (with_mark l x.0 x.1) xs) z.0 ≡ Some z.1 in
      subst P (sym same) (λ f. untouched xs (with_mark l x.0 x.1) x.0 up.0 ∙ stands_here l x.0.kind x.0.number x.1 f) fits
  | inr m ↦ put_stands xs (with_mark l x.0 x.1) up.1 e m fits
]

-- classes are put beside the marks
pub with_classes_same : (l : Annotations) (classes : List Class) (kind : Kind) (n : ℕ) → mark_of (with_classes l classes) kind n ≡ mark_of l kind n
with_classes_same l classes letter.Text n = refl
with_classes_same l classes kind n = refl

-- ---- letters of marks

kind_of_some : {V : Type 0} (kind : Kind) (wrap : V → Mark) → ((v : V) → is_of_kind kind (wrap v) ≡ true) → (o : Option V) (mark : Mark) → option_map wrap o ≡ Some mark → is_of_kind kind mark ≡ true
kind_of_some kind wrap fits None mark e = none_some e
kind_of_some kind wrap fits (Some v) mark e = ap (is_of_kind kind) (sym (same_Some _ _ e)) ∙ fits v

pub stands_fit : (l : Annotations) (kind : Kind) (n : ℕ) (mark : Mark) → mark_of l kind n ≡ Some mark → is_of_kind kind mark ≡ true
stands_fit l letter.Text n mark e = kind_of_some letter.Text marked.Span (λ v. refl) (finite.get l.spans n) mark e
stands_fit l letter.Event n mark e = kind_of_some letter.Event marked.Event (λ v. refl) (finite.get l.events n) mark e
stands_fit l letter.Relation n mark e = kind_of_some letter.Relation marked.Relation (λ v. refl) (finite.get l.relations n) mark e
stands_fit l letter.Attribute n mark e = kind_of_some letter.Attribute marked.Attribute (λ v. refl) (finite.get l.attributes n) mark e
stands_fit l letter.Legacy n mark e = kind_of_some letter.Legacy marked.Attribute (λ v. refl) (finite.get l.legacy n) mark e
stands_fit l letter.Normal n mark e = kind_of_some letter.Normal marked.Normal (λ v. refl) (finite.get l.normals n) mark e
stands_fit l letter.Note n mark e = kind_of_some letter.Note marked.Note (λ v. refl) (finite.get l.notes n) mark e

pub renamed_fits : (rename : AnnId → AnnId) (kind : Kind) (mark : Mark) → is_of_kind kind mark ≡ true → is_of_kind (curated_letter kind) (renamed rename mark) ≡ true
renamed_fits rename letter.Text (marked.Span x) h = refl
renamed_fits rename letter.Event (marked.Event x) h = refl
renamed_fits rename letter.Relation (marked.Relation x) h = refl
renamed_fits rename letter.Attribute (marked.Attribute x) h = refl
renamed_fits rename letter.Legacy (marked.Attribute x) h = refl
renamed_fits rename letter.Normal (marked.Normal x) h = refl
renamed_fits rename letter.Note (marked.Note x) h = refl
renamed_fits rename kind mark h = absurd (let e : false ≡ true = h in cc)

pub nothing_there : (kind : Kind) (n : ℕ) → mark_of no_marks kind n ≡ None
nothing_there letter.Text n = ap (option_map marked.Span) (get-empty nat_cmp n)
nothing_there letter.Event n = ap (option_map marked.Event) (get-empty nat_cmp n)
nothing_there letter.Relation n = ap (option_map marked.Relation) (get-empty nat_cmp n)
nothing_there letter.Attribute n = ap (option_map marked.Attribute) (get-empty nat_cmp n)
nothing_there letter.Legacy n = ap (option_map marked.Attribute) (get-empty nat_cmp n)
nothing_there letter.Normal n = ap (option_map marked.Normal) (get-empty nat_cmp n)
nothing_there letter.Note n = ap (option_map marked.Note) (get-empty nat_cmp n)

pub no_legacy : (k : Kind) → curated_letter k ≡ letter.Legacy → ⊥
no_legacy letter.Text e = cc
no_legacy letter.Event e = cc
no_legacy letter.Relation e = cc
no_legacy letter.Attribute e = cc
no_legacy letter.Legacy e = cc
no_legacy letter.Normal e = cc
no_legacy letter.Note e = cc

-- ---- numbers of a map

pub got : {V : Type 0} (m : finite.FinMap nat_cmp V) (wrap : V → Mark) (n : ℕ) → IsIn n (finite.keys m) → (mark : Mark) × (option_map wrap (finite.get m n) ≡ Some mark)
got {V} m wrap n k = by (finite.get m n) (has_key m n k)
  where
    by : (o : Option V) → is_some o ≡ true → (mark : Mark) × (option_map wrap o ≡ Some mark)
    by None e = absurd (let f : false ≡ true = e in cc)
    by (Some v) e = (wrap v, refl)

pub none_in : (xs : List ℕ) → ((n : ℕ) → IsIn n xs → ⊥) → length xs ≡ 0
none_in [] h = refl
none_in (x ∷ xs) h = absurd (h x (inl refl))
