-- Annotations and classes put one by one.
use Rattle.std.proofs.Common.{◌≡◌, ℕ, suc, ◌+◌, ◌<◌, ◌≤◌, Bool, true, false, cond, not, List, [], ◌∷◌, ◌++◌, length, get_or, take, refl, sym, ap, ◌∙◌, arith, Option, Some, None, option_map, option_and_then}
use Rattle.std.specs.List.{cons_option, filter, filter_map, fold}
use Rattle.std.proofs.lemmas.List.{take_more}
use Rattle.std.proofs.lemmas.List.Elements.{filter_map-append}
use Rattle.std.proofs.lemmas.List.Sums.{fold-append}
use Rattle.mark_base.specs.declared.ann_id.AnnId.{AnnId}
use Rattle.mark_base.specs.declared.table_places.RelId.{RelId}
use Rattle.layer_model.specs.declared.class.Class.{Class}
use Rattle.layer_model.specs.Classes.{apart, comes_before, insert_class, joined, joined_class, shares}
use Rattle.curator_decisions.specs.Curated.{all_new}

pub append_nil : {X : Type 0} (xs : List X) → xs ++ [] ≡ xs
append_nil [] = refl
append_nil (x ∷ xs) = ap (λ ys. x ∷ ys) (append_nil xs)

-- one more, filtered
pub filter_map_more : {X Y : Type 0} (f : X → Option Y) (xs : List X) (i : ℕ) (x : X) → i < length xs → x ≡ get_or xs i x → (o : Option Y) → o ≡ f x → filter_map f (take (i + 1) xs) ≡ filter_map f (take i xs) ++ cons_option o []
filter_map_more f xs i x h at o is = ap (filter_map f) (take_more xs i x h ∙ ap (λ q. take i xs ++ q ∷ []) (sym at)) ∙ filter_map-append f (take i xs) (x ∷ []) ∙ ap (λ p. filter_map f (take i xs) ++ cons_option p []) (sym is)

module _ {X Y B : Type 0} (f : X → Option Y) (g : B → Y → B) (start : B) (xs : List X) (i : ℕ) (x : X) (h : i < length xs) (at : x ≡ get_or xs i x) where
  more : filter_map f (take (i + 1) xs) ≡ filter_map f (take i xs) ++ cons_option (f x) []
  more = ap (filter_map f) (take_more xs i x h ∙ ap (λ q. take i xs ++ q ∷ []) (sym at)) ∙ filter_map-append f (take i xs) (x ∷ [])

  pub fold_one : (y : Y) → f x ≡ Some y → (old new : B) → old ≡ fold g start (filter_map f (take i xs)) → new ≡ g old y → new ≡ fold g start (filter_map f (take (i + 1) xs))
  fold_one y e old new so is =
      is ∙ ap (λ b. g b y) so ∙ sym (ap (fold g start) (more ∙ ap (λ o. filter_map f (take i xs) ++ cons_option o []) e) ∙ fold-append g start (filter_map f (take i xs)) (y ∷ []))

  pub fold_none : f x ≡ None → (old : B) → old ≡ fold g start (filter_map f (take i xs)) → old ≡ fold g start (filter_map f (take (i + 1) xs))
  fold_none e old so = so ∙ sym (ap (fold g start) (more ∙ ap (λ o. filter_map f (take i xs) ++ cons_option o []) e ∙ append_nil (filter_map f (take i xs))))

-- ---- classes

insert_long : (class : Class) (classes : List Class) → length (insert_class class classes) ≡ suc (length classes)
insert_long class [] = refl
insert_long class (first ∷ classes) =
    elim (comes_before class first) as (λ b. length (cond b (class ∷ first ∷ classes) (first ∷ insert_class class classes)) ≡ suc (suc (length classes))) [
      | true ↦ refl
      | false ↦ ap suc (insert_long class classes)
    ]

pub filter_short : {X : Type 0} (p : X → Bool) (xs : List X) → length (filter p xs) ≤ length xs
filter_short p [] = omega arith
filter_short p (x ∷ xs) =
    let rest : length (filter p xs) ≤ length xs = filter_short p xs in
    elim (p x) as (λ b. length (cond b (x ∷ filter p xs) (filter p xs)) ≤ suc (length xs)) [ true ↦ omega arith | false ↦ omega arith ]

-- a class more makes the list longer by at most one
pub joined_long : (kind : RelId) (ids : List AnnId) (classes : List Class) → length (joined kind ids classes) ≤ length classes + 1
joined_long kind ids classes =
    let one : length (joined kind ids classes) ≡ suc (length (apart kind.n ids classes)) = insert_long (joined_class kind ids classes) (apart kind.n ids classes) in
    let two : length (apart kind.n ids classes) ≤ length classes = filter_short (λ class. not (shares kind.n ids class)) classes in
    omega (arith, one, two)

-- the new IDs are as many as the members
pub all_new_long : (new : AnnId → Option AnnId) (members out : List AnnId) → all_new new members ≡ Some out → length out ≡ length members
all_new_long new [] out e = let same : [] ≡ out = cc in sym (ap length same)
all_new_long new (id ∷ ids) out e = by (new id) (all_new new ids) (λ others f. all_new_long new ids others f) e
  where
    by : (o : Option AnnId) (rest : Option (List AnnId)) → ((others : List AnnId) → rest ≡ Some others → length others ≡ length ids) → option_and_then (λ first. option_map (λ others. first ∷ others) rest) o ≡ Some out → length out ≡ suc (length ids)
    by None rest f g = cc
    by (Some first) None f g = cc
    by (Some first) (Some others) f g = let same : first ∷ others ≡ out = cc in sym (ap length same) ∙ ap suc (f others refl)
