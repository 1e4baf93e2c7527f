-- A holder more.
use Rattle.std.proofs.Common.{◌≡◌, ℕ, zero, suc, ◌+◌, ◌<◌, All, length, List, [], ◌∷◌, ◌++◌, ◌∙◌, map, take, Option, None, Some, option_map, refl, sym, subst, ap, arith, add-one}
use Rattle.std.proofs.lemmas.Option.{same_Some}
use Rattle.std.specs.List.{slice_get}

told_by : {A B : Type 0} (f : A → B) (rows : List A) (i : ℕ) (x : B) → Some x ≡ option_map f (slice_get rows i)
    → map f (take (suc i) rows) ≡ map f (take i rows) ++ x ∷ []
told_by f [] i x there = cc
told_by f (row ∷ rows) zero x there = ap (λ y. y ∷ []) (sym (same_Some _ _ there))
told_by f (row ∷ rows) (suc i) x there = ap (λ t. f row ∷ t) (told_by f rows i x there)

-- what is told of the holders up to a place, and of the one that stands there
pub held_more : {A B : Type 0} (f : A → B) (rows : List A) (i : ℕ) (x : B) → Some x ≡ option_map f (slice_get rows i)
    → map f (take (i + 1) rows) ≡ map f (take i rows) ++ x ∷ []
held_more f rows i x there = rw add-one (told_by f rows i x there)

told_through : {A B C : Type 0} (f : B → C) (g : A → B) (one : Option A) → option_map f (option_map g one) ≡ option_map (λ x. f (g x)) one
told_through f g None = refl
told_through f g (Some x) = refl

-- a list goes on with what is told of the layer of the next holder
pub layer_more : {A B C : Type 0} (f : B → C) (g : A → B) (rows : List A) (i : ℕ) (x : B) (y : C) (done after : List C)
    → after ≡ done ++ y ∷ [] → done ≡ map (λ row. f (g row)) (take i rows) → y ≡ f x → Some x ≡ option_map g (slice_get rows i)
    → after ≡ map (λ row. f (g row)) (take (i + 1) rows)
layer_more f g rows i x y done after pushed kept told there =
    pushed ∙ ap (λ t. t ++ y ∷ []) kept
    ∙ sym (held_more (λ row. f (g row)) rows i y (ap Some told ∙ ap (option_map f) there ∙ told_through f g (slice_get rows i)))

-- what holds of each layer holds of the one that stands at a place
pub holds_there : {A B : Type 0} (Q : B → Type 0) (g : A → B) (rows : List A) (i : ℕ) (x : B) → All (λ row. Q (g row)) rows → Some x ≡ option_map g (slice_get rows i) → Q x
holds_there Q g [] i x all there = cc
holds_there Q g (row ∷ rows) zero x all there = subst Q (sym (same_Some _ _ there)) (all 0 row (omega arith))
holds_there Q g (row ∷ rows) (suc i) x all there = holds_there Q g rows i x (λ k d h. all (suc k) d (omega arith)) there

-- a place within has a layer
pub stands_there : {A B : Type 0} (g : A → B) (rows : List A) (i : ℕ) → i < length rows → ◌≡◌ {A = Option B} None (option_map g (slice_get rows i)) → ⊥
stands_there g [] i within none = omega arith
stands_there g (row ∷ rows) zero within none = cc
stands_there g (row ∷ rows) (suc i) within none = stands_there g rows i (omega arith) none
