-- Annotators beside their rows.
use Rattle.std.proofs.Common.{◌≡◌, ℕ, zero, suc, ◌+◌, ◌<◌, List, [], ◌∷◌, ◌++◌, Option, Some, None, length, take, get_or, refl, sym, ◌∙◌, ap, arith, add-one}
use Rattle.std.specs.List.{slice_get, zip, flat_map}
use Rattle.std.specs.Option.{option_map_or}
use Rattle.std.proofs.lemmas.Option.{same_Some}
use Rattle.std.proofs.lemmas.List.{flat_map_more}

zip_next : {A B : Type 0} (names : List A) (rows : List B) (i : ℕ) (n : A) (r : B) → i < length names → slice_get rows i ≡ Some r → zip (take (suc i) names) rows ≡ zip (take i names) rows ++ (get_or names i n, r) ∷ []
zip_next [] rows i n r h is = absurd (omega arith)
zip_next (x ∷ names) [] i n r h is = cc
zip_next (x ∷ names) (y ∷ rows) zero n r h is = ap (λ z. (x, z) ∷ []) (same_Some _ _ is)
zip_next (x ∷ names) (y ∷ rows) (suc i) n r h is = ap (λ t. (x, y) ∷ t) (zip_next names rows i n r (omega arith) is)

zip_stays : {A B : Type 0} (names : List A) (rows : List B) (i : ℕ) → slice_get rows i ≡ None → zip (take (suc i) names) rows ≡ zip (take i names) rows
zip_stays [] rows zero is = refl
zip_stays [] rows (suc i) is = refl
zip_stays (x ∷ names) [] zero is = refl
zip_stays (x ∷ names) [] (suc i) is = refl
zip_stays (x ∷ names) (y ∷ rows) zero is = cc
zip_stays (x ∷ names) (y ∷ rows) (suc i) is = ap (λ t. (x, y) ∷ t) (zip_stays names rows i is)

-- what is written of some names beside their rows goes on with what is written of the next name and of its row, where there is one
pub row_more : {A B : Type 0} (f : A × B → List ℕ) (names : List A) (rows : List B) (i : ℕ) (n : A) (found : Option B) (before now after : List ℕ)
    → i < length names → n ≡ get_or names i n → slice_get rows i ≡ found
    → now ≡ before ++ flat_map f (zip (take i names) rows) → after ≡ now ++ option_map_or (λ r. f (n, r)) found []
    → after ≡ before ++ flat_map f (zip (take (i + 1) names) rows)
row_more {A} {B} f names rows i n None before now after h here is so_far more =
    more ∙ (nothing now ∙ (so_far ∙ ap (λ placed. before ++ flat_map f placed) (sym (zip_stays names rows i is) ∙ ap (λ k. zip (take k names) rows) (sym (add-one i)))))
  where
    nothing : (xs : List ℕ) → xs ++ [] ≡ xs
    nothing [] = refl
    nothing (x ∷ xs) = ap (λ t. x ∷ t) (nothing xs)
row_more {A} {B} f names rows i n (Some r) before now after h here is so_far more =
    more ∙ (ap (λ t. t ++ f (n, r)) so_far
    ∙ (flat_map_more f before (zip (take i names) rows) (n, r)
    ∙ ap (λ placed. before ++ flat_map f placed)
    (ap (λ m. zip (take i names) rows ++ (m, r) ∷ []) here ∙ (sym (zip_next names rows i n r h is) ∙ ap (λ k. zip (take k names) rows) (sym (add-one i))))))
