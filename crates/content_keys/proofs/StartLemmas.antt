-- A table that grows begins with what it was.
use Rattle.std.proofs.Common.{◌≡◌, ℕ, List, [], ◌∷◌, ◌++◌, length, drop, refl, sym, ap, ◌∙◌, subst, inl, inr}
use Rattle.std.proofs.lemmas.List.{take-append-drop}
use Rattle.content_keys.specs.Nodes.{Node, number}
use Rattle.content_keys.specs.Tables.{IsAdded, Starts, values, values_from}
use Rattle.content_keys.proofs.TableLemmas.{read, values_from-append}

module _ {X : Type 0} where
  pub starts_itself : (xs : List X) → Starts xs xs
  starts_itself [] = refl
  starts_itself (x ∷ xs) = ap (λ l. x ∷ l) (starts_itself xs)

  pub starts_front : (xs ys : List X) → Starts xs (xs ++ ys)
  starts_front [] ys = refl
  starts_front (x ∷ xs) ys = ap (λ l. x ∷ l) (starts_front xs ys)

  pub starts_trans : (a b c : List X) → Starts a b → Starts b c → Starts a c
  starts_trans [] b c p q = refl
  starts_trans (x ∷ a) [] c p q = cc
  starts_trans (x ∷ a) (y ∷ b) [] p q = cc
  starts_trans (x ∷ a) (y ∷ b) (z ∷ c) p q =
      let head : z ≡ x = cc in
      let first : Starts a b = cc in
      let second : Starts b c = cc in
      let tail : Starts a c = starts_trans a b c first second in
      λ i. head i ∷ tail i

values_front : (vs : List ℕ) (ts : List (Node ℕ)) → Starts vs (values_from vs ts)
values_front vs [] = starts_itself vs
values_front vs (s ∷ ts) =
    let n : ℕ = number (read vs) s in
    starts_trans vs (vs ++ n ∷ []) (values_from (vs ++ n ∷ []) ts) (starts_front vs (n ∷ [])) (values_front (vs ++ n ∷ []) ts)

-- and its contents begin with those that it had
pub values_start : (ss t : List (Node ℕ)) → Starts ss t → Starts (values ss) (values t)
values_start ss t h =
    let rest : List (Node ℕ) = drop (length ss) t in
    let is : ss ++ rest ≡ t = ap (λ l. l ++ rest) (sym h) ∙ take-append-drop (length ss) t in
    let P : List ℕ → Type 0 = Starts (values ss) in
    subst P (sym (values_from-append [] ss rest) ∙ ap values is) (values_front (values ss) rest)

pub added_starts : (ss : List (Node ℕ)) (s : Node ℕ) (t : List (Node ℕ)) (i : ℕ) → IsAdded ss s t i → Starts ss t
added_starts ss s t i a =
    let P : List (Node ℕ) → Type 0 = Starts ss in
    elim a.grows [
      | inl e ↦ subst P (sym e) (starts_itself ss)
      | inr e ↦ subst P (sym e) (starts_front ss (s ∷ []))
    ]

pub same_starts : (ss t : List (Node ℕ)) → t ≡ ss → Starts ss t
same_starts ss t e = let P : List (Node ℕ) → Type 0 = Starts ss in subst P (sym e) (starts_itself ss)
