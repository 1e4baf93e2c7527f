-- Numbered lines, whatever their numbers are.
use Rattle.std.proofs.Common.{◌≡◌, ℕ, ◌+◌, ◌<◌, ◌≤◌, Bool, true, false, cond, List, [], ◌∷◌, ◌++◌, map, length, drop, filter, slice_get, get_or, suc, refl, sym, ◌∙◌, ap, ap₂, arith}
use Rattle.std.specs.Option.{option_map_or}
use Rattle.std.specs.List.{AllByRecursion as Each, enumerate_from}
use Rattle.std.proofs.lemmas.List.{drop_more, drop_all, length-drop}
use Rattle.std.proofs.lemmas.Option.{slice_get-get_or}
use Rattle.conf_model.specs.declared.role.Role.{Role}
use Rattle.annotation_conf.proofs.SoundFiles.{Ascend}
use Rattle.annotation_conf.proofs.Written.{numbered}

module _ {X Y : Type 0} (write : ℕ → X → Y) where
  pub length-numbered : (n : ℕ) (rows : List X) → length (numbered write n rows) ≡ length rows
  length-numbered n [] = refl
  length-numbered n (row ∷ rows) = ap suc (length-numbered (n + 1) rows)

  -- what does not read the number
  pub map-numbered : {Z : Type 0} (h : Y → Z) (g : X → Z) (n : ℕ) (rows : List X) → Each (λ row. (k : ℕ) → h (write k row) ≡ g row) rows → map h (numbered write n rows) ≡ map g rows
  map-numbered h g n [] a = refl
  map-numbered h g n (row ∷ rows) a = ap₂ (λ z zs. z ∷ zs) (a.0 n) (map-numbered h g (n + 1) rows a.1)

  pub filter-numbered : {Z : Type 0} (p : Y → Bool) (q : X → Bool) (h : Y → Z) (g : X → Z) (n : ℕ) (rows : List X) → ((k : ℕ) (row : X) → p (write k row) ≡ q row)
      → Each (λ row. (k : ℕ) → h (write k row) ≡ g row) rows → map h (filter p (numbered write n rows)) ≡ map g (filter q rows)
  filter-numbered p q h g n [] same a = refl
  filter-numbered p q h g n (row ∷ rows) same a =
      ap (λ b. map h (cond b (write n row ∷ filter p (numbered write (n + 1) rows)) (filter p (numbered write (n + 1) rows)))) (same n row)
      ∙ elim (q row) as (λ b. map h (cond b (write n row ∷ filter p (numbered write (n + 1) rows)) (filter p (numbered write (n + 1) rows))) ≡ map g (cond b (row ∷ filter q rows) (filter q rows))) [
        | true ↦ ap₂ (λ z zs. z ∷ zs) (a.0 n) (filter-numbered p q h g (n + 1) rows same a.1)
        | false ↦ filter-numbered p q h g (n + 1) rows same a.1
      ]

  pub Each-numbered : (P : Y → Type 0) (n : ℕ) (rows : List X) → Each (λ row. (k : ℕ) → P (write k row)) rows → Each P (numbered write n rows)
  Each-numbered P n [] a = tt
  Each-numbered P n (row ∷ rows) a = (a.0 n, Each-numbered P (n + 1) rows a.1)

  pub numbered_above : (number_of : Y → ℕ) → ((k : ℕ) (row : X) → number_of (write k row) ≡ k) → (n : ℕ) (rows : List X) → Each (λ y. n ≤ number_of y) (numbered write n rows)
  numbered_above number_of own n [] = tt
  numbered_above number_of own n (row ∷ rows) = ((let is = own n row in omega arith), weaker (numbered write (n + 1) rows) (numbered_above number_of own (n + 1) rows))
    where
      weaker : (ys : List Y) → Each (λ y. n + 1 ≤ number_of y) ys → Each (λ y. n ≤ number_of y) ys
      weaker [] a = tt
      weaker (y ∷ ys) a = ((let h = a.0 in omega arith), weaker ys a.1)

  -- their numbers ascend
  pub Ascend-numbered : (number_of : Y → ℕ) → ((k : ℕ) (row : X) → number_of (write k row) ≡ k) → (n : ℕ) (rows : List X) → Ascend number_of (numbered write n rows)
  Ascend-numbered number_of own n [] = tt
  Ascend-numbered number_of own n (row ∷ rows) = (above (numbered write (n + 1) rows) (numbered_above number_of own (n + 1) rows), Ascend-numbered number_of own (n + 1) rows)
    where
      above : (ys : List Y) → Each (λ y. n + 1 ≤ number_of y) ys → Each (λ y. number_of (write n row) < number_of y) ys
      above [] a = tt
      above (y ∷ ys) a = ((let is = own n row in let h = a.0 in omega arith), above ys a.1)

  pub numbered-split : (n m : ℕ) (xs ys : List X) → n + length xs ≡ m → numbered write n (xs ++ ys) ≡ numbered write n xs ++ numbered write m ys
  numbered-split n m [] ys e = let same : n ≡ m = omega arith in ap (λ k. numbered write k ys) same
  numbered-split n m (x ∷ xs) ys e = ap (λ zs. write n x ∷ zs) (numbered-split (n + 1) m xs ys (omega arith))

-- the elements of a list from a place on, by their places
pub at_places : {X : Type 0} (roles : List (List Role)) (n : ℕ) (xs : List X) → length (drop n roles) ≡ length xs
    → map (λ (placed : ℕ × X). option_map_or (λ (own : List Role). own) (slice_get roles placed.0) []) (enumerate_from n xs) ≡ drop n roles
at_places roles n [] e = sym (drop_all n roles (omega (arith, length-drop n roles)))
at_places roles n (x ∷ xs) e =
    let lt : n < length roles = omega (arith, length-drop n roles) in
    let more : drop n roles ≡ get_or roles n [] ∷ drop (n + 1) roles = drop_more roles n [] lt in
    let size : length (drop (n + 1) roles) ≡ length xs = omega (arith, ap length more) in
    ap₂ (λ (own : List Role) (rest : List (List Role)). own ∷ rest) (ap (λ o. option_map_or (λ (own : List Role). own) o []) (slice_get-get_or roles n [] lt)) (at_places roles (n + 1) xs size)
    ∙ sym more
