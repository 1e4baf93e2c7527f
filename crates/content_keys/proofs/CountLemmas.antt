-- A bag of roles and contents is known by how often each role stands with each content.
use Rattle.std.proofs.Common.{◌≡◌, ℕ, zero, suc, ◌+◌, ◌<◌, Bool, true, false, ◌&&◌, cond, eqb, List, [], ◌∷◌, ◌++◌, map, refl, sym, ap, ◌∙◌, subst, arith, inl, inr, sum_by, ◌↔◌, ◌⊎◌, eq-eqb}
use Rattle.std.specs.List.{count_by}
use Rattle.std.proofs.lemmas.Bool.Decides.{eqb_tells}
use Rattle.std.proofs.lemmas.List.Sums.{sum_by-cons}
use Rattle.content_keys.specs.Numbers.{paired, put_in, sorted}
use Rattle.content_keys.proofs.NumberLemmas.{paired_first, paired_second}
use Rattle.content_keys.proofs.BagLemmas.{IsIn, IsIn-right, map-IsIn}
use Rattle.content_keys.proofs.OrderLemmas.{Split, bit, bit_yes, put_middle, split, sum_middle}
use Rattle.std.specs.Prelude.{nat_le}

sum_put_in : (f : ℕ → ℕ) (x : ℕ) (ys : List ℕ) → sum_by f (put_in x ys) ≡ f x + sum_by f ys
sum_put_in f x [] = sum_by-cons f x []
sum_put_in f x (y ∷ ys) =
    elim (nat_le x y) as (λ b. sum_by f (cond b (x ∷ y ∷ ys) (y ∷ put_in x ys)) ≡ f x + sum_by f (y ∷ ys)) [
      | true ↦ sum_by-cons f x (y ∷ ys)
      | false ↦
          let a : sum_by f (y ∷ put_in x ys) ≡ f y + sum_by f (put_in x ys) = sum_by-cons f y (put_in x ys) in
          let b : sum_by f (put_in x ys) ≡ f x + sum_by f ys = sum_put_in f x ys in
          let c : sum_by f (y ∷ ys) ≡ f y + sum_by f ys = sum_by-cons f y ys in
          omega (arith, a, b, c)
    ]

sum_sorted : (f : ℕ → ℕ) (xs : List ℕ) → sum_by f (sorted xs) ≡ sum_by f xs
sum_sorted f [] = refl
sum_sorted f (x ∷ xs) =
    let a : sum_by f (put_in x (sorted xs)) ≡ f x + sum_by f (sorted xs) = sum_put_in f x (sorted xs) in
    let b : sum_by f (sorted xs) ≡ sum_by f xs = sum_sorted f xs in
    let c : sum_by f (x ∷ xs) ≡ f x + sum_by f xs = sum_by-cons f x xs in
    omega (arith, a, b, c)

-- numbers that stand as often in both lists make one bag
sort_counted : (xs ys : List ℕ) → ((n : ℕ) → sum_by (bit n) xs ≡ sum_by (bit n) ys) → sorted xs ≡ sorted ys
sort_counted [] [] h = refl
sort_counted [] (y ∷ ys) h =
    let e : 0 ≡ sum_by (bit y) (y ∷ ys) = h y in
    let a : sum_by (bit y) (y ∷ ys) ≡ bit y y + sum_by (bit y) ys = sum_by-cons (bit y) y ys in
    let it : bit y y ≡ 1 = bit_yes y in
    absurd (omega (arith, e, a, it))
sort_counted (x ∷ xs) ys h =
    let all : sum_by (bit x) (x ∷ xs) ≡ sum_by (bit x) ys = h x in
    let here : sum_by (bit x) (x ∷ xs) ≡ bit x x + sum_by (bit x) xs = sum_by-cons (bit x) x xs in
    let it : bit x x ≡ 1 = bit_yes x in
    let r : Split x ys = split x ys (omega (arith, all, here, it)) in
    let rest : (n : ℕ) → sum_by (bit n) xs ≡ sum_by (bit n) (r.front ++ r.back) =
    λ n.
    let z : sum_by (bit n) (x ∷ xs) ≡ bit n x + sum_by (bit n) xs = sum_by-cons (bit n) x xs in
    let a : sum_by (bit n) (x ∷ xs) ≡ sum_by (bit n) ys = h n in
    let b : sum_by (bit n) ys ≡ sum_by (bit n) (r.front ++ x ∷ r.back) = ap (sum_by (bit n)) r.is in
    let c : sum_by (bit n) (r.front ++ x ∷ r.back) ≡ bit n x + sum_by (bit n) (r.front ++ r.back) = sum_middle (bit n) x r.front r.back in
    omega (arith, a, b, c, z) in
    ap (put_in x) (sort_counted xs (r.front ++ r.back) rest) ∙ sym (ap sorted r.is ∙ put_middle x r.front r.back)

-- the test of a pair is that of its parts
differs : (a b : ℕ) → (a ≡ b → ⊥) → eqb a b ≡ false
differs a b n = elim (eqb_tells a b) [ inl p ↦ absurd (n p.1) | inr p ↦ p.0 ]

pair_test : (a b r c : ℕ) → eqb (paired a b) (paired r c) ≡ (eqb a r && eqb b c)
pair_test a b r c =
    elim (eqb_tells a r) [
      | inl p ↦ elim (eqb_tells b c) [
        | inl q ↦ eq-eqb _ _ (λ i. paired (p.1 i) (q.1 i)) ∙ sym (λ i. p.0 i && q.0 i)
        | inr q ↦ differs _ _ (λ e. q.1 (paired_second a b r c e)) ∙ sym (λ i. p.0 i && q.0 i)
      ]
      | inr p ↦ differs _ _ (λ e. p.1 (paired_first a b r c e)) ∙ sym (ap (λ x. x && eqb b c) p.0)
    ]

module _ {I : Type 0} (v : I → ℕ) where
  abbrev pub code : ℕ × I → ℕ
  code p = paired p.0 (v p.1)

  abbrev pub test : ℕ → ℕ → ℕ × I → Bool
  test r c p = eqb p.0 r && eqb (v p.1) c

  pub count_is : (r c : ℕ) (bag : List (ℕ × I)) → sum_by (bit (paired r c)) (map code bag) ≡ count_by (test r c) bag
  unfolding bit
  count_is r c [] = refl
  count_is r c (p ∷ ps) =
      let head : bit (paired r c) (code p) ≡ cond (test r c p) 1 0 = ap (λ b. cond b 1 0) (pair_test p.0 (v p.1) r c) in
      sum_by-cons (bit (paired r c)) (code p) (map code ps) ∙ (λ i. head i + count_is r c ps i) ∙ sym (sum_by-cons (λ q. cond (test r c q) 1 0) p ps)

zero_or : (n : ℕ) → (n ≡ 0) ⊎ (0 < n)
zero_or zero = inl refl
zero_or (suc n) = inr (omega arith)

among : (n : ℕ) (xs : List ℕ) → 0 < sum_by (bit n) xs → IsIn n xs
among n xs h = let r : Split n xs = split n xs h in subst (IsIn n) (sym r.is) (IsIn-right n r.front (n ∷ r.back) (inl refl))

module _ {I J : Type 0} (v : I → ℕ) (w : J → ℕ) (xs : List (ℕ × I)) (ys : List (ℕ × J)) where
  abbrev A : List ℕ
  A = map (code v) xs

  abbrev B : List ℕ
  B = map (code w) ys

  counted : sorted A ≡ sorted B → (r c : ℕ) → count_by (test v r c) xs ≡ count_by (test w r c) ys
  counted e r c = sym (count_is v r c xs) ∙ sym (sum_sorted (bit (paired r c)) A) ∙ ap (sum_by (bit (paired r c))) e ∙ sum_sorted (bit (paired r c)) B ∙ count_is w r c ys

  module _ (h : (r c : ℕ) → count_by (test v r c) xs ≡ count_by (test w r c) ys) where
    at : (n r c : ℕ) → n ≡ paired r c → sum_by (bit n) A ≡ sum_by (bit n) B
    at n r c e = ap (λ m. sum_by (bit m) A) e ∙ count_is v r c xs ∙ h r c ∙ sym (count_is w r c ys) ∙ sym (ap (λ m. sum_by (bit m) B) e)

    each : (n : ℕ) → sum_by (bit n) A ≡ sum_by (bit n) B
    each n =
        elim (zero_or (sum_by (bit n) A)) [
          | inl e ↦ elim (zero_or (sum_by (bit n) B)) [
            | inl f ↦ e ∙ sym f
            | inr f ↦ let r : (p : ℕ × J) × (IsIn p ys × (n ≡ code w p)) = map-IsIn (code w) n ys (among n B f) in at n r.0.0 (w r.0.1) r.1.1
          ]
          | inr e ↦ let r : (p : ℕ × I) × (IsIn p xs × (n ≡ code v p)) = map-IsIn (code v) n xs (among n A e) in at n r.0.0 (v r.0.1) r.1.1
        ]

  pub bags_counted : (sorted A ≡ sorted B) ↔ ((r c : ℕ) → count_by (test v r c) xs ≡ count_by (test w r c) ys)
  bags_counted = (counted, λ h. sort_counted A B (each h))
