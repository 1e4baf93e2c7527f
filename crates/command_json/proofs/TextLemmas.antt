-- Texts in which a byte does not stand.
use Rattle.std.proofs.Common.{◌≡◌, ℕ, ◌+◌, Bool, true, false, not, cond, List, [], ◌∷◌, length, refl, sym, ◌∙◌, ap, arith}
use Rattle.std.specs.List.{list_any, position_or_len, prefix_len}

-- where the first that passes stands behind the end, none passes
pub none_there : (p : ℕ → Bool) (xs : List ℕ) → position_or_len p xs ≡ length xs → list_any p xs ≡ false
none_there p [] e = refl
none_there p (x ∷ xs) e = by_first (p x) refl (none_there p xs)
  where
    by_first : (b : Bool) → p x ≡ b → (position_or_len p xs ≡ length xs → list_any p xs ≡ false) → list_any p (x ∷ xs) ≡ false
    by_first true t more = absurd (let at : cond (not true) (1 + prefix_len (λ x. not (p x)) xs) 0 ≡ length (x ∷ xs) = sym (ap (λ b. cond (not b) (1 + prefix_len (λ x. not (p x)) xs) 0) t) ∙ e in omega (arith, at))
    by_first false t more =
        let at : cond (not false) (1 + prefix_len (λ x. not (p x)) xs) 0 ≡ length (x ∷ xs) = sym (ap (λ b. cond (not b) (1 + prefix_len (λ x. not (p x)) xs) 0) t) ∙ e in
        let less : prefix_len (λ x. not (p x)) xs ≡ length xs = omega (arith, at) in
        rw (t, more less) refl
