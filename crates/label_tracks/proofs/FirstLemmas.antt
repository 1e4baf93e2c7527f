-- The order of candidates, and the first of some.
use Rattle.std.proofs.Common.{◌≡◌, ℕ, ◌<◌, ◌==◌, ◌||◌, ◌&&◌, ◌⊎◌, Bool, true, false, cond, List, [], ◌∷◌, ◌++◌, All, Contains, nat_lt, Option, Some, None, inl, inr, refl, sym, ◌∙◌, subst, arith}
use Rattle.std.specs.List.{fold}
use Rattle.std.proofs.lemmas.Bool.{and_from, and_parts, and_right, both_ways, cond_both, eq-eqb, eqb-true, false_from_ne_true, le-ltb, lt-ltb, ltb-true, or_cases, or_from, or_left, or_right}
use Rattle.std.proofs.lemmas.List.{append-nil, append_assoc}
use Rattle.std.proofs.lemmas.List.Elements.{All-nil, All-push, All-same, All-weaker, Contains-append_left, Contains-push}
use Rattle.label_tracks.specs.declared.candidate.Candidate.{Candidate}
use Rattle.label_tracks.specs.Candidates.{IsFirst, comes_before, sooner}

-- one comparison after another: less by the first, or a tie there and the rest
parts : (less x_is_y rest : Bool) → (less || (x_is_y && rest)) ≡ true → (less ≡ true) ⊎ ((x_is_y ≡ true) × (rest ≡ true))
parts less x_is_y rest h = elim (or_cases less (x_is_y && rest) h) [ inl l ↦ inl l | inr r ↦ inr (and_parts x_is_y rest r) ]

by_less : (less x_is_y rest : Bool) → less ≡ true → (less || (x_is_y && rest)) ≡ true
by_less less x_is_y rest l = or_left less (x_is_y && rest) l

by_rest : (less x_is_y rest : Bool) → x_is_y ≡ true → rest ≡ true → (less || (x_is_y && rest)) ≡ true
by_rest less x_is_y rest e r = or_right less (x_is_y && rest) (and_from x_is_y rest e r)

rising : (x y z : ℕ) (r s t : Bool) → (r ≡ true → s ≡ true → t ≡ true)
    → (nat_lt x y || ((x == y) && r)) ≡ true → (nat_lt y z || ((y == z) && s)) ≡ true → (nat_lt x z || ((x == z) && t)) ≡ true
rising x y z r s t goes p q =
    elim (parts (nat_lt x y) (x == y) r p) [
      | inl a ↦ elim (parts (nat_lt y z) (y == z) s q) [
        | inl b ↦ by_less (nat_lt x z) (x == z) t (let xy = ltb-true x y a in let yz = ltb-true y z b in lt-ltb x z (omega arith))
        | inr b ↦ by_less (nat_lt x z) (x == z) t (let xy = ltb-true x y a in let yz = eqb-true y z b.0 in lt-ltb x z (omega arith))
      ]
      | inr a ↦ elim (parts (nat_lt y z) (y == z) s q) [
        | inl b ↦ by_less (nat_lt x z) (x == z) t (let xy = eqb-true x y a.0 in let yz = ltb-true y z b in lt-ltb x z (omega arith))
        | inr b ↦ by_rest (nat_lt x z) (x == z) t (eq-eqb x z (eqb-true x y a.0 ∙ eqb-true y z b.0)) (goes a.1 b.1)
      ]
    ]

falling : (x y z : ℕ) (r s t : Bool) → (r ≡ true → s ≡ true → t ≡ true)
    → (nat_lt y x || ((x == y) && r)) ≡ true → (nat_lt z y || ((y == z) && s)) ≡ true → (nat_lt z x || ((x == z) && t)) ≡ true
falling x y z r s t goes p q =
    elim (parts (nat_lt y x) (x == y) r p) [
      | inl a ↦ elim (parts (nat_lt z y) (y == z) s q) [
        | inl b ↦ by_less (nat_lt z x) (x == z) t (let xy = ltb-true y x a in let yz = ltb-true z y b in lt-ltb z x (omega arith))
        | inr b ↦ by_less (nat_lt z x) (x == z) t (let xy = ltb-true y x a in let yz = eqb-true y z b.0 in lt-ltb z x (omega arith))
      ]
      | inr a ↦ elim (parts (nat_lt z y) (y == z) s q) [
        | inl b ↦ by_less (nat_lt z x) (x == z) t (let xy = eqb-true x y a.0 in let yz = ltb-true z y b in lt-ltb z x (omega arith))
        | inr b ↦ by_rest (nat_lt z x) (x == z) t (eq-eqb x z (eqb-true x y a.0 ∙ eqb-true y z b.0)) (goes a.1 b.1)
      ]
    ]

-- the order is transitive
goes_before : (a b c : Candidate) → comes_before a b ≡ true → comes_before b c ≡ true → comes_before a c ≡ true
goes_before a b c p q =
    rising a.start b.start c.start _ _ _
    (falling a.end b.end c.end _ _ _
    (rising a.kind.n b.kind.n c.kind.n _ _ _ (λ m n. let ab = ltb-true a.number b.number m in let bc = ltb-true b.number c.number n in lt-ltb a.number c.number (omega arith)))) p q

-- and none comes before itself
not_itself : (a : Candidate) → comes_before a a ≡ false
not_itself a =
    or_from (nat_lt a.start a.start) _ (le-ltb a.start a.start (omega arith)) (and_right (a.start == a.start) _
    (or_from (nat_lt a.end a.end) _ (le-ltb a.end a.end (omega arith)) (and_right (a.end == a.end) _
    (or_from (nat_lt a.kind.n a.kind.n) _ (le-ltb a.kind.n a.kind.n (omega arith)) (and_right (a.kind.n == a.kind.n) _ (le-ltb a.number a.number (omega arith)))))))

behind_still : (other first sooner_one : Candidate) → comes_before sooner_one first ≡ true → comes_before other first ≡ false → comes_before other sooner_one ≡ false
behind_still other first sooner_one less behind =
    false_from_ne_true (comes_before other sooner_one) (λ before. both_ways (comes_before other first) behind (goes_before other sooner_one first before less))

-- one candidate more
one_more : (seen : List Candidate) (found : Option Candidate) (x : Candidate) → IsFirst seen found → IsFirst (seen ++ x ∷ []) (sooner found x)
one_more seen None x none = (
  Contains-push seen x,
  All-push (λ (other : Candidate). comes_before other x ≡ false) seen x (All-same (λ (other : Candidate). comes_before other x ≡ false) seen [] none (All-nil (λ (other : Candidate). comes_before other x ≡ false))) (not_itself x),
)
one_more seen (Some first) x is =
    cond_both (comes_before x first) (Some x) (Some first) (IsFirst (seen ++ x ∷ []))
    (λ less. (
      Contains-push seen x,
      All-push (λ (other : Candidate). comes_before other x ≡ false) seen x
          (All-weaker (λ (other : Candidate). comes_before other first ≡ false) (λ (other : Candidate). comes_before other x ≡ false) (λ other behind. behind_still other first x less behind) seen is.1) (not_itself x),
    ))
    (λ not_less. (Contains-append_left seen (x ∷ []) first is.0, All-push (λ (other : Candidate). comes_before other first ≡ false) seen x is.1 not_less))

pub first_of : (seen xs : List Candidate) (found : Option Candidate) → IsFirst seen found → IsFirst (seen ++ xs) (fold sooner found xs)
first_of seen [] found is = subst (λ (l : List Candidate). IsFirst l found) (sym (append-nil seen)) is
first_of seen (x ∷ xs) found is =
    subst (λ (l : List Candidate). IsFirst l (fold sooner (sooner found x) xs)) (append_assoc seen (x ∷ []) xs) (first_of (seen ++ x ∷ []) xs (sooner found x) (one_more seen found x is))
