-- Snapshots in turn, each by its number.
use Rattle.std.proofs.Common.{◌≡◌, ℕ, zero, suc, ◌+◌, ◌<◌, ◌≤◌, List, [], ◌∷◌, ◌++◌, Option, None, option_map, length, take, get_or, refl, sym, ◌∙◌, ap, arith}
use Rattle.std.specs.List.{enumerate_from, flat_map, slice_get}
use Rattle.project_machine.specs.ProjectState.{Document, no_document}
use Rattle.std.proofs.lemmas.List.{flat_map_more, take_all, take_more}
use Rattle.std.proofs.lemmas.List.FromFn.{get_or-enumerate_from, length-enumerate_from}

-- what is written of the first of some things goes on with what is written of the next
pub numbered_more : {X : Type 0} (f : ℕ × X → List ℕ) (xs : List X) (i : ℕ) (x : X) (before now after : List ℕ)
    → i < length xs → x ≡ get_or xs i x → now ≡ before ++ flat_map f (take i (enumerate_from 1 xs)) → after ≡ now ++ f (i + 1, x)
    → after ≡ before ++ flat_map f (take (i + 1) (enumerate_from 1 xs))
numbered_more {X} f xs i x before now after h here so_far more =
    more ∙ (ap (λ t. t ++ f (i + 1, x)) so_far
    ∙ (flat_map_more f before (take i (enumerate_from 1 xs)) (i + 1, x)
    ∙ ap (λ placed. before ++ flat_map f placed) (ap (λ p. take i (enumerate_from 1 xs) ++ p ∷ []) pair ∙ sym (take_more (enumerate_from 1 xs) i (0, x) within))))
  where
    next : i + 1 ≡ 1 + i
    next = omega arith

    within : i < length (enumerate_from 1 xs)
    within = let many = length-enumerate_from 1 xs in omega (arith, many, h)

    pair : ◌≡◌ {A = ℕ × X} (i + 1, x) (get_or (enumerate_from 1 xs) i (0, x))
    pair = ap (λ n. (n, x)) next ∙ (ap (λ y. (1 + i, y)) here ∙ sym (get_or-enumerate_from 1 xs i (0, x) h))

-- what is written of all of them
pub numbered_all : {X : Type 0} (f : ℕ × X → List ℕ) (xs : List X) (i : ℕ) (before now : List ℕ) → length xs ≤ i → now ≡ before ++ flat_map f (take i (enumerate_from 1 xs)) → now ≡ before ++ flat_map f (enumerate_from 1 xs)
numbered_all {X} f xs i before now long is =
    let many : length (enumerate_from 1 xs) ≡ length xs = length-enumerate_from 1 xs in
    is ∙ ap (λ placed. before ++ flat_map f placed) (take_all i (enumerate_from 1 xs) (omega (arith, many, long)))

-- a document that is not there has no name
pub unnamed : (documents : List Document) (doc : ℕ) → ◌≡◌ {A = Option (List ℕ)} None (option_map (λ d. d.name) (slice_get documents doc)) → ◌≡◌ {A = List ℕ} [] (get_or documents doc no_document).name
unnamed [] doc is = refl
unnamed (d ∷ documents) zero is = cc
unnamed (d ∷ documents) (suc doc) is = unnamed documents doc is
