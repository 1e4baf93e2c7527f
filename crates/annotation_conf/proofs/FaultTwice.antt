-- A name that stands twice, name by name.
use Rattle.std.proofs.Common.{◌≡◌, ℕ, ◌+◌, ◌<◌, ◌||◌, Bool, true, false, List, [], ◌∷◌, ◌++◌, map, length, take, drop, get_or, bytes_eq, is_some, refl, sym, ◌∙◌, ap}
use Rattle.std.specs.BTreeMap.{BTreeMap}
use Rattle.std.proofs.lemmas.List.{take_more, map-append, append-nil, append_assoc, take-append-drop}
use Rattle.annotation_conf.specs.declared.known_names.DeclaredName.{DeclaredName}
use Rattle.conf_model.specs.ConfFaults.{Declared, is_among, names_of, stands_twice}
use Rattle.annotation_conf.specs.NamePlaces.{seen_declared, FindsPlaces}
use Rattle.annotation_conf.proofs.FaultNames.{bytes_eq_turns, found_among, look_up}
use denote.Ref.{Bor}

or_false : (b : Bool) → (b || false) ≡ b
or_false true = refl
or_false false = refl

or_true : (b : Bool) → (b || true) ≡ true
or_true true = refl
or_true false = refl

or_assoc : (a b c : Bool) → (a || (b || c)) ≡ ((a || b) || c)
or_assoc true b c = refl
or_assoc false b c = refl

swapped : (a b c d : Bool) → ((a || b) || (c || d)) ≡ ((a || c) || (b || d))
swapped true b c d = refl
swapped false true true d = refl
swapped false true false d = refl
swapped false false c d = refl

or_swap : (a b c d e : Bool) → b ≡ e → ((a || b) || (c || d)) ≡ ((a || c) || (e || d))
or_swap a b c d e same = swapped a b c d ∙ ap (λ x. (a || c) || (x || d)) same

among_push : (xs : List (List ℕ)) (y name : List ℕ) → is_among (xs ++ y ∷ []) name ≡ (is_among xs name || bytes_eq name y)
among_push [] y name = or_false (bytes_eq name y)
among_push (x ∷ xs) y name = ap (λ b. bytes_eq name x || b) (among_push xs y name) ∙ or_assoc (bytes_eq name x) (is_among xs name) (bytes_eq name y)

pub twice_push : (xs : List (List ℕ)) (y : List ℕ) → stands_twice (xs ++ y ∷ []) ≡ (stands_twice xs || is_among xs y)
twice_push [] y = refl
twice_push (x ∷ xs) y =
    ap (λ b. b || stands_twice (xs ++ y ∷ [])) (among_push xs y x) ∙ ap (λ b. (is_among xs x || bytes_eq x y) || b) (twice_push xs y)
    ∙ or_swap (is_among xs x) (bytes_eq x y) (stands_twice xs) (is_among xs y) (bytes_eq y x) (bytes_eq_turns x y)

-- what stands twice in a front stands twice
twice_front : (xs ys : List (List ℕ)) → stands_twice xs ≡ true → stands_twice (xs ++ ys) ≡ true
twice_front xs [] e = ap stands_twice (append-nil xs) ∙ e
twice_front xs (y ∷ ys) e =
    ap stands_twice (sym (append_assoc xs (y ∷ []) ys))
    ∙ twice_front (xs ++ y ∷ []) ys (twice_push xs y ∙ ap (λ b. b || is_among xs y) e)

abbrev names : List DeclaredName → List (List ℕ)
names all = names_of (map seen_declared all)

names_more : (all : List DeclaredName) (i : ℕ) (d : DeclaredName) → i < length all → names (take (i + 1) all) ≡ names (take i all) ++ (get_or all i d).name.now ∷ []
names_more all i d within =
    ap names (take_more all i d within) ∙ ap names_of (map-append seen_declared (take i all) (get_or all i d ∷ []))
    ∙ map-append (λ (one : Declared). one.name) (map seen_declared (take i all)) (seen_declared (get_or all i d) ∷ [])

among_found : (all : List DeclaredName) (places : BTreeMap (Bor (List ℕ)) ℕ) (i : ℕ) (name : List ℕ) → FindsPlaces (map seen_declared (take i all)) places
    → is_some (look_up places name) ≡ is_among (names (take i all)) name
among_found all places i name finds = ap is_some (finds name) ∙ found_among 0 (map seen_declared (take i all)) name

pub twice_now : (all : List DeclaredName) (places : BTreeMap (Bor (List ℕ)) ℕ) (i : ℕ) (d : DeclaredName) → i < length all
    → FindsPlaces (map seen_declared (take i all)) places → is_some (look_up places (get_or all i d).name.now) ≡ true → true ≡ stands_twice (names all)
twice_now all places i d within finds found =
    let front : stands_twice (names (take (i + 1) all)) ≡ true =
    ap stands_twice (names_more all i d within) ∙ twice_push (names (take i all)) (get_or all i d).name.now
    ∙ ap (λ b. stands_twice (names (take i all)) || b) (sym (among_found all places i (get_or all i d).name.now finds) ∙ found)
    ∙ or_true (stands_twice (names (take i all))) in
    let whole : names (take (i + 1) all) ++ names (drop (i + 1) all) ≡ names all =
    sym (map-append (λ (one : Declared). one.name) (map seen_declared (take (i + 1) all)) (map seen_declared (drop (i + 1) all)))
    ∙ ap names_of (sym (map-append seen_declared (take (i + 1) all) (drop (i + 1) all))) ∙ ap names (take-append-drop (i + 1) all) in
    sym (twice_front (names (take (i + 1) all)) (names (drop (i + 1) all)) front) ∙ ap stands_twice whole

pub not_yet : (all : List DeclaredName) (places : BTreeMap (Bor (List ℕ)) ℕ) (i : ℕ) (d : DeclaredName) → i < length all
    → FindsPlaces (map seen_declared (take i all)) places → is_some (look_up places (get_or all i d).name.now) ≡ false
    → stands_twice (names (take i all)) ≡ false → stands_twice (names (take (i + 1) all)) ≡ false
not_yet all places i d within finds new before =
    ap stands_twice (names_more all i d within) ∙ twice_push (names (take i all)) (get_or all i d).name.now
    ∙ ap (λ b. b || is_among (names (take i all)) (get_or all i d).name.now) before
    ∙ sym (among_found all places i (get_or all i d).name.now finds) ∙ new
