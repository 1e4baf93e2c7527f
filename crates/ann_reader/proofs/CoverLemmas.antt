-- What is said of a class lies in one class of those that are made of all that is said.
use Rattle.std.proofs.Common.{◌≡◌, ℕ, Bool, true, false, not, ◌||◌, ◌&&◌, ◌==◌, eq-eqb, List, [], ◌∷◌, ◌++◌, refl, sym, ◌∙◌, ap, Some, None, cond, inl, inr}
use Rattle.std.specs.List.{list_any, list_all, fold, cons_option, AllByRecursion}
use Rattle.std.proofs.lemmas.Bool.{or_cases, or_left, or_right, and_parts, and_from, eqb-true, false≢true}
use Rattle.std.proofs.lemmas.List.Folds.{list_any-append}
use Rattle.mark_base.specs.declared.ann_id.AnnId.{AnnId}
use Rattle.mark_base.specs.declared.table_places.RelId.{RelId}
use Rattle.conf_model.specs.Configurations.{Configuration}
use Rattle.layer_model.specs.declared.class.Class.{Class}
use Rattle.layer_model.specs.Classes.{rank, has_rank, is_among, ascending, comes_before, insert_class, shares, sharing, apart, joined_class, joined}
use Rattle.layer_model.proofs.IdSets.{has_rank-ascending}
use Rattle.ann_reader.specs.Lines.{Line}
use Rattle.ann_reader.specs.LineForms.{form_of}
use Rattle.ann_reader.specs.LineMeanings.{Said, said_of}
use Rattle.ann_reader.specs.AnnFiles.{said_in, joined_too, classes_of}

-- the class is of the type and has all of the members
abbrev pub covers : ℕ → List AnnId → Class → Bool
covers kind ids class = class.kind.n == kind && list_all (λ id. is_among id class.members) ids

-- some class does
abbrev pub is_covered : ℕ → List AnnId → List Class → Bool
is_covered kind ids classes = list_any (covers kind ids) classes

-- ---- a class put in its place

put_is_there : (p : Class → Bool) (class : Class) (classes : List Class) → p class ≡ true → list_any p (insert_class class classes) ≡ true
put_is_there p class [] h = or_left (p class) false h
put_is_there p class (first ∷ classes) h =
    elim (comes_before class first) as (λ b. list_any p (cond b (class ∷ first ∷ classes) (first ∷ insert_class class classes)) ≡ true) [
      | true ↦ or_left (p class) (p first || list_any p classes) h
      | false ↦ or_right (p first) (list_any p (insert_class class classes)) (put_is_there p class classes h)
    ]

others_are_there : (p : Class → Bool) (class : Class) (classes : List Class) → list_any p classes ≡ true → list_any p (insert_class class classes) ≡ true
others_are_there p class [] h = absurd (false≢true h)
others_are_there p class (first ∷ classes) h =
    elim (comes_before class first) as (λ b. list_any p (cond b (class ∷ first ∷ classes) (first ∷ insert_class class classes)) ≡ true) [
      | true ↦ or_right (p class) (p first || list_any p classes) h
      | false ↦ elim (or_cases (p first) (list_any p classes) h) as (λ _. (p first || list_any p (insert_class class classes)) ≡ true) [
        | inl t ↦ or_left (p first) (list_any p (insert_class class classes)) t
        | inr t ↦ or_right (p first) (list_any p (insert_class class classes)) (others_are_there p class classes t)
      ]
    ]

-- ---- members

-- each of some is among them
all_among : (ids sought : List AnnId) → ((id : AnnId) → is_among id ids ≡ true → is_among id sought ≡ true) → list_all (λ id. is_among id sought) ids ≡ true
all_among [] sought h = refl
all_among (id ∷ ids) sought h =
    and_from (is_among id sought) (list_all (λ id. is_among id sought) ids) (h id (or_left (rank id == rank id) (has_rank (rank id) ids) (eq-eqb (rank id) (rank id) refl)))
    (all_among ids sought (λ other t. h other (or_right (rank id == rank other) (has_rank (rank other) ids) t)))

-- each of some is among more
all_among_more : (ids few many : List AnnId) → ((place : ℕ) → has_rank place few ≡ true → has_rank place many ≡ true)
    → list_all (λ id. is_among id few) ids ≡ true → list_all (λ id. is_among id many) ids ≡ true
all_among_more [] few many h all = refl
all_among_more (id ∷ ids) few many h all =
    let parts = and_parts (is_among id few) (list_all (λ id. is_among id few) ids) all in
    and_from (is_among id many) (list_all (λ id. is_among id many) ids) (h (rank id) parts.0) (all_among_more ids few many h parts.1)

-- a member of the first or of the second list is one of both
in_both : (place : ℕ) (a b : List AnnId) → (has_rank place a || has_rank place b) ≡ true → has_rank place (ascending (a ++ b)) ≡ true
in_both place a b h = has_rank-ascending (a ++ b) place ∙ list_any-append (λ id. rank id == place) a b ∙ h

-- ---- joining

-- what is joined lies in the class that it makes
joined_covers : (kind : RelId) (ids : List AnnId) (classes : List Class) → covers kind.n ids (joined_class kind ids classes) ≡ true
joined_covers kind ids classes =
    and_from (kind.n == kind.n) (list_all (λ id. is_among id (ascending (ids ++ sharing kind.n ids classes))) ids) (eq-eqb kind.n kind.n refl)
    (all_among ids (ascending (ids ++ sharing kind.n ids classes)) (λ id t. in_both (rank id) ids (sharing kind.n ids classes) (or_left (is_among id ids) (has_rank (rank id) (sharing kind.n ids classes)) t)))

-- a class of a sort shares a member with these, and its own members are among all
abbrev Shared : ℕ → List AnnId → (Class → Bool) → List AnnId → Type 0
Shared kind ids p all = (class : Class) × (p class ≡ true) × (shares kind ids class ≡ true) × ((place : ℕ) → has_rank place class.members ≡ true → has_rank place all ≡ true)

-- a class of a sort is not left apart: it shares a member
shared_in : (kind : ℕ) (ids : List AnnId) (p : Class → Bool) (classes : List Class) → list_any p classes ≡ true → list_any p (apart kind ids classes) ≡ false
    → Shared kind ids p (sharing kind ids classes)
shared_in kind ids p [] h none = absurd (false≢true h)
shared_in kind ids p (first ∷ classes) h none = here (shares kind ids first) (p first) refl refl h none (shared_in kind ids p classes)
  where
    wider : (more : List AnnId) → Shared kind ids p (sharing kind ids classes) → Shared kind ids p (more ++ sharing kind ids classes)
    wider more found = (
      found.0,
      found.1,
      found.2,
      λ place t. list_any-append (λ id. rank id == place) more (sharing kind ids classes) ∙ or_right (has_rank place more) (has_rank place (sharing kind ids classes)) (found.3 place t),
    )

    here : (s q : Bool) → shares kind ids first ≡ s → p first ≡ q → (q || list_any p classes) ≡ true
        → list_any p (cond (not s) (first ∷ apart kind ids classes) (apart kind ids classes)) ≡ false
        → (list_any p classes ≡ true → list_any p (apart kind ids classes) ≡ false → Shared kind ids p (sharing kind ids classes))
        → Shared kind ids p (cond s (first.members ++ sharing kind ids classes) (sharing kind ids classes))
    here true true es ep h none later = (
      first,
      ep,
      es,
      λ place t. list_any-append (λ id. rank id == place) first.members (sharing kind ids classes) ∙ or_left (has_rank place first.members) (has_rank place (sharing kind ids classes)) t,
    )
    here true false es ep h none later = wider first.members (later h none)
    here false true es ep h none later = absurd (false≢true (sym none ∙ or_left (p first) (list_any p (apart kind ids classes)) ep))
    here false false es ep h none later = later h (sym (ap (λ b. b || list_any p (apart kind ids classes)) ep) ∙ none)

-- what lay in a class lies in one after others are joined
joined_keeps : (kind : RelId) (ids : List AnnId) (classes : List Class) (other : ℕ) (sought : List AnnId)
    → is_covered other sought classes ≡ true → is_covered other sought (joined kind ids classes) ≡ true
joined_keeps kind ids classes other sought h =
    elim (list_any (covers other sought) (apart kind.n ids classes)) as (λ b. list_any (covers other sought) (apart kind.n ids classes) ≡ b → is_covered other sought (joined kind ids classes) ≡ true) [
      | true ↦ λ t. others_are_there (covers other sought) (joined_class kind ids classes) (apart kind.n ids classes) t
      | false ↦ λ none.
          let found = shared_in kind.n ids (covers other sought) classes h none in
          let class = found.0 in
          let covered = and_parts (class.kind.n == other) (list_all (λ id. is_among id class.members) sought) found.1 in
          let shared = and_parts (class.kind.n == kind.n) (list_any (λ id. is_among id ids) class.members) found.2 in
          let same : kind.n ≡ other = sym (eqb-true class.kind.n kind.n shared.0) ∙ eqb-true class.kind.n other covered.0 in
          put_is_there (covers other sought) (joined_class kind ids classes) (apart kind.n ids classes)
          (and_from (kind.n == other) (list_all (λ id. is_among id (ascending (ids ++ sharing kind.n ids classes))) sought) (eq-eqb kind.n other same)
          (all_among_more sought class.members (ascending (ids ++ sharing kind.n ids classes))
          (λ place t. in_both place ids (sharing kind.n ids classes) (or_right (has_rank place ids) (has_rank place (sharing kind.n ids classes)) (found.3 place t))) covered.1))
    ] refl

-- ---- all that is said

kept_by_all : (all : List Said) (classes : List Class) (kind : ℕ) (ids : List AnnId) → is_covered kind ids classes ≡ true → is_covered kind ids (fold joined_too classes all) ≡ true
kept_by_all [] classes kind ids h = h
kept_by_all (said ∷ all) classes kind ids h =
    kept_by_all all (joined_too classes said) kind ids (joined_keeps (record { n = said.kind }) said.members classes kind ids h)

-- what a line says of a class lies in one of these
abbrev pub Covered : Configuration → List Class → Line → Type 0
Covered conf classes line = (said : Said) → said_of conf (form_of line.bytes) ≡ Some said → is_covered said.kind said.members classes ≡ true

line_covers : (conf : Configuration) (classes : List Class) (line : Line) (lines : List Line) → Covered conf (fold joined_too classes (said_in conf (line ∷ lines))) line
line_covers conf classes line lines said e =
    ap (λ o. is_covered said.kind said.members (fold joined_too classes (cons_option o (said_in conf lines)))) e
    ∙ kept_by_all (said_in conf lines) (joined_too classes said) said.kind said.members
    (put_is_there (covers said.kind said.members) (joined_class (record { n = said.kind }) said.members classes) (apart said.kind said.members classes) (joined_covers (record { n = said.kind }) said.members classes))

lines_cover : (conf : Configuration) (classes : List Class) (lines : List Line) → AllByRecursion (Covered conf (fold joined_too classes (said_in conf lines))) lines
lines_cover conf classes [] = tt
lines_cover conf classes (line ∷ lines) = (
  line_covers conf classes line lines,
  elim (said_of conf (form_of line.bytes)) as (λ o. AllByRecursion (Covered conf (fold joined_too classes (cons_option o (said_in conf lines)))) lines) [
    | None ↦ lines_cover conf classes lines
    | Some first ↦ lines_cover conf (joined_too classes first) lines
  ],
)

-- each of the classes that lines say
pub all_covered : (conf : Configuration) (lines : List Line) → AllByRecursion (Covered conf (classes_of (said_in conf lines))) lines
all_covered conf lines = lines_cover conf [] lines
