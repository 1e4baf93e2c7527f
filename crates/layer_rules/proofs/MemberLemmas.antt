-- What members and their types keep: of the members of one type it suffices to compare two.
use Rattle.std.proofs.Common.{◌≡◌, ℕ, ◌+◌, ◌<◌, ◌≤◌, ◌==◌, ◌||◌, ◌&&◌, not, nat_le, Bool, true, false, cond, List, [], ◌∷◌, ◌++◌, map, length, get_or, drop, take, set, Option, Some, None, refl, sym, ◌∙◌, ap, subst, append_assoc, arith, tests}
use Rattle.std.specs.List.{list_any, count_by}
use Rattle.std.proofs.lemmas.Bool.{eqb-true, leb-true, ne_eqb}
use Rattle.std.proofs.lemmas.List.{drop_more, take_more_set, map-append}
use Rattle.std.proofs.lemmas.List.Sums.{sum_by-cons}
use Rattle.mark_base.specs.declared.ann_id.AnnId.{AnnId}
use Rattle.mark_base.specs.declared.table_places.TypeId.{TypeId}
use Rattle.conf_model.specs.Configurations.{Configuration}
use Rattle.conf_model.specs.Lookups.{relation_admits}
use Rattle.layer_model.specs.Annotations.{Annotations}
use Rattle.layer_model.specs.LayerIds.{id_place}
use Rattle.layer_rules.specs.Targets.{type_of}
use Rattle.layer_rules.specs.LayerRules.{are_bad_members, is_id, may_be_equal}
use Rattle.layer_rules.specs.MemberTypes.{ascends_from, has_twins, has_unfit, stands_twice}

-- ---- disjunctions

or_left : (a b : Bool) → a ≡ true → (a || b) ≡ true
or_left true b e = refl
or_left false b e = absurd (let f : false ≡ true = e in cc)

or_right : (a b : Bool) → b ≡ true → (a || b) ≡ true
or_right true b e = refl
or_right false b e = e

none_of : (a b : Bool) → a ≡ false → b ≡ false → (a || b) ≡ false
none_of true b e f = e
none_of false b e f = f

absorbed : (a b : Bool) → (a ≡ true → b ≡ true) → (a || b) ≡ b
absorbed true b h = sym (h refl)
absorbed false b h = refl

swapped : (a b c : Bool) → (a || (b || c)) ≡ (b || (a || c))
swapped true true c = refl
swapped true false c = refl
swapped false b c = refl

shuffled : (a b c d : Bool) → ((a || b) || (c || d)) ≡ ((a || c) || (b || d))
shuffled true b c d = refl
shuffled false true true d = refl
shuffled false true false d = refl
shuffled false false c d = refl

and_left : (a b : Bool) → (a && b) ≡ true → a ≡ true
and_left true b e = refl
and_left false b e = e

and_right : (a b : Bool) → (a && b) ≡ true → b ≡ true
and_right true b e = e
and_right false b e = absurd (let f : false ≡ true = e in cc)

any_or : {X : Type 0} (p q : X → Bool) → (xs : List X) → list_any (λ x. p x || q x) xs ≡ (list_any p xs || list_any q xs)
any_or p q [] = refl
any_or p q (x ∷ xs) = ap (λ b. (p x || q x) || b) (any_or p q xs) ∙ shuffled (p x) (q x) (list_any p xs) (list_any q xs)

any_map : {X Y : Type 0} (p : Y → Bool) (f : X → Y) → (xs : List X) → list_any p (map f xs) ≡ list_any (λ x. p (f x)) xs
any_map p f [] = refl
any_map p f (x ∷ xs) = ap (λ b. p (f x) || b) (any_map p f xs)

any_middle : {X : Type 0} (p : X → Bool) → (before : List X) (x : X) (behind : List X) → list_any p (before ++ x ∷ behind) ≡ (p x || list_any p (before ++ behind))
any_middle p [] x behind = refl
any_middle p (y ∷ ys) x behind = ap (λ b. p y || b) (any_middle p ys x behind) ∙ swapped (p y) (p x) _

-- ---- IDs that ascend

none_behind : (id : AnnId) (least : ℕ) (ids : List AnnId) → id_place id < least → ascends_from least ids ≡ true → list_any (is_id id) ids ≡ false
none_behind id least [] below up = refl
none_behind id least (x ∷ xs) below up =
    let past : least ≤ id_place x = leb-true least (id_place x) (and_left (nat_le least (id_place x)) _ up) in
    none_of (is_id id x) _ (ne_eqb (id_place id) (id_place x) (omega arith)) (none_behind id (id_place x + 1) xs (omega arith) (and_right (nat_le least (id_place x)) _ up))

pub no_twins : (least : ℕ) (ids : List AnnId) → ascends_from least ids ≡ true → has_twins ids ≡ false
no_twins least [] up = refl
no_twins least (x ∷ xs) up =
    let rest : ascends_from (id_place x + 1) xs ≡ true = and_right (nat_le least (id_place x)) _ up in
    none_of (list_any (is_id x) xs) _ (none_behind x (id_place x + 1) xs (omega arith) rest) (no_twins (id_place x + 1) xs rest)

-- ---- types of which each two fit

abbrev Turns : (Option TypeId → Option TypeId → Bool) → Type 0
Turns fits = (a b : Option TypeId) → fits a b ≡ fits b a

unfit_middle : (fits : Option TypeId → Option TypeId → Bool) → Turns fits → (before : List (Option TypeId)) (x : Option TypeId) (behind : List (Option TypeId))
    → has_unfit fits (before ++ x ∷ behind) ≡ (list_any (λ other. not (fits x other)) (before ++ behind) || has_unfit fits (before ++ behind))
unfit_middle fits turns [] x behind = refl
unfit_middle fits turns (y ∷ ys) x behind =
    ap (λ b. b || has_unfit fits (ys ++ x ∷ behind)) (any_middle (λ other. not (fits y other)) ys x behind)
    ∙ ap (λ b. (not (fits y x) || list_any (λ other. not (fits y other)) (ys ++ behind)) || b) (unfit_middle fits turns ys x behind)
    ∙ shuffled (not (fits y x)) (list_any (λ other. not (fits y other)) (ys ++ behind)) (list_any (λ other. not (fits x other)) (ys ++ behind)) (has_unfit fits (ys ++ behind))
    ∙ ap (λ b. (not b || list_any (λ other. not (fits x other)) (ys ++ behind)) || (list_any (λ other. not (fits y other)) (ys ++ behind) || has_unfit fits (ys ++ behind))) (turns y x)

-- how often a type stands among some
abbrev times : TypeId → List TypeId → ℕ
times type_ types = count_by (λ other. other.n == type_.n) types

times-cons : (type_ x : TypeId) (xs : List TypeId) → times type_ (x ∷ xs) ≡ cond (x.n == type_.n) 1 0 + times type_ xs
times-cons type_ x xs = sum_by-cons (λ other. cond (other.n == type_.n) 1 0) x xs

same_type : (a b : TypeId) → (a.n == b.n) ≡ true → a ≡ b
same_type a b e = let make : ℕ → TypeId = λ n. record { n = n } in ap make (eqb-true a.n b.n e)

-- what does not fit a type that is there does not fit all
met : (fits : Option TypeId → Option TypeId → Bool) (y : Option TypeId) (type_ : TypeId) (kept : List TypeId) (behind : List (Option TypeId))
    → 1 ≤ times type_ kept → not (fits y (Some type_)) ≡ true → list_any (λ other. not (fits y other)) (map Some kept ++ behind) ≡ true
met fits y type_ [] behind some e = absurd (omega arith)
met fits y type_ (x ∷ xs) behind some e =
    elim (x.n == type_.n) as (λ b. (x.n == type_.n) ≡ b → 1 ≤ cond b 1 0 + times type_ xs → list_any (λ other. not (fits y other)) (Some x ∷ (map Some xs ++ behind)) ≡ true) [
      | true ↦ λ is _. or_left (not (fits y (Some x))) _ (ap (λ t. not (fits y (Some t))) (same_type x type_ is) ∙ e)
      | false ↦ λ _ more. or_right (not (fits y (Some x))) _ (met fits y type_ xs behind (omega arith) e)
    ] refl (let n = times-cons type_ x xs in omega arith)

-- the first of two of a type
first_of : (fits : Option TypeId → Option TypeId → Bool) → Turns fits → (type_ x : TypeId) (xs : List TypeId) (behind : List (Option TypeId)) → (x.n == type_.n) ≡ true → 1 ≤ times type_ xs
    → (not (fits (Some type_) (Some x)) || list_any (λ other. not (fits (Some type_) other)) (map Some xs ++ behind)) ≡ true → list_any (λ other. not (fits (Some x) other)) (map Some xs ++ behind) ≡ true
first_of fits turns type_ x xs behind is some found =
    elim (not (fits (Some type_) (Some x))) as (λ b. not (fits (Some type_) (Some x)) ≡ b → (b || list_any (λ other. not (fits (Some type_) other)) (map Some xs ++ behind)) ≡ true → list_any (λ other. not (fits (Some x) other)) (map Some xs ++ behind) ≡ true) [
      | true ↦ λ bad _. met fits (Some x) type_ xs behind some (ap not (turns (Some x) (Some type_)) ∙ bad)
      | false ↦ λ _ more. ap (λ t. list_any (λ other. not (fits (Some t) other)) (map Some xs ++ behind)) (same_type x type_ is) ∙ more
    ] refl found

-- a type before two of another
before_two : (fits : Option TypeId → Option TypeId → Bool) → Turns fits → (type_ x : TypeId) (xs : List TypeId) (behind : List (Option TypeId)) → 1 ≤ times type_ xs
    → (list_any (λ other. not (fits (Some type_) other)) (map Some xs ++ behind) ≡ true → has_unfit fits (map Some xs ++ behind) ≡ true)
    → (not (fits (Some type_) (Some x)) || list_any (λ other. not (fits (Some type_) other)) (map Some xs ++ behind)) ≡ true
    → (list_any (λ other. not (fits (Some x) other)) (map Some xs ++ behind) || has_unfit fits (map Some xs ++ behind)) ≡ true
before_two fits turns type_ x xs behind some later found =
    elim (not (fits (Some type_) (Some x))) as (λ b. not (fits (Some type_) (Some x)) ≡ b → (b || list_any (λ other. not (fits (Some type_) other)) (map Some xs ++ behind)) ≡ true
    → (list_any (λ other. not (fits (Some x) other)) (map Some xs ++ behind) || has_unfit fits (map Some xs ++ behind)) ≡ true) [
      | true ↦ λ bad _. or_left _ (has_unfit fits (map Some xs ++ behind)) (met fits (Some x) type_ xs behind some (ap not (turns (Some x) (Some type_)) ∙ bad))
      | false ↦ λ _ rest. or_right (list_any (λ other. not (fits (Some x) other)) (map Some xs ++ behind)) _ (later rest)
    ] refl found

-- what does not fit a type that is there twice: two there do not fit
enough : (fits : Option TypeId → Option TypeId → Bool) → Turns fits → (type_ : TypeId) (kept : List TypeId) (behind : List (Option TypeId))
    → 2 ≤ times type_ kept → list_any (λ other. not (fits (Some type_) other)) (map Some kept ++ behind) ≡ true → has_unfit fits (map Some kept ++ behind) ≡ true
enough fits turns type_ [] behind twice e = absurd (omega arith)
enough fits turns type_ (x ∷ xs) behind twice e =
    elim (x.n == type_.n) as (λ b. (x.n == type_.n) ≡ b → 2 ≤ cond b 1 0 + times type_ xs
    → (list_any (λ other. not (fits (Some x) other)) (map Some xs ++ behind) || has_unfit fits (map Some xs ++ behind)) ≡ true) [
      | true ↦ λ is more. or_left _ (has_unfit fits (map Some xs ++ behind)) (first_of fits turns type_ x xs behind is (omega arith) e)
      | false ↦ λ _ more. before_two fits turns type_ x xs behind (omega arith) (λ rest. enough fits turns type_ xs behind (omega arith) rest) e
    ] refl (let n = times-cons type_ x xs in omega arith)

-- a third of a type changes nothing
third : (fits : Option TypeId → Option TypeId → Bool) → Turns fits → (type_ : TypeId) (kept : List TypeId) (behind : List (Option TypeId))
    → stands_twice type_ kept ≡ true → has_unfit fits (map Some kept ++ Some type_ ∷ behind) ≡ has_unfit fits (map Some kept ++ behind)
third fits turns type_ kept behind twice =
    unfit_middle fits turns (map Some kept) (Some type_) behind ∙ absorbed _ _ (enough fits turns type_ kept behind (leb-true 2 (times type_ kept) twice))

-- ---- what a relation type admits

or_turned : (a b : Bool) → (a || b) ≡ (b || a)
or_turned true true = refl
or_turned true false = refl
or_turned false true = refl
or_turned false false = refl

equal_turns : (conf : Configuration) (kind : ℕ) → Turns (may_be_equal conf kind)
equal_turns conf kind (Some a) (Some b) = or_turned (relation_admits conf kind a b) (relation_admits conf kind b a)
equal_turns conf kind (Some a) None = refl
equal_turns conf kind None (Some b) = refl
equal_turns conf kind None None = refl

none_fits : (conf : Configuration) (kind : ℕ) (types : List (Option TypeId)) → list_any (λ other. not (may_be_equal conf kind None other)) types ≡ false
none_fits conf kind [] = refl
none_fits conf kind (Some a ∷ types) = none_fits conf kind types
none_fits conf kind (None ∷ types) = none_fits conf kind types

-- ---- the members of a class

pub bad_members : (conf : Configuration) (layer : Annotations) (kind : ℕ) (ids : List AnnId)
    → are_bad_members conf layer kind ids ≡ (has_twins ids || has_unfit (λ a b. may_be_equal conf kind (type_of layer a) (type_of layer b)) ids)
bad_members conf layer kind [] = refl
bad_members conf layer kind (x ∷ xs) =
    ap (λ b. b || are_bad_members conf layer kind xs) (any_or (is_id x) (λ other. not (may_be_equal conf kind (type_of layer x) (type_of layer other))) xs)
    ∙ ap (λ b. (list_any (is_id x) xs || list_any (λ other. not (may_be_equal conf kind (type_of layer x) (type_of layer other))) xs) || b) (bad_members conf layer kind xs)
    ∙ shuffled (list_any (is_id x) xs) (list_any (λ other. not (may_be_equal conf kind (type_of layer x) (type_of layer other))) xs) (has_twins xs) (has_unfit (λ a b. may_be_equal conf kind (type_of layer a) (type_of layer b)) xs)

-- what is asked of each two by a part of them
pub unfit_map : {X Y : Type 0} (fits : Y → Y → Bool) (f : X → Y) → (xs : List X) → has_unfit fits (map f xs) ≡ has_unfit (λ a b. fits (f a) (f b)) xs
unfit_map fits f [] = refl
unfit_map fits f (x ∷ xs) =
    ap (λ b. b || has_unfit fits (map f xs)) (any_map (λ other. not (fits (f x) other)) f xs)
    ∙ ap (λ b. list_any (λ other. not (fits (f x) (f other))) xs || b) (unfit_map fits f xs)

-- ---- one member more

abbrev rest_unfit : Configuration → Annotations → ℕ → List TypeId → List AnnId → Bool
rest_unfit conf layer kind kept ids = has_unfit (may_be_equal conf kind) (map Some kept ++ map (type_of layer) ids)

next : (conf : Configuration) (layer : Annotations) (kind : ℕ) (kept : List TypeId) (ids : List AnnId) (i : ℕ) (id : AnnId) → i < length ids → id ≡ get_or ids i id
    → rest_unfit conf layer kind kept (drop i ids) ≡ has_unfit (may_be_equal conf kind) (map Some kept ++ type_of layer id ∷ map (type_of layer) (drop (i + 1) ids))
next conf layer kind kept ids i id within is =
    ap (λ xs. rest_unfit conf layer kind kept xs) (drop_more ids i id within)
    ∙ ap (λ x. has_unfit (may_be_equal conf kind) (map Some kept ++ type_of layer x ∷ map (type_of layer) (drop (i + 1) ids))) (sym is)

pub passed_typeless : (conf : Configuration) (layer : Annotations) (kind : ℕ) (kept : List TypeId) (ids : List AnnId) (i : ℕ) (id : AnnId) → i < length ids → id ≡ get_or ids i id
    → type_of layer id ≡ None → rest_unfit conf layer kind kept (drop (i + 1) ids) ≡ rest_unfit conf layer kind kept (drop i ids)
passed_typeless conf layer kind kept ids i id within is none =
    sym (next conf layer kind kept ids i id within is
    ∙ ap (λ t. has_unfit (may_be_equal conf kind) (map Some kept ++ t ∷ map (type_of layer) (drop (i + 1) ids))) none
    ∙ unfit_middle (may_be_equal conf kind) (equal_turns conf kind) (map Some kept) None (map (type_of layer) (drop (i + 1) ids))
    ∙ ap (λ b. b || rest_unfit conf layer kind kept (drop (i + 1) ids)) (none_fits conf kind (map Some kept ++ map (type_of layer) (drop (i + 1) ids))))

pub passed_third : (conf : Configuration) (layer : Annotations) (kind : ℕ) (kept : List TypeId) (ids : List AnnId) (i : ℕ) (id : AnnId) (type_ : TypeId) → i < length ids → id ≡ get_or ids i id
    → type_of layer id ≡ Some type_ → stands_twice type_ kept ≡ true → rest_unfit conf layer kind kept (drop (i + 1) ids) ≡ rest_unfit conf layer kind kept (drop i ids)
passed_third conf layer kind kept ids i id type_ within is of twice =
    sym (next conf layer kind kept ids i id within is
    ∙ ap (λ t. has_unfit (may_be_equal conf kind) (map Some kept ++ t ∷ map (type_of layer) (drop (i + 1) ids))) of
    ∙ third (may_be_equal conf kind) (equal_turns conf kind) type_ kept (map (type_of layer) (drop (i + 1) ids)) twice)

pub put_by : (conf : Configuration) (layer : Annotations) (kind : ℕ) (kept : List TypeId) (count : ℕ) (ids : List AnnId) (i : ℕ) (id : AnnId) (type_ : TypeId) → count < length kept → i < length ids
    → id ≡ get_or ids i id → type_of layer id ≡ Some type_
    → rest_unfit conf layer kind (take (count + 1) (set kept count type_)) (drop (i + 1) ids) ≡ rest_unfit conf layer kind (take count kept) (drop i ids)
put_by conf layer kind kept count ids i id type_ room within is of =
    sym (next conf layer kind (take count kept) ids i id within is
    ∙ ap (λ t. has_unfit (may_be_equal conf kind) (map Some (take count kept) ++ t ∷ map (type_of layer) (drop (i + 1) ids))) of
    ∙ ap (has_unfit (may_be_equal conf kind)) (sym (append_assoc (map Some (take count kept)) (Some type_ ∷ []) (map (type_of layer) (drop (i + 1) ids))))
    ∙ ap (λ ts. has_unfit (may_be_equal conf kind) (ts ++ map (type_of layer) (drop (i + 1) ids))) (sym (map-append Some (take count kept) (type_ ∷ [])))
    ∙ ap (λ ts. rest_unfit conf layer kind ts (drop (i + 1) ids)) (sym (take_more_set kept count type_ room)))
