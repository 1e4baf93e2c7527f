-- Classes in their order, under new IDs that keep the order of the old ones.
use Rattle.std.proofs.Common.{◌≡◌, ℕ, ◌<◌, ◌⊎◌, ◌==◌, ◌&&◌, ◌||◌, nat_lt, eqb-true, eq-eqb, Bool, true, false, not, cond, List, [], ◌∷◌, ◌++◌, map, length, refl, sym, ◌∙◌, ap, subst, inl, inr, arith}
use Rattle.std.proofs.lemmas.Bool.Decides.{eqb_tells, nat_tests}
use Rattle.std.specs.List.{AllByRecursion, fold, list_any}
use Rattle.std.specs.List.Sorted.{IsStrictlySortedBy}
use Rattle.std.specs.Ordering.{nat_cmp, match_ordering}
use Rattle.std.specs.Cmp.{nat_cmp_is}
use Rattle.std.specs.declared.cmp.Ordering.TheVariants.{Less, Greater}
use Rattle.mark_base.specs.declared.ann_id.AnnId.{AnnId}
use Rattle.layer_model.specs.declared.class.Class.{Class}
use Rattle.layer_model.specs.Classes.{AreClasses, AreDisjoint, Ascends, IsClass, Precedes, apart, ascending, comes_before, has_rank, insert_class, is_among, joined, least_of, rank, shares, sharing, with_id}
use Rattle.layer_model.proofs.ClassOrder.{insert_class-last}
use Rattle.layer_model.proofs.IdSets.{is_less, less}
use Rattle.content_keys.specs.Nodes.{IsIn}
use Rattle.curator_decisions.proofs.ListLemmas.{Pairs, or_true}
use Rattle.curator_decisions.proofs.CuratedParts.{not_both, renamed_class}

-- ---- IDs that ascend are in their order already

append_none : {X : Type 0} (xs : List X) → xs ++ [] ≡ xs
append_none [] = refl
append_none (x ∷ xs) = ap (λ ys. x ∷ ys) (append_none xs)

append_assoc : {X : Type 0} (xs ys zs : List X) → (xs ++ ys) ++ zs ≡ xs ++ (ys ++ zs)
append_assoc [] ys zs = refl
append_assoc (x ∷ xs) ys zs = ap (λ ws. x ∷ ws) (append_assoc xs ys zs)

-- each of some IDs is below a place
abbrev AllBelow : ℕ → List AnnId → Type 0
AllBelow place ids = (id : AnnId) → IsIn id ids → rank id < place

last_id : (ids : List AnnId) (id : AnnId) → AllBelow (rank id) ids → with_id ids id ≡ ids ++ id ∷ []
last_id [] id h = refl
last_id (x ∷ xs) id h =
    ap (λ r. match_ordering r (id ∷ x ∷ xs) (id ∷ xs) (x ∷ with_id xs id)) (greater (rank id) (rank x) (h x (inl refl))) ∙ ap (λ ys. x ∷ ys) (last_id xs id (λ y k. h y (inr k)))
  where
    greater : (a b : ℕ) → b < a → nat_cmp a b ≡ Greater
    greater a b l = sym (nat_cmp_is a b Greater l)

in_back : {X : Type 0} (x : X) (xs : List X) (y : X) → IsIn x (xs ++ y ∷ []) → IsIn x xs ⊎ (x ≡ y)
in_back x [] y k = elim k [ inl e ↦ inr e | inr n ↦ absurd n ]
in_back x (z ∷ zs) y k = elim k as (λ _. ((x ≡ z) ⊎ IsIn x zs) ⊎ (x ≡ y)) [
  | inl e ↦ inl (inl e)
  | inr m ↦ elim (in_back x zs y m) as (λ _. ((x ≡ z) ⊎ IsIn x zs) ⊎ (x ≡ y)) [ inl n ↦ inl (inr n) | inr e ↦ inr e ]
]

abbrev pub Lower : AnnId → AnnId → Type 0
Lower a b = rank a < rank b

put_all : (ids acc : List AnnId) → Pairs Lower ids → ((a b : AnnId) → IsIn a acc → IsIn b ids → rank a < rank b) → fold with_id acc ids ≡ acc ++ ids
put_all [] acc up low = sym (append_none acc)
put_all (id ∷ ids) acc up low =
    ap (λ ys. fold with_id ys ids) (last_id acc id (λ a k. low a id k (inl refl)))
    ∙ put_all ids (acc ++ id ∷ []) up.1 (λ a b i j. elim (in_back a acc id i) [ inl m ↦ low a b m (inr j) | inr e ↦ subst (λ x. rank x < rank b) (sym e) (up.0 b j) ])
    ∙ append_assoc acc (id ∷ []) ids

pub ascending_is : (ids : List AnnId) → Pairs Lower ids → ascending ids ≡ ids
ascending_is ids up = put_all ids [] up (λ a b i j. absurd i)

all_in : (n : ℕ) (ids : List AnnId) → AllByRecursion (λ y. nat_cmp n y ≡ Less) (map rank ids) → (y : AnnId) → IsIn y ids → n < rank y
all_in n [] h y k = absurd k
all_in n (x ∷ xs) h y k = elim k [ inl e ↦ subst (λ z. n < rank z) (sym e) (is_less n (rank x) h.0) | inr m ↦ all_in n xs h.1 y m ]

in_all : (n : ℕ) (ids : List AnnId) → ((y : AnnId) → IsIn y ids → n < rank y) → AllByRecursion (λ y. nat_cmp n y ≡ Less) (map rank ids)
in_all n [] h = tt
in_all n (x ∷ xs) h = (less n (rank x) (h x (inl refl)), in_all n xs (λ y k. h y (inr k)))

pub ascends_pairs : (ids : List AnnId) → Ascends ids → Pairs Lower ids
unfolding IsStrictlySortedBy
ascends_pairs [] h = tt
ascends_pairs (x ∷ xs) h = (all_in (rank x) xs h.0, ascends_pairs xs h.1)

pub pairs_ascend : (ids : List AnnId) → Pairs Lower ids → Ascends ids
unfolding IsStrictlySortedBy
pairs_ascend [] h = tt
pairs_ascend (x ∷ xs) h = (in_all (rank x) xs h.0, pairs_ascend xs h.1)

-- ---- classes in their order are joined to themselves

pub rank_in : (place : ℕ) (ids : List AnnId) → has_rank place ids ≡ true → (id : AnnId) × (IsIn id ids × (rank id ≡ place))
rank_in place [] h = absurd (let f : false ≡ true = h in cc)
rank_in place (id ∷ ids) h =
    elim (rank id == place) as (λ b. (rank id == place) ≡ b → (b || has_rank place ids) ≡ true → (x : AnnId) × (((x ≡ id) ⊎ IsIn x ids) × (rank x ≡ place))) [
      | true ↦ λ e _. (id, (inl refl, eqb-true _ _ e))
      | false ↦ λ _ g. let r : (x : AnnId) × (IsIn x ids × (rank x ≡ place)) = rank_in place ids g in (r.0, (inr r.1.0, r.1.1))
    ] refl h

pub in_rank : (id : AnnId) (ids : List AnnId) → IsIn id ids → has_rank (rank id) ids ≡ true
in_rank id [] k = absurd k
in_rank id (x ∷ xs) k = elim k [
  | inl e ↦ ap (λ b. b || has_rank (rank id) xs) (eq-eqb (rank x) (rank id) (ap rank (sym e)))
  | inr m ↦ ap (λ b. (rank x == rank id) || b) (in_rank id xs m) ∙ or_true _
]

pub none_any : {X : Type 0} (p : X → Bool) (xs : List X) → ((x : X) → IsIn x xs → p x ≡ false) → list_any p xs ≡ false
none_any p [] h = refl
none_any p (x ∷ xs) h = (λ i. h x (inl refl) i || none_any p xs (λ y k. h y (inr k)) i)

-- of disjoint classes neither shares a member with the other
not_shared : (a b : Class) → AreDisjoint a b → shares b.kind.n b.members a ≡ false
not_shared a b apart_ =
    elim (eqb_tells a.kind.n b.kind.n) [
      | inl p ↦ ap (λ t. t && list_any (λ id. is_among id b.members) a.members) p.0 ∙ none_any (λ id. is_among id b.members) a.members (λ id k. apart_ p.1 (rank id) (in_rank id a.members k))
      | inr p ↦ ap (λ t. t && list_any (λ id. is_among id b.members) a.members) p.0
    ]

nothing_shared : (b : Class) (classes : List Class) → ((a : Class) → IsIn a classes → AreDisjoint a b) → sharing b.kind.n b.members classes ≡ []
nothing_shared b [] h = refl
nothing_shared b (a ∷ classes) h =
    ap (λ t. cond t (a.members ++ sharing b.kind.n b.members classes) (sharing b.kind.n b.members classes)) (not_shared a b (h a (inl refl))) ∙ nothing_shared b classes (λ x k. h x (inr k))

all_apart : (b : Class) (classes : List Class) → ((a : Class) → IsIn a classes → AreDisjoint a b) → apart b.kind.n b.members classes ≡ classes
all_apart b [] h = refl
all_apart b (a ∷ classes) h =
    ap (λ t. cond (not t) (a ∷ apart b.kind.n b.members classes) (apart b.kind.n b.members classes)) (not_shared a b (h a (inl refl))) ∙ ap (λ ys. a ∷ ys) (all_apart b classes (λ x k. h x (inr k)))

turned : (k l m n : ℕ) → (nat_lt k m || (k == m && nat_lt l n)) ≡ true → (nat_lt m k || (m == k && nat_lt n l)) ≡ false
turned k l m n h = grind (arith, nat_tests)

not_before : (a b : Class) → comes_before a b ≡ true → comes_before b a ≡ false
not_before a b h = turned a.kind.n (least_of a.members) b.kind.n (least_of b.members) h

-- a class behind all others is put behind them
join_last : (b : Class) (classes : List Class) → Pairs Lower b.members → ((a : Class) → IsIn a classes → Precedes a b) → joined b.kind b.members classes ≡ classes ++ b ∷ []
join_last b classes up before =
    let members : ascending (b.members ++ sharing b.kind.n b.members classes) ≡ b.members =
    ap (λ ys. ascending (b.members ++ ys)) (nothing_shared b classes (λ a k. (before a k).disjoint)) ∙ ap ascending (append_none b.members) ∙ ascending_is b.members up in
    (λ i. insert_class (record { kind = b.kind; members = members i }) (all_apart b classes (λ a k. (before a k).disjoint) i))
    ∙ insert_class-last b classes (none_any (comes_before b) classes (λ a k. not_before a b (before a k).before))

-- a class and its members in order
pub record IsOrdered (class : Class) : Type 0 where
  pub up : Pairs Lower class.members

join_all : (bs acc : List Class) → Pairs Precedes bs → ((b : Class) → IsIn b bs → IsOrdered b) → ((a b : Class) → IsIn a acc → IsIn b bs → Precedes a b) → fold (λ classes class. joined class.kind class.members classes) acc bs ≡ acc ++ bs
join_all [] acc up ordered before = sym (append_none acc)
join_all (b ∷ bs) acc up ordered before =
    ap (λ ys. fold (λ classes class. joined class.kind class.members classes) ys bs) (join_last b acc (ordered b (inl refl)).up (λ a k. before a b k (inl refl)))
    ∙ join_all bs (acc ++ b ∷ []) up.1 (λ c k. ordered c (inr k)) (λ a c i j. elim (in_back a acc b i) [ inl m ↦ before a c m (inr j) | inr e ↦ subst (λ (x : Class). Precedes x c) (sym e) (up.0 c j) ])
    ∙ append_assoc acc (b ∷ []) bs

pub joined_are : (bs : List Class) → Pairs Precedes bs → ((b : Class) → IsIn b bs → IsOrdered b) → fold (λ classes class. joined class.kind class.members classes) [] bs ≡ bs
joined_are bs up ordered = join_all bs [] up ordered (λ a b i j. absurd i)

precede_in : (a : Class) (classes : List Class) → AllByRecursion (Precedes a) classes → (b : Class) → IsIn b classes → Precedes a b
precede_in a [] h b k = absurd k
precede_in a (c ∷ cs) h b k = elim k [ inl e ↦ subst (Precedes a) (sym e) h.0 | inr m ↦ precede_in a cs h.1 b m ]

pub classes_pairs : (classes : List Class) → AreClasses classes → Pairs Precedes classes
classes_pairs [] h = tt
classes_pairs (c ∷ cs) h = (precede_in c cs h.1, classes_pairs cs h.2)

pub class_in : (classes : List Class) → AreClasses classes → (c : Class) → IsIn c classes → IsClass c
class_in [] h c k = absurd k
class_in (x ∷ xs) h c k = elim k [ inl e ↦ subst IsClass (sym e) h.0 | inr m ↦ class_in xs h.2 c m ]

-- ---- classes under new IDs

module _ (In : AnnId → Type 0) (new : AnnId → AnnId) (rising : (a b : AnnId) → In a → In b → rank a < rank b → rank (new a) < rank (new b)) (one : (a b : AnnId) → In a → In b → rank (new a) ≡ rank (new b) → a ≡ b) where
  abbrev AllIn : List AnnId → Type 0
  AllIn ids = (id : AnnId) → IsIn id ids → In id

  old_of : (y : AnnId) (ids : List AnnId) → IsIn y (map new ids) → (x : AnnId) × (IsIn x ids × (y ≡ new x))
  old_of y [] k = absurd k
  old_of y (id ∷ ids) k = elim k as (λ _. (x : AnnId) × (((x ≡ id) ⊎ IsIn x ids) × (y ≡ new x))) [
    | inl e ↦ (id, (inl refl, e))
    | inr m ↦ let r : (x : AnnId) × (IsIn x ids × (y ≡ new x)) = old_of y ids m in (r.0, (inr r.1.0, r.1.1))
  ]

  pub renamed_up : (ids : List AnnId) → AllIn ids → Pairs Lower ids → Pairs Lower (map new ids)
  renamed_up [] all up = tt
  renamed_up (id ∷ ids) all up = (
    λ y k.
        let r : (x : AnnId) × (IsIn x ids × (y ≡ new x)) = old_of y ids k in
        subst (λ z. rank (new id) < rank z) (sym r.1.1) (rising id r.0 (all id (inl refl)) (all r.0 (inr r.1.0)) (up.0 r.0 r.1.0)),
    renamed_up ids (λ x k. all x (inr k)) up.1,
  )

  apart_still : (a b : Class) → AllIn a.members → AllIn b.members → AreDisjoint a b → AreDisjoint (renamed_class new a) (renamed_class new b)
  apart_still a b ia ib apart_ kind place h =
      elim (has_rank place (map new b.members)) as (λ t. has_rank place (map new b.members) ≡ t → t ≡ false) [
        | true ↦ λ g.
            let x : (y : AnnId) × (IsIn y (map new a.members) × (rank y ≡ place)) = rank_in place (map new a.members) h in
            let y : (y : AnnId) × (IsIn y (map new b.members) × (rank y ≡ place)) = rank_in place (map new b.members) g in
            let u : (z : AnnId) × (IsIn z a.members × (x.0 ≡ new z)) = old_of x.0 a.members x.1.0 in
            let v : (z : AnnId) × (IsIn z b.members × (y.0 ≡ new z)) = old_of y.0 b.members y.1.0 in
            let same : u.0 ≡ v.0 = one u.0 v.0 (ia u.0 u.1.0) (ib v.0 v.1.0) (ap rank (sym u.1.1) ∙ x.1.1 ∙ sym y.1.1 ∙ ap rank v.1.1) in
            not_both (has_rank (rank u.0) b.members) (ap (λ z. has_rank (rank z) b.members) same ∙ in_rank v.0 b.members v.1.0) (apart_ kind (rank u.0) (in_rank u.0 a.members u.1.0))
        | false ↦ λ _. refl
      ] refl

  least_new : (kind other : ℕ) (a b : List AnnId) → 0 < length a → 0 < length b → AllIn a → AllIn b → (nat_lt kind other || (kind == other && nat_lt (least_of a) (least_of b))) ≡ true
      → (nat_lt kind other || (kind == other && nat_lt (least_of (map new a)) (least_of (map new b)))) ≡ true
  least_new kind other [] b sa sb ia ib h = absurd (omega arith)
  least_new kind other (x ∷ xs) [] sa sb ia ib h = absurd (omega arith)
  least_new kind other (x ∷ xs) (y ∷ ys) sa sb ia ib h = by kind other (rank x) (rank y) (rank (new x)) (rank (new y)) (λ low. rising x y (ia x (inl refl)) (ib y (inl refl)) low) h
    where
      by : (k l p q u v : ℕ) → (p < q → u < v) → (nat_lt k l || (k == l && nat_lt p q)) ≡ true → (nat_lt k l || (k == l && nat_lt u v)) ≡ true
      by k l p q u v up g = grind (arith, nat_tests)

  pub precedes_still : (a b : Class) → AllIn a.members → AllIn b.members → IsClass a → IsClass b → Precedes a b → Precedes (renamed_class new a) (renamed_class new b)
  precedes_still a b ia ib ca cb h = record {
    before = least_new a.kind.n b.kind.n a.members b.members ca.some cb.some ia ib h.before;
    disjoint = apart_still a b ia ib h.disjoint;
  }
