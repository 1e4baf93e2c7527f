-- The lowest annotation below another that makes a pair with it, and the first that has one.
use Rattle.std.proofs.Common.{◌≡◌, ℕ, ◌<◌, ◌≤◌, min, Bool, true, false, ◌&&◌, nat_lt, cond, T, List, [], ◌∷◌, ◌++◌, map, refl, sym, ◌∙◌, ap, subst, Option, Some, None, append_assoc, arith}
use Rattle.std.specs.Bool.{⊤}
use Rattle.std.specs.Option.{option_or, option_map, option_map_or, is_some}
use Rattle.std.specs.List.{AllByRecursion, find}
use Rattle.std.specs.Map.{keys_of}
use Rattle.std.specs.Ordering.{nat_cmp, is_lt}
use Rattle.std.specs.Cmp.{ranked}
use Rattle.std.specs.declared.cmp.Ordering.{Ordering}
use Rattle.std.specs.declared.cmp.Ordering.TheVariants.{Less, Equal, Greater}
use Rattle.std.specs.FinMap as finite
use Rattle.std.specs.FinMap.{entries_sorted}
use Rattle.std.specs.FinMap.Entries.{is_sorted, below_all}
use Rattle.std.proofs.lemmas.Bool.{lt-ltb, le-ltb}
use Rattle.mark_base.specs.declared.ann_id.AnnId.{AnnId}
use Rattle.mark_base.specs.declared.ann_id.Kind.{Kind}
use Rattle.mark_base.specs.declared.ann_id.Kind.TheVariants as letter
use Rattle.layer_model.specs.declared.mark.Mark.{Mark}
use Rattle.layer_model.specs.declared.rule.Rule.{Rule}
use Rattle.layer_model.specs.declared.flaw.Flaw.{Flaw}
use Rattle.layer_model.specs.declared.flaw.FlawPlace.TheVariants as at
use Rattle.layer_model.specs.Annotations.{Annotations}
use Rattle.layer_model.specs.Classes.{letter_place, rank}
use Rattle.layer_model.specs.Layers.{mark_at, mark_of, numbers}
use Rattle.layer_model.specs.Numbers.{NumbersFit}
use Rattle.mark_base.specs.ReadIds.{id_at}
use Rattle.layer_model.specs.LayerIds.{ids_of, ids_of_letter}
use Rattle.layer_rules.specs.LowestFlaw.{first_among, flaw_at}
use Rattle.layer_rules.specs.Repeats.{first_with, keyed, repeat_after, same_numbers}
use Rattle.layer_rules.specs.declared.repeats.Repeat.{Repeat}
use Rattle.layer_rules.proofs.FlawLemmas.{or_assoc}
use Rattle.layer_rules.proofs.PlaceLemmas.{entries_found}

-- ---- annotations of a letter with what stands there

abbrev pub items : {V : Type 0} → Kind → List (ℕ × V) → List (AnnId × V)
items kind [] = []
items kind (e ∷ es) = (id_at kind e.0, e.1) ∷ items kind es

-- each stands behind those before it
abbrev pub Up : {V : Type 0} → List (AnnId × V) → Type 0
Up [] = ⊤
Up (x ∷ xs) = AllByRecursion (λ y. rank x.0 < rank y.0) xs × Up xs

left : (a b : Bool) → T (a && b) → T a
left true b h = tt
left false b h = h

right : (a b : Bool) → T (a && b) → T b
right true b h = h
right false b h = absurd h

less_is : (a b : ℕ) → T (is_lt (nat_cmp a b)) → a < b
less_is a b h = ranked a b Less (sym (is (nat_cmp a b) h))
  where
    is : (r : Ordering) → T (is_lt r) → r ≡ Less
    is Less h = refl
    is Equal h = absurd h
    is Greater h = absurd h

rank_up : (kind : Kind) (a b : ℕ) → a < b → b ≤ 999999999 → rank (id_at kind a) < rank (id_at kind b)
rank_up kind a b less fit =
    let a_is : min a 999999999 ≡ a = omega arith in
    let b_is : min b 999999999 ≡ b = omega arith in
    omega arith

-- every number of these fits
abbrev pub Fit : {V : Type 0} → List (ℕ × V) → Type 0
Fit es = AllByRecursion (λ e. e.0 ≤ 999999999) es

above : {V : Type 0} (kind : Kind) (n : ℕ) (es : List (ℕ × V)) → Fit es → T (below_all nat_cmp n es) → AllByRecursion (λ y. rank (id_at kind n) < rank y.0) (items kind es)
above kind n [] fit below = tt
above kind n (e ∷ es) fit below = (rank_up kind n e.0 (less_is n e.0 (left _ _ below)) fit.0, above kind n es fit.1 (right _ _ below))

pub up_items : {V : Type 0} (kind : Kind) (es : List (ℕ × V)) → Fit es → T (is_sorted nat_cmp es) → Up (items kind es)
up_items kind [] fit sorted = tt
up_items kind (e ∷ es) fit sorted = (above kind e.0 es fit.1 (left _ _ sorted), up_items kind es fit.1 (right _ _ sorted))

fit_found : {V : Type 0} (m : finite.FinMap nat_cmp V) (es : List (ℕ × V)) → NumbersFit m → AllByRecursion (λ e. finite.get m e.0 ≡ Some e.1) es → Fit es
fit_found m [] fits found = tt
fit_found m (e ∷ es) fits found = (fits e.0 (ap is_some found.0), fit_found m es fits found.1)

pub fit_entries : {V : Type 0} (m : finite.FinMap nat_cmp V) → NumbersFit m → Fit (finite.entries m)
fit_entries m fits = fit_found m (finite.entries m) fits (entries_found m)

pub up_entries : {V : Type 0} (kind : Kind) (m : finite.FinMap nat_cmp V) → NumbersFit m → Up (items kind (finite.entries m))
up_entries kind m fits = up_items kind (finite.entries m) (fit_entries m fits) (entries_sorted m)

-- ---- those below are those before

abbrev pub lower : {V : Type 0} → (V → Bool) → AnnId → List (AnnId × V) → Option AnnId
lower hit id all = option_map (λ e. e.0) (find (λ e. nat_lt (rank e.0) (rank id) && hit e.1) all)

none_behind : {V : Type 0} (hit : V → Bool) (id : AnnId) (after : List (AnnId × V)) → AllByRecursion (λ y. rank id < rank y.0) after → lower hit id after ≡ None
none_behind hit id [] behind = refl
none_behind hit id (e ∷ after) behind =
    let not_below : rank id ≤ rank e.0 = (let here : rank id < rank e.0 = behind.0 in omega arith) in
    ap (λ b. option_map (λ (x : _). x.0) (cond (b && hit e.1) (Some e) (find (λ x. nat_lt (rank x.0) (rank id) && hit x.1) after))) (le-ltb (rank e.0) (rank id) not_below)
    ∙ none_behind hit id after behind.1

in_mid : {V : Type 0} (r : ℕ) (before : List (AnnId × V)) (one : AnnId × V) (after : List (AnnId × V)) → AllByRecursion (λ y. r < rank y.0) (before ++ (one ∷ after)) → r < rank one.0
in_mid r [] one after all = all.0
in_mid r (e ∷ before) one after all = in_mid r before one after all.1

pub those_before : {V : Type 0} (hit : V → Bool) (before : List (AnnId × V)) (one : AnnId × V) (after : List (AnnId × V)) → Up (before ++ (one ∷ after))
    → lower hit one.0 (before ++ (one ∷ after)) ≡ option_map (λ e. e.0) (find (λ e. hit e.1) before)
those_before hit [] one after up =
    let itself : rank one.0 ≤ rank one.0 = omega arith in
    ap (λ b. option_map (λ (x : _). x.0) (cond (b && hit one.1) (Some one) (find (λ x. nat_lt (rank x.0) (rank one.0) && hit x.1) after))) (le-ltb (rank one.0) (rank one.0) itself)
    ∙ none_behind hit one.0 after up.0
those_before hit (e ∷ before) one after up =
    ap (λ b. option_map (λ (x : _). x.0) (cond (b && hit e.1) (Some e) (find (λ x. nat_lt (rank x.0) (rank one.0) && hit x.1) (before ++ (one ∷ after))))) (lt-ltb (rank e.0) (rank one.0) (in_mid (rank e.0) before one after up.0))
    ∙ elim (hit e.1) as (λ b. option_map (λ (x : _). x.0) (cond b (Some e) (find (λ x. nat_lt (rank x.0) (rank one.0) && hit x.1) (before ++ (one ∷ after)))) ≡ option_map (λ (x : _). x.0) (cond b (Some e) (find (λ x. hit x.1) before))) [
      | true ↦ refl
      | false ↦ those_before hit before one after up.1
    ]

-- ---- the first that has one

abbrev pub first_item : {V : Type 0} → (AnnId → V → Option Rule) → List (AnnId × V) → Option Flaw
first_item f [] = None
first_item f (e ∷ more) = option_or (flaw_at (at.Mark e.0) (f e.0 e.1)) (first_item f more)

pub among_items : {V : Type 0} (kind : Kind) (f : AnnId → V → Option Rule) (es : List (ℕ × V)) → first_among kind (λ n v. f (id_at kind n) v) es ≡ first_item f (items kind es)
among_items kind f [] = refl
among_items kind f (e ∷ es) = ap (option_or (flaw_at (at.Mark (id_at kind e.0)) (f (id_at kind e.0) e.1))) (among_items kind f es)

abbrev pub keys : {V : Type 0} → (V → List ℕ) → List (AnnId × V) → List (AnnId × List ℕ)
keys key all = map (λ e. (e.0, key e.1)) all

pub keyed_items : {V : Type 0} (kind : Kind) (key : V → List ℕ) (es : List (ℕ × V)) → keyed kind key es ≡ keys key (items kind es)
keyed_items kind key [] = refl
keyed_items kind key (e ∷ es) = ap (λ r. (id_at kind e.0, key e.1) ∷ r) (keyed_items kind key es)

-- the flaw of a repeat
abbrev pub flaw_of : (AnnId → Rule) → Repeat → Flaw
flaw_of rule repeat = record { rule = rule repeat.first; at = at.Mark repeat.again }

-- those with the numbers of one
with_numbers : {V : Type 0} (key : V → List ℕ) (hit : V → Bool) (v : V) → ((w : V) → hit w ≡ same_numbers (key v) (key w)) → (before : List (AnnId × V))
    → option_map (λ (e : AnnId × V). e.0) (find (λ e. hit e.1) before) ≡ first_with (key v) (keys key before)
with_numbers key hit v same [] = refl
with_numbers {V} key hit v same (e ∷ before) =
    ap (λ b. option_map (λ (x : AnnId × V). x.0) (cond b (Some e) (find (λ x. hit x.1) before))) (same e.1)
    ∙ elim (same_numbers (key v) (key e.1)) as (λ b. option_map (λ (x : AnnId × V). x.0) (cond b (Some e) (find (λ x. hit x.1) before))
    ≡ option_map (λ (x : AnnId × List ℕ). x.0) (cond b (Some (e.0, key e.1)) (find (λ x. same_numbers (key v) x.1) (keys key before)))) [
      | true ↦ refl
      | false ↦ with_numbers key hit v same before
    ]

one_more : {V : Type 0} (before : List (AnnId × V)) (e : AnnId × V) (rest : List (AnnId × V)) → before ++ (e ∷ rest) ≡ (before ++ (e ∷ [])) ++ rest
one_more before e rest = sym (append_assoc before (e ∷ []) rest)

keys_more : {V : Type 0} (key : V → List ℕ) (before : List (AnnId × V)) (e : AnnId × V) → keys key (before ++ (e ∷ [])) ≡ keys key before ++ ((e.0, key e.1) ∷ [])
keys_more key [] e = refl
keys_more key (b ∷ before) e = ap (λ r. (b.0, key b.1) ∷ r) (keys_more key before e)

told_so : (rule : AnnId → Rule) (id : AnnId) (o : Option AnnId) (more : Option Repeat)
    → option_or (flaw_at (at.Mark id) (option_map rule o)) (option_map (flaw_of rule) more) ≡ option_map (flaw_of rule) (option_or (option_map (λ first. record { first = first; again = id }) o) more)
told_so rule id None more = refl
told_so rule id (Some first) more = refl

-- the first annotation that has a lower one of its like is the first that has the numbers of one before it
pub first_repeats : {V : Type 0} (rule : AnnId → Rule) (key : V → List ℕ) (hit : V → V → Bool) (f : AnnId → V → Option Rule) (all : List (AnnId × V)) → Up all
    → ((v w : V) → hit v w ≡ same_numbers (key v) (key w)) → ((id : AnnId) (v : V) → f id v ≡ option_map rule (lower (hit v) id all))
    → (before rest : List (AnnId × V)) → all ≡ before ++ rest → first_item f rest ≡ option_map (flaw_of rule) (repeat_after (keys key before) (keys key rest))
first_repeats rule key hit f all up same told before [] is = refl
first_repeats {V} rule key hit f all up same told before (e ∷ rest) is =
    let later : first_item f rest ≡ option_map (flaw_of rule) (repeat_after (keys key before ++ ((e.0, key e.1) ∷ [])) (keys key rest)) =
    first_repeats rule key hit f all up same told (before ++ (e ∷ [])) rest (is ∙ one_more before e rest) ∙ ap (λ s. option_map (flaw_of rule) (repeat_after s (keys key rest))) (keys_more key before e) in
    let up_there : Up (before ++ (e ∷ rest)) = subst (λ (xs : List (AnnId × V)). Up xs) is up in
    let here : f e.0 e.1 ≡ option_map rule (first_with (key e.1) (keys key before)) =
    told e.0 e.1 ∙ ap (λ xs. option_map rule (lower (hit e.1) e.0 xs)) is ∙ ap (option_map rule) (those_before (hit e.1) before e rest up_there ∙ with_numbers key (hit e.1) e.1 (same e.1) before) in
    ap (λ o. option_or (flaw_at (at.Mark e.0) o) (first_item f rest)) here
    ∙ ap (option_or (flaw_at (at.Mark e.0) (option_map rule (first_with (key e.1) (keys key before))))) later
    ∙ told_so rule e.0 (first_with (key e.1) (keys key before)) (repeat_after (keys key before ++ ((e.0, key e.1) ∷ [])) (keys key rest))

-- ---- the look among the IDs of a layer

find_or : {X : Type 0} (test : X → Bool) (xs ys : List X) → find test (xs ++ ys) ≡ option_or (find test xs) (find test ys)
find_or test [] ys = refl
find_or test (x ∷ xs) ys = elim (test x) as (λ b. cond b (Some x) (find test (xs ++ ys)) ≡ option_or (cond b (Some x) (find test xs)) (find test ys)) [ true ↦ refl | false ↦ find_or test xs ys ]

-- an ID below another makes a pair
abbrev pub pair_below : (Mark → Bool) → Annotations → AnnId → AnnId → Bool
pair_below pairs layer id other = nat_lt (rank other) (rank id) && option_map_or pairs (mark_at layer other) false

among_keys : {V : Type 0} (pairs : Mark → Bool) (layer : Annotations) (id : AnnId) (kind : Kind) (wrap : V → Mark) (m : finite.FinMap nat_cmp V)
    → ((n : ℕ) → mark_of layer kind n ≡ option_map wrap (finite.get m n)) → (es : List (ℕ × V)) → Fit es → AllByRecursion (λ e. finite.get m e.0 ≡ Some e.1) es
    → find (pair_below pairs layer id) (map (id_at kind) (keys_of es)) ≡ lower (λ v. pairs (wrap v)) id (items kind es)
among_keys pairs layer id kind wrap m same [] fit there = refl
among_keys {V} pairs layer id kind wrap m same (e ∷ es) fit there =
    let n_is : min e.0 999999999 ≡ e.0 = (let small : e.0 ≤ 999999999 = fit.0 in omega arith) in
    let is : mark_of layer kind (min e.0 999999999) ≡ Some (wrap e.1) = ap (mark_of layer kind) n_is ∙ same e.0 ∙ ap (option_map wrap) there.0 in
    ap (λ o. cond (nat_lt (rank (id_at kind e.0)) (rank id) && option_map_or pairs o false) (Some (id_at kind e.0)) (find (pair_below pairs layer id) (map (id_at kind) (keys_of es)))) is
    ∙ elim (nat_lt (rank (id_at kind e.0)) (rank id) && pairs (wrap e.1)) as (λ b. cond b (Some (id_at kind e.0)) (find (pair_below pairs layer id) (map (id_at kind) (keys_of es)))
    ≡ option_map (λ (x : AnnId × V). x.0) (cond b (Some (id_at kind e.0, e.1)) (find (λ x. nat_lt (rank x.0) (rank id) && pairs (wrap x.1)) (items kind es)))) [
      | true ↦ refl
      | false ↦ among_keys pairs layer id kind wrap m same es fit.1 there.1
    ]

pub among_letter : {V : Type 0} (pairs : Mark → Bool) (layer : Annotations) (id : AnnId) (kind : Kind) (wrap : V → Mark) (m : finite.FinMap nat_cmp V)
    → ((n : ℕ) → mark_of layer kind n ≡ option_map wrap (finite.get m n)) → NumbersFit m → numbers layer kind ≡ finite.keys m
    → find (pair_below pairs layer id) (ids_of_letter layer kind) ≡ lower (λ v. pairs (wrap v)) id (items kind (finite.entries m))
among_letter pairs layer id kind wrap m same fits is =
    ap (λ ns. find (pair_below pairs layer id) (map (id_at kind) ns)) is
    ∙ among_keys pairs layer id kind wrap m same (finite.entries m) (fit_entries m fits) (entries_found m)

no_pair : {V : Type 0} (hit : V → Bool) (id : AnnId) (all : List (AnnId × V)) → ((v : V) → hit v ≡ false) → lower hit id all ≡ None
no_pair hit id [] none = refl
no_pair {V} hit id (e ∷ all) none =
    ap (λ b. option_map (λ (x : AnnId × V). x.0) (cond (nat_lt (rank e.0) (rank id) && b) (Some e) (find (λ x. nat_lt (rank x.0) (rank id) && hit x.1) all))) (none e.1)
    ∙ elim (nat_lt (rank e.0) (rank id)) as (λ b. option_map (λ (x : AnnId × V). x.0) (cond (b && false) (Some e) (find (λ x. nat_lt (rank x.0) (rank id) && hit x.1) all)) ≡ None) [
      | true ↦ no_pair hit id all none
      | false ↦ no_pair hit id all none
    ]

pub not_among : {V : Type 0} (pairs : Mark → Bool) (layer : Annotations) (id : AnnId) (kind : Kind) (wrap : V → Mark) (m : finite.FinMap nat_cmp V)
    → ((n : ℕ) → mark_of layer kind n ≡ option_map wrap (finite.get m n)) → NumbersFit m → numbers layer kind ≡ finite.keys m
    → ((v : V) → pairs (wrap v) ≡ false) → find (pair_below pairs layer id) (ids_of_letter layer kind) ≡ None
not_among pairs layer id kind wrap m same fits is none =
    among_letter pairs layer id kind wrap m same fits is ∙ no_pair (λ v. pairs (wrap v)) id (items kind (finite.entries m)) none

pub found_by_letters : (test : AnnId → Bool) (layer : Annotations) (s e r a m n t : Option AnnId)
    → find test (ids_of_letter layer letter.Text) ≡ s → find test (ids_of_letter layer letter.Event) ≡ e → find test (ids_of_letter layer letter.Relation) ≡ r
    → find test (ids_of_letter layer letter.Attribute) ≡ a → find test (ids_of_letter layer letter.Legacy) ≡ m → find test (ids_of_letter layer letter.Normal) ≡ n
    → find test (ids_of_letter layer letter.Note) ≡ t
    → find test (ids_of layer) ≡ option_or s (option_or e (option_or r (option_or a (option_or m (option_or n (option_or t None))))))
found_by_letters test layer s e r a m n t ss es rs as_ ms ns ts =
    more letter.Text s ss _ _ (more letter.Event e es _ _ (more letter.Relation r rs _ _ (more letter.Attribute a as_ _ _ (more letter.Legacy m ms _ _ (more letter.Normal n ns _ _ (more letter.Note t ts _ _ refl))))))
  where
    more : (kind : Kind) (one : Option AnnId) → find test (ids_of_letter layer kind) ≡ one → (rest : Option AnnId) (ids : List AnnId) → find test ids ≡ rest
        → find test (ids_of_letter layer kind ++ ids) ≡ option_or one rest
    more kind one is rest ids later = find_or test (ids_of_letter layer kind) ids ∙ ap (λ o. option_or o (find test ids)) is ∙ ap (option_or one) later

-- a mark that makes no pair with any
pub unpaired : (pairs : Mark → Bool) → ((m : Mark) → pairs m ≡ false) → (layer : Annotations) (id : AnnId) (ids : List AnnId) → find (pair_below pairs layer id) ids ≡ None
unpaired pairs none layer id [] = refl
unpaired pairs none layer id (other ∷ ids) =
    ap (λ b. cond (nat_lt (rank other) (rank id) && b) (Some other) (find (pair_below pairs layer id) ids)) (never (mark_at layer other))
    ∙ elim (nat_lt (rank other) (rank id)) as (λ b. cond (b && false) (Some other) (find (pair_below pairs layer id) ids) ≡ None) [
      | true ↦ unpaired pairs none layer id ids
      | false ↦ unpaired pairs none layer id ids
    ]
  where
    never : (o : Option Mark) → option_map_or pairs o false ≡ false
    never None = refl
    never (Some m) = none m

-- ---- two letters one behind the other

pub first_item-append : {V : Type 0} (f : AnnId → V → Option Rule) (xs ys : List (AnnId × V)) → first_item f (xs ++ ys) ≡ option_or (first_item f xs) (first_item f ys)
first_item-append f [] ys = refl
first_item-append f (x ∷ xs) ys = ap (option_or (flaw_at (at.Mark x.0) (f x.0 x.1))) (first_item-append f xs ys) ∙ sym (or_assoc (flaw_at (at.Mark x.0) (f x.0 x.1)) (first_item f xs) (first_item f ys))

pub two_letters : {V : Type 0} (hit : V → Bool) (id : AnnId) (xs ys : List (AnnId × V)) → lower hit id (xs ++ ys) ≡ option_or (lower hit id xs) (lower hit id ys)
two_letters hit id [] ys = refl
two_letters {V} hit id (x ∷ xs) ys =
    elim (nat_lt (rank x.0) (rank id) && hit x.1) as (λ b. option_map (λ (e : AnnId × V). e.0) (cond b (Some x) (find (λ e. nat_lt (rank e.0) (rank id) && hit e.1) (xs ++ ys)))
    ≡ option_or (option_map (λ (e : AnnId × V). e.0) (cond b (Some x) (find (λ e. nat_lt (rank e.0) (rank id) && hit e.1) xs))) (lower hit id ys)) [
      | true ↦ refl
      | false ↦ two_letters hit id xs ys
    ]

rank_across : (one other : Kind) (a b : ℕ) → letter_place one < letter_place other → rank (id_at one a) < rank (id_at other b)
rank_across one other a b less =
    let small : min a 999999999 ≤ 999999999 = omega arith in
    omega arith

all_across : {V : Type 0} (one other : Kind) (a : ℕ) (es : List (ℕ × V)) → letter_place one < letter_place other → AllByRecursion (λ y. rank (id_at one a) < rank y.0) (items other es)
all_across one other a [] less = tt
all_across one other a (e ∷ es) less = (rank_across one other a e.0 less, all_across one other a es less)

all_both : {X : Type 0} (P : X → Type 0) (xs ys : List X) → AllByRecursion P xs → AllByRecursion P ys → AllByRecursion P (xs ++ ys)
all_both P [] ys h g = g
all_both P (x ∷ xs) ys h g = (h.0, all_both P xs ys h.1 g)

pub up_both : {V : Type 0} (one other : Kind) (xs ys : List (ℕ × V)) → letter_place one < letter_place other → Up (items one xs) → Up (items other ys) → Up (items one xs ++ items other ys)
up_both one other [] ys less up more = more
up_both one other (x ∷ xs) ys less up more =
    (all_both (λ y. rank (id_at one x.0) < rank y.0) (items one xs) (items other ys) up.0 (all_across one other x.0 ys less), up_both one other xs ys less up.1 more)
