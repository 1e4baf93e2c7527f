-- What falls with an annotation that goes, round by round.
use Rattle.std.proofs.Common.{◌≡◌, ℕ, ◌+◌, ◌*◌, ◌⊎◌, inl, inr, ◌<◌, ◌≤◌, ◌==◌, ◌||◌, ◌&&◌, Bool, true, false, cond, zero, suc, List, [], ◌∷◌, map, filter, length, slice_get, Option, Some, None, refl, sym, ◌∙◌, ap, arith, tests}
use Rattle.std.specs.Option.{option_map_or}
use Rattle.std.specs.List.{list_any, flat_map}
use Rattle.std.proofs.lemmas.List.Folds.{list_any-append}
use Rattle.std.specs.Ordering.{nat_cmp, eq_by_cmp}
use Rattle.mark_base.specs.declared.ann_id.AnnId.{AnnId}
use Rattle.mark_base.specs.declared.ann_id.Kind.{Kind}
use Rattle.mark_base.specs.declared.ann_id.Kind.TheVariants as letter
use Rattle.layer_model.specs.declared.mark.Mark.{Mark}
use Rattle.layer_model.specs.Annotations.{Annotations}
use Rattle.layer_model.specs.Classes.{letter_place, is_among, ascending}
use Rattle.layer_model.specs.Layers.{mark_at, numbers}
use Rattle.mark_base.specs.ReadIds.{id_at}
use Rattle.layer_model.specs.LayerIds.{id_place, ids_of, ids_of_letter, letters}
use Rattle.layer_rules.specs.MarkRules.{named_by}
use Rattle.layer_rules.specs.LayerRules.{is_id}
use Rattle.layer_core.specs.MadeLayers.{falls, falls_by}
use Rattle.layer_core.specs.Cascade.{falls_next, same_ids}
use Rattle.std.proofs.lemmas.Bool.Decides.{nat_tests}
use Rattle.mark_base.proofs.IdLemmas.{id_at-id}
use Rattle.layer_model.proofs.IdSets.{has_rank-ascending}
use Rattle.layer_rules.proofs.LawLemmas.{either, same_number, stands}

-- ---- two IDs at one place are one

some_kind : {a b : Kind} → Some a ≡ Some b → a ≡ b
some_kind e = cc

placed : (kind : Kind) → slice_get letters (letter_place kind) ≡ Some kind
placed letter.Text = refl
placed letter.Event = refl
placed letter.Relation = refl
placed letter.Attribute = refl
placed letter.Legacy = refl
placed letter.Normal = refl
placed letter.Note = refl

pub is_equal : (a b : ℕ) → (a == b) ≡ true → a ≡ b
is_equal a b e = search (arith, tests)

pub equal : (a : ℕ) → (a == a) ≡ true
equal a = search (arith, tests)

apart_first : (a b m n : ℕ) → m ≤ 999999999 → n ≤ 999999999 → a * 1000000000 + m ≡ b * 1000000000 + n → a ≡ b
apart_first a b m n hm hn e = omega arith

apart_last : (a b m n : ℕ) → m ≤ 999999999 → n ≤ 999999999 → a * 1000000000 + m ≡ b * 1000000000 + n → m ≡ n
apart_last a b m n hm hn e = omega arith

pub one_id : (a b : AnnId) → is_id a b ≡ true → a ≡ b
one_id a b e =
    let same = is_equal (id_place a) (id_place b) e in
    let places : letter_place a.kind ≡ letter_place b.kind = apart_first (letter_place a.kind) (letter_place b.kind) a.number b.number a.within b.within same in
    let last : a.number ≡ b.number = apart_last (letter_place a.kind) (letter_place b.kind) a.number b.number a.within b.within same in
    let kinds : a.kind ≡ b.kind = some_kind (sym (placed a.kind) ∙ ap (slice_get letters) places ∙ placed b.kind) in
    sym (id_at-id a) ∙ ap (λ k. id_at k a.number) kinds ∙ ap (id_at b.kind) last ∙ id_at-id b

-- ---- tests that agree

any_same : {X : Type 0} (p q : X → Bool) → ((x : X) → p x ≡ q x) → (xs : List X) → list_any p xs ≡ list_any q xs
any_same p q same [] = refl
any_same p q same (x ∷ xs) = ap (λ b. b || list_any p xs) (same x) ∙ ap (λ b. q x || b) (any_same p q same xs)

pub filter_same : {X : Type 0} (p q : X → Bool) → ((x : X) → p x ≡ q x) → (xs : List X) → filter p xs ≡ filter q xs
filter_same p q same [] = refl
filter_same p q same (x ∷ xs) = ap (λ b. cond b (x ∷ filter p xs) (filter p xs)) (same x) ∙ ap (λ ys. cond (q x) (x ∷ ys) ys) (filter_same p q same xs)

-- ---- an ID among those that pass a test

any_cond : (q : AnnId → Bool) (b : Bool) (x : AnnId) (ys : List AnnId) → list_any q (cond b (x ∷ ys) ys) ≡ cond b (q x || list_any q ys) (list_any q ys)
any_cond q true x ys = refl
any_cond q false x ys = refl

step : (pn px i r f : Bool) → (i ≡ true → pn ≡ px) → f ≡ (pn && r) → cond px (i || f) f ≡ (pn && (i || r))
step true true true r f same is = refl
step false true true r f same is = absurd (let e : false ≡ true = same refl in cc)
step true true false r f same is = is
step false true false r f same is = is
step true false true r f same is = absurd (let e : true ≡ false = same refl in cc)
step false false true r f same is = is
step true false false r f same is = is
step false false false r f same is = is

none_among : (b : Bool) → false ≡ (b && false)
none_among true = refl
none_among false = refl

pub kept_among : (p : AnnId → Bool) (named : AnnId) (ids : List AnnId) → list_any (is_id named) (filter p ids) ≡ (p named && list_any (is_id named) ids)
kept_among p named [] = none_among (p named)
kept_among p named (x ∷ xs) =
    any_cond (is_id named) (p x) x (filter p xs)
    ∙ step (p named) (p x) (is_id named x) (list_any (is_id named) xs) (list_any (is_id named) (filter p xs)) (λ e. ap p (one_id named x e)) (kept_among p named xs)

-- ---- an ID that is sought in an ordered set

pub turned : (a b : ℕ) → (a == b) ≡ (b == a)
turned a b = grind (arith, nat_tests)

pub among_ids : (id : AnnId) (ids : List AnnId) → is_among id ids ≡ list_any (is_id id) ids
among_ids id [] = refl
among_ids id (x ∷ xs) = ap (λ b. b || is_among id xs) (turned (id_place x) (id_place id)) ∙ ap (λ b. is_id id x || b) (among_ids id xs)

-- in ascending order they are the same IDs
among_set : (id : AnnId) (ids : List AnnId) → list_any (is_id id) (ascending ids) ≡ list_any (is_id id) ids
among_set id ids = sym (among_ids id (ascending ids)) ∙ has_rank-ascending ids (id_place id) ∙ among_ids id ids

falls_among : (layer : Annotations) (gone : AnnId) (fallen : List AnnId) (id : AnnId) → falls_next layer gone (ascending fallen) id ≡ falls_next layer gone fallen id
falls_among layer gone fallen id = ap (λ b. is_id gone id || b) (split (mark_at layer id))
  where
    split : (o : Option Mark)
        → option_map_or (λ mark. list_any (λ named. is_id gone named || list_any (is_id named) (ascending fallen)) (named_by mark)) o false
        ≡ option_map_or (λ mark. list_any (λ named. is_id gone named || list_any (is_id named) fallen) (named_by mark)) o false
    split None = refl
    split (Some mark) = any_same _ _ (λ named. ap (λ b. is_id gone named || b) (among_set named fallen)) (named_by mark)

pub next_among : (layer : Annotations) (gone : AnnId) (ids fallen before next : List AnnId) → before ≡ ascending fallen → next ≡ filter (falls_next layer gone before) ids
    → next ≡ filter (falls_next layer gone fallen) ids
next_among layer gone ids fallen before next set is =
    is ∙ ap (λ f. filter (falls_next layer gone f) ids) set ∙ filter_same _ (falls_next layer gone fallen) (falls_among layer gone fallen) ids

-- ---- an ID that something stands under is among those of the layer

or_true : (b : Bool) → (b || true) ≡ true
or_true true = refl
or_true false = refl

in_letter : (id : AnnId) (ns : List ℕ) → list_any (eq_by_cmp nat_cmp id.number) ns ≡ true → list_any (is_id id) (map (id_at id.kind) ns) ≡ true
in_letter id [] e = absurd (let f : false ≡ true = e in cc)
in_letter id (k ∷ ns) e = split (in_letter id ns) (eq_by_cmp nat_cmp id.number k) refl e
  where
    split : (list_any (eq_by_cmp nat_cmp id.number) ns ≡ true → list_any (is_id id) (map (id_at id.kind) ns) ≡ true) → (b : Bool) → eq_by_cmp nat_cmp id.number k ≡ b
        → (b || list_any (eq_by_cmp nat_cmp id.number) ns) ≡ true → (is_id id (id_at id.kind k) || list_any (is_id id) (map (id_at id.kind) ns)) ≡ true
    split more_ true is h =
        ap (λ b. b || list_any (is_id id) (map (id_at id.kind) ns))
        (ap (λ m. is_id id (id_at id.kind m)) (same_number id.number k is) ∙ ap (is_id id) (id_at-id id) ∙ equal (id_place id))
    split more_ false is h = ap (λ b. is_id id (id_at id.kind k) || b) (more_ h) ∙ or_true (is_id id (id_at id.kind k))

here : (q : AnnId → Bool) (layer : Annotations) (kind : Kind) (more_ : List Kind) → list_any q (ids_of_letter layer kind) ≡ true → list_any q (flat_map (ids_of_letter layer) (kind ∷ more_)) ≡ true
here q layer kind more_ e =
    list_any-append q (ids_of_letter layer kind) (flat_map (ids_of_letter layer) more_) ∙ ap (λ b. b || list_any q (flat_map (ids_of_letter layer) more_)) e

skip : (q : AnnId → Bool) (layer : Annotations) (kind : Kind) (more_ : List Kind) → list_any q (flat_map (ids_of_letter layer) more_) ≡ true → list_any q (flat_map (ids_of_letter layer) (kind ∷ more_)) ≡ true
skip q layer kind more_ e =
    list_any-append q (ids_of_letter layer kind) (flat_map (ids_of_letter layer) more_) ∙ ap (λ b. list_any q (ids_of_letter layer kind) || b) e ∙ or_true (list_any q (ids_of_letter layer kind))

abbrev after_normal : List Kind
after_normal = letter.Note ∷ []

abbrev after_legacy : List Kind
after_legacy = letter.Normal ∷ after_normal

abbrev after_attribute : List Kind
after_attribute = letter.Legacy ∷ after_legacy

abbrev after_relation : List Kind
after_relation = letter.Attribute ∷ after_attribute

abbrev after_event : List Kind
after_event = letter.Relation ∷ after_relation

abbrev after_text : List Kind
after_text = letter.Event ∷ after_event

of_letter : (q : AnnId → Bool) (layer : Annotations) (kind : Kind) → list_any q (ids_of_letter layer kind) ≡ true → list_any q (ids_of layer) ≡ true
of_letter q layer letter.Text e = here q layer letter.Text after_text e
of_letter q layer letter.Event e = skip q layer letter.Text after_text (here q layer letter.Event after_event e)
of_letter q layer letter.Relation e = skip q layer letter.Text after_text (skip q layer letter.Event after_event (here q layer letter.Relation after_relation e))
of_letter q layer letter.Attribute e = skip q layer letter.Text after_text (skip q layer letter.Event after_event (skip q layer letter.Relation after_relation (here q layer letter.Attribute after_attribute e)))
of_letter q layer letter.Legacy e = skip q layer letter.Text after_text (skip q layer letter.Event after_event (skip q layer letter.Relation after_relation (skip q layer letter.Attribute after_attribute (here q layer letter.Legacy after_legacy e))))
of_letter q layer letter.Normal e = skip q layer letter.Text after_text (skip q layer letter.Event after_event (skip q layer letter.Relation after_relation (skip q layer letter.Attribute after_attribute (skip q layer letter.Legacy after_legacy (here q layer letter.Normal after_normal e)))))
of_letter q layer letter.Note e = skip q layer letter.Text after_text (skip q layer letter.Event after_event (skip q layer letter.Relation after_relation (skip q layer letter.Attribute after_attribute (skip q layer letter.Legacy after_legacy (skip q layer letter.Normal after_normal (here q layer letter.Note [] e))))))

pub among : (layer : Annotations) (id : AnnId) (mark : Mark) → mark_at layer id ≡ Some mark → list_any (is_id id) (ids_of layer) ≡ true
among layer id mark e = of_letter (is_id id) layer id.kind (in_letter id (numbers layer id.kind) (stands layer id.kind id.number mark e))

unmarked : (layer : Annotations) (id : AnnId) → list_any (is_id id) (ids_of layer) ≡ false → mark_at layer id ≡ None
unmarked layer id none = split (mark_at layer id) refl
  where
    split : (o : Option Mark) → mark_at layer id ≡ o → mark_at layer id ≡ None
    split None e = e
    split (Some mark) e = absurd (let f : true ≡ false = sym (among layer id mark e) ∙ none in cc)

-- ---- what falls in some steps

self_falls : (k : ℕ) (layer : Annotations) (gone id : AnnId) → is_id gone id ≡ true → falls_by k layer gone id ≡ true
self_falls zero layer gone id e = e
self_falls (suc k) layer gone id e = ap (λ b. b || option_map_or (λ mark. list_any (falls_by k layer gone) (named_by mark)) (mark_at layer id) false) e

or_false : (b : Bool) → (b || false) ≡ b
or_false true = refl
or_false false = refl

unmarked_falls : (k : ℕ) (layer : Annotations) (gone id : AnnId) → mark_at layer id ≡ None → falls_by k layer gone id ≡ is_id gone id
unmarked_falls zero layer gone id e = refl
unmarked_falls (suc k) layer gone id e = ap (λ o. is_id gone id || option_map_or (λ mark. list_any (falls_by k layer gone) (named_by mark)) o false) e ∙ or_false (is_id gone id)

joins : (g p : Bool) → (g ≡ true → p ≡ true) → (g || (p && true)) ≡ p
joins true p f = sym (f refl)
joins false true f = refl
joins false false f = refl

alone : (g p : Bool) → p ≡ g → (g || (p && false)) ≡ p
alone true true e = refl
alone true false e = absurd (let f : false ≡ true = e in cc)
alone false true e = absurd (let f : true ≡ false = e in cc)
alone false false e = refl

-- what goes or fell within some steps
fallen_is : (k : ℕ) (layer : Annotations) (gone named : AnnId) → (is_id gone named || list_any (is_id named) (filter (falls_by k layer gone) (ids_of layer))) ≡ falls_by k layer gone named
fallen_is k layer gone named =
    ap (λ b. is_id gone named || b) (kept_among (falls_by k layer gone) named (ids_of layer)) ∙ split (list_any (is_id named) (ids_of layer)) refl
  where
    split : (b : Bool) → list_any (is_id named) (ids_of layer) ≡ b → (is_id gone named || (falls_by k layer gone named && list_any (is_id named) (ids_of layer))) ≡ falls_by k layer gone named
    split true is = ap (λ b. is_id gone named || (falls_by k layer gone named && b)) is ∙ joins (is_id gone named) (falls_by k layer gone named) (self_falls k layer gone named)
    split false is =
        ap (λ b. is_id gone named || (falls_by k layer gone named && b)) is
        ∙ alone (is_id gone named) (falls_by k layer gone named) (unmarked_falls k layer gone named (unmarked layer named is))

next_is : (k : ℕ) (layer : Annotations) (gone id : AnnId) → falls_next layer gone (filter (falls_by k layer gone) (ids_of layer)) id ≡ falls_by (suc k) layer gone id
next_is k layer gone id = ap (λ b. is_id gone id || b) (split (mark_at layer id))
  where
    split : (o : Option Mark)
        → option_map_or (λ mark. list_any (λ named. is_id gone named || list_any (is_id named) (filter (falls_by k layer gone) (ids_of layer))) (named_by mark)) o false
        ≡ option_map_or (λ mark. list_any (falls_by k layer gone) (named_by mark)) o false
    split None = refl
    split (Some mark) = any_same _ _ (fallen_is k layer gone) (named_by mark)

-- ---- the rounds

pub first_round : (layer : Annotations) (gone : AnnId) → filter (is_id gone) (ids_of layer) ≡ filter (falls_by 0 layer gone) (ids_of layer)
first_round layer gone = filter_same (is_id gone) (falls_by 0 layer gone) (λ id. refl) (ids_of layer)

next_round : (k : ℕ) (layer : Annotations) (gone : AnnId)
    → filter (falls_next layer gone (filter (falls_by k layer gone) (ids_of layer))) (ids_of layer) ≡ filter (falls_by (suc k) layer gone) (ids_of layer)
next_round k layer gone = filter_same _ (falls_by (suc k) layer gone) (next_is k layer gone) (ids_of layer)

-- a round that begins with what fell before it
pub one_more : (k : ℕ) (layer : Annotations) (gone : AnnId) (ids fallen next : List AnnId) → ids ≡ ids_of layer → fallen ≡ filter (falls_by k layer gone) (ids_of layer)
    → next ≡ filter (falls_next layer gone fallen) ids → next ≡ filter (falls_by (suc k) layer gone) (ids_of layer)
one_more k layer gone ids fallen next all before is =
    is ∙ ap (filter (falls_next layer gone fallen)) all ∙ ap (λ f. filter (falls_next layer gone f) (ids_of layer)) before ∙ next_round k layer gone

-- where a round adds nothing no later one does
later : (k n : ℕ) (layer : Annotations) (gone : AnnId) → k ≤ n → filter (falls_by (suc k) layer gone) (ids_of layer) ≡ filter (falls_by k layer gone) (ids_of layer)
    → filter (falls_by n layer gone) (ids_of layer) ≡ filter (falls_by k layer gone) (ids_of layer)
later k zero layer gone h still = let none : zero ≡ k = omega arith in ap (λ m. filter (falls_by m layer gone) (ids_of layer)) none
later k (suc n) layer gone h still = split (either k (suc n) h) (later k n layer gone)
  where
    split : (k ≡ suc n) ⊎ (k < suc n)
        → (k ≤ n → filter (falls_by (suc k) layer gone) (ids_of layer) ≡ filter (falls_by k layer gone) (ids_of layer) → filter (falls_by n layer gone) (ids_of layer) ≡ filter (falls_by k layer gone) (ids_of layer))
        → filter (falls_by (suc n) layer gone) (ids_of layer) ≡ filter (falls_by k layer gone) (ids_of layer)
    split (inl same) before = ap (λ m. filter (falls_by m layer gone) (ids_of layer)) (sym same)
    split (inr less) before =
        sym (next_round n layer gone) ∙ ap (λ f. filter (falls_next layer gone f) (ids_of layer)) (before (omega arith) still) ∙ next_round k layer gone ∙ still

pub settled : (k : ℕ) (layer : Annotations) (gone : AnnId) (ids fallen next : List AnnId) → ids ≡ ids_of layer → k < length ids → fallen ≡ filter (falls_by k layer gone) (ids_of layer)
    → next ≡ filter (falls_next layer gone fallen) ids → next ≡ fallen → fallen ≡ filter (falls layer gone) (ids_of layer)
settled k layer gone ids fallen next all below before is same =
    let end : k ≤ length (ids_of layer) = let e = ap length all in omega arith in
    before ∙ sym (later k (length (ids_of layer)) layer gone end (sym (one_more k layer gone ids fallen next all before is) ∙ same ∙ before))

-- lists with one ID after another the same are one
some_one : (a b : AnnId) (as_ bs : List AnnId) → (is_id a b && same_ids as_ bs) ≡ true → (is_id a b ≡ true → same_ids as_ bs ≡ true → (a ∷ as_) ≡ (b ∷ bs)) → (a ∷ as_) ≡ (b ∷ bs)
some_one a b as_ bs e f = split (is_id a b) refl e
  where
    split : (x : Bool) → is_id a b ≡ x → (x && same_ids as_ bs) ≡ true → (a ∷ as_) ≡ (b ∷ bs)
    split true is h = f is h
    split false is h = absurd (let g : false ≡ true = h in cc)

pub one_list : (xs ys : List AnnId) → same_ids xs ys ≡ true → xs ≡ ys
one_list [] [] e = refl
one_list [] (y ∷ ys) e = absurd (let f : false ≡ true = e in cc)
one_list (x ∷ xs) [] e = absurd (let f : false ≡ true = e in cc)
one_list (x ∷ xs) (y ∷ ys) e = some_one x y xs ys e (λ is h. ap (λ z. z ∷ xs) (one_id x y is) ∙ ap (λ zs. y ∷ zs) (one_list xs ys h))
