-- IDs in ascending order: those of a layer ascend, and two such lists with the same IDs are one.
use Rattle.std.proofs.Common.{◌≡◌, ℕ, ◌+◌, ◌*◌, ◌<◌, ◌≤◌, inl, inr, Bool, true, false, ◌||◌, ◌==◌, cond, List, [], ◌∷◌, ◌++◌, map, filter, refl, sym, ◌∙◌, ap, subst, arith}
use Rattle.std.specs.Bool.{⊤}
use Rattle.std.specs.List.{AllByRecursion, list_any, flat_map}
use Rattle.std.specs.Map.{keys_of}
use Rattle.std.specs.FinMap as finite
use Rattle.std.proofs.lemmas.Bool.{cases_lt, eq-eqb}
use Rattle.mark_base.specs.declared.ann_id.AnnId.{AnnId}
use Rattle.mark_base.specs.declared.ann_id.Kind.{Kind}
use Rattle.mark_base.specs.declared.ann_id.Kind.TheVariants as letter
use Rattle.mark_base.specs.ReadIds.{id_at}
use Rattle.layer_model.specs.Annotations.{Annotations}
use Rattle.layer_model.specs.Classes.{letter_place, rank}
use Rattle.layer_model.specs.Layers.{IsLayer, numbers}
use Rattle.layer_model.specs.LayerIds.{ids_of, ids_of_letter, letters}
use Rattle.layer_rules.specs.LayerRules.{is_id}
use Rattle.layer_rules.proofs.PairLemmas.{items, Up, up_entries}
use Rattle.layer_core.proofs.FallLemmas.{equal, is_equal, one_id}

-- a place is below those of some IDs
abbrev pub Below : ℕ → List AnnId → Type 0
Below place ids = AllByRecursion (λ id. place < rank id) ids

-- each ID stands before those behind it
abbrev pub Rising : List AnnId → Type 0
Rising [] = ⊤
Rising (id ∷ ids) = Below (rank id) ids × Rising ids

-- ---- two ascending lists with the same IDs

differ : (a b : ℕ) → a < b → (a == b) ≡ false
differ a b less =
    elim (a == b) as (λ e. e ≡ (a == b) → e ≡ false) [
      | true ↦ λ is. absurd (let same : a ≡ b = is_equal a b (sym is) in omega arith)
      | false ↦ λ _. refl
    ] refl

-- an ID below others is not among them
not_among : (id : AnnId) (ids : List AnnId) → Below (rank id) ids → list_any (is_id id) ids ≡ false
not_among id [] below = refl
not_among id (other ∷ ids) below = ap (λ b. b || list_any (is_id id) ids) (differ (rank id) (rank other) below.0) ∙ not_among id ids below.1

lower : (low high : ℕ) (ids : List AnnId) → low < high → Below high ids → Below low ids
lower low high [] less below = tt
lower low high (id ∷ ids) less below = (let here : high < rank id = below.0 in omega arith, lower low high ids less below.1)

-- the first ID of a list is not below the first of one that has it
not_below : (x y : AnnId) (xs ys : List AnnId) → Below (rank y) ys → (true || list_any (is_id x) xs) ≡ list_any (is_id x) (y ∷ ys) → rank x < rank y → ⊥
not_below x y xs ys below same less = let e : true ≡ false = same ∙ not_among x (y ∷ ys) (less, lower (rank x) (rank y) ys less below) in cc

first_same : (x y : AnnId) (xs ys : List AnnId) → Below (rank x) xs → Below (rank y) ys → ((id : AnnId) → list_any (is_id id) (x ∷ xs) ≡ list_any (is_id id) (y ∷ ys)) → x ≡ y
first_same x y xs ys low high same =
    let here : (id : AnnId) (ids : List AnnId) → (true || list_any (is_id id) ids) ≡ (is_id id id || list_any (is_id id) ids) = λ id ids. ap (λ b. b || list_any (is_id id) ids) (sym (equal (rank id))) in
    elim (cases_lt (rank x) (rank y)) [
      | inl less ↦ absurd (not_below x y xs ys high (here x xs ∙ same x) less)
      | inr above ↦
          elim (cases_lt (rank y) (rank x)) [
            | inl less ↦ absurd (not_below y x ys xs low (here y ys ∙ sym (same y)) less)
            | inr upto ↦ one_id x y (eq-eqb (rank x) (rank y) (omega arith))
          ]
    ]

later_same : (x id : AnnId) (xs ys : List AnnId) → Below (rank x) xs → Below (rank x) ys → (is_id id x || list_any (is_id id) xs) ≡ (is_id id x || list_any (is_id id) ys)
    → list_any (is_id id) xs ≡ list_any (is_id id) ys
later_same x id xs ys low high e = split (is_id id x) refl e
  where
    none : id ≡ x → (ids : List AnnId) → Below (rank x) ids → list_any (is_id id) ids ≡ false
    none one ids below = ap (λ i. list_any (is_id i) ids) one ∙ not_among x ids below

    split : (b : Bool) → is_id id x ≡ b → (b || list_any (is_id id) xs) ≡ (b || list_any (is_id id) ys) → list_any (is_id id) xs ≡ list_any (is_id id) ys
    split true is h = let one : id ≡ x = one_id id x is in none one xs low ∙ sym (none one ys high)
    split false is h = h

pub one_list : (xs ys : List AnnId) → Rising xs → Rising ys → ((id : AnnId) → list_any (is_id id) xs ≡ list_any (is_id id) ys) → xs ≡ ys
one_list [] [] up more same = refl
one_list [] (y ∷ ys) up more same = absurd (let e : false ≡ true = same y ∙ ap (λ b. b || list_any (is_id y) ys) (equal (rank y)) in cc)
one_list (x ∷ xs) [] up more same = absurd (let e : true ≡ false = ap (λ b. b || list_any (is_id x) xs) (sym (equal (rank x))) ∙ same x in cc)
one_list (x ∷ xs) (y ∷ ys) up more same =
    let first : x ≡ y = first_same x y xs ys up.0 more.0 same in
    let behind : Below (rank x) ys = subst (λ z. Below (rank z) ys) (sym first) more.0 in
    ap (λ z. z ∷ xs) first
    ∙ ap (λ zs. y ∷ zs) (one_list xs ys up.1 more.1 (λ id. later_same x id xs ys up.0 behind (same id ∙ ap (λ z. is_id id z || list_any (is_id id) ys) (sym first))))

-- ---- parts of ascending lists

pub all_both : {X : Type 0} (P : X → Type 0) (xs ys : List X) → AllByRecursion P xs → AllByRecursion P ys → AllByRecursion P (xs ++ ys)
all_both P [] ys h g = g
all_both P (x ∷ xs) ys h g = (h.0, all_both P xs ys h.1 g)

all_kept : {X : Type 0} (P : X → Type 0) (test : X → Bool) (xs : List X) → AllByRecursion P xs → AllByRecursion P (filter test xs)
all_kept P test [] h = tt
all_kept P test (x ∷ xs) h =
    elim (test x) as (λ b. AllByRecursion P (cond b (x ∷ filter test xs) (filter test xs))) [
      | true ↦ (h.0, all_kept P test xs h.1)
      | false ↦ all_kept P test xs h.1
    ]

pub rising_kept : (test : AnnId → Bool) (ids : List AnnId) → Rising ids → Rising (filter test ids)
rising_kept test [] up = tt
rising_kept test (id ∷ ids) up =
    elim (test id) as (λ b. Rising (cond b (id ∷ filter test ids) (filter test ids))) [
      | true ↦ (all_kept (λ other. rank id < rank other) test ids up.0, rising_kept test ids up.1)
      | false ↦ rising_kept test ids up.1
    ]

pub rising_both : (xs ys : List AnnId) → Rising xs → Rising ys → AllByRecursion (λ x. Below (rank x) ys) xs → Rising (xs ++ ys)
rising_both [] ys up more below = more
rising_both (x ∷ xs) ys up more below = (all_both (λ other. rank x < rank other) xs ys up.0 below.0, rising_both xs ys up.1 more below.1)

-- ---- the IDs of a layer

below_numbers : {V : Type 0} (place : ℕ) (kind : Kind) (es : List (ℕ × V)) → AllByRecursion (λ y. place < rank y.0) (items kind es) → Below place (map (id_at kind) (keys_of es))
below_numbers place kind [] below = tt
below_numbers place kind (e ∷ es) below = (below.0, below_numbers place kind es below.1)

rising_numbers : {V : Type 0} (kind : Kind) (es : List (ℕ × V)) → Up (items kind es) → Rising (map (id_at kind) (keys_of es))
rising_numbers kind [] up = tt
rising_numbers kind (e ∷ es) up = (below_numbers (rank (id_at kind e.0)) kind es up.0, rising_numbers kind es up.1)

rising_letter : (layer : Annotations) → IsLayer layer → (kind : Kind) → Rising (ids_of_letter layer kind)
rising_letter layer kept letter.Text = rising_numbers letter.Text (finite.entries layer.spans) (up_entries letter.Text layer.spans kept.spans)
rising_letter layer kept letter.Event = rising_numbers letter.Event (finite.entries layer.events) (up_entries letter.Event layer.events kept.events)
rising_letter layer kept letter.Relation = rising_numbers letter.Relation (finite.entries layer.relations) (up_entries letter.Relation layer.relations kept.relations)
rising_letter layer kept letter.Attribute = rising_numbers letter.Attribute (finite.entries layer.attributes) (up_entries letter.Attribute layer.attributes kept.attributes)
rising_letter layer kept letter.Legacy = rising_numbers letter.Legacy (finite.entries layer.legacy) (up_entries letter.Legacy layer.legacy kept.legacy)
rising_letter layer kept letter.Normal = rising_numbers letter.Normal (finite.entries layer.normals) (up_entries letter.Normal layer.normals kept.normals)
rising_letter layer kept letter.Note = rising_numbers letter.Note (finite.entries layer.notes) (up_entries letter.Note layer.notes kept.notes)

apart_rank : (one other m n : ℕ) → one < other → m ≤ 999999999 → one * 1000000000 + m < other * 1000000000 + n
apart_rank one other m n less small = omega arith

-- the letters of some IDs stand behind the letter of one
above_letter : (id : AnnId) (kind : Kind) (ns : List ℕ) → letter_place id.kind < letter_place kind → Below (rank id) (map (id_at kind) ns)
above_letter id kind [] less = tt
above_letter id kind (n ∷ ns) less =
    (apart_rank (letter_place id.kind) (letter_place kind) id.number (id_at kind n).number less id.within, above_letter id kind ns less)

abbrev AreBehind : Kind → List Kind → Type 0
AreBehind kind kinds = AllByRecursion (λ other. letter_place kind < letter_place other) kinds

above_letters : (layer : Annotations) (id : AnnId) (kinds : List Kind) → AreBehind id.kind kinds → Below (rank id) (flat_map (ids_of_letter layer) kinds)
above_letters layer id [] less = tt
above_letters layer id (kind ∷ kinds) less =
    all_both (λ other. rank id < rank other) (ids_of_letter layer kind) (flat_map (ids_of_letter layer) kinds) (above_letter id kind (numbers layer kind) less.0) (above_letters layer id kinds less.1)

each_below : (layer : Annotations) (kind : Kind) (kinds : List Kind) → AreBehind kind kinds → (ns : List ℕ)
    → AllByRecursion (λ x. Below (rank x) (flat_map (ids_of_letter layer) kinds)) (map (id_at kind) ns)
each_below layer kind kinds less [] = tt
each_below layer kind kinds less (n ∷ ns) = (above_letters layer (id_at kind n) kinds less, each_below layer kind kinds less ns)

abbrev RisingLetters : List Kind → Type 0
RisingLetters [] = ⊤
RisingLetters (kind ∷ kinds) = AreBehind kind kinds × RisingLetters kinds

rising_letters : (layer : Annotations) → IsLayer layer → (kinds : List Kind) → RisingLetters kinds → Rising (flat_map (ids_of_letter layer) kinds)
rising_letters layer kept [] up = tt
rising_letters layer kept (kind ∷ kinds) up =
    rising_both (ids_of_letter layer kind) (flat_map (ids_of_letter layer) kinds) (rising_letter layer kept kind) (rising_letters layer kept kinds up.1)
    (each_below layer kind kinds up.0 (numbers layer kind))

seven_letters : RisingLetters letters
seven_letters = (
  (omega arith, (omega arith, (omega arith, (omega arith, (omega arith, (omega arith, tt)))))),
  (
    (omega arith, (omega arith, (omega arith, (omega arith, (omega arith, tt))))),
    (
      (omega arith, (omega arith, (omega arith, (omega arith, tt)))),
      (
        (omega arith, (omega arith, (omega arith, tt))),
        (
          (omega arith, (omega arith, tt)),
          (
            (omega arith, tt),
            (tt, tt),
          ),
        ),
      ),
    ),
  ),
)

pub rising_ids : (layer : Annotations) → IsLayer layer → Rising (ids_of layer)
rising_ids layer kept = rising_letters layer kept letters seven_letters
