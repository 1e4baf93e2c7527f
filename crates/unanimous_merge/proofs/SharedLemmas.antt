-- What all holders have, by places and by contents.
use Rattle.std.proofs.Common.{◌≡◌, ℕ, zero, suc, ◌+◌, ◌<◌, Bool, true, false, cond, eqb, ◌==◌, List, [], ◌∷◌, ◌++◌, map, length, get_or, take, refl, sym, ap, ◌∙◌, subst, arith, All, Some, option_map}
use Rattle.std.proofs.lemmas.List.{take_more, length-take-le}
use Rattle.std.proofs.lemmas.Option.{same_Some}
use Rattle.std.specs.List.{filter, list_all, list_any, slice_get}
use Rattle.mark_base.specs.declared.ann_id.AnnId.{AnnId}
use Rattle.layer_model.specs.declared.class.Class.{Class}
use Rattle.layer_model.specs.Annotations.{Annotations}
use Rattle.content_keys.specs.declared.placed_layer.Placed.{Placed}
use Rattle.content_keys.specs.declared.placed_layer.PlacedLayer.{PlacedLayer}
use Rattle.content_keys.specs.LayerContents.{class_content, class_contents_of, content_of, contents_of, ids_of}
use Rattle.content_keys.specs.Places.{contents_at}
use Rattle.unanimous_merge.specs.Readings.{Reading, class_contents, contents, reading_of, readings}
use Rattle.unanimous_merge.specs.Items.{stands}
use Rattle.unanimous_merge.specs.Unanimous.{class_in_each, in_each, unanimous_classes, unanimous_ids}
use Rattle.unanimous_merge.specs.Rows.{AreRows, classes_at, each_has, having}
use Rattle.unanimous_merge.proofs.ItemLemmas.{AreDistinct, all_placed, contents_same, stands_is, test_is}
use Rattle.unanimous_merge.proofs.ListLemmas.{all_head, all_more, all_tail, all_test_map, any_map, any_same, map_map, map_same}
use Rattle.unanimous_merge.proofs.StandingLemmas.{has_mark}

append_none : {X : Type 0} (xs : List X) → xs ++ [] ≡ xs
append_none [] = refl
append_none (x ∷ xs) = ap (λ ys. x ∷ ys) (append_none xs)

classes_push : (test : ℕ → Bool) (xs : List Class) (ps : List ℕ) (x : Class) (p : ℕ) → length xs ≡ length ps → classes_at test (xs ++ x ∷ []) (ps ++ p ∷ []) ≡ classes_at test xs ps ++ cond (test p) (x ∷ []) []
classes_push test [] [] x p e = refl
classes_push test [] (q ∷ qs) x p e = absurd (omega arith)
classes_push test (y ∷ ys) [] x p e = absurd (omega arith)
classes_push test (y ∷ ys) (q ∷ qs) x p e =
    elim (test q) as (λ b. cond b (y ∷ classes_at test (ys ++ x ∷ []) (qs ++ p ∷ [])) (classes_at test (ys ++ x ∷ []) (qs ++ p ∷ [])) ≡ cond b (y ∷ classes_at test ys qs) (classes_at test ys qs) ++ cond (test p) (x ∷ []) []) [
      | true ↦ ap (λ zs. y ∷ zs) (classes_push test ys qs x p (omega arith))
      | false ↦ classes_push test ys qs x p (omega arith)
    ]

-- the class at an index
some_at : (xs : List Class) (k : ℕ) → k < length xs → (x : Class) × (x ≡ get_or xs k x)
some_at [] k h = absurd (omega arith)
some_at (x ∷ xs) zero h = (x, refl)
some_at (x ∷ xs) (suc k) h = some_at xs k (omega arith)

-- one class more
module _ (test : ℕ → Bool) (classes : List Class) (places : List ℕ) (long : length places ≡ length classes) (i : ℕ) (h : i < length classes) where
  more : (x : Class) → x ≡ get_or classes i x → (b : Bool) → b ≡ test (get_or places i 0) → classes_at test (take (i + 1) classes) (take (i + 1) places) ≡ classes_at test (take i classes) (take i places) ++ cond b (x ∷ []) []
  more x at b e =
      let one : length (take i classes) ≡ i = length-take-le i classes (omega arith) in
      let two : length (take i places) ≡ i = length-take-le i places (omega arith) in
      (λ j. classes_at test ((take_more classes i x h ∙ ap (λ y. take i classes ++ y ∷ []) (sym at)) j) (take_more places i 0 (let l : i < length places = omega arith in l) j))
      ∙ classes_push test (take i classes) (take i places) x (get_or places i 0) (one ∙ sym two)
      ∙ ap (λ t. classes_at test (take i classes) (take i places) ++ cond t (x ∷ []) []) (sym e)

  pub class_shared : (x : Class) → x ≡ get_or classes i x → test (get_or places i 0) ≡ true → (old new : List Class) → old ≡ classes_at test (take i classes) (take i places) → new ≡ old ++ x ∷ [] → new ≡ classes_at test (take (i + 1) classes) (take (i + 1) places)
  class_shared x at t old new so pushed = pushed ∙ ap (λ ys. ys ++ x ∷ []) so ∙ sym (more x at true (sym t))

  pub class_left : test (get_or places i 0) ≡ false → (old : List Class) → old ≡ classes_at test (take i classes) (take i places) → old ≡ classes_at test (take (i + 1) classes) (take (i + 1) places)
  class_left t old so =
      let one : (x : Class) × (x ≡ get_or classes i x) = some_at classes i h in
      so ∙ sym (more one.0 one.1 false (sym t) ∙ append_none (classes_at test (take i classes) (take i places)))

-- what holds of each layer, by its contents and by its places
each_is : {K : Type 0} (of : Reading → List K) (of_row : PlacedLayer → List K) (layers : List Reading) (rows : List PlacedLayer) → map of layers ≡ map of_row rows → (f : List K → Bool) (has : PlacedLayer → Bool) (P : PlacedLayer → Type 0)
    → ((row : PlacedLayer) → P row → f (of_row row) ≡ has row) → All P rows → list_all (λ layer. f (of layer)) layers ≡ list_all (λ one. one) (map has rows)
each_is of of_row layers rows eq f has P same all =
    sym (all_test_map f of layers) ∙ ap (list_all f) eq ∙ all_test_map f of_row rows
    ∙ sym (all_test_map (λ (b : Bool). b) (λ row. f (of_row row)) rows) ∙ ap (list_all (λ (b : Bool). b)) (map_same P (λ row. f (of_row row)) has same rows all)

-- the IDs of annotations whose contents pass a test
ids_are : (v : ℕ → ℕ) (k : AnnId → ℕ) (contents_test places_test : ℕ → Bool) (n : ℕ) → ((p : ℕ) → p < n → contents_test (v p) ≡ places_test p) → (marks : List Placed) (ids : List AnnId) → map {A = Placed} {B = AnnId × ℕ} (λ p. (p.id, v p.place)) marks ≡ map {A = AnnId} {B = AnnId × ℕ} (λ id. (id, k id)) ids
    → All (λ p. p.place < n) marks → map (λ (p : Placed). p.id) (filter (λ p. places_test p.place) marks) ≡ filter (λ id. contents_test (k id)) ids
ids_are v k contents_test places_test n same [] [] e all = refl
ids_are v k contents_test places_test n same [] (id ∷ ids) e all = cc
ids_are v k contents_test places_test n same (p ∷ ps) [] e all = cc
ids_are v k contents_test places_test n same (p ∷ ps) (id ∷ ids) e all =
    let head : ◌≡◌ {A = AnnId × ℕ} (p.id, v p.place) (id, k id) = cc in
    let tail : map {A = Placed} {B = AnnId × ℕ} (λ q. (q.id, v q.place)) ps ≡ map {A = AnnId} {B = AnnId × ℕ} (λ one. (one, k one)) ids = cc in
    let rest = ids_are v k contents_test places_test n same ps ids tail (all_tail (λ q. q.place < n) p ps all) in
    let test : places_test p.place ≡ contents_test (k id) = sym (same p.place (all_head (λ q. q.place < n) p ps all)) ∙ ap (λ (z : AnnId × ℕ). contents_test z.1) head in
    let first : p.id ≡ id = ap (λ (z : AnnId × ℕ). z.0) head in
    ap (λ b. map (λ (q : Placed). q.id) (cond b (p ∷ filter (λ q. places_test q.place) ps) (filter (λ q. places_test q.place) ps))) test
    ∙ (elim (contents_test (k id)) as (λ b. map (λ (q : Placed). q.id) (cond b (p ∷ filter (λ q. places_test q.place) ps) (filter (λ q. places_test q.place) ps)) ≡ cond b (id ∷ filter (λ one. contents_test (k one)) ids) (filter (λ one. contents_test (k one)) ids)) [
      | true ↦ λ i. first i ∷ rest i
      | false ↦ rest
    ])

-- the classes whose contents pass a test
classes_are : (v : ℕ → ℕ) (k : Class → ℕ) (contents_test places_test : ℕ → Bool) (n : ℕ) → ((p : ℕ) → p < n → contents_test (v p) ≡ places_test p) → (places : List ℕ) (classes : List Class) → map v places ≡ map k classes
    → All (λ p. p < n) places → classes_at places_test classes places ≡ filter (λ class. contents_test (k class)) classes
classes_are v k contents_test places_test n same [] [] e all = refl
classes_are v k contents_test places_test n same [] (c ∷ cs) e all = cc
classes_are v k contents_test places_test n same (p ∷ ps) [] e all = refl
classes_are v k contents_test places_test n same (p ∷ ps) (c ∷ cs) e all =
    let head : v p ≡ k c = cc in
    let tail : map v ps ≡ map k cs = cc in
    let rest = classes_are v k contents_test places_test n same ps cs tail (all_tail (λ q. q < n) p ps all) in
    let test : places_test p ≡ contents_test (k c) = sym (same p (all_head (λ q. q < n) p ps all)) ∙ ap contents_test head in
    λ i. cond (test i) (c ∷ rest i) (rest i)

abbrev pub has_class : ℕ → PlacedLayer → Bool
has_class place row = list_any (λ one. one == place) row.classes.items

module _ (table : List ℕ) (distinct : AreDistinct table) (snapshot : List (List ℕ × Annotations)) (rows : List PlacedLayer) (are : AreRows table rows snapshot) where
  abbrev v : ℕ → ℕ
  v k = get_or table k 0

  abbrev sets : PlacedLayer → List ℕ
  sets row = map v row.classes.items

  abbrev IsRow : PlacedLayer → Type 0
  IsRow row = All (λ place. place < length table) row.classes.items

  pub all_classes_placed : All IsRow rows
  all_classes_placed = all_more (λ (row : PlacedLayer). All (λ (p : Placed). p.place < length table) row.marks.items × All (λ place. place < length table) row.classes.items) IsRow (λ row h. h.1) rows are.within

  sets_same : map class_contents (readings snapshot) ≡ map sets rows
  sets_same = map_map class_contents (λ (r : List ℕ × Annotations). reading_of r.1) snapshot ∙ sym are.classes

  class_is : (q : ℕ) → q < length table → (row : PlacedLayer) → IsRow row → list_any (λ one. one == v q) (sets row) ≡ has_class q row
  class_is q h row all = any_map (λ one. eqb one (v q)) v row.classes.items ∙ any_same (λ p. p < length table) (λ p. eqb (v p) (v q)) (λ p. eqb p q) (λ p b. test_is table distinct p q b h) row.classes.items all

  module _ (standing : List (List Bool)) (has : (place : ℕ) → having place standing ≡ map (has_mark place) rows) where
    pub marks_test : (q : ℕ) → q < length table → in_each (readings snapshot) (v q) ≡ each_has standing q
    marks_test q h =
        each_is contents (λ row. contents_at table row.marks.items) (readings snapshot) rows (contents_same table distinct snapshot rows are) (stands (v q)) (has_mark q) (λ row. All (λ p. p.place < length table) row.marks.items)
        (λ row b. stands_is table distinct q h row.marks.items b) (all_placed table distinct snapshot rows are)
        ∙ ap (list_all (λ (b : Bool). b)) (sym (has q))

  module _ (standing : List (List Bool)) (has : (place : ℕ) → having place standing ≡ map (has_class place) rows) where
    classes_test : (q : ℕ) → q < length table → class_in_each (readings snapshot) (v q) ≡ each_has standing q
    classes_test q h =
        each_is class_contents sets (readings snapshot) rows sets_same (list_any (λ one. one == v q)) (has_class q) IsRow (class_is q h) all_classes_placed
        ∙ ap (list_all (λ (b : Bool). b)) (sym (has q))

-- the first layer, and the classes of it that all holders have
pub record Shares (table : List ℕ) (snapshot : List (List ℕ × Annotations)) (row : PlacedLayer) (layer : Annotations) (classes : List (List Bool)) : Type 0 where
  pub long : length row.classes.items ≡ length layer.classes
  pub sets : classes_at (each_has classes) layer.classes row.classes.items ≡ unanimous_classes (readings snapshot)

length_map : {X Y : Type 0} (f : X → Y) (xs : List X) → length (map f xs) ≡ length xs
length_map f [] = refl
length_map f (x ∷ xs) = ap suc (length_map f xs)

pub shares : (table : List ℕ) → AreDistinct table → (snapshot : List (List ℕ × Annotations)) (rows : List PlacedLayer) → AreRows table rows snapshot → (layer : Annotations) → Some layer ≡ option_map (λ (r : List ℕ × Annotations). r.1) (slice_get snapshot 0)
    → (row : PlacedLayer) → row ≡ get_or rows 0 row → (classes : List (List Bool)) → ((place : ℕ) → having place classes ≡ map (has_class place) rows) → Shares table snapshot row layer classes
shares table distinct [] rows are layer e row at classes had = cc
shares table distinct (r ∷ rs) [] are layer e row at classes had = let none = are.marks in cc
shares table distinct (r ∷ rs) (first ∷ others) are layer e row at classes had =
    subst (λ x. Shares table (r ∷ rs) x layer classes) (sym at)
    (subst (λ l. Shares table (r ∷ rs) first l classes) (sym is) record {
      long = sym (length_map (λ k. get_or table k 0) first.classes.items) ∙ ap length sets ∙ length_map (class_content (content_of r.1)) r.1.classes;
      sets = classes_are (λ k. get_or table k 0) (class_content (content_of r.1)) (class_in_each (readings (r ∷ rs))) (each_has classes) (length table) (classes_test table distinct (r ∷ rs) (first ∷ others) are classes had) first.classes.items r.1.classes sets
          (all_head (λ (x : PlacedLayer). All (λ place. place < length table) x.classes.items) first others (all_classes_placed table distinct (r ∷ rs) (first ∷ others) are));
    })
  where
    is : layer ≡ r.1
    is = same_Some _ _ e

    sets : map (λ k. get_or table k 0) first.classes.items ≡ class_contents_of r.1
    sets = let whole = are.classes in cc

-- what all holders have of the first layer
pub shared : (table : List ℕ) → AreDistinct table → (snapshot : List (List ℕ × Annotations)) (rows : List PlacedLayer) → AreRows table rows snapshot → 0 < length snapshot
    → (row : PlacedLayer) → row ≡ get_or rows 0 row → (marks : List (List Bool)) → ((place : ℕ) → having place marks ≡ map (has_mark place) rows) → map (λ (p : Placed). p.id) (filter (λ p. each_has marks p.place) row.marks.items) ≡ unanimous_ids (readings snapshot)
shared table distinct [] rows are some row at marks has = absurd (omega arith)
shared table distinct (r ∷ rs) [] are some row at marks has = let none = are.marks in cc
shared table distinct (r ∷ rs) (first ∷ others) are some row at marks has =
    subst (λ x. map (λ (p : Placed). p.id) (filter (λ p. each_has marks p.place) x.marks.items) ≡ unanimous_ids (readings (r ∷ rs))) (sym at)
    (ids_are (λ k. get_or table k 0) (content_of r.1) (in_each (readings (r ∷ rs))) (each_has marks) (length table) (marks_test table distinct (r ∷ rs) (first ∷ others) are marks has) first.marks.items (ids_of r.1) contents
    (all_head (λ (x : PlacedLayer). All (λ (p : Placed). p.place < length table) x.marks.items) first others (all_placed table distinct (r ∷ rs) (first ∷ others) are)))
  where
    contents : contents_at table first.marks.items ≡ contents_of r.1
    contents = let whole = are.marks in cc
