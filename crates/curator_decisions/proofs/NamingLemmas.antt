-- What items name, by places and by contents.
use Rattle.std.proofs.Common.{◌≡◌, ℕ, zero, suc, ◌<◌, ◌⊎◌, Bool, true, false, ◌||◌, ◌&&◌, not, cond, eqb, List, [], ◌∷◌, ◌++◌, map, length, get_or, refl, sym, ap, ◌∙◌, subst, inl, inr, All, Option, Some, None, MatchOption, is_some, option_and_then, option_map}
use Rattle.std.proofs.lemmas.Bool.Decides.{eqb_tells}
use Rattle.std.proofs.lemmas.List.{map-append}
use Rattle.std.proofs.lemmas.Option.{same_Some}
use Rattle.std.specs.List.{cons_option, find, list_all, list_any, slice_get}
use Rattle.std.specs.Option.{option_map_or}
use Rattle.std.specs.Ordering.{nat_cmp}
use Rattle.std.specs.BTreeMap.{BTreeMap, get}
use Rattle.mark_base.specs.declared.ann_id.AnnId.{AnnId}
use Rattle.mark_base.specs.declared.ann_id.Kind.TheVariants as letter
use Rattle.std.specs.FinMap as finite
use Rattle.layer_model.specs.declared.event.Event.{Event}
use Rattle.layer_model.specs.declared.mark.Mark.{Mark}
use Rattle.layer_model.specs.declared.mark.Mark.TheVariants as marked
use Rattle.layer_model.specs.Annotations.{Annotations}
use Rattle.layer_model.specs.Coherent.{trigger_id}
use Rattle.layer_model.specs.Layers.{mark_of}
use Rattle.layer_model.specs.Classes.{rank}
use Rattle.content_keys.specs.declared.placed_layer.Placed.{Placed}
use Rattle.content_keys.specs.declared.placed_layer.PlacedLayer.{PlacedLayer}
use Rattle.content_keys.specs.LayerContents.{content_of, contents_of, ids_of, link_of, node_of, node_of_mark}
use Rattle.content_keys.specs.Nodes.{IsIn, Node}
use Rattle.content_keys.specs.Places.{contents_at}
use Rattle.content_keys.proofs.IdLemmas.{in_ids, same_rank}
use Rattle.unanimous_merge.specs.declared.entry.Entry.{Entry}
use Rattle.unanimous_merge.specs.declared.item.ItemId.{ItemId}
use Rattle.unanimous_merge.specs.declared.merged.Merged.{Merged}
use Rattle.unanimous_merge.specs.Items.{Held, leaders, name_of}
use Rattle.unanimous_merge.specs.Merges.{IsMerged}
use Rattle.unanimous_merge.specs.Readings.{reading_of, readings}
use Rattle.unanimous_merge.specs.Rows.{held_at}
use Rattle.unanimous_merge.proofs.ItemLemmas.{AreDistinct, test_is}
use Rattle.unanimous_merge.proofs.ListLemmas.{all_cons, all_head, all_more, all_none, all_tail, any_map, any_same, map_map}
use Rattle.curator_decisions.specs.Decisions.{Decided, held_as, is_in, is_in_by, item_rank, verdict_on}
use Rattle.curator_decisions.specs.DecisionFaults.{dependent_on, missing, missing_of, named_contents, names}
use Rattle.curator_decisions.specs.Naming.{dependent_at, entry_as, has_place, ids_named, is_needed_at, lacked_at, missing_at, named_at, places_of_ids}
use Rattle.curator_decisions.specs.Placing.{AreNames, called, is_in_at}
use Rattle.curator_decisions.proofs.CuratedLemmas.{IsMade, content_none, made_leaders}

-- ---- lists

find_map_is : {X Y : Type 0} (p : Y → Bool) (f : X → Y) (xs : List X) → find p (map f xs) ≡ option_map f (find (λ x. p (f x)) xs)
find_map_is p f [] = refl
find_map_is p f (x ∷ xs) = elim (p (f x)) as (λ b. cond b (Some (f x)) (find p (map f xs)) ≡ option_map f (cond b (Some x) (find (λ y. p (f y)) xs))) [
  | true ↦ refl
  | false ↦ find_map_is p f xs
]

find_same : {X : Type 0} (P : X → Type 0) (p q : X → Bool) → ((x : X) → P x → p x ≡ q x) → (xs : List X) → All P xs → find p xs ≡ find q xs
find_same P p q same [] all = refl
find_same P p q same (x ∷ xs) all =
    let here : P x = all_head P x xs all in
    let rest : All P xs = all_tail P x xs all in
    λ i. cond (same x here i) (Some x) (find_same P p q same xs rest i)

all_unmap : {X Y : Type 0} (P : Y → Type 0) (f : X → Y) (xs : List X) → All P (map f xs) → All (λ x. P (f x)) xs
all_unmap P f [] all = all_none (λ x. P (f x))
all_unmap P f (x ∷ xs) all = all_cons (λ y. P (f y)) x xs (all_head P (f x) (map f xs) all) (all_unmap P f xs (all_tail P (f x) (map f xs) all))

all_both : {X : Type 0} (P Q : X → Type 0) (xs : List X) → All P xs → All Q xs → All (λ x. P x × Q x) xs
all_both P Q [] all more = all_none (λ x. P x × Q x)
all_both P Q (x ∷ xs) all more = all_cons (λ y. P y × Q y) x xs (all_head P x xs all, all_head Q x xs more) (all_both P Q xs (all_tail P x xs all) (all_tail Q x xs more))

-- ---- the places of named IDs

-- where an ID of a layer has its content, or that it has none
abbrev pub IsFound : List ℕ → Annotations → Option ℕ → AnnId → Type 0
IsFound table l o id = MatchOption o (content_of l id ≡ 0) (λ p. (p < length table) × (get_or table p 0 ≡ content_of l id))

-- each layer's IDs are found
abbrev pub AreFound : List ℕ → List (List ℕ × Annotations) → List (BTreeMap ℕ ℕ) → Type 0
AreFound table [] [] = Unit {0}
AreFound table [] (places ∷ all) = ⊥
AreFound table (r ∷ rs) [] = ⊥
AreFound table (r ∷ rs) (places ∷ all) = ((id : AnnId) → IsFound table r.1 (get nat_cmp places (rank id)) id) × AreFound table rs all

module _ (table : List ℕ) (distinct : AreDistinct table) where
  abbrev v : ℕ → ℕ
  v k = get_or table k 0

  which : (k : AnnId → ℕ) (marks : List Placed) (ids : List AnnId) → map {A = Placed} {B = AnnId × ℕ} (λ p. (p.id, v p.place)) marks ≡ map {A = AnnId} {B = AnnId × ℕ} (λ id. (id, k id)) ids → All (λ p. p.place < length table) marks → (id : AnnId)
      → ((p : ℕ) × ((called {T = ℕ} (λ at. at) marks (rank id) ≡ Some p) × ((p < length table) × (v p ≡ k id)))) ⊎ ((called {T = ℕ} (λ at. at) marks (rank id) ≡ None) × (IsIn id ids → ⊥))
  which k [] [] e all id = inr (refl, λ h. h)
  which k [] (x ∷ xs) e all id = cc
  which k (p ∷ ps) [] e all id = cc
  which k (p ∷ ps) (x ∷ xs) e all id =
      let head : ◌≡◌ {A = AnnId × ℕ} (p.id, v p.place) (x, k x) = cc in
      let tail : map {A = Placed} {B = AnnId × ℕ} (λ q. (q.id, v q.place)) ps ≡ map {A = AnnId} {B = AnnId × ℕ} (λ one. (one, k one)) xs = cc in
      let first : p.id ≡ x = ap (λ (z : AnnId × ℕ). z.0) head in
      let here : p.place < length table = all_head (λ (q : Placed). q.place < length table) p ps all in
      elim (eqb_tells (rank p.id) (rank id)) [
        | inl t ↦
            let same : x ≡ id = sym first ∙ same_rank p.id id t.1 in
            inl (p.place, (ap (λ b. cond b (Some p.place) (called {T = ℕ} (λ at. at) ps (rank id))) t.0, (here, ap (λ (z : AnnId × ℕ). z.1) head ∙ ap k same)))
        | inr t ↦ elim (which k ps xs tail (all_tail (λ (q : Placed). q.place < length table) p ps all) id) [
          | inl w ↦ inl (w.0, (ap (λ b. cond b (Some p.place) (called {T = ℕ} (λ at. at) ps (rank id))) t.0 ∙ w.1.0, w.1.1))
          | inr w ↦ inr (ap (λ b. cond b (Some p.place) (called {T = ℕ} (λ at. at) ps (rank id))) t.0 ∙ w.0, λ h. elim h [ inl same ↦ t.1 (ap rank (first ∙ sym same)) | inr m ↦ w.1 m ])
        ]
      ]

  found_is : (l : Annotations) (marks : List Placed) → contents_at table marks ≡ contents_of l → All (λ p. p.place < length table) marks → (id : AnnId) → IsFound table l (called {T = ℕ} (λ at. at) marks (rank id)) id
  found_is l marks e all id =
      let P : Option ℕ → Type 0 = λ o. IsFound table l o id in
      elim (which (content_of l) marks (ids_of l) e all id) [
        | inl w ↦ subst P (sym w.1.0) w.1.1
        | inr w ↦ subst P (sym w.0) (content_none (node_of l) 18 id (no_node (node_of l id) refl w.1))
      ]
    where
      no_node : (o : Option (Node AnnId)) → node_of l id ≡ o → (IsIn id (ids_of l) → ⊥) → node_of l id ≡ None
      no_node None f out = f
      no_node (Some s) f out = absurd (out (in_ids l id s f))

  pub founds_are : (rows : List PlacedLayer) (snapshot : List (List ℕ × Annotations)) (all : List (BTreeMap ℕ ℕ)) → AreNames {T = ℕ} (λ at. at) rows all → map (λ (row : PlacedLayer). contents_at table row.marks.items) rows ≡ map (λ (r : List ℕ × Annotations). contents_of r.1) snapshot
      → All (λ (row : PlacedLayer). All (λ p. p.place < length table) row.marks.items) rows → AreFound table snapshot all
  founds_are [] [] [] names e within = tt
  founds_are [] [] (n ∷ ns) names e within = absurd names
  founds_are [] (r ∷ rs) all names e within = cc
  founds_are (row ∷ rows) [] all names e within = cc
  founds_are (row ∷ rows) (r ∷ rs) [] names e within = absurd names
  founds_are (row ∷ rows) (r ∷ rs) (n ∷ ns) names e within =
      let here : contents_at table row.marks.items ≡ contents_of r.1 = cc in
      let rest : map (λ (x : PlacedLayer). contents_at table x.marks.items) rows ≡ map (λ (x : List ℕ × Annotations). contents_of x.1) rs = cc in (
        λ id. let P : Option ℕ → Type 0 = λ o. IsFound table r.1 o id in subst P (sym (names.0 (rank id))) (found_is r.1 row.marks.items here (all_head (λ (x : PlacedLayer). All (λ p. p.place < length table) x.marks.items) row rows within) id),
        founds_are rows rs ns names.1 rest (all_tail (λ (x : PlacedLayer). All (λ p. p.place < length table) x.marks.items) row rows within),
      )

  -- one of the contents is that of a place where one of the places is it
  any_place : (l : Annotations) (places : BTreeMap ℕ ℕ) → ((id : AnnId) → IsFound table l (get nat_cmp places (rank id)) id) → (q : ℕ) → q < length table → (v q ≡ 0 → ⊥) → (ids : List AnnId)
      → list_any (λ c. eqb c (v q)) (map (content_of l) ids) ≡ has_place (places_of_ids places ids) q
  any_place l places found q h made [] = refl
  any_place l places found q h made (id ∷ ids) = by (get nat_cmp places (rank id)) (found id) (any_place l places found q h made ids)
    where
      by : (o : Option ℕ) → IsFound table l o id → list_any (λ c. eqb c (v q)) (map (content_of l) ids) ≡ has_place (places_of_ids places ids) q
          → (eqb (content_of l id) (v q) || list_any (λ c. eqb c (v q)) (map (content_of l) ids)) ≡ has_place (cons_option o (places_of_ids places ids)) q
      by None f rest = elim (eqb_tells (content_of l id) (v q)) [
        | inl t ↦ absurd (made (sym t.1 ∙ f))
        | inr t ↦ ap (λ b. b || list_any (λ c. eqb c (v q)) (map (content_of l) ids)) t.0 ∙ rest
      ]
      by (Some p) f rest =
          let test : eqb (content_of l id) (v q) ≡ eqb p q = ap (λ c. eqb c (v q)) (sym f.1) ∙ test_is table distinct p q f.0 h in
          λ i. test i || rest i

named_is : (l : Annotations) (id : AnnId) → named_contents (reading_of l) id ≡ map (content_of l) (ids_named l id)
named_is l id = by (node_of l id)
  where
    by : (o : Option (Node AnnId)) → option_map_or (λ node. map (content_of l) node.named ++ map (λ link. content_of l link.1) node.bag) o [] ≡ map (content_of l) (option_map_or (λ node. node.named ++ map (λ link. link.1) node.bag) o [])
    by None = refl
    by (Some s) = ap (λ xs. map (content_of l) s.named ++ xs) (sym (map_map (content_of l) (λ (link : ℕ × AnnId). link.1) s.bag)) ∙ sym (map-append (content_of l) s.named (map (λ (link : ℕ × AnnId). link.1) s.bag))

module _ (table : List ℕ) (distinct : AreDistinct table) (q : ℕ) (h : q < length table) (made : get_or table q 0 ≡ 0 → ⊥) (id : AnnId) where
  -- an item names a content where it names its place
  pub names_is : (snapshot : List (List ℕ × Annotations)) (all : List (BTreeMap ℕ ℕ)) → AreFound table snapshot all → (holder : ℕ)
      → option_map_or (λ layer. list_any (λ c. eqb c (get_or table q 0)) (named_contents layer id)) (slice_get (readings snapshot) holder) false
      ≡ has_place (option_map_or (λ (row : List ℕ × Annotations). option_map_or (λ places. places_of_ids places (ids_named row.1 id)) (slice_get all holder) []) (slice_get snapshot holder) []) q
  names_is [] [] are holder = refl
  names_is [] (n ∷ ns) are holder = absurd are
  names_is (r ∷ rs) [] are holder = absurd are
  names_is (r ∷ rs) (n ∷ ns) are zero = ap (list_any (λ c. eqb c (get_or table q 0))) (named_is r.1 id) ∙ any_place table distinct r.1 n are.0 q h made (ids_named r.1 id)
  names_is (r ∷ rs) (n ∷ ns) are (suc holder) = names_is rs ns are.1 holder

and_turned : (a b : Bool) → (a && b) ≡ (b && a)
and_turned true true = refl
and_turned true false = refl
and_turned false true = refl
and_turned false false = refl

-- what an event names
pub ids_of_event : (l : Annotations) (id : AnnId) (e : Event) → id.kind ≡ letter.Event → Some e ≡ finite.get l.events id.number → trigger_id e ∷ map (λ arg. arg.target) e.args ≡ ids_named l id
ids_of_event l id e kind found =
    let F : Option Mark → List AnnId = λ mark. option_map_or (λ (node : Node AnnId). node.named ++ map (λ link. link.1) node.bag) (option_and_then node_of_mark mark) [] in
    sym (ap (λ k. F (mark_of l k id.number)) kind ∙ ap (λ o. F (option_map marked.Event o)) (sym found) ∙ ap (λ xs. trigger_id e ∷ xs) (map_map (λ (link : ℕ × AnnId). link.1) link_of e.args))

-- ---- the whole

module _ (snapshot : List (List ℕ × Annotations)) (merged : Merged) (m : IsMerged merged snapshot) where
  abbrev table : List ℕ
  table = merged.table

  abbrev pub flags : List (List Bool)
  flags = map (λ row. row.items) merged.marks.items

  abbrev pub held : Entry → Held
  held = held_at merged.table

  abbrev pub IsGood : Entry → Type 0
  IsGood e = (e.place < length merged.table) × (get_or merged.table e.place 0 ≡ 0 → ⊥)

  pub good : All IsGood merged.firsts.items
  good =
      let P : List Held → Type 0 = All IsMade in
      all_both (λ (e : Entry). e.place < length merged.table) (λ (e : Entry). get_or merged.table e.place 0 ≡ 0 → ⊥) merged.firsts.items m.within (all_unmap IsMade held merged.firsts.items (subst P (sym m.firsts) (made_leaders snapshot m.layers)))

  pub in_at : (decided : Decided) (e : Entry) → IsGood e → is_in (readings snapshot) decided (held e) ≡ is_in_at flags decided e
  in_at decided e g = ap (is_in_by (verdict_on e.item decided)) (sym (m.unanimous e.place g.0))

  -- find among the items
  find_is : (p : Held → Bool) (q : Entry → Bool) → ((e : Entry) → IsGood e → p (held e) ≡ q e) → find p (leaders (readings snapshot)) ≡ option_map held (find q merged.firsts.items)
  find_is p q same = ap (find p) (sym m.firsts) ∙ find_map_is p held merged.firsts.items ∙ ap (option_map held) (find_same IsGood (λ e. p (held e)) q same merged.firsts.items good)

  pub held_is : (item : ItemId) → held_as (readings snapshot) item ≡ option_map held (entry_as merged.firsts.items item)
  held_is item = find_is (λ h. eqb (item_rank (name_of h)) (item_rank item)) (λ e. eqb (item_rank e.item) (item_rank item)) (λ e g. refl)

  -- an item that is found is one of the items
  pub found_good : (item : ItemId) (e : Entry) → entry_as merged.firsts.items item ≡ Some e → IsGood e
  found_good item e is = by merged.firsts.items good is
    where
      by : (xs : List Entry) → All IsGood xs → entry_as xs item ≡ Some e → IsGood e
      by [] all f = cc
      by (x ∷ xs) all f = elim (eqb (item_rank x.item) (item_rank item)) as (λ b. cond b (Some x) (entry_as xs item) ≡ Some e → IsGood e) [
        | true ↦ λ g. subst IsGood (same_Some _ _ g) (all_head IsGood x xs all)
        | false ↦ λ g. by xs (all_tail IsGood x xs all) g
      ] f

  is_some_map : {X Y : Type 0} (f : X → Y) (o : Option X) → is_some (option_map f o) ≡ is_some o
  is_some_map f None = refl
  is_some_map f (Some x) = refl

  -- whether each decided item is one
  pub all_held : (pairs : Decided) → list_all (λ one. is_some (held_as (readings snapshot) one.0)) pairs ≡ list_all (λ one. is_some (entry_as merged.firsts.items one.0)) pairs
  all_held [] = refl
  all_held (x ∷ xs) = λ i. (ap is_some (held_is x.0) ∙ is_some_map held (entry_as merged.firsts.items x.0)) i && all_held xs i

  module _ (all : List (BTreeMap ℕ ℕ)) (places : AreNames {T = ℕ} (λ at. at) merged.rows.items all) where
    pub found : AreFound merged.table snapshot all
    found =
        founds_are merged.table m.distinct merged.rows.items snapshot all places m.rows.marks
        (all_more (λ (row : PlacedLayer). All (λ (p : Placed). p.place < length merged.table) row.marks.items × All (λ place. place < length merged.table) row.classes.items) (λ (row : PlacedLayer). All (λ (p : Placed). p.place < length merged.table) row.marks.items) (λ row h. h.0) merged.rows.items m.rows.within)

    names_at : (e o : Entry) → IsGood o → names (readings snapshot) (held e) (held o) ≡ has_place (named_at snapshot all e) o.place
    names_at e o g = names_is merged.table m.distinct o.place g.0 g.1 e.item.id snapshot all found e.item.holder

    pub missing_of_is : (decided : Decided) (e : Entry) → missing_of (readings snapshot) decided (held e) ≡ option_map held (missing_at flags decided merged.firsts.items (named_at snapshot all e))
    missing_of_is decided e =
        find_is (λ o. names (readings snapshot) (held e) o && not (is_in (readings snapshot) decided o)) (λ o. has_place (named_at snapshot all e) o.place && not (is_in_at flags decided o)) (λ o g i. names_at e o g i && not (in_at decided o g i))

    pub dependent_is : (decided : Decided) (e : Entry) → IsGood e → dependent_on (readings snapshot) decided (held e) ≡ option_map held (dependent_at (named_at snapshot all) flags decided merged.firsts.items e.place)
    dependent_is decided e here =
        find_is (λ o. names (readings snapshot) o (held e) && is_in (readings snapshot) decided o) (λ o. is_in_at flags decided o && has_place (named_at snapshot all o) e.place)
        (λ o g. (λ i. names_at o e here i && in_at decided o g i) ∙ and_turned (has_place (named_at snapshot all o) e.place) (is_in_at flags decided o))

    pub missing_is : (decided : Decided) (needed : List Bool) → ((q : ℕ) → q < length merged.table → get_or needed q false ≡ is_needed_at (named_at snapshot all) flags decided merged.firsts.items q)
        → missing (readings snapshot) decided ≡ option_map held (lacked_at needed flags decided merged.firsts.items)
    missing_is decided needed flagged =
        find_is (λ o. not (is_in (readings snapshot) decided o) && list_any (λ h. is_in (readings snapshot) decided h && names (readings snapshot) h o) (leaders (readings snapshot))) (λ o. not (is_in_at flags decided o) && get_or needed o.place false)
        (λ o g.
        let any : list_any (λ h. is_in (readings snapshot) decided h && names (readings snapshot) h (held o)) (leaders (readings snapshot)) ≡ get_or needed o.place false =
        ap (list_any (λ h. is_in (readings snapshot) decided h && names (readings snapshot) h (held o))) (sym m.firsts)
        ∙ any_map (λ h. is_in (readings snapshot) decided h && names (readings snapshot) h (held o)) held merged.firsts.items
        ∙ any_same IsGood (λ e. is_in (readings snapshot) decided (held e) && names (readings snapshot) (held e) (held o)) (λ e. is_in_at flags decided e && has_place (named_at snapshot all e) o.place) (λ e k i. in_at decided e k i && names_at e o g i) merged.firsts.items good
        ∙ sym (flagged o.place g.0) in
        λ i. not (in_at decided o g i) && any i)
