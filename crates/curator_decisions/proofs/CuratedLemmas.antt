-- The curated layer by places is that by contents.
use Rattle.std.proofs.Common.{◌≡◌, ℕ, zero, suc, ◌+◌, ◌<◌, ◌≤◌, ◌⊎◌, ◌==◌, Bool, cond, List, [], ◌∷◌, ◌++◌, map, length, get_or, refl, sym, ap, ◌∙◌, arith, inl, inr, All, Option, Some, None, IsSome, option_map, option_and_then, unwrap_or}
use Rattle.std.proofs.lemmas.Bool.Decides.{eqb_tells}
use Rattle.std.proofs.lemmas.List.{map-append}
use Rattle.std.specs.List.{cons_option, filter, filter_map, fold, slice_get}
use Rattle.std.specs.BTreeMap.{BTreeMap}
use Rattle.mark_base.specs.declared.ann_id.AnnId.{AnnId}
use Rattle.mark_base.specs.declared.ann_id.Kind.{Kind}
use Rattle.mark_base.specs.ReadIds.{id_at}
use Rattle.layer_model.specs.declared.class.Class.{Class}
use Rattle.layer_model.specs.declared.mark.Mark.{Mark}
use Rattle.layer_model.specs.Annotations.{Annotations}
use Rattle.layer_model.specs.Classes.{AreClasses, letter_place, rank}
use Rattle.layer_model.specs.Layers.{IsLayer, mark_at, with_mark, with_marked}
use Rattle.mark_base.specs.declared.ann_id.Kind.TheVariants as letter
use Rattle.layer_model.specs.declared.mark.Mark.TheVariants as marked
use Rattle.content_keys.specs.declared.placed_layer.Placed.{Placed}
use Rattle.content_keys.specs.declared.placed_layer.PlacedLayer.{PlacedLayer}
use Rattle.content_keys.specs.Contents.{content, content_at}
use Rattle.content_keys.specs.Founds.{first_at}
use Rattle.content_keys.specs.LayerContents.{content_of, contents_of, ids_of, node_of}
use Rattle.content_keys.specs.Nodes.{IsIn, Node, number}
use Rattle.content_keys.specs.Numbers.{listed}
use Rattle.content_keys.specs.Places.{contents_at}
use Rattle.content_keys.proofs.ContentLemmas.{content_step}
use Rattle.content_keys.proofs.IdLemmas.{ids_have, in_ids, same_rank}
use Rattle.unanimous_merge.specs.declared.entry.Entry.{Entry}
use Rattle.unanimous_merge.specs.declared.merged.Merged.{Merged}
use Rattle.unanimous_merge.specs.Items.{Held, firsts, held_by, held_from, leaders}
use Rattle.unanimous_merge.specs.Merges.{IsMerged}
use Rattle.unanimous_merge.specs.Readings.{Reading, content_under, contents, reading_of, readings}
use Rattle.unanimous_merge.specs.Rows.{held_at}
use Rattle.unanimous_merge.specs.Unanimous.{unanimous_classes}
use Rattle.unanimous_merge.proofs.ItemLemmas.{AreDistinct, test_is}
use Rattle.unanimous_merge.proofs.ListLemmas.{all_append, all_cons, all_filter, all_head, all_map, all_more, all_none, all_tail, filter_map_is, filter_same}
use Rattle.curator_decisions.proofs.BuildLemmas.{filter_short}
use Rattle.curator_decisions.specs.declared.numbering.NumberedEntry.{NumberedEntry}
use Rattle.curator_decisions.specs.Curated.{Numbered, all_new, class_taken, classes_taken, count_of_letter, letter_of_item, new_id, numbered, numbered_behind, rename_in, renamed, taken}
use Rattle.curator_decisions.specs.Decisions.{Decided, is_in, is_in_by, items_in, verdict_on}
use Rattle.curator_decisions.specs.Placing.{AreNames, called, class_at, count_of_entries, is_in_at, letter_of_entry, new_of, numbered_entries, placed_id, rename_by, taken_at}

-- what the annotations of layers are called, by the contents of items
abbrev pub AreRenames : List Numbered → List (List ℕ × Annotations) → List (BTreeMap ℕ (Option AnnId)) → Type 0
AreRenames items [] [] = Unit {0}
AreRenames items [] (names ∷ all) = ⊥
AreRenames items (r ∷ rs) [] = ⊥
AreRenames items (r ∷ rs) (names ∷ all) = ((id : AnnId) → new_of names id ≡ new_id items (content_under (reading_of r.1) id)) × AreRenames items rs all

-- ---- numbering

-- an item by its content, with its ID
abbrev pub numbered_at : List ℕ → NumberedEntry → Numbered
numbered_at table one = record { held = held_at table one.entry; id = one.id }

fold_map : {X Y B : Type 0} (g : B → Y → B) (f : X → Y) (xs : List X) (b : B) → fold g b (map f xs) ≡ fold (λ a x. g a (f x)) b xs
fold_map g f [] b = refl
fold_map g f (x ∷ xs) b = fold_map g f xs (g b (f x))

count_map : (table : List ℕ) (kind : Kind) (es : List Entry) → count_of_letter kind (map (held_at table) es) ≡ count_of_entries kind es
count_map table kind es = fold_map (λ (n : ℕ) (held : Held). n + cond (letter_place (letter_of_item held) == letter_place kind) 1 0) (held_at table) es 0

pub numbered_is : (table : List ℕ) (before es : List Entry) → map (numbered_at table) (numbered_entries before es) ≡ numbered_behind (map (held_at table) before) (map (held_at table) es)
numbered_is table before [] = refl
numbered_is table before (e ∷ es) =
    let one : ℕ → Numbered = λ n. record { held = held_at table e; id = id_at (letter_of_entry e) (n + 1) } in
    let rest : List Numbered = numbered_behind (map (held_at table) before ++ held_at table e ∷ []) (map (held_at table) es) in
    ap (λ ys. one (count_of_entries (letter_of_entry e) before) ∷ ys) (numbered_is table (before ++ e ∷ []) es ∙ ap (λ b. numbered_behind b (map (held_at table) es)) (map-append (held_at table) before (e ∷ [])))
    ∙ ap (λ n. one n ∷ rest) (sym (count_map table (letter_of_entry e) before))

-- each has the letter of its item
pub letters_fit : (before es : List Entry) → All (λ one. one.id.kind ≡ letter_of_entry one.entry) (numbered_entries before es)
letters_fit before [] = all_none (λ (one : NumberedEntry). one.id.kind ≡ letter_of_entry one.entry)
letters_fit before (e ∷ es) =
    all_cons (λ (one : NumberedEntry). one.id.kind ≡ letter_of_entry one.entry) (record { entry = e; id = id_at (letter_of_entry e) (count_of_entries (letter_of_entry e) before + 1) }) (numbered_entries (before ++ e ∷ []) es) refl
    (letters_fit (before ++ e ∷ []) es)

-- each has the place of its item
pub places_fit : (n : ℕ) (before es : List Entry) → All (λ e. e.place < n) es → All (λ p. p.place < n) (map placed_id (numbered_entries before es))
places_fit n before [] all = all_none (λ (p : Placed). p.place < n)
places_fit n before (e ∷ es) all =
    all_cons (λ (p : Placed). p.place < n) (record { id = id_at (letter_of_entry e) (count_of_entries (letter_of_entry e) before + 1); place = e.place }) (map placed_id (numbered_entries (before ++ e ∷ []) es)) (all_head (λ (o : Entry). o.place < n) e es all)
    (places_fit n (before ++ e ∷ []) es (all_tail (λ (o : Entry). o.place < n) e es all))

-- ---- contents are not 0

pub content_none : {I : Type 0} (node : I → Option (Node I)) (f : ℕ) (x : I) → node x ≡ None → content node (suc f) x ≡ 0
unfolding content
content_none node f x e = ap (content_at (content node f)) e

number_some : {I : Type 0} (v : I → ℕ) (s : Node I) → number v s ≡ 0 → ⊥
unfolding number listed
number_some v s e = absurd (omega arith)

content_some : (l : Annotations) (id : AnnId) → IsSome (node_of l id) → content_of l id ≡ 0 → ⊥
content_some l id h e = by (node_of l id) refl h
  where
    by : (o : Option (Node AnnId)) → node_of l id ≡ o → IsSome o → ⊥
    by None f g = absurd (no g)
      where
        no : IsSome {T = Node AnnId} None → ⊥
        no k = cc
    by (Some s) f g = number_some (content (node_of l) 18) s (sym (content_step (node_of l) 18 id s f) ∙ e)

all_in : {X : Type 0} (P : X → Type 0) (xs : List X) → ((x : X) → IsIn x xs → P x) → All P xs
all_in P [] f = all_none P
all_in P (x ∷ xs) f = all_cons P x xs (f x (inl refl)) (all_in P xs (λ y h. f y (inr h)))

abbrev pub IsMade : Held → Type 0
IsMade held = held.content ≡ 0 → ⊥

abbrev MadeEntry : AnnId × ℕ → Type 0
MadeEntry entry = entry.1 ≡ 0 → ⊥

made_layer : (l : Annotations) → IsLayer l → All MadeEntry (contents_of l)
made_layer l keeps = all_map MadeEntry (λ id. (id, content_of l id)) (ids_of l) (all_in (λ id. content_of l id ≡ 0 → ⊥) (ids_of l) (λ id h. content_some l id (ids_have l keeps id h)))

made_held : (h : ℕ) (rows : List (List ℕ × Annotations)) → All (λ (r : List ℕ × Annotations). IsLayer r.1) rows → All IsMade (held_from h (map contents (readings rows)))
made_held h [] all = all_none IsMade
made_held h (r ∷ rs) all =
    all_append IsMade (held_by h (contents_of r.1)) (held_from (suc h) (map contents (readings rs)))
    (all_map IsMade (λ (entry : AnnId × ℕ). let held : Held = record { holder = h; id = entry.0; content = entry.1 } in held) (contents_of r.1) (made_layer r.1 (all_head (λ (x : List ℕ × Annotations). IsLayer x.1) r rs all)))
    (made_held (suc h) rs (all_tail (λ (x : List ℕ × Annotations). IsLayer x.1) r rs all))

made_firsts : (xs : List Held) → All IsMade xs → All IsMade (firsts xs)
made_firsts [] all = all_none IsMade
made_firsts (x ∷ xs) all = all_cons IsMade x _ (all_head IsMade x xs all) (all_filter IsMade _ (firsts xs) (made_firsts xs (all_tail IsMade x xs all)))

none_new : (before hs : List Held) → All IsMade hs → new_id (numbered_behind before hs) 0 ≡ None
none_new before [] all = refl
none_new before (x ∷ xs) all = elim (eqb_tells x.content 0) [
  | inl p ↦ absurd (all_head IsMade x xs all p.1)
  | inr p ↦ ap (λ b. cond b (Some (id_at (letter_of_item x) (count_of_letter (letter_of_item x) before + 1))) (new_id (numbered_behind (before ++ x ∷ []) xs) 0)) p.0 ∙ none_new (before ++ x ∷ []) xs (all_tail IsMade x xs all)
]

pub made_leaders : (rows : List (List ℕ × Annotations)) → All (λ (r : List ℕ × Annotations). IsLayer r.1) rows → All IsMade (leaders (readings rows))
made_leaders rows all = made_firsts (held_from 0 (map contents (readings rows))) (made_held 0 rows all)

-- no item has the content 0
pub no_zero : (rows : List (List ℕ × Annotations)) → All (λ (r : List ℕ × Annotations). IsLayer r.1) rows → (decided : Decided) → new_id (numbered (readings rows) decided) 0 ≡ None
no_zero rows all decided = none_new [] (items_in (readings rows) decided) (all_filter IsMade (is_in (readings rows) decided) (leaders (readings rows)) (made_firsts (held_from 0 (map contents (readings rows))) (made_held 0 rows all)))

-- ---- new IDs

module _ (table : List ℕ) (distinct : AreDistinct table) where
  abbrev v : ℕ → ℕ
  v k = get_or table k 0

  pub new_is : (q : ℕ) → q < length table → (nums : List NumberedEntry) → All (λ p. p.place < length table) (map placed_id nums) → first_at (map placed_id nums) q ≡ new_id (map (numbered_at table) nums) (v q)
  new_is q h [] all = refl
  new_is q h (x ∷ xs) all =
      let here : x.entry.place < length table = all_head (λ (p : Placed). p.place < length table) (placed_id x) (map placed_id xs) all in
      let rest = new_is q h xs (all_tail (λ (p : Placed). p.place < length table) (placed_id x) (map placed_id xs) all) in
      (λ i. cond (sym (test_is table distinct x.entry.place q here h) i) (Some x.id) (rest i))

  module _ (items : List Numbered) (none : new_id items 0 ≡ None) (new : ℕ → Option AnnId) (is : (q : ℕ) → q < length table → new q ≡ new_id items (v q)) where
    -- what an annotation of these is called, or that it is none of them
    which : (k : AnnId → ℕ) (marks : List Placed) (ids : List AnnId) → map {A = Placed} {B = AnnId × ℕ} (λ p. (p.id, v p.place)) marks ≡ map {A = AnnId} {B = AnnId × ℕ} (λ id. (id, k id)) ids → All (λ p. p.place < length table) marks → (id : AnnId)
        → (option_and_then (λ o. o) (called new marks (rank id)) ≡ new_id items (k id)) ⊎ ((called new marks (rank id) ≡ None) × (IsIn id ids → ⊥))
    which k [] [] e all id = inr (refl, λ h. h)
    which k [] (x ∷ xs) e all id = cc
    which k (p ∷ ps) [] e all id = cc
    which k (p ∷ ps) (x ∷ xs) e all id =
        let head : ◌≡◌ {A = AnnId × ℕ} (p.id, v p.place) (x, k x) = cc in
        let tail : map {A = Placed} {B = AnnId × ℕ} (λ q. (q.id, v q.place)) ps ≡ map {A = AnnId} {B = AnnId × ℕ} (λ one. (one, k one)) xs = cc in
        let first : p.id ≡ x = ap (λ (z : AnnId × ℕ). z.0) head in
        let here : p.place < length table = all_head (λ (q : Placed). q.place < length table) p ps all in
        elim (eqb_tells (rank p.id) (rank id)) [
          | inl t ↦
              let same : x ≡ id = sym first ∙ same_rank p.id id t.1 in
              inl (ap (λ b. option_and_then (λ (o : Option AnnId). o) (cond b (Some (new p.place)) (called new ps (rank id)))) t.0 ∙ is p.place here ∙ ap (new_id items) (ap (λ (z : AnnId × ℕ). z.1) head ∙ ap k same))
          | inr t ↦ elim (which k ps xs tail (all_tail (λ (q : Placed). q.place < length table) p ps all) id) [
            | inl w ↦ inl (ap (λ b. option_and_then (λ (o : Option AnnId). o) (cond b (Some (new p.place)) (called new ps (rank id)))) t.0 ∙ w)
            | inr w ↦ inr (ap (λ b. cond b (Some (new p.place)) (called new ps (rank id))) t.0 ∙ w.0, λ h. elim h [ inl same ↦ t.1 (ap rank (first ∙ sym same)) | inr m ↦ w.1 m ])
          ]
        ]

    -- what an annotation of a layer is called
    called_is : (l : Annotations) (marks : List Placed) → contents_at table marks ≡ contents_of l → All (λ p. p.place < length table) marks → (id : AnnId) → option_and_then (λ o. o) (called new marks (rank id)) ≡ new_id items (content_of l id)
    called_is l marks e all id = elim (which (content_of l) marks (ids_of l) e all id) [
      | inl w ↦ w
      | inr w ↦ ap (option_and_then (λ (o : Option AnnId). o)) w.0 ∙ sym (ap (new_id items) (content_none (node_of l) 18 id (no_node (node_of l id) refl w.1)) ∙ none)
    ]
      where
        no_node : (o : Option (Node AnnId)) → node_of l id ≡ o → (IsIn id (ids_of l) → ⊥) → node_of l id ≡ None
        no_node None f out = f
        no_node (Some s) f out = absurd (out (in_ids l id s f))

    -- what the annotations of layers are called
    pub renames_are : (rows : List PlacedLayer) (snapshot : List (List ℕ × Annotations)) (all : List (BTreeMap ℕ (Option AnnId))) → AreNames new rows all → map (λ (row : PlacedLayer). contents_at table row.marks.items) rows ≡ map (λ (r : List ℕ × Annotations). contents_of r.1) snapshot
        → All (λ (row : PlacedLayer). All (λ p. p.place < length table) row.marks.items) rows → AreRenames items snapshot all
    renames_are [] [] [] names e within = tt
    renames_are [] [] (n ∷ ns) names e within = absurd names
    renames_are [] (r ∷ rs) all names e within = cc
    renames_are (row ∷ rows) [] all names e within = cc
    renames_are (row ∷ rows) (r ∷ rs) [] names e within = absurd names
    renames_are (row ∷ rows) (r ∷ rs) (n ∷ ns) names e within =
        let here : contents_at table row.marks.items ≡ contents_of r.1 = cc in
        let rest : map (λ (x : PlacedLayer). contents_at table x.marks.items) rows ≡ map (λ (x : List ℕ × Annotations). contents_of x.1) rs = cc in (
          λ id. ap (option_and_then (λ (o : Option AnnId). o)) (names.0 (rank id)) ∙ called_is r.1 row.marks.items here (all_head (λ (x : PlacedLayer). All (λ p. p.place < length table) x.marks.items) row rows within) id,
          renames_are rows rs ns names.1 rest (all_tail (λ (x : PlacedLayer). All (λ p. p.place < length table) x.marks.items) row rows within),
        )

-- ---- what is taken

filter_map_map : {X Y Z : Type 0} (g : Y → Option Z) (f : X → Y) (xs : List X) → filter_map g (map f xs) ≡ filter_map (λ x. g (f x)) xs
filter_map_map g f [] = refl
filter_map_map g f (x ∷ xs) = ap (cons_option (g (f x))) (filter_map_map g f xs)

taken_same : (items : List Numbered) (snapshot : List (List ℕ × Annotations)) (all : List (BTreeMap ℕ (Option AnnId))) → AreRenames items snapshot all → (h : ℕ) (old id : AnnId)
    → option_and_then (λ (row : List ℕ × Annotations). option_and_then (λ of. option_map {U = AnnId × Mark} (λ mark. (id, renamed (rename_by of) mark)) (mark_at row.1 old)) (slice_get all h)) (slice_get snapshot h)
    ≡ option_and_then (λ (layer : Reading). option_map {U = AnnId × Mark} (λ mark. (id, renamed (rename_in layer items) mark)) (layer.mark old)) (slice_get (readings snapshot) h)
taken_same items [] [] are h old id = refl
taken_same items [] (n ∷ ns) are h old id = absurd are
taken_same items (r ∷ rs) [] are h old id = absurd are
taken_same items (r ∷ rs) (n ∷ ns) are zero old id =
    let same : rename_by n ≡ rename_in (reading_of r.1) items = λ i one. unwrap_or (are.0 one i) one in
    ap (λ (f : AnnId → AnnId). option_map {U = AnnId × Mark} (λ mark. (id, renamed f mark)) (mark_at r.1 old)) same
taken_same items (r ∷ rs) (n ∷ ns) are (suc h) old id = taken_same items rs ns are.1 h old id

class_same : (items : List Numbered) (layer : Reading) (names : BTreeMap ℕ (Option AnnId)) → ((id : AnnId) → new_of names id ≡ new_id items (content_under layer id)) → (classes : List Class) → filter_map (class_at names) classes ≡ filter_map (class_taken layer items) classes
class_same items layer names is classes =
    let made : Class → List AnnId → Class = λ class members. record { kind = class.kind; members = members } in
    let same : new_of names ≡ (λ id. new_id items (content_under layer id)) = λ i id. is id i in
    ap (λ (f : AnnId → Option AnnId). filter_map (λ (class : Class). option_map (made class) (all_new f class.members)) classes) same

pub classes_same : (items : List Numbered) (snapshot : List (List ℕ × Annotations)) (all : List (BTreeMap ℕ (Option AnnId))) → AreRenames items snapshot all → 0 < length snapshot → (names : BTreeMap ℕ (Option AnnId)) → names ≡ get_or all 0 names
    → (classes : List Class) → classes ≡ unanimous_classes (readings snapshot) → filter_map (class_at names) classes ≡ classes_taken (readings snapshot) items
classes_same items [] all are some names at classes is = absurd (omega arith)
classes_same items (r ∷ rs) [] are some names at classes is = absurd are
classes_same items (r ∷ rs) (n ∷ ns) are some names at classes is =
    ap (λ m. filter_map (class_at m) classes) at ∙ class_same items (reading_of r.1) n are.0 classes ∙ ap (filter_map (class_taken (reading_of r.1) items)) is

-- ---- the whole

module _ (snapshot : List (List ℕ × Annotations)) (merged : Merged) (m : IsMerged merged snapshot) (decided : Decided) where
  abbrev flags : List (List Bool)
  flags = map (λ row. row.items) merged.marks.items

  abbrev pub entries : List Entry
  entries = filter (is_in_at flags decided) merged.firsts.items

  abbrev items : List Numbered
  items = numbered (readings snapshot) decided

  in_same : (e : Entry) → e.place < length merged.table → is_in (readings snapshot) decided (held_at merged.table e) ≡ is_in_at flags decided e
  in_same e h = ap (is_in_by (verdict_on e.item decided)) (sym (m.unanimous e.place h))

  in_is : map (held_at merged.table) entries ≡ items_in (readings snapshot) decided
  in_is =
      sym (ap (filter (is_in (readings snapshot) decided)) (sym m.firsts) ∙ filter_map_is (is_in (readings snapshot) decided) (held_at merged.table) merged.firsts.items
      ∙ ap (map (held_at merged.table)) (filter_same (λ (e : Entry). e.place < length merged.table) (λ e. is_in (readings snapshot) decided (held_at merged.table e)) (is_in_at flags decided) in_same merged.firsts.items m.within))

  pub entries_within : All (λ e. e.place < length merged.table) entries
  entries_within = all_filter (λ (e : Entry). e.place < length merged.table) (is_in_at flags decided) merged.firsts.items m.within

  items_are : map (numbered_at merged.table) (numbered_entries [] entries) ≡ items
  items_are = numbered_is merged.table [] entries ∙ ap (numbered_behind []) in_is

  module _ (ids : List (Option AnnId)) (found : (q : ℕ) → get_or ids q None ≡ first_at (map placed_id (numbered_entries [] entries)) q) (all : List (BTreeMap ℕ (Option AnnId))) (names : AreNames (λ at. get_or ids at None) merged.rows.items all) where
    pub renames : AreRenames items snapshot all
    renames =
        renames_are merged.table m.distinct items (no_zero snapshot m.layers decided) (λ at. get_or ids at None)
        (λ q h. found q ∙ new_is merged.table m.distinct q h (numbered_entries [] entries) (places_fit (length merged.table) [] entries entries_within) ∙ ap (λ xs. new_id xs (get_or merged.table q 0)) items_are) merged.rows.items snapshot all names m.rows.marks
        (all_more (λ (row : PlacedLayer). All (λ (p : Placed). p.place < length merged.table) row.marks.items × All (λ place. place < length merged.table) row.classes.items) (λ (row : PlacedLayer). All (λ (p : Placed). p.place < length merged.table) row.marks.items) (λ row h. h.0) merged.rows.items m.rows.within)

    pub marks_are : filter_map (taken_at snapshot all) (numbered_entries [] entries) ≡ filter_map (taken (readings snapshot) items) items
    marks_are =
        let same : taken_at snapshot all ≡ (λ one. taken (readings snapshot) items (numbered_at merged.table one)) = λ i one. taken_same items snapshot all renames one.entry.item.holder one.entry.item.id one.id i in
        ap (λ (f : NumberedEntry → Option (AnnId × Mark)). filter_map f (numbered_entries [] entries)) same ∙ sym (filter_map_map (taken (readings snapshot) items) (numbered_at merged.table) (numbered_entries [] entries)) ∙ ap (filter_map (taken (readings snapshot) items)) items_are

-- ---- what the classes keep

names_long : (new : ℕ → Option AnnId) (rows : List PlacedLayer) (all : List (BTreeMap ℕ (Option AnnId))) → AreNames new rows all → length all ≡ length rows
names_long new [] [] names = refl
names_long new [] (n ∷ ns) names = absurd names
names_long new (r ∷ rs) [] names = absurd names
names_long new (r ∷ rs) (n ∷ ns) names = ap suc (names_long new rs ns names.1)

length_map : {X Y : Type 0} (f : X → Y) (xs : List X) → length (map f xs) ≡ length xs
length_map f [] = refl
length_map f (x ∷ xs) = ap suc (length_map f xs)

pub names_are_layers : (snapshot : List (List ℕ × Annotations)) (merged : Merged) → IsMerged merged snapshot → (new : ℕ → Option AnnId) (all : List (BTreeMap ℕ (Option AnnId))) → AreNames new merged.rows.items all → length all ≡ length snapshot
names_are_layers snapshot merged m new all names =
    names_long new merged.rows.items all names ∙ sym (length_map (λ (row : PlacedLayer). contents_at merged.table row.marks.items) merged.rows.items) ∙ ap length m.rows.marks ∙ length_map (λ (r : List ℕ × Annotations). contents_of r.1) snapshot

abbrev HasMember : Class → Type 0
HasMember class = 0 < length class.members

some_members : (classes : List Class) → AreClasses classes → All HasMember classes
some_members [] are = all_none HasMember
some_members (c ∷ cs) are = all_cons HasMember c cs are.0.some (some_members cs are.2)

pub classes_some : (snapshot : List (List ℕ × Annotations)) → All (λ (r : List ℕ × Annotations). IsLayer r.1) snapshot → All (λ class. 0 < length class.members) (unanimous_classes (readings snapshot))
classes_some [] all = all_none HasMember
classes_some (r ∷ rs) all = all_filter HasMember _ r.1.classes (some_members r.1.classes (all_head (λ (x : List ℕ × Annotations). IsLayer x.1) r rs all).classes.ordered)

pub classes_few : (snapshot : List (List ℕ × Annotations)) → All (λ (r : List ℕ × Annotations). IsLayer r.1) snapshot → length (unanimous_classes (readings snapshot)) ≤ 4294967295
classes_few [] all = omega arith
classes_few (r ∷ rs) all =
    let short : length (unanimous_classes (readings (r ∷ rs))) ≤ length r.1.classes = filter_short _ r.1.classes in
    let few : length r.1.classes ≤ 4294967295 = (all_head (λ (x : List ℕ × Annotations). IsLayer x.1) r rs all).classes.few in
    omega (arith, short, few)

kept_classes : (l : Annotations) (kind : Kind) (n : ℕ) (mark : Mark) → (with_marked l kind n mark).classes ≡ l.classes
kept_classes l letter.Text n (marked.Span x) = refl
kept_classes l letter.Event n (marked.Event x) = refl
kept_classes l letter.Relation n (marked.Relation x) = refl
kept_classes l letter.Attribute n (marked.Attribute x) = refl
kept_classes l letter.Legacy n (marked.Attribute x) = refl
kept_classes l letter.Normal n (marked.Normal x) = refl
kept_classes l letter.Note n (marked.Note x) = refl
kept_classes l kind n mark = refl

pub no_classes : (entries : List (AnnId × Mark)) (l : Annotations) → l.classes ≡ [] → (fold (λ layer entry. with_mark layer entry.0 entry.1) l entries).classes ≡ []
no_classes [] l e = e
no_classes (x ∷ xs) l e = no_classes xs (with_mark l x.0 x.1) (kept_classes l x.0.kind x.0.number x.1 ∙ e)
