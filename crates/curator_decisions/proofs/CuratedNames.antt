-- The new IDs of a curated layer in which nothing is lacking: what an item that is in names has one, and new IDs tell
-- contents.
use Rattle.std.proofs.Common.{◌≡◌, ℕ, zero, suc, ◌+◌, ◌≤◌, ◌⊎◌, ◌==◌, ◌&&◌, eqb-true, eq-eqb, ne_eqb, Bool, true, false, not, cond, List, [], ◌∷◌, ◌++◌, map, slice_get, refl, sym, ◌∙◌, ap, subst, inl, inr, Option, Some, None, IsSome, arith}
use Rattle.std.proofs.lemmas.Option.{same_Some}
use Rattle.std.specs.Option.{option_and_then, option_map_or, unwrap_or}
use Rattle.std.specs.List.{AllByRecursion, find, list_any}
use Rattle.mark_base.specs.declared.ann_id.AnnId.{AnnId}
use Rattle.mark_base.specs.declared.ann_id.Kind.{Kind}
use Rattle.mark_base.specs.declared.ann_id.Kind.TheVariants as letter
use Rattle.mark_base.specs.declared.arguments.Arg.{Arg}
use Rattle.layer_model.specs.declared.mark.Mark.{Mark}
use Rattle.layer_model.specs.declared.mark.Mark.TheVariants as marked
use Rattle.layer_model.specs.Annotations.{Annotations}
use Rattle.layer_model.specs.Classes.{rank}
use Rattle.layer_model.specs.Coherent.{IsCoherent, LettersFitIn, is_attributed_letter, is_span_or_event_letter, named}
use Rattle.layer_model.specs.Layers.{IsLayer, mark_at}
use Rattle.content_keys.specs.Nodes.{AreAlike, IsIn, Names, Node}
use Rattle.content_keys.specs.Contents.{IsBuilt}
use Rattle.content_keys.specs.LayerContents.{content_of, event_node, ids_of, link_of, node_of, node_of_mark}
use Rattle.content_keys.proofs.BagLemmas.{IsIn-left, IsIn-map, IsIn-right, map-IsIn}
use Rattle.content_keys.proofs.BuiltLemmas.{coherent_built}
use Rattle.content_keys.proofs.ContentLemmas.{Parts, parts}
use Rattle.content_keys.proofs.IdLemmas.{ids_have, in_ids}
use Rattle.content_keys.proofs.LawLemmas.{parts_decide}
use Rattle.unanimous_merge.specs.Items.{Held, held_by, held_from, leaders}
use Rattle.unanimous_merge.specs.Readings.{Reading, contents, reading_of, readings}
use Rattle.curator_decisions.specs.Curated.{Numbered, count_of_letter, curated_letter, new_id, numbered, rename_in}
use Rattle.curator_decisions.specs.DecisionFaults.{missing, named_contents, names}
use Rattle.curator_decisions.specs.Decisions.{Decided, is_in, items_in}
use Rattle.curator_decisions.proofs.CuratedAlike.{AreLike, AreTold, alike_like, letter_fits}
use Rattle.curator_decisions.proofs.CuratedItems.{Differ, Earlier, IsHeld, firsts_differ, firsts_have, firsts_keep, held_is, held_rise, in_firsts}
use Rattle.curator_decisions.proofs.CuratedMarks.{stands_fit}
use Rattle.curator_decisions.proofs.CuratedPairs.{is_any}
use Rattle.curator_decisions.proofs.CuratedParts.{Row, any_none, none_found, none_some, not_both}
use Rattle.curator_decisions.proofs.ListLemmas.{Pairs, filter_in, in_filter, pairs_filter, two_of}
use Rattle.curator_decisions.proofs.NumberedLemmas.{ApartNew, letter_kept, numbered_all, numbered_is, numbered_pairs, numbers_apart}

-- ---- marks and what they are made of

pub record HasNode (l : Annotations) (id : AnnId) : Type 0 where
  pub mark : Mark
  pub node : Node AnnId
  pub there : mark_at l id ≡ Some mark
  pub made : node_of_mark mark ≡ Some node

pub has_node : (l : Annotations) (id : AnnId) → IsSome (node_of l id) → HasNode l id
has_node l id h = by (mark_at l id) refl h
  where
    some : (m : Mark) (o : Option (Node AnnId)) → node_of_mark m ≡ o → mark_at l id ≡ Some m → IsSome o → HasNode l id
    some m None made there s = absurd (no s)
      where
        no : IsSome {T = Node AnnId} None → ⊥
        no t = cc
    some m (Some node) made there s = record { mark = m; node = node; there = there; made = made }

    by : (o : Option Mark) → mark_at l id ≡ o → IsSome (option_and_then node_of_mark o) → HasNode l id
    by None e s = absurd (no s)
      where
        no : IsSome {T = Node AnnId} None → ⊥
        no t = cc
    by (Some m) e s = some m (node_of_mark m) refl e s

pub node_is : (l : Annotations) (id : AnnId) (mark : Mark) (node : Node AnnId) → mark_at l id ≡ Some mark → node_of_mark mark ≡ Some node → node_of l id ≡ Some node
node_is l id mark node e m = ap (option_and_then node_of_mark) e ∙ m

pub some_of : {X : Type 0} (o : Option X) (x : X) → o ≡ Some x → IsSome o
some_of {X} o x e = let P : Option X → Type 0 = IsSome in subst P (sym e) refl

target_link : (args : List Arg) (y : AnnId) → IsIn y (map (λ arg. arg.target) args) → (role : ℕ) × IsIn (role, y) (map link_of args)
target_link args y k =
    let r : (arg : Arg) × (IsIn arg args × (y ≡ arg.target)) = map-IsIn (λ (arg : Arg). arg.target) y args k in
    (r.0.role, subst (λ z. IsIn (r.0.role, z) (map link_of args)) (sym r.1.1) (IsIn-map link_of r.0 args r.1.0))

-- what a mark names its node names
pub names_of : (mark : Mark) (s : Node AnnId) → node_of_mark mark ≡ Some s → (y : AnnId) → IsIn y (named mark) → Names y s
names_of (marked.Span span) s e y k = absurd k
names_of (marked.Event event) s e y k =
    let P : Node AnnId → Type 0 = Names y in
    subst P (same_Some _ _ e) (elim k as (λ _. Names y (event_node event)) [
      | inl same ↦ inl (inl same)
      | inr m ↦ let r : (role : ℕ) × IsIn (role, y) (map link_of event.args) = target_link event.args y m in inr r
    ])
names_of (marked.Relation relation) s e y k = let P : Node AnnId → Type 0 = Names y in subst P (same_Some _ _ e) (inl k)
names_of (marked.Attribute attribute) s e y k = let P : Node AnnId → Type 0 = Names y in subst P (same_Some _ _ e) (inl k)
names_of (marked.Normal normal) s e y k = let P : Node AnnId → Type 0 = Names y in subst P (same_Some _ _ e) (inl k)
names_of (marked.Note note) s e y k = none_some e

-- and it is no normalization
abbrev pub IsKnown : AnnId → Type 0
IsKnown y = y.kind ≡ letter.Normal → ⊥

entity_known : (k : Kind) → is_span_or_event_letter k ≡ true → k ≡ letter.Normal → ⊥
entity_known k h e = let f : false ≡ true = sym (ap is_span_or_event_letter e) ∙ h in cc

attributed_known : (k : Kind) → is_attributed_letter k ≡ true → k ≡ letter.Normal → ⊥
attributed_known k h e = let f : false ≡ true = sym (ap is_attributed_letter e) ∙ h in cc

args_known : (args : List Arg) → AllByRecursion (λ arg. is_span_or_event_letter arg.target.kind ≡ true) args → (y : AnnId) → IsIn y (map (λ arg. arg.target) args) → IsKnown y
args_known [] all y k = absurd k
args_known (arg ∷ args) all y k = elim k [
  | inl same ↦ λ e. entity_known arg.target.kind all.0 (sym (ap (λ (x : AnnId). x.kind) same) ∙ e)
  | inr m ↦ args_known args all.1 y m
]

pub names_known : (mark : Mark) (s : Node AnnId) → node_of_mark mark ≡ Some s → LettersFitIn mark → (y : AnnId) → IsIn y (named mark) → IsKnown y
names_known (marked.Span span) s e fit y k = absurd k
names_known (marked.Event event) s e fit y k = elim k [
  | inl same ↦ λ h. let f : letter.Text ≡ letter.Normal = sym (ap (λ (x : AnnId). x.kind) same) ∙ h in entity_known letter.Text refl f
  | inr m ↦ args_known event.args fit y m
]
names_known (marked.Relation relation) s e fit y k = elim k [
  | inl same ↦ λ h. entity_known relation.first.kind fit.0 (sym (ap (λ (x : AnnId). x.kind) same) ∙ h)
  | inr m ↦ elim m [ inl same ↦ λ h. entity_known relation.second.kind fit.1 (sym (ap (λ (x : AnnId). x.kind) same) ∙ h) | inr none ↦ absurd none ]
]
names_known (marked.Attribute attribute) s e fit y k = elim k [ inl same ↦ λ h. attributed_known attribute.target.kind fit (sym (ap (λ (x : AnnId). x.kind) same) ∙ h) | inr none ↦ absurd none ]
names_known (marked.Normal normal) s e fit y k = elim k [ inl same ↦ λ h. entity_known normal.target.kind fit (sym (ap (λ (x : AnnId). x.kind) same) ∙ h) | inr none ↦ absurd none ]
names_known (marked.Note note) s e fit y k = none_some e

-- ---- what is named is built

pub some_node : (l : Annotations) (f : ℕ) (id : AnnId) → IsBuilt (node_of l) f id → IsIn id (ids_of l)
some_node l zero id b = absurd b
some_node l (suc f) id b = let p : Parts (node_of l) f id = parts (node_of l) f id b in in_ids l id p.made p.is

pub named_built : (l : Annotations) → IsCoherent l → (id : AnnId) (s : Node AnnId) → node_of l id ≡ Some s → (y : AnnId) → Names y s → IsBuilt (node_of l) 18 y
named_built l whole id s e y n =
    let p : Parts (node_of l) 18 id = parts (node_of l) 18 id (coherent_built l whole id (some_of (node_of l id) s e)) in
    let P : Node AnnId → Type 0 = Names y in
    p.rest y (subst P (same_Some _ _ (sym e ∙ p.is)) n)

-- a row that is a layer and coherent
abbrev pub IsWhole : List ℕ × Annotations → Type 0
IsWhole row = IsLayer row.1 × IsCoherent row.1

-- ---- new IDs

pub new_found : (xs : List Numbered) → Pairs (λ (a b : Numbered). Differ a.held b.held) xs → (one : Numbered) → IsIn one xs → new_id xs one.held.content ≡ Some one.id
new_found [] h one k = absurd k
new_found (x ∷ xs) h one k = elim k [
  | inl same ↦ ap (λ b. cond b (Some x.id) (new_id xs one.held.content)) (eq-eqb x.held.content one.held.content (ap (λ (z : Numbered). z.held.content) (sym same))) ∙ ap (λ (z : Numbered). Some z.id) (sym same)
  | inr m ↦ ap (λ b. cond b (Some x.id) (new_id xs one.held.content)) (ne_eqb x.held.content one.held.content (λ e. h.0 one m (sym e))) ∙ new_found xs h.1 one m
]

pub found_new : (xs : List Numbered) (content : ℕ) (id : AnnId) → new_id xs content ≡ Some id → (one : Numbered) × (IsIn one xs × ((one.held.content ≡ content) × (one.id ≡ id)))
found_new [] content id e = none_some e
found_new (x ∷ xs) content id e =
    elim (x.held.content == content) as (λ b. (x.held.content == content) ≡ b → cond b (Some x.id) (new_id xs content) ≡ Some id → (one : Numbered) × (((one ≡ x) ⊎ IsIn one xs) × ((one.held.content ≡ content) × (one.id ≡ id)))) [
      | true ↦ λ t g. (x, (inl refl, (eqb-true _ _ t, same_Some _ _ g)))
      | false ↦ λ _ g. let r : (one : Numbered) × (IsIn one xs × ((one.held.content ≡ content) × (one.id ≡ id))) = found_new xs content id g in (r.0, (inr r.1.0, r.1.1))
    ] refl e

-- ---- what is out is not named

-- nothing that is out is named by what is in
abbrev pub Closed : {X : Type 0} → List X → (X → X → Bool) → (X → Bool) → Type 0
Closed all named inner = find (λ other. not (inner other) && list_any (λ one. inner one && named one other) all) all ≡ None

pub named_none : {X : Type 0} (all : List X) (named : X → X → Bool) (inner : X → Bool) → Closed all named inner → (one other : X) → IsIn one all → IsIn other all → inner other ≡ false
    → (inner one && named one other) ≡ false
named_none all named inner closed one other i j out =
    let at : (not (inner other) && list_any (λ z. inner z && named z other) all) ≡ false = none_found (λ o. not (inner o) && list_any (λ z. inner z && named z o) all) all closed other j in
    let any : list_any (λ z. inner z && named z other) all ≡ false = sym (ap (λ b. not b && list_any (λ z. inner z && named z other) all) out) ∙ at in
    any_none (λ z. inner z && named z other) all any one i

-- an annotation of one of the layers is held
held_have : (rows : List Row) (n : ℕ) (row : Row) → IsIn row rows → (y : AnnId) → IsIn y (ids_of row.1) → (o : Held) × (IsIn o (held_from n (map contents (readings rows))) × (o.content ≡ content_of row.1 y))
held_have [] n row k y m = absurd k
held_have (first ∷ rows) n row k y m = elim k [
  | inl same ↦
      let own : Held = record { holder = n; id = y; content = content_of first.1 y } in
      let among : IsIn y (ids_of first.1) = subst (λ (r : Row). IsIn y (ids_of r.1)) same m in
      let here : IsIn own (held_by n (contents (reading_of first.1))) =
      IsIn-map (λ (e : AnnId × ℕ). let z : Held = record { holder = n; id = e.0; content = e.1 } in z) (y, content_of first.1 y) (contents (reading_of first.1)) (IsIn-map (λ (id : AnnId). let z : AnnId × ℕ = (id, content_of first.1 id) in z) y (ids_of first.1) among) in
      (own, (IsIn-left own (held_by n (contents (reading_of first.1))) (held_from (suc n) (map contents (readings rows))) here, ap (λ (r : Row). content_of r.1 y) (sym same)))
  | inr later ↦
      let r : (o : Held) × (IsIn o (held_from (suc n) (map contents (readings rows))) × (o.content ≡ content_of row.1 y)) = held_have rows (suc n) row later y m in
      (r.0, (IsIn-right r.0 (held_by n (contents (reading_of first.1))) (held_from (suc n) (map contents (readings rows))) r.1.0, r.1.1))
]

-- what a node names is among the contents that its annotation names
among_named : (l : Annotations) (id : AnnId) (s : Node AnnId) → node_of l id ≡ Some s → (y : AnnId) → Names y s → IsIn (content_of l y) (named_contents (reading_of l) id)
among_named l id s e y n =
    let P : List ℕ → Type 0 = IsIn (content_of l y) in
    let there : IsIn (content_of l y) (map (content_of l) s.named ++ map (λ link. content_of l link.1) s.bag) =
    elim n [
      | inl k ↦ IsIn-left (content_of l y) (map (content_of l) s.named) (map (λ link. content_of l link.1) s.bag) (IsIn-map (content_of l) y s.named k)
      | inr k ↦ IsIn-right (content_of l y) (map (content_of l) s.named) (map (λ link. content_of l link.1) s.bag) (IsIn-map (λ (link : ℕ × AnnId). content_of l link.1) (k.0, y) s.bag k.1)
    ] in
    subst P (sym (ap (λ o. option_map_or (λ (node : Node AnnId). map (content_of l) node.named ++ map (λ link. content_of l link.1) node.bag) o []) e)) there

module _ (rows : List Row) (all : (row : Row) → IsIn row rows → IsWhole row) (decided : Decided) (closed : missing (readings rows) decided ≡ None) (few : (kind : Kind) → count_of_letter kind (items_in (readings rows) decided) ≤ 999999999) where
  abbrev pub layers : List Reading
  layers = readings rows

  abbrev pub items : List Numbered
  items = numbered layers decided

  abbrev pub new : Row → AnnId → AnnId
  new row = rename_in (reading_of row.1) items

  abbrev every : List Held
  every = held_from 0 (map contents layers)

  -- ---- items that are in

  pub record IsItem (one : Numbered) : Type 0 where
    pub leads : IsIn one.held (leaders layers)
    pub inside : is_in layers decided one.held ≡ true
    pub held : IsHeld rows 0 one.held

  pub item_is : (one : Numbered) → IsIn one items → IsItem one
  item_is one k =
      let r : IsIn one.held (leaders layers) × (is_in layers decided one.held ≡ true) = in_filter (is_in layers decided) (leaders layers) one.held (numbered_is [] (items_in layers decided) one k).among in
      record { leads = r.0; inside = r.1; held = held_is rows 0 one.held (in_firsts every one.held r.0) }

  items_differ : Pairs (λ (a b : Numbered). Differ a.held b.held) items
  items_differ = numbered_pairs Differ [] (items_in layers decided) (pairs_filter Differ (is_in layers decided) (leaders layers) (firsts_differ every))

  pub items_early : Pairs (λ (a b : Numbered). Earlier a.held b.held) items
  items_early = numbered_pairs Earlier [] (items_in layers decided) (pairs_filter Earlier (is_in layers decided) (leaders layers) (firsts_keep Earlier every (held_rise rows 0)))

  pub items_apart : Pairs ApartNew items
  items_apart = numbers_apart (items_in layers decided) few

  -- two items with one ID are one
  one_item : (a b : Numbered) → IsIn a items → IsIn b items → rank a.id ≡ rank b.id → a ≡ b
  one_item a b i j e = elim (two_of ApartNew items items_apart a b i j) [
    | inl same ↦ same
    | inr r ↦ elim r [ inl h ↦ absurd (h e) | inr h ↦ absurd (h (sym e)) ]
  ]

  -- ---- what has a new ID

  -- an annotation of a layer whose content has an item that is in
  pub record Known (row : Row) (id : AnnId) : Type 0 where
    pub among : IsIn row rows
    pub node : HasNode row.1 id
    pub one : Numbered
    pub listed : IsIn one items
    pub content : one.held.content ≡ content_of row.1 id

  pub new_known : (row : Row) (id : AnnId) (k : Known row id) → new row id ≡ k.one.id
  new_known row id k = ap (λ o. unwrap_or o id) (ap (new_id items) (sym k.content) ∙ new_found items items_differ k.one k.listed)

  -- new IDs tell contents
  pub same_content : (row other : Row) (y z : AnnId) → Known row y → Known other z → rank (new row y) ≡ rank (new other z) → content_of row.1 y ≡ content_of other.1 z
  same_content row other y z k l e =
      let ids : rank k.one.id ≡ rank l.one.id = ap rank (sym (new_known row y k)) ∙ e ∙ ap rank (new_known other z l) in
      let same : k.one ≡ l.one = one_item k.one l.one k.listed l.listed ids in
      sym k.content ∙ ap (λ (one : Numbered). one.held.content) same ∙ l.content

  -- and contents new IDs
  pub same_new : (row other : Row) (y z : AnnId) → Known row y → Known other z → content_of row.1 y ≡ content_of other.1 z → new row y ≡ new other z
  same_new row other y z k l e =
      let P : Numbered → Numbered → Type 0 = λ a b. Differ a.held b.held in
      let same : k.one ≡ l.one = elim (two_of P items items_differ k.one l.one k.listed l.listed) [
        | inl s ↦ s
        | inr r ↦ elim r [ inl h ↦ absurd (h (l.content ∙ sym e ∙ sym k.content)) | inr h ↦ absurd (h (k.content ∙ e ∙ sym l.content)) ]
      ] in
      new_known row y k ∙ ap (λ (one : Numbered). one.id) same ∙ sym (new_known other z l)

  pub item_node : (one : Numbered) (h : IsHeld rows 0 one.held) → HasNode h.row.1 one.held.id
  item_node one h = has_node h.row.1 one.held.id (ids_have h.row.1 (all h.row h.among).0 one.held.id h.listed)

  -- an item is known
  pub item_known : (one : Numbered) → IsIn one items → (h : IsHeld rows 0 one.held) → Known h.row one.held.id
  item_known one k h = record { among = h.among; node = item_node one h; one = one; listed = k; content = h.content }

  -- under the new ID of the item
  pub new_item : (one : Numbered) → IsIn one items → (h : IsHeld rows 0 one.held) → new h.row one.held.id ≡ one.id
  new_item one k h = ap (λ o. unwrap_or o one.held.id) (ap (new_id items) (sym h.content) ∙ new_found items items_differ one k)

  -- what an annotation names has a node
  pub named_node : (row : Row) → IsIn row rows → (id : AnnId) (m : HasNode row.1 id) (y : AnnId) → Names y m.node → HasNode row.1 y
  named_node row k id m y n =
      let whole : IsWhole row = all row k in
      let listed : IsIn y (ids_of row.1) = some_node row.1 18 y (named_built row.1 whole.1 id m.node (node_is row.1 id m.mark m.node m.there m.made) y n) in
      has_node row.1 y (ids_have row.1 whole.0 y listed)

  -- what an item that is in names is known
  pub known_named : (one : Numbered) → IsIn one items → (h : IsHeld rows 0 one.held) (m : HasNode h.row.1 one.held.id) (y : AnnId) → Names y m.node → Known h.row y
  known_named one k h m y n =
      let i : IsItem one = item_is one k in
      let there : HasNode h.row.1 y = named_node h.row h.among one.held.id m y n in
      let node : node_of h.row.1 one.held.id ≡ Some m.node = node_is h.row.1 one.held.id m.mark m.node m.there m.made in
      let own : (o : Held) × (IsIn o every × (o.content ≡ content_of h.row.1 y)) = held_have rows 0 h.row h.among y (in_ids h.row.1 y there.node (node_is h.row.1 y there.mark there.node there.there there.made)) in
      let lead : (o : Held) × (IsIn o (leaders layers) × (o.content ≡ own.0.content)) = firsts_have every own.0 own.1.0 in
      let content : lead.0.content ≡ content_of h.row.1 y = lead.1.1 ∙ own.1.1 in
      let at : slice_get layers one.held.holder ≡ Some (reading_of h.row.1) = ap (slice_get layers) (h.holder ∙ (let e : 0 + h.place ≡ h.place = omega arith in e)) ∙ h.at in
      let naming : names layers one.held lead.0 ≡ true =
      ap (λ o. option_map_or (λ (layer : Reading). list_any (λ c. c == lead.0.content) (named_contents layer one.held.id)) o false) at
      ∙ is_any (λ c. c == lead.0.content) (named_contents (reading_of h.row.1) one.held.id) (content_of h.row.1 y) (among_named h.row.1 one.held.id m.node node y n) (eq-eqb _ _ (sym content)) in
      let inner : is_in layers decided lead.0 ≡ true =
      elim (is_in layers decided lead.0) as (λ b. is_in layers decided lead.0 ≡ b → b ≡ true) [
        | true ↦ λ _. refl
        | false ↦ λ out. not_both (is_in layers decided one.held && names layers one.held lead.0) (λ j. i.inside j && naming j) (named_none (leaders layers) (names layers) (is_in layers decided) closed one.held lead.0 i.leads lead.1.0 out)
      ] refl in
      let it : (one : Numbered) × (IsIn one items × (one.held ≡ lead.0)) = numbered_all [] (items_in layers decided) lead.0 (filter_in (is_in layers decided) (leaders layers) lead.0 lead.1.0 inner) in
      record { among = h.among; node = there; one = it.0; listed = it.1.0; content = ap (λ (z : Held). z.content) it.1.1 ∙ content }

  -- ---- the annotation that is taken for one that is known

  pub record Behind (row : Row) (id : AnnId) (k : Known row id) : Type 0 where
    pub held : IsHeld rows 0 k.one.held
    pub node : HasNode held.row.1 k.one.held.id
    pub alike : AreAlike (content_of row.1) (content_of held.row.1) k.node.node node.node
    pub like : AreLike k.node.mark node.mark

  pub behind : (row : Row) (id : AnnId) (k : Known row id) → Behind row id k
  behind row id k =
      let h : IsHeld rows 0 k.one.held = (item_is k.one k.listed).held in
      let m : HasNode h.row.1 k.one.held.id = item_node k.one h in
      let alike : AreAlike (content_of row.1) (content_of h.row.1) k.node.node m.node =
      (parts_decide row.1 h.row.1 (coherent_built row.1 (all row k.among).1) (coherent_built h.row.1 (all h.row h.among).1) id k.one.held.id k.node.node m.node
      (node_is row.1 id k.node.mark k.node.node k.node.there k.node.made) (node_is h.row.1 k.one.held.id m.mark m.node m.there m.made)).0 (sym k.content ∙ h.content) in
      record { held = h; node = m; alike = alike; like = alike_like k.node.mark m.mark k.node.node m.node k.node.made m.made alike.own }

  -- alike annotations have one content
  pub alike_content : (row other : Row) → IsIn row rows → IsIn other rows → (y z : AnnId) (m : HasNode row.1 y) (n : HasNode other.1 z) → AreAlike (content_of row.1) (content_of other.1) m.node n.node → content_of row.1 y ≡ content_of other.1 z
  alike_content row other i j y z m n alike =
      (parts_decide row.1 other.1 (coherent_built row.1 (all row i).1) (coherent_built other.1 (all other j).1) y z m.node n.node
      (node_is row.1 y m.mark m.node m.there m.made) (node_is other.1 z n.mark n.node n.there n.made)).1 alike

  -- a new ID has the letter of the old one
  pub new_letter : (row : Row) (id : AnnId) → Known row id → (new row id).kind ≡ curated_letter id.kind
  new_letter row id k =
      let b : Behind row id k = behind row id k in
      let there : mark_at b.held.row.1 k.one.held.id ≡ Some b.node.mark = b.node.there in
      ap (λ (x : AnnId). x.kind) (new_known row id k) ∙ letter_kept [] (items_in layers decided) k.one k.listed
      ∙ letter_fits k.one.held.id.kind b.node.mark (stands_fit b.held.row.1 k.one.held.id.kind k.one.held.id.number b.node.mark there)
      ∙ sym b.like.letter ∙ sym (letter_fits id.kind k.node.mark (stands_fit row.1 id.kind id.number k.node.mark k.node.there))

  -- what two known annotations name is told by the new IDs
  pub told : (row other : Row) (a b : List AnnId) → ((y : AnnId) → IsIn y a → Known row y) → ((y : AnnId) → IsIn y b → Known other y) → AreTold (content_of row.1) (content_of other.1) (new row) (new other) a b
  told row other a b i j = record {
    across = λ y z p q e. same_content row other y z (i y p) (j z q) e;
    within = λ y z p q e. same_content other other y z (j y p) (j z q) e;
  }
