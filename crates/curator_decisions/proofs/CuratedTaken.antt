-- The marks of a curated layer in which nothing is lacking are those of the items that are in, under new IDs.
use Rattle.std.proofs.Common.{◌≡◌, ℕ, ◌+◌, ◌≤◌, Bool, true, List, [], map, slice_get, sym, ◌∙◌, ap, subst, inl, inr, Some, None, arith}
use Rattle.std.proofs.lemmas.Option.{same_Some}
use Rattle.std.specs.Option.{option_map, option_and_then}
use Rattle.std.specs.List.{filter_map}
use Rattle.std.specs.FinMap as finite
use Rattle.mark_base.specs.declared.ann_id.AnnId.{AnnId}
use Rattle.mark_base.specs.declared.ann_id.Kind.{Kind}
use Rattle.mark_base.specs.declared.ann_id.Kind.TheVariants as letter
use Rattle.mark_base.specs.declared.arguments.Arg.{Arg}
use Rattle.mark_base.proofs.IdLemmas.{id_at-id, id_of_parts}
use Rattle.layer_model.specs.declared.class.Class.{Class}
use Rattle.layer_model.specs.declared.event.Event.{Event}
use Rattle.layer_model.specs.declared.mark.Mark.{Mark}
use Rattle.layer_model.specs.declared.mark.Mark.TheVariants as marked
use Rattle.layer_model.specs.declared.rule.Rule.{Rule}
use Rattle.layer_model.specs.declared.rule.Rule.TheVariants.{SameEvent, SameRelation, SameSpan}
use Rattle.layer_model.specs.Annotations.{Annotations, no_marks}
use Rattle.layer_model.specs.Classes.{rank}
use Rattle.layer_model.specs.Coherent.{named}
use Rattle.layer_model.specs.Layers.{is_of_kind, mark_at, mark_of, with_classes}
use Rattle.layer_rules.specs.FlawPlaces.{by_place}
use Rattle.layer_rules.specs.LayerRules.{lower_pair, same_events, same_relations, same_spans}
use Rattle.layer_rules.specs.WellFormed.{Never, at_same_event, at_same_relation, at_same_span, no_class}
use Rattle.content_keys.specs.Numbers.{paired}
use Rattle.content_keys.specs.Nodes.{AreAlike, IsIn, Node}
use Rattle.content_keys.specs.LayerContents.{content_of, event_node, link_of, node_of_mark}
use Rattle.content_keys.proofs.BagLemmas.{IsIn-map, found, map-IsIn}
use Rattle.content_keys.proofs.NumberLemmas.{paired_second}
use Rattle.unanimous_merge.specs.Readings.{Reading, reading_of, readings}
use Rattle.curator_decisions.specs.Curated.{Numbered, count_of_letter, curated_letter, rename_in, renamed, renamed_arg, renamed_event, taken}
use Rattle.curator_decisions.specs.DecisionFaults.{missing}
use Rattle.curator_decisions.specs.Decisions.{Decided, items_in}
use Rattle.curator_decisions.proofs.CuratedAlike.{event_like, events_alike, letter_of_mark, relations_alike, spans_alike, target_renamed, type_renamed}
use Rattle.curator_decisions.proofs.CuratedItems.{IsHeld}
use Rattle.curator_decisions.proofs.CuratedMarks.{Apart, Came, built, nothing_there, put_by, put_stands, renamed_fits, stands_fit, with_classes_same}
use Rattle.curator_decisions.proofs.CuratedNames.{Behind, HasNode, IsWhole, Known, alike_content, behind, item_is, item_known, items, items_apart, known_named, named_node, names_of, new, new_item, new_known, new_letter, same_new, told}
use Rattle.curator_decisions.proofs.CuratedPairs.{IsEvent, Twins, event_at, of_event, pairs_never}
use Rattle.curator_decisions.proofs.CuratedParts.{ClassOrigin, IsPart, Origin, Row, Shown, none_some}
use Rattle.curator_decisions.proofs.ListLemmas.{Pairs, given_in, in_given, pairs_given}
use Rattle.curator_decisions.proofs.NumberedLemmas.{ApartNew, letter_kept}

module _ (rows : List Row) (all : (row : Row) → IsIn row rows → IsWhole row) (decided : Decided) (closed : missing (readings rows) decided ≡ None) (few : (kind : Kind) → count_of_letter kind (items_in (readings rows) decided) ≤ 999999999) (classes : List Class) where
  abbrev pub ones : List Numbered
  ones = items rows all decided closed few

  abbrev pub called : Row → AnnId → AnnId
  called = new rows all decided closed few

  abbrev pub In : Row → AnnId → Type 0
  In = Known rows all decided closed few

  abbrev pub entries : List (AnnId × Mark)
  entries = filter_map (taken (readings rows) ones) ones

  abbrev pub layer : Annotations
  layer = with_classes (built no_marks entries) classes

  taken_is : (one : Numbered) → IsIn one ones → (h : IsHeld rows 0 one.held) (mark : Mark) → mark_at h.row.1 one.held.id ≡ Some mark → taken (readings rows) ones one ≡ Some (one.id, renamed (called h.row) mark)
  taken_is one k h mark e =
      let at : slice_get (readings rows) one.held.holder ≡ Some (reading_of h.row.1) = ap (slice_get (readings rows)) (h.holder ∙ (let z : 0 + h.place ≡ h.place = omega arith in z)) ∙ h.at in
      ap (option_and_then (λ (l : Reading). option_map (λ m. (one.id, renamed (rename_in l ones) m)) (l.mark one.held.id))) at ∙ ap (option_map (λ m. (one.id, renamed (called h.row) m))) e

  -- an entry is that of an item
  pub record IsEntry (e : AnnId × Mark) : Type 0 where
    pub one : Numbered
    pub among : IsIn one ones
    pub held : IsHeld rows 0 one.held
    pub node : HasNode held.row.1 one.held.id
    pub same : e ≡ (one.id, renamed (called held.row) node.mark)

  entry_is : (e : AnnId × Mark) (one : Numbered) → IsIn one ones → taken (readings rows) ones one ≡ Some e → IsEntry e
  entry_is e one k t =
      let h : IsHeld rows 0 one.held = (item_is rows all decided closed few one k).held in
      let m : HasNode h.row.1 one.held.id = (item_known rows all decided closed few one k h).node in
      record { one = one; among = k; held = h; node = m; same = same_Some _ _ (sym t ∙ taken_is one k h m.mark m.there) }

  entry_id : (e : AnnId × Mark) (one : Numbered) → IsIn one ones → taken (readings rows) ones one ≡ Some e → e.0 ≡ one.id
  entry_id e one k t =
      let h : IsHeld rows 0 one.held = (item_is rows all decided closed few one k).held in
      let m : HasNode h.row.1 one.held.id = (item_known rows all decided closed few one k h).node in
      let same : e ≡ (one.id, renamed (called h.row) m.mark) = same_Some _ _ (sym t ∙ taken_is one k h m.mark m.there) in
      ap (λ (w : AnnId × Mark). w.0) same

  pub of_entry : (e : AnnId × Mark) → IsIn e entries → IsEntry e
  of_entry e k =
      let r : (one : Numbered) × (IsIn one ones × (taken (readings rows) ones one ≡ Some e)) = in_given (taken (readings rows) ones) ones e k in
      entry_is e r.0 r.1.0 r.1.1

  entries_apart : Pairs Apart entries
  entries_apart = pairs_given ApartNew Apart (taken (readings rows) ones) ones (λ a b y z i j p q apart.
      let ya : y.0 ≡ a.id = entry_id y a i p in
      let zb : z.0 ≡ b.id = entry_id z b j q in
      λ e. apart (ap rank (sym ya) ∙ e ∙ ap rank zb)) (items_apart rows all decided closed few)

  entry_fits : (e : AnnId × Mark) → IsEntry e → is_of_kind e.0.kind e.1 ≡ true
  entry_fits e i =
      let fit : is_of_kind i.one.held.id.kind i.node.mark ≡ true = stands_fit i.held.row.1 i.one.held.id.kind i.one.held.id.number i.node.mark i.node.there in
      let kind : i.one.id.kind ≡ curated_letter i.one.held.id.kind = letter_kept [] (items_in (readings rows) decided) i.one i.among in
      (λ j. is_of_kind (i.same j).0.kind (i.same j).1) ∙ ap (λ k. is_of_kind k (renamed (called i.held.row) i.node.mark)) kind ∙ renamed_fits (called i.held.row) i.one.held.id.kind i.node.mark fit

  stands_in : (e : AnnId × Mark) → IsIn e entries → mark_at layer e.0 ≡ Some e.1
  stands_in e k = with_classes_same (built no_marks entries) classes e.0.kind e.0.number ∙ put_stands entries no_marks entries_apart e k (entry_fits e (of_entry e k))

  -- an item stands in the layer under its ID
  pub stands_one : (one : Numbered) → IsIn one ones → (h : IsHeld rows 0 one.held) (m : HasNode h.row.1 one.held.id) → mark_at layer one.id ≡ Some (renamed (called h.row) m.mark)
  stands_one one k h m = stands_in (one.id, renamed (called h.row) m.mark) (given_in (taken (readings rows) ones) ones one (one.id, renamed (called h.row) m.mark) k (taken_is one k h m.mark m.there))

  pub came : (kind : Kind) (n : ℕ) (mark : Mark) → mark_of layer kind n ≡ Some mark → Came entries kind n
  came kind n mark e = elim (put_by entries no_marks kind n mark (sym (with_classes_same (built no_marks entries) classes kind n) ∙ e)) [
    | inl none ↦ none_some (sym (nothing_there kind n) ∙ none)
    | inr c ↦ c
  ]

  -- what stands in the layer is an entry
  pub entry_at : (id : AnnId) (mark : Mark) → mark_at layer id ≡ Some mark → IsEntry (id, mark)
  entry_at id mark e =
      let c : Came entries id.kind id.number = came id.kind id.number mark e in
      let at : id ≡ c.entry.0 = id_of_parts id c.entry.0.kind c.entry.0.number c.kind_is c.number_is ∙ id_at-id c.entry.0 in
      let there : mark ≡ c.entry.1 = same_Some _ _ (sym e ∙ ap (mark_at layer) at ∙ stands_in c.entry c.among) in
      let same : (id, mark) ≡ c.entry = λ i. (at i, there i) in
      let P : AnnId × Mark → Type 0 = IsEntry in
      subst P (sym same) (of_entry c.entry c.among)

  -- ---- what the layer is of the layers

  pub fits : (kind : Kind) (n : ℕ) (mark : Mark) → mark_of layer kind n ≡ Some mark → n ≤ 999999999
  fits kind n mark e = let c : Came entries kind n = came kind n mark e in let w : c.entry.0.number ≤ 999999999 = c.entry.0.within in let s : n ≡ c.entry.0.number = c.number_is in omega arith

  -- an entry is called as its annotation is
  entry_called : (id : AnnId) (mark : Mark) (i : IsEntry (id, mark)) → id ≡ called i.held.row i.one.held.id
  entry_called id mark i = ap (λ (w : AnnId × Mark). w.0) i.same ∙ sym (new_item rows all decided closed few i.one i.among i.held)

  -- what an entry names is known
  entry_names : (id : AnnId) (mark : Mark) (i : IsEntry (id, mark)) (y : AnnId) → IsIn y (named i.node.mark) → In i.held.row y
  entry_names id mark i y n = known_named rows all decided closed few i.one i.among i.held i.node y (names_of i.node.mark i.node.node i.node.made y n)

  pub origin : (id : AnnId) (mark : Mark) → IsEntry (id, mark) → Origin rows In called id mark
  origin id mark i =
      let k : In i.held.row i.one.held.id = item_known rows all decided closed few i.one i.among i.held in
      record {
        row = i.held.row;
        among = i.held.among;
        old = i.one.held.id;
        within = k;
        was = i.node.mark;
        there = i.node.there;
        id_is = entry_called id mark i;
        mark_is = ap (λ (w : AnnId × Mark). w.1) i.same;
        names = entry_names id mark i;
      }

  -- the annotation that is taken for one that is known
  pub shown_at : (row : Row) (id : AnnId) (k : In row id) (b : Behind rows all decided closed few row id k) → mark_at layer (called row id) ≡ Some (renamed (called b.held.row) b.node.mark)
  shown_at row id k b =
      ap (mark_at layer) (new_known rows all decided closed few row id k)
      ∙ stands_in (k.one.id, renamed (called b.held.row) b.node.mark)
      (given_in (taken (readings rows) ones) ones k.one (k.one.id, renamed (called b.held.row) b.node.mark) k.listed (taken_is k.one k.listed b.held b.node.mark b.node.there))

  pub shown : (row : Row) (id : AnnId) → In row id → Shown layer row id (called row id)
  shown row id k =
      let b : Behind rows all decided closed few row id k = behind rows all decided closed few row id k in
      record {
        mark = k.node.mark;
        there = k.node.there;
        now = renamed (called b.held.row) b.node.mark;
        here = shown_at row id k b;
        type_is = type_renamed (called b.held.row) b.node.mark ∙ sym b.like.type_is;
        target_is = target_renamed (called b.held.row) b.node.mark ∙ sym b.like.target_is;
      }

  pub part : ((index : ℕ) (class : Class) → slice_get layer.classes index ≡ Some class → ClassOrigin rows In called index class) → IsPart rows layer In called
  part of = record {
    fits = fits;
    from = λ id mark e. origin id mark (entry_at id mark e);
    shown = shown;
    letter = new_letter rows all decided closed few;
    classes = of;
  }

  -- ---- events

  -- an event that is known, whose place another one of its content takes
  twins_of : (row : Row) (old : AnnId) (k : In row old) (b : Behind rows all decided closed few row old k) → old.kind ≡ letter.Event → (event now : Event) → finite.get row.1.events old.number ≡ Some event → k.node.mark ≡ marked.Event event → b.node.mark ≡ marked.Event now
      → Twins layer In called row old
  twins_of row old k b kind event now got mine theirs =
      let there : IsEvent layer (called row old).number (renamed (called b.held.row) b.node.mark) =
      event_at layer (called row old).kind (called row old).number (renamed (called b.held.row) b.node.mark) (shown_at row old k b) (new_letter rows all decided closed few row old k ∙ ap curated_letter kind) in
      let same : there.event ≡ renamed_event (called b.held.row) now = of_event there.event (renamed_event (called b.held.row) now) (sym there.is ∙ ap (renamed (called b.held.row)) theirs) in
      let s : k.node.node ≡ event_node event = same_Some _ _ (sym k.node.made ∙ ap node_of_mark mine) in
      let t : b.node.node ≡ event_node now = same_Some _ _ (sym b.node.made ∙ ap node_of_mark theirs) in
      let P : Node AnnId → Type 0 = λ z. AreAlike (content_of row.1) (content_of b.held.row.1) z b.node.node in
      let Q : Node AnnId → Type 0 = AreAlike (content_of row.1) (content_of b.held.row.1) (event_node event) in
      let alike : AreAlike (content_of row.1) (content_of b.held.row.1) (event_node event) (event_node now) = subst Q t (subst P s b.alike) in
      record {
        event = event;
        was = got;
        now = renamed_event (called b.held.row) now;
        is = there.got ∙ ap Some same;
        args = λ arg i.
            let r : (own : Arg) × (IsIn own now.args × (arg ≡ renamed_arg (called b.held.row) own)) = map-IsIn (renamed_arg (called b.held.row)) arg now.args i in
            let link : IsIn (link_of r.0) (map link_of now.args) = IsIn-map link_of r.0 now.args r.1.0 in
            let f : (q : ℕ × AnnId) × (IsIn q (map link_of event.args) × (paired r.0.role (content_of b.held.row.1 r.0.target) ≡ paired q.0 (content_of row.1 q.1))) =
            found (λ (q : ℕ × AnnId). paired q.0 (content_of b.held.row.1 q.1)) (λ (q : ℕ × AnnId). q.0) (λ (q : ℕ × AnnId). paired q.0 (content_of row.1 q.1)) (λ (q : ℕ × AnnId). q.0) (map link_of now.args) (map link_of event.args) (sym alike.bag) (link_of r.0) link in
            let m : (mine : Arg) × (IsIn mine event.args × (f.0 ≡ link_of mine)) = map-IsIn link_of f.0 event.args f.1.0 in
            let content : content_of b.held.row.1 r.0.target ≡ content_of row.1 m.0.target =
            paired_second r.0.role (content_of b.held.row.1 r.0.target) f.0.0 (content_of row.1 f.0.1) f.1.1 ∙ ap (λ (q : ℕ × AnnId). content_of row.1 q.1) m.1.1 in
            let theirs_in : In b.held.row r.0.target =
            known_named rows all decided closed few k.one k.listed b.held b.node r.0.target (names_of b.node.mark b.node.node b.node.made r.0.target (target_of_event b.node.mark now theirs r.0 r.1.0)) in
            let node : HasNode row.1 m.0.target = named_node rows all decided closed few row k.among old k.node m.0.target (names_of k.node.mark k.node.node k.node.made m.0.target (target_of_event k.node.mark event mine m.0 m.1.0)) in
            let mine_in : In row m.0.target = record { among = k.among; node = node; one = theirs_in.one; listed = theirs_in.listed; content = theirs_in.content ∙ content } in
            (m.0, (m.1.0, (mine_in, ap (λ (a : Arg). a.target) r.1.1 ∙ same_new rows all decided closed few b.held.row row r.0.target m.0.target theirs_in mine_in content)));
      }
    where
      target_of_event : (mark : Mark) (e : Event) → mark ≡ marked.Event e → (arg : Arg) → IsIn arg e.args → IsIn arg.target (named mark)
      target_of_event mark e is arg i =
          let R : Mark → Type 0 = λ m. IsIn arg.target (named m) in
          subst R (sym is) (inr (IsIn-map (λ (a : Arg). a.target) arg e.args i))

  pub twins : (row : Row) (old : AnnId) → In row old → old.kind ≡ letter.Event → Twins layer In called row old
  twins row old k kind =
      let b : Behind rows all decided closed few row old k = behind rows all decided closed few row old k in
      let w : IsEvent row.1 old.number k.node.mark = event_at row.1 old.kind old.number k.node.mark k.node.there kind in
      let r : (event : Event) × (b.node.mark ≡ marked.Event event) = event_like b.node.mark (sym (ap letter_of_mark w.is) ∙ b.like.letter) in
      twins_of row old k b kind w.event r.0 w.got w.is r.1

  -- ---- no two annotations are alike

  -- entries whose nodes are alike stand under one ID
  one_entry : (id other : AnnId) (mark m : Mark) (i : IsEntry (id, mark)) (j : IsEntry (other, m)) → AreAlike (content_of i.held.row.1) (content_of j.held.row.1) i.node.node j.node.node → rank other ≡ rank id
  one_entry id other mark m i j alike =
      let k : In i.held.row i.one.held.id = item_known rows all decided closed few i.one i.among i.held in
      let l : In j.held.row j.one.held.id = item_known rows all decided closed few j.one j.among j.held in
      let content : content_of i.held.row.1 i.one.held.id ≡ content_of j.held.row.1 j.one.held.id = alike_content rows all decided closed few i.held.row j.held.row i.held.among j.held.among i.one.held.id j.one.held.id i.node j.node alike in
      let same : called i.held.row i.one.held.id ≡ called j.held.row j.one.held.id = same_new rows all decided closed few i.held.row j.held.row i.one.held.id j.one.held.id k l content in
      ap rank (entry_called other m j ∙ sym same ∙ sym (entry_called id mark i))

  -- a test of two marks that tells alike nodes
  abbrev Tells : (Mark → Mark → Bool) → Type 0
  Tells pairs = (id other : AnnId) (mark m : Mark) (i : IsEntry (id, mark)) (j : IsEntry (other, m)) → pairs (renamed (called i.held.row) i.node.mark) (renamed (called j.held.row) j.node.mark) ≡ true
      → AreAlike (content_of i.held.row.1) (content_of j.held.row.1) i.node.node j.node.node

  never : (pairs : Mark → Mark → Bool) (rule : AnnId → Rule) → Tells pairs → Never (by_place (λ id mark. option_map rule (lower_pair pairs layer id mark)) no_class layer)
  never pairs rule tells = pairs_never layer pairs rule (λ id other mark m e f so.
      let i : IsEntry (id, mark) = entry_at id mark e in
      let j : IsEntry (other, m) = entry_at other m f in
      λ low. let same : rank other ≡ rank id = one_entry id other mark m i j (tells id other mark m i j (sym (λ k. pairs (i.same k).1 (j.same k).1) ∙ so)) in omega arith)

  pub same_spans_never : Never (at_same_span layer)
  same_spans_never = never same_spans SameSpan (λ id other mark m i j so.
      spans_alike (content_of i.held.row.1) (content_of j.held.row.1) (called i.held.row) (called j.held.row) i.node.mark j.node.mark i.node.node j.node.node i.node.made j.node.made so)

  pub same_events_never : Never (at_same_event layer)
  same_events_never = never same_events SameEvent (λ id other mark m i j so.
      events_alike (content_of i.held.row.1) (content_of j.held.row.1) (called i.held.row) (called j.held.row) i.node.mark j.node.mark i.node.node j.node.node i.node.made j.node.made
      (told rows all decided closed few i.held.row j.held.row (named i.node.mark) (named j.node.mark) (entry_names id mark i) (entry_names other m j))
      (λ y n. new_letter rows all decided closed few i.held.row y (entry_names id mark i y n)) (λ y n. new_letter rows all decided closed few j.held.row y (entry_names other m j y n)) so)

  pub same_relations_never : Never (at_same_relation layer)
  same_relations_never = never same_relations SameRelation (λ id other mark m i j so.
      relations_alike (content_of i.held.row.1) (content_of j.held.row.1) (called i.held.row) (called j.held.row) i.node.mark j.node.mark i.node.node j.node.node i.node.made j.node.made
      (told rows all decided closed few i.held.row j.held.row (named i.node.mark) (named j.node.mark) (entry_names id mark i) (entry_names other m j)) so)
