-- In a coherent layer each annotation with a content is built.
use Rattle.std.proofs.Common.{◌≡◌, ℕ, zero, suc, ◌≤◌, Bool, true, false, ◌||◌, List, [], ◌∷◌, map, refl, sym, ap, ◌∙◌, subst, inl, inr, Option, Some, None, IsSome, is_some, option_map, option_and_then, cond}
use Rattle.std.specs.List.{AllByRecursion, list_any}
use Rattle.std.specs.Option.{option_map_or}
use Rattle.std.specs.FinMap as finite
use Rattle.mark_base.specs.declared.ann_id.AnnId.{AnnId}
use Rattle.mark_base.specs.declared.ann_id.Kind.{Kind}
use Rattle.mark_base.specs.declared.ann_id.Kind.TheVariants as letter
use Rattle.mark_base.specs.declared.arguments.Arg.{Arg}
use Rattle.layer_model.specs.declared.event.Event.{Event}
use Rattle.layer_model.specs.declared.relation.Relation.{Relation}
use Rattle.layer_model.specs.declared.attribute.Attribute.{Attribute}
use Rattle.layer_model.specs.declared.normal.Normal.{Normal}
use Rattle.layer_model.specs.declared.note.Note.{Note}
use Rattle.layer_model.specs.declared.mark.Mark.{Mark}
use Rattle.layer_model.specs.declared.mark.Mark.TheVariants as marked
use Rattle.layer_model.specs.Annotations.{Annotations}
use Rattle.layer_model.specs.Coherent.{IsCoherent, AllStand, begins_chain, events_among, is_attributed_letter, is_event_letter, is_span_or_event_letter, named}
use Rattle.layer_model.specs.Layers.{has, mark_of}
use Rattle.content_keys.specs.Nodes.{IsIn, Node}
use Rattle.content_keys.specs.Contents.{IsBuilt}
use Rattle.content_keys.specs.LayerContents.{attribute_node, event_node, link_of, node_of, node_of_mark, normal_node, relation_node, span_node}
use Rattle.content_keys.specs.Places.{AreBuilt}
use Rattle.content_keys.proofs.ContentLemmas.{built_from, built_more}

-- what a test of a list says of one of it
none_passes : (p : ℕ → Bool) (a : ℕ) (ns : List ℕ) → (p a || list_any p ns) ≡ false → (p a ≡ false) × (list_any p ns ≡ false)
none_passes p a ns e =
    elim (p a) as (λ b. (b || list_any p ns) ≡ false → (b ≡ false) × (list_any p ns ≡ false)) [ true ↦ λ g. cc | false ↦ λ g. (refl, g) ] e

-- an argument is of a letter that fits, stands, and passes no test that none of the events passes
pub record IsArgument (l : Annotations) (p : ℕ → Bool) (y : AnnId) : Type 0 where
  pub fits : is_span_or_event_letter y.kind ≡ true
  pub there : has l y ≡ true
  pub short : is_event_letter y.kind ≡ true → p y.number ≡ false

argument : (l : Annotations) (p : ℕ → Bool) (args : List Arg) → AllByRecursion (λ arg. is_span_or_event_letter arg.target.kind ≡ true) args → AllStand l (map (λ arg. arg.target) args)
    → list_any p (events_among args) ≡ false → (r : ℕ) (y : AnnId) → IsIn (r, y) (map link_of args) → IsArgument l p y
argument l p [] fit stand short r y h = absurd h
argument l p (arg ∷ args) fit stand short r y h =
    elim (is_event_letter arg.target.kind) as (λ b. is_event_letter arg.target.kind ≡ b → list_any p (cond b (arg.target.number ∷ events_among args) (events_among args)) ≡ false → IsArgument l p y) [
      | true ↦ λ e g.
          let parts = none_passes p arg.target.number (events_among args) g in
          elim h [
            | inl same ↦ here (ap (λ (z : ℕ × AnnId). z.1) same) (λ _. parts.0)
            | inr k ↦ argument l p args fit.1 stand.1 parts.1 r y k
          ]
      | false ↦ λ e g. elim h [
        | inl same ↦ here (ap (λ (z : ℕ × AnnId). z.1) same) (λ q. cc)
        | inr k ↦ argument l p args fit.1 stand.1 g r y k
      ]
    ] refl short
  where
    here : y ≡ arg.target → (is_event_letter arg.target.kind ≡ true → p arg.target.number ≡ false) → IsArgument l p y
    here same passes = subst (IsArgument l p) (sym same) record { fits = fit.0; there = stand.0; short = passes }

none_some : IsSome {T = Node AnnId} None → ⊥
none_some s = cc

there : {V : Type 0} (wrap : V → Mark) (o : Option V) → IsSome (option_and_then node_of_mark (option_map wrap o)) → is_some o ≡ true
there wrap None h = absurd (none_some h)
there wrap (Some v) h = refl

no_note : (o : Option Note) → IsSome (option_and_then node_of_mark (option_map marked.Note o)) → ⊥
no_note None h = none_some h
no_note (Some note) h = none_some h

stands : {V : Type 0} (o : Option V) → is_some o ≡ true → (v : V) × (o ≡ Some v)
stands None h = cc
stands (Some v) h = (v, refl)

module _ (l : Annotations) (whole : IsCoherent l) where
  abbrev node : AnnId → Option (Node AnnId)
  node = node_of l

  abbrev at : Kind → (n : ℕ) → n ≤ 999999999 → AnnId
  at kind n w = record { kind = kind; number = n; within = w }

  pub span_built : (f n : ℕ) (w : n ≤ 999999999) → finite.contains_key l.spans n ≡ true → IsBuilt node (suc f) (at letter.Text n w)
  span_built f n w h =
      let s = stands (finite.get l.spans n) h in
      built_from node f (at letter.Text n w) (span_node s.0) (ap (λ o. option_and_then node_of_mark (option_map marked.Span o)) s.1) (λ y m. elim m [ inl a ↦ absurd a | inr b ↦ absurd b.1 ])

  -- an event, where the events among its arguments are built
  event_step : (f : ℕ) → ((n : ℕ) (w : n ≤ 999999999) (e : Event) → finite.get l.events n ≡ Some e → begins_chain l (suc f) n ≡ false → IsBuilt node (suc f) (at letter.Event n w))
      → (n : ℕ) (w : n ≤ 999999999) (e : Event) → finite.get l.events n ≡ Some e → begins_chain l (suc (suc f)) n ≡ false → IsBuilt node (suc (suc f)) (at letter.Event n w)
  unfolding begins_chain
  event_step f rest n w e is short =
      built_from node (suc f) (at letter.Event n w) (event_node e) (ap (λ o. option_and_then node_of_mark (option_map marked.Event o)) is) (λ y m. elim m [
        | inl a ↦ elim a [
          | inl same ↦ subst (IsBuilt node (suc f)) (sym same) (span_built f e.trigger e.within names.0)
          | inr b ↦ absurd b
        ]
        | inr b ↦ by y (argument l (begins_chain l (suc f)) e.args letters names.1 none b.0 y b.1)
      ])
    where
      mark : mark_of l letter.Event n ≡ Some (marked.Event e)
      mark = ap (option_map marked.Event) is

      names : AllStand l (named (marked.Event e))
      names = whole.stand.marks letter.Event n (marked.Event e) mark

      letters : AllByRecursion (λ arg. is_span_or_event_letter arg.target.kind ≡ true) e.args
      letters = whole.letters.marks letter.Event n (marked.Event e) mark

      none : list_any (begins_chain l (suc f)) (events_among e.args) ≡ false
      none = sym (ap (λ o. list_any (begins_chain l (suc f)) (option_map_or (λ event. events_among event.args) o [])) is) ∙ short

      by : (y : AnnId) → IsArgument l (begins_chain l (suc f)) y → IsBuilt node (suc f) y
      by y a = cases y.kind y.number y.within a.fits a.there a.short
        where
          cases : (kind : Kind) (m : ℕ) (v : m ≤ 999999999) → is_span_or_event_letter kind ≡ true → has l (at kind m v) ≡ true → (is_event_letter kind ≡ true → begins_chain l (suc f) m ≡ false) → IsBuilt node (suc f) (at kind m v)
          cases letter.Text m v fits there passes = span_built f m v there
          cases letter.Event m v fits there passes = let d = stands (finite.get l.events m) there in rest m v d.0 d.1 (passes refl)
          cases letter.Relation m v fits there passes = cc
          cases letter.Attribute m v fits there passes = cc
          cases letter.Legacy m v fits there passes = cc
          cases letter.Normal m v fits there passes = cc
          cases letter.Note m v fits there passes = cc

  event_built : (f n : ℕ) (w : n ≤ 999999999) (e : Event) → finite.get l.events n ≡ Some e → begins_chain l (suc (suc f)) n ≡ false → IsBuilt node (suc (suc f)) (at letter.Event n w)
  unfolding begins_chain
  event_built zero = event_step zero (λ n w e is none. let there : finite.contains_key l.events n ≡ true = ap is_some is in cc)
  event_built (suc f) = event_step (suc f) (event_built f)

  -- a span or an event
  entity_built : (kind : Kind) (n : ℕ) (w : n ≤ 999999999) → is_span_or_event_letter kind ≡ true → has l (at kind n w) ≡ true → IsBuilt node 17 (at kind n w)
  entity_built letter.Text n w fits there = span_built 16 n w there
  entity_built letter.Event n w fits there = let e = stands (finite.get l.events n) there in event_built 15 n w e.0 e.1 (whole.chains n)
  entity_built letter.Relation n w fits there = cc
  entity_built letter.Attribute n w fits there = cc
  entity_built letter.Legacy n w fits there = cc
  entity_built letter.Normal n w fits there = cc
  entity_built letter.Note n w fits there = cc

  of_entity : (y : AnnId) → is_span_or_event_letter y.kind ≡ true → has l y ≡ true → IsBuilt node 17 y
  of_entity y fits there = entity_built y.kind y.number y.within fits there

  relation_built : (n : ℕ) (w : n ≤ 999999999) (r : Relation) → finite.get l.relations n ≡ Some r → IsBuilt node 18 (at letter.Relation n w)
  relation_built n w r is =
      let mark : mark_of l letter.Relation n ≡ Some (marked.Relation r) = ap (option_map marked.Relation) is in
      let names : AllStand l (named (marked.Relation r)) = whole.stand.marks letter.Relation n (marked.Relation r) mark in
      let letters : (is_span_or_event_letter r.first.kind ≡ true) × (is_span_or_event_letter r.second.kind ≡ true) = whole.letters.marks letter.Relation n (marked.Relation r) mark in
      built_from node 17 (at letter.Relation n w) (relation_node r) (ap (λ o. option_and_then node_of_mark (option_map marked.Relation o)) is) (λ y m. elim m [
        | inl a ↦ elim a [
          | inl same ↦ subst (IsBuilt node 17) (sym same) (of_entity r.first letters.0 names.0)
          | inr b ↦ elim b [
            | inl same ↦ subst (IsBuilt node 17) (sym same) (of_entity r.second letters.1 names.1.0)
            | inr d ↦ absurd d
          ]
        ]
        | inr b ↦ absurd b.1
      ])

  normal_built : (n : ℕ) (w : n ≤ 999999999) (r : Normal) → finite.get l.normals n ≡ Some r → IsBuilt node 18 (at letter.Normal n w)
  normal_built n w r is =
      let mark : mark_of l letter.Normal n ≡ Some (marked.Normal r) = ap (option_map marked.Normal) is in
      let names : AllStand l (named (marked.Normal r)) = whole.stand.marks letter.Normal n (marked.Normal r) mark in
      let letters : is_span_or_event_letter r.target.kind ≡ true = whole.letters.marks letter.Normal n (marked.Normal r) mark in
      built_from node 17 (at letter.Normal n w) (normal_node r) (ap (λ o. option_and_then node_of_mark (option_map marked.Normal o)) is) (λ y m. elim m [
        | inl a ↦ elim a [ inl same ↦ subst (IsBuilt node 17) (sym same) (of_entity r.target letters names.0) | inr b ↦ absurd b ]
        | inr b ↦ absurd b.1
      ])

  -- a span, an event or a relation
  attributed_built : (kind : Kind) (n : ℕ) (w : n ≤ 999999999) → is_attributed_letter kind ≡ true → has l (at kind n w) ≡ true → IsBuilt node 18 (at kind n w)
  attributed_built letter.Text n w fits there = built_more node 17 (at letter.Text n w) (entity_built letter.Text n w refl there)
  attributed_built letter.Event n w fits there = built_more node 17 (at letter.Event n w) (entity_built letter.Event n w refl there)
  attributed_built letter.Relation n w fits there = let r = stands (finite.get l.relations n) there in relation_built n w r.0 r.1
  attributed_built letter.Attribute n w fits there = cc
  attributed_built letter.Legacy n w fits there = cc
  attributed_built letter.Normal n w fits there = cc
  attributed_built letter.Note n w fits there = cc

  attribute_built : (kind : Kind) (n : ℕ) (w : n ≤ 999999999) (r : Attribute) → mark_of l kind n ≡ Some (marked.Attribute r) → IsBuilt node 19 (at kind n w)
  attribute_built kind n w r mark =
      let names : AllStand l (named (marked.Attribute r)) = whole.stand.marks kind n (marked.Attribute r) mark in
      let letters : is_attributed_letter r.target.kind ≡ true = whole.letters.marks kind n (marked.Attribute r) mark in
      built_from node 18 (at kind n w) (attribute_node r) (ap (option_and_then node_of_mark) mark) (λ y m. elim m [
        | inl a ↦ elim a [ inl same ↦ subst (IsBuilt node 18) (sym same) (attributed_built r.target.kind r.target.number r.target.within letters names.0) | inr b ↦ absurd b ]
        | inr b ↦ absurd b.1
      ])

  -- an annotation with a content, by its letter
  letter_built : (kind : Kind) (n : ℕ) (w : n ≤ 999999999) → IsSome (node (at kind n w)) → IsBuilt node 19 (at kind n w)
  letter_built letter.Text n w h = built_more node 18 (at letter.Text n w) (attributed_built letter.Text n w refl (there marked.Span (finite.get l.spans n) h))
  letter_built letter.Event n w h = built_more node 18 (at letter.Event n w) (attributed_built letter.Event n w refl (there marked.Event (finite.get l.events n) h))
  letter_built letter.Relation n w h = built_more node 18 (at letter.Relation n w) (attributed_built letter.Relation n w refl (there marked.Relation (finite.get l.relations n) h))
  letter_built letter.Attribute n w h =
      let r = stands (finite.get l.attributes n) (there marked.Attribute (finite.get l.attributes n) h) in
      attribute_built letter.Attribute n w r.0 (ap (option_map marked.Attribute) r.1)
  letter_built letter.Legacy n w h =
      let r = stands (finite.get l.legacy n) (there marked.Attribute (finite.get l.legacy n) h) in
      attribute_built letter.Legacy n w r.0 (ap (option_map marked.Attribute) r.1)
  letter_built letter.Normal n w h =
      let r = stands (finite.get l.normals n) (there marked.Normal (finite.get l.normals n) h) in
      built_more node 18 (at letter.Normal n w) (normal_built n w r.0 r.1)
  letter_built letter.Note n w h = absurd (no_note (finite.get l.notes n) h)

  pub coherent_built : AreBuilt l
  coherent_built id h = letter_built id.kind id.number id.within h
