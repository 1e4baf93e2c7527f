-- In a coherent layer no two annotations have the same content, but for normalizations.
use Rattle.std.proofs.Common.{◌≡◌, ℕ, zero, suc, ◌+◌, ◌*◌, ◌≤◌, ◌⊎◌, Bool, true, cond, List, [], ◌∷◌, map, refl, sym, ap, ◌∙◌, subst, inl, inr, Option, Some, None, IsSome, option_map, option_and_then}
use Rattle.std.proofs.lemmas.Option.{same_Some}
use Rattle.std.proofs.lemmas.List.Sums.{sum_by-cons}
use Rattle.std.specs.List.{AllByRecursion, count_by}
use Rattle.std.specs.FinMap as finite
use Rattle.mark_base.specs.declared.ann_id.AnnId.{AnnId}
use Rattle.mark_base.specs.declared.ann_id.Kind.{Kind}
use Rattle.mark_base.specs.declared.ann_id.Kind.TheVariants as letter
use Rattle.mark_base.specs.declared.arguments.Arg.{Arg}
use Rattle.mark_base.specs.declared.fragments.Frag.{Frag}
use Rattle.layer_model.specs.declared.event.Event.{Event}
use Rattle.layer_model.specs.declared.attribute.Attribute.{Attribute}
use Rattle.layer_model.specs.declared.note.Note.{Note}
use Rattle.layer_model.specs.declared.mark.Mark.{Mark}
use Rattle.layer_model.specs.declared.mark.Mark.TheVariants as marked
use Rattle.layer_model.specs.Annotations.{Annotations}
use Rattle.layer_model.specs.Classes.{letter_place, rank}
use Rattle.layer_model.specs.Coherent.{IsCoherent, is_attributed_letter, is_span_or_event_letter, trigger_id}
use Rattle.layer_model.specs.Layers.{attribute_of, mark_of}
use Rattle.content_keys.specs.Numbers.{paired, sorted}
use Rattle.content_keys.specs.Nodes.{AreAlike, IsIn, Names, Node}
use Rattle.content_keys.specs.Contents.{IsBuilt}
use Rattle.content_keys.specs.LayerContents.{attribute_node, content_of, ends_of, event_node, link_of, node_of, node_of_mark, normal_node, relation_node, span_node}
use Rattle.content_keys.proofs.BagLemmas.{bags_carry}
use Rattle.content_keys.proofs.BuiltLemmas.{coherent_built}
use Rattle.content_keys.proofs.ContentLemmas.{Parts, parts}
use Rattle.content_keys.proofs.CountLemmas.{bags_counted, test}
use Rattle.content_keys.proofs.IdLemmas.{same_rank}
use Rattle.content_keys.proofs.LawLemmas.{parts_decide}
use Rattle.content_keys.proofs.NumberLemmas.{paired_first, paired_second}

-- ---- what a node tells of its letter

-- the sort of annotation that a letter stands for: attributes have two
abbrev sort_of : Kind → ℕ
sort_of letter.Text = 0
sort_of letter.Event = 1
sort_of letter.Relation = 2
sort_of letter.Attribute = 3
sort_of letter.Legacy = 3
sort_of letter.Normal = 4
sort_of letter.Note = 5

abbrev first_of : List ℕ → ℕ
first_of [] = 9
first_of (n ∷ ns) = n

abbrev rest_of : List ℕ → List ℕ
rest_of [] = []
rest_of (n ∷ ns) = ns

-- what stands under an ID
record Stands {V : Type 0} (node : V → Node AnnId) (o : Option V) (s : Node AnnId) : Type 0 where
  mark : V
  is : o ≡ Some mark
  made : s ≡ node mark

stands : {V : Type 0} (wrap : V → Mark) (node : V → Node AnnId) → ((v : V) → node_of_mark (wrap v) ≡ Some (node v)) → (o : Option V) (s : Node AnnId)
    → option_and_then node_of_mark (option_map wrap o) ≡ Some s → Stands node o s
stands wrap node made None s e = cc
stands wrap node made (Some v) s e = record { mark = v; is = refl; made = same_Some _ _ (sym e ∙ made v) }

no_note : (o : Option Note) (s : Node AnnId) → option_and_then node_of_mark (option_map marked.Note o) ≡ Some s → ⊥
no_note None s e = cc
no_note (Some note) s e = cc

module _ (l : Annotations) where
  abbrev at_kind : Kind → ℕ → Option (Node AnnId)
  at_kind kind n = option_and_then node_of_mark (mark_of l kind n)

  span_under : (n : ℕ) (s : Node AnnId) → at_kind letter.Text n ≡ Some s → Stands span_node (finite.get l.spans n) s
  span_under n s e = stands marked.Span span_node (λ v. refl) (finite.get l.spans n) s e

  event_under : (n : ℕ) (s : Node AnnId) → at_kind letter.Event n ≡ Some s → Stands event_node (finite.get l.events n) s
  event_under n s e = stands marked.Event event_node (λ v. refl) (finite.get l.events n) s e

  relation_under : (n : ℕ) (s : Node AnnId) → at_kind letter.Relation n ≡ Some s → Stands relation_node (finite.get l.relations n) s
  relation_under n s e = stands marked.Relation relation_node (λ v. refl) (finite.get l.relations n) s e

  attribute_under : (n : ℕ) (s : Node AnnId) → at_kind letter.Attribute n ≡ Some s → Stands attribute_node (finite.get l.attributes n) s
  attribute_under n s e = stands marked.Attribute attribute_node (λ v. refl) (finite.get l.attributes n) s e

  legacy_under : (n : ℕ) (s : Node AnnId) → at_kind letter.Legacy n ≡ Some s → Stands attribute_node (finite.get l.legacy n) s
  legacy_under n s e = stands marked.Attribute attribute_node (λ v. refl) (finite.get l.legacy n) s e

  normal_under : (n : ℕ) (s : Node AnnId) → at_kind letter.Normal n ≡ Some s → Stands normal_node (finite.get l.normals n) s
  normal_under n s e = stands marked.Normal normal_node (λ v. refl) (finite.get l.normals n) s e

  -- the first number of a node is the sort of its letter
  sort_told : (kind : Kind) (n : ℕ) (s : Node AnnId) → at_kind kind n ≡ Some s → first_of s.own ≡ sort_of kind
  sort_told letter.Text n s e = ap (λ (u : Node AnnId). first_of u.own) (span_under n s e).made
  sort_told letter.Event n s e = ap (λ (u : Node AnnId). first_of u.own) (event_under n s e).made
  sort_told letter.Relation n s e = ap (λ (u : Node AnnId). first_of u.own) (relation_under n s e).made
  sort_told letter.Attribute n s e = ap (λ (u : Node AnnId). first_of u.own) (attribute_under n s e).made
  sort_told letter.Legacy n s e = ap (λ (u : Node AnnId). first_of u.own) (legacy_under n s e).made
  sort_told letter.Normal n s e = ap (λ (u : Node AnnId). first_of u.own) (normal_under n s e).made
  sort_told letter.Note n s e = absurd (no_note (finite.get l.notes n) s e)

-- fragments are known by their ends
same_ends : (a b : List Frag) → ends_of a ≡ ends_of b → a ≡ b
same_ends [] [] e = refl
same_ends [] (g ∷ gs) e = cc
same_ends (f ∷ fs) [] e = cc
same_ends (f ∷ fs) (g ∷ gs) e =
    let start : f.start ≡ g.start = cc in
    let end : f.end ≡ g.end = cc in
    let rest : fs ≡ gs = same_ends fs gs cc in
    λ i. record { start = start i; end = end i } ∷ rest i

-- a count over mapped values
count_map : {X Y : Type 0} (f : X → Y) (p : Y → Bool) (xs : List X) → count_by p (map f xs) ≡ count_by (λ x. p (f x)) xs
count_map f p [] = refl
count_map f p (x ∷ xs) = sum_by-cons (λ y. cond (p y) 1 0) (f x) (map f xs) ∙ ap (λ n. cond (p (f x)) 1 0 + n) (count_map f p xs) ∙ sym (sum_by-cons (λ y. cond (p (f y)) 1 0) x xs)

-- an argument is of a letter that fits
fits : (args : List Arg) → AllByRecursion (λ arg. is_span_or_event_letter arg.target.kind ≡ true) args → (r : ℕ) (y : AnnId) → IsIn (r, y) (map link_of args) → is_span_or_event_letter y.kind ≡ true
fits [] all r y h = absurd h
fits (arg ∷ args) all r y h = elim h [
  | inl same ↦ ap (λ (z : ℕ × AnnId). is_span_or_event_letter z.1.kind) same ∙ all.0
  | inr k ↦ fits args all.1 r y k
]

module _ (l : Annotations) (whole : IsCoherent l) where
  abbrev c : AnnId → ℕ
  c = content_of l

  abbrev node : AnnId → Option (Node AnnId)
  node = node_of l

  abbrev at : Kind → (n : ℕ) → n ≤ 999999999 → AnnId
  at kind n w = record { kind = kind; number = n; within = w }

  made_alike : (x y : AnnId) (s t : Node AnnId) → node x ≡ Some s → node y ≡ Some t → c x ≡ c y → AreAlike c c s t
  made_alike x y s t p q e = (parts_decide l l (coherent_built l whole) (coherent_built l whole) x y s t p q).0 e

  as_made : (s t u v : Node AnnId) → s ≡ u → t ≡ v → AreAlike c c s t → AreAlike c c u v
  as_made s t u v p q a =
      let P : Node AnnId → Type 0 = λ z. AreAlike c c z t in
      let Q : Node AnnId → Type 0 = AreAlike c c u in
      subst Q q (subst P p a)

  same_sort : (k j : Kind) (m n : ℕ) (s t : Node AnnId) → at_kind l k m ≡ Some s → at_kind l j n ≡ Some t → AreAlike c c s t → sort_of k ≡ sort_of j
  same_sort k j m n s t p q a = sym (sort_told l k m s p) ∙ ap first_of a.own ∙ sort_told l j n t q

  same_id : (k j : Kind) (m n : ℕ) (w : m ≤ 999999999) (v : n ≤ 999999999) → k ≡ j → m ≡ n → at k m w ≡ at j n v
  same_id k j m n w v p q = same_rank (at k m w) (at j n v) (λ i. letter_place (p i) * 1000000000 + q i)

  spans_one : (m n : ℕ) (s t : Node AnnId) → at_kind l letter.Text m ≡ Some s → at_kind l letter.Text n ≡ Some t → AreAlike c c s t → m ≡ n
  spans_one m n s t p q a =
      let x : Stands span_node (finite.get l.spans m) s = span_under l m s p in
      let y : Stands span_node (finite.get l.spans n) t = span_under l n t q in
      let b : AreAlike c c (span_node x.mark) (span_node y.mark) = as_made s t (span_node x.mark) (span_node y.mark) x.made y.made a in
      whole.spans m n x.mark y.mark x.is y.is record {
        kind = ap (λ ns. first_of (rest_of ns)) b.own;
        frags = same_ends x.mark.frags y.mark.frags (ap (λ ns. rest_of (rest_of ns)) b.own);
      }

  -- what is named by one or by the other
  abbrev Either : Node AnnId → Node AnnId → AnnId → Type 0
  Either s t y = Names y s ⊎ Names y t

  events_one : (m n : ℕ) (a b : Event) → finite.get l.events m ≡ Some a → finite.get l.events n ≡ Some b → AreAlike c c (event_node a) (event_node b)
      → ((y z : AnnId) → Either (event_node a) (event_node b) y → Either (event_node a) (event_node b) z → c y ≡ c z → y ≡ z) → m ≡ n
  events_one m n a b p q same known =
      let code : ℕ × AnnId → ℕ = λ z. paired z.0 (c z.1) in
      let ranks : ℕ × AnnId → ℕ = λ z. paired z.0 (rank z.1) in
      let xs : List (ℕ × AnnId) = map link_of a.args in
      let ys : List (ℕ × AnnId) = map link_of b.args in
      let trigger : trigger_id a ≡ trigger_id b = known (trigger_id a) (trigger_id b) (inl (inl (inl refl))) (inr (inl (inl refl))) (ap first_of same.named) in
      let pair : (u v : ℕ × AnnId) → Either (event_node a) (event_node b) u.1 → Either (event_node a) (event_node b) v.1 → code u ≡ code v → ranks u ≡ ranks v =
      λ u v hu hv e.
      let roles : u.0 ≡ v.0 = paired_first u.0 (c u.1) v.0 (c v.1) e in
      let targets : u.1 ≡ v.1 = known u.1 v.1 hu hv (paired_second u.0 (c u.1) v.0 (c v.1) e) in
      λ i. paired (roles i) (rank (targets i)) in
      let bags : sorted (map ranks xs) ≡ sorted (map ranks ys) =
      bags_carry code ranks code ranks xs ys same.bag
      (λ u v hu hv e. pair u v (inl (inr (u.0, hu))) (inr (inr (v.0, hv))) e)
      (λ u v hu hv e. pair u v (inr (inr (u.0, hu))) (inr (inr (v.0, hv))) e) in
      whole.events m n a b p q record {
        kind = ap (λ ns. first_of (rest_of ns)) same.own;
        trigger = ap (λ (id : AnnId). id.number) trigger;
        args = λ role place. sym (count_map link_of (test rank role place) a.args) ∙ (bags_counted rank rank xs ys).0 bags role place ∙ count_map link_of (test rank role place) b.args;
      }

  letters_of_event : (n : ℕ) (e : Event) → finite.get l.events n ≡ Some e → (y : AnnId) → Names y (event_node e) → is_span_or_event_letter y.kind ≡ true
  letters_of_event n e is y h =
      let letters : AllByRecursion (λ arg. is_span_or_event_letter arg.target.kind ≡ true) e.args = whole.letters.marks letter.Event n (marked.Event e) (ap (option_map marked.Event) is) in
      elim h [
        | inl k ↦ elim k [ inl same ↦ ap (λ (id : AnnId). is_span_or_event_letter id.kind) same | inr none ↦ absurd none ]
        | inr k ↦ fits e.args letters k.0 y k.1
      ]

  -- spans and events that are built to a depth are known by their contents
  abbrev AreOne : ℕ → Type 0
  AreOne f = (y z : AnnId) → IsBuilt node f y → IsBuilt node f z → is_span_or_event_letter y.kind ≡ true → is_span_or_event_letter z.kind ≡ true → c y ≡ c z → y ≡ z

  entity_step : (f : ℕ) → AreOne f → (k j : Kind) (m n : ℕ) (w : m ≤ 999999999) (v : n ≤ 999999999) → IsBuilt node (suc f) (at k m w) → IsBuilt node (suc f) (at j n v)
      → is_span_or_event_letter k ≡ true → is_span_or_event_letter j ≡ true → c (at k m w) ≡ c (at j n v) → at k m w ≡ at j n v
  entity_step f rest k j m n w v b d fk fj e =
      let p : Parts node f (at k m w) = parts node f (at k m w) b in
      let q : Parts node f (at j n v) = parts node f (at j n v) d in
      let a : AreAlike c c p.made q.made = made_alike (at k m w) (at j n v) p.made q.made p.is q.is e in
      go k j p.made q.made p.is q.is p.rest q.rest fk fj a (same_sort k j m n p.made q.made p.is q.is a)
    where
      known : (a b : Event) → finite.get l.events m ≡ Some a → finite.get l.events n ≡ Some b → ((y : AnnId) → Names y (event_node a) → IsBuilt node f y) → ((y : AnnId) → Names y (event_node b) → IsBuilt node f y)
          → (y z : AnnId) → Either (event_node a) (event_node b) y → Either (event_node a) (event_node b) z → c y ≡ c z → y ≡ z
      known a b p q ra rb y z hy hz e =
          rest y z (built y hy) (built z hz) (lettered y hy) (lettered z hz) e
        where
          built : (u : AnnId) → Either (event_node a) (event_node b) u → IsBuilt node f u
          built u h = elim h [ inl g ↦ ra u g | inr g ↦ rb u g ]

          lettered : (u : AnnId) → Either (event_node a) (event_node b) u → is_span_or_event_letter u.kind ≡ true
          lettered u h = elim h [ inl g ↦ letters_of_event m a p u g | inr g ↦ letters_of_event n b q u g ]

      go : (k j : Kind) (s t : Node AnnId) → at_kind l k m ≡ Some s → at_kind l j n ≡ Some t → ((y : AnnId) → Names y s → IsBuilt node f y) → ((y : AnnId) → Names y t → IsBuilt node f y)
          → is_span_or_event_letter k ≡ true → is_span_or_event_letter j ≡ true → AreAlike c c s t → sort_of k ≡ sort_of j → at k m w ≡ at j n v
      go letter.Text letter.Text s t p q rs rt fk fj a e = same_id letter.Text letter.Text m n w v refl (spans_one m n s t p q a)
      go letter.Text letter.Event s t p q rs rt fk fj a e = cc
      go letter.Event letter.Text s t p q rs rt fk fj a e = cc
      go letter.Event letter.Event s t p q rs rt fk fj a e =
          let x : Stands event_node (finite.get l.events m) s = event_under l m s p in
          let y : Stands event_node (finite.get l.events n) t = event_under l n t q in
          let B : Node AnnId → Type 0 = λ u. (z : AnnId) → Names z u → IsBuilt node f z in
          same_id letter.Event letter.Event m n w v refl
          (events_one m n x.mark y.mark x.is y.is (as_made s t (event_node x.mark) (event_node y.mark) x.made y.made a) (known x.mark y.mark x.is y.is (subst B x.made rs) (subst B y.made rt)))
      go letter.Text j s t p q rs rt fk fj a e = cc
      go letter.Event j s t p q rs rt fk fj a e = cc
      go k j s t p q rs rt fk fj a e = cc

  of_entities : (f : ℕ) → AreOne f
  of_entities zero x y b d fx fy e = absurd b
  of_entities (suc f) x y b d fx fy e = entity_step f (of_entities f) x.kind y.kind x.number y.number x.within y.within b d fx fy e

  relations_one : (f m n : ℕ) (s t : Node AnnId) → at_kind l letter.Relation m ≡ Some s → at_kind l letter.Relation n ≡ Some t → ((y : AnnId) → Names y s → IsBuilt node f y) → ((y : AnnId) → Names y t → IsBuilt node f y) → AreAlike c c s t → m ≡ n
  relations_one f m n s t p q rs rt a =
      let x : Stands relation_node (finite.get l.relations m) s = relation_under l m s p in
      let y : Stands relation_node (finite.get l.relations n) t = relation_under l n t q in
      let b : AreAlike c c (relation_node x.mark) (relation_node y.mark) = as_made s t (relation_node x.mark) (relation_node y.mark) x.made y.made a in
      let B : Node AnnId → Type 0 = λ u. (z : AnnId) → Names z u → IsBuilt node f z in
      let bs : (z : AnnId) → Names z (relation_node x.mark) → IsBuilt node f z = subst B x.made rs in
      let bt : (z : AnnId) → Names z (relation_node y.mark) → IsBuilt node f z = subst B y.made rt in
      let lx : (is_span_or_event_letter x.mark.first.kind ≡ true) × (is_span_or_event_letter x.mark.second.kind ≡ true) = whole.letters.marks letter.Relation m (marked.Relation x.mark) (ap (option_map marked.Relation) x.is) in
      let ly : (is_span_or_event_letter y.mark.first.kind ≡ true) × (is_span_or_event_letter y.mark.second.kind ≡ true) = whole.letters.marks letter.Relation n (marked.Relation y.mark) (ap (option_map marked.Relation) y.is) in
      whole.relations m n x.mark y.mark x.is y.is record {
        kind = ap (λ ns. first_of (rest_of ns)) b.own;
        first = ap rank (of_entities f x.mark.first y.mark.first (bs x.mark.first (inl (inl refl))) (bt y.mark.first (inl (inl refl))) lx.0 ly.0 (ap first_of b.named));
        second = ap rank (of_entities f x.mark.second y.mark.second (bs x.mark.second (inl (inr (inl refl)))) (bt y.mark.second (inl (inr (inl refl)))) lx.1 ly.1 (ap (λ ns. first_of (rest_of ns)) b.named));
      }

  -- spans, events and relations
  attributed_one : (f : ℕ) (k j : Kind) (m n : ℕ) (w : m ≤ 999999999) (v : n ≤ 999999999) → IsBuilt node f (at k m w) → IsBuilt node f (at j n v)
      → is_attributed_letter k ≡ true → c (at k m w) ≡ c (at j n v) → at k m w ≡ at j n v
  attributed_one zero k j m n w v b d fk e = absurd b
  attributed_one (suc f) k j m n w v b d fk e =
      let p : Parts node f (at k m w) = parts node f (at k m w) b in
      let q : Parts node f (at j n v) = parts node f (at j n v) d in
      let a : AreAlike c c p.made q.made = made_alike (at k m w) (at j n v) p.made q.made p.is q.is e in
      go k j b d p.made q.made p.is q.is p.rest q.rest fk a (same_sort k j m n p.made q.made p.is q.is a) e
    where
      go : (k j : Kind) → IsBuilt node (suc f) (at k m w) → IsBuilt node (suc f) (at j n v) → (s t : Node AnnId) → at_kind l k m ≡ Some s → at_kind l j n ≡ Some t
          → ((y : AnnId) → Names y s → IsBuilt node f y) → ((y : AnnId) → Names y t → IsBuilt node f y)
          → is_attributed_letter k ≡ true → AreAlike c c s t → sort_of k ≡ sort_of j → c (at k m w) ≡ c (at j n v) → at k m w ≡ at j n v
      go letter.Text letter.Text b d s t p q rs rt fk a e g = same_id letter.Text letter.Text m n w v refl (spans_one m n s t p q a)
      go letter.Event letter.Event b d s t p q rs rt fk a e g = of_entities (suc f) (at letter.Event m w) (at letter.Event n v) b d refl refl g
      go letter.Relation letter.Relation b d s t p q rs rt fk a e g = same_id letter.Relation letter.Relation m n w v refl (relations_one f m n s t p q rs rt a)
      go letter.Text j b d s t p q rs rt fk a e g = cc
      go letter.Event j b d s t p q rs rt fk a e g = cc
      go letter.Relation j b d s t p q rs rt fk a e g = cc
      go k j b d s t p q rs rt fk a e g = cc

  attributes_one : (f : ℕ) (k j : Kind) (m n : ℕ) (a b : Attribute) → attribute_of l k m ≡ Some a → attribute_of l j n ≡ Some b → mark_of l k m ≡ Some (marked.Attribute a)
      → ((y : AnnId) → Names y (attribute_node a) → IsBuilt node f y) → ((y : AnnId) → Names y (attribute_node b) → IsBuilt node f y) → AreAlike c c (attribute_node a) (attribute_node b) → (k ≡ j) × (m ≡ n)
  attributes_one f k j m n a b p q mark ra rb same =
      let fits : is_attributed_letter a.target.kind ≡ true = whole.letters.marks k m (marked.Attribute a) mark in
      let target : a.target ≡ b.target =
      attributed_one f a.target.kind b.target.kind a.target.number b.target.number a.target.within b.target.within (ra a.target (inl (inl refl))) (rb b.target (inl (inl refl))) fits (ap first_of same.named) in
      whole.attributes k j m n a b p q record { kind = ap (λ ns. first_of (rest_of ns)) same.own; target = ap rank target }

  -- an attribute under A or M
  record IsAttribute (f : ℕ) (k : Kind) (n : ℕ) (s : Node AnnId) : Type 0 where
    attribute : Attribute
    is : attribute_of l k n ≡ Some attribute
    mark : mark_of l k n ≡ Some (marked.Attribute attribute)
    made : s ≡ attribute_node attribute

  attribute_named : (f n : ℕ) (s : Node AnnId) → at_kind l letter.Attribute n ≡ Some s → IsAttribute f letter.Attribute n s
  attribute_named f n s p = let x : Stands attribute_node (finite.get l.attributes n) s = attribute_under l n s p in record { attribute = x.mark; is = x.is; mark = ap (option_map marked.Attribute) x.is; made = x.made }

  legacy_named : (f n : ℕ) (s : Node AnnId) → at_kind l letter.Legacy n ≡ Some s → IsAttribute f letter.Legacy n s
  legacy_named f n s p = let x : Stands attribute_node (finite.get l.legacy n) s = legacy_under l n s p in record { attribute = x.mark; is = x.is; mark = ap (option_map marked.Attribute) x.is; made = x.made }

  named_one : (f : ℕ) (k j : Kind) (m n : ℕ) (s t : Node AnnId) → IsAttribute f k m s → IsAttribute f j n t → ((y : AnnId) → Names y s → IsBuilt node f y) → ((y : AnnId) → Names y t → IsBuilt node f y) → AreAlike c c s t → (k ≡ j) × (m ≡ n)
  named_one f k j m n s t x y rs rt a =
      let B : Node AnnId → Type 0 = λ u. (z : AnnId) → Names z u → IsBuilt node f z in
      attributes_one f k j m n x.attribute y.attribute x.is y.is x.mark (subst B x.made rs) (subst B y.made rt) (as_made s t (attribute_node x.attribute) (attribute_node y.attribute) x.made y.made a)

  one_at : (k j : Kind) (m n : ℕ) (w : m ≤ 999999999) (v : n ≤ 999999999) → IsBuilt node 19 (at k m w) → IsBuilt node 19 (at j n v) → (k ≡ letter.Normal → ⊥) → c (at k m w) ≡ c (at j n v) → at k m w ≡ at j n v
  one_at k j m n w v b d normal e =
      let p : Parts node 18 (at k m w) = parts node 18 (at k m w) b in
      let q : Parts node 18 (at j n v) = parts node 18 (at j n v) d in
      let a : AreAlike c c p.made q.made = made_alike (at k m w) (at j n v) p.made q.made p.is q.is e in
      go k j b d normal p.made q.made p.is q.is p.rest q.rest a (same_sort k j m n p.made q.made p.is q.is a) e
    where
      pair : (k j : Kind) → (k ≡ j) × (m ≡ n) → at k m w ≡ at j n v
      pair k j r = same_id k j m n w v r.0 r.1

      go : (k j : Kind) → IsBuilt node 19 (at k m w) → IsBuilt node 19 (at j n v) → (k ≡ letter.Normal → ⊥) → (s t : Node AnnId) → at_kind l k m ≡ Some s → at_kind l j n ≡ Some t
          → ((y : AnnId) → Names y s → IsBuilt node 18 y) → ((y : AnnId) → Names y t → IsBuilt node 18 y) → AreAlike c c s t → sort_of k ≡ sort_of j → c (at k m w) ≡ c (at j n v) → at k m w ≡ at j n v
      go letter.Text j b d normal s t p q rs rt a e g = attributed_one 19 letter.Text j m n w v b d refl g
      go letter.Event j b d normal s t p q rs rt a e g = attributed_one 19 letter.Event j m n w v b d refl g
      go letter.Relation j b d normal s t p q rs rt a e g = attributed_one 19 letter.Relation j m n w v b d refl g
      go letter.Attribute letter.Attribute b d normal s t p q rs rt a e g = pair letter.Attribute letter.Attribute (named_one 18 letter.Attribute letter.Attribute m n s t (attribute_named 18 m s p) (attribute_named 18 n t q) rs rt a)
      go letter.Attribute letter.Legacy b d normal s t p q rs rt a e g = pair letter.Attribute letter.Legacy (named_one 18 letter.Attribute letter.Legacy m n s t (attribute_named 18 m s p) (legacy_named 18 n t q) rs rt a)
      go letter.Attribute j b d normal s t p q rs rt a e g = cc
      go letter.Legacy letter.Attribute b d normal s t p q rs rt a e g = pair letter.Legacy letter.Attribute (named_one 18 letter.Legacy letter.Attribute m n s t (legacy_named 18 m s p) (attribute_named 18 n t q) rs rt a)
      go letter.Legacy letter.Legacy b d normal s t p q rs rt a e g = pair letter.Legacy letter.Legacy (named_one 18 letter.Legacy letter.Legacy m n s t (legacy_named 18 m s p) (legacy_named 18 n t q) rs rt a)
      go letter.Legacy j b d normal s t p q rs rt a e g = cc
      go letter.Normal j b d normal s t p q rs rt a e g = absurd (normal refl)
      go letter.Note j b d normal s t p q rs rt a e g = absurd (no_note (finite.get l.notes m) s p)

  pub one_of_content : (id there : AnnId) → IsSome (node id) → IsSome (node there) → (id.kind ≡ letter.Normal → ⊥) → c id ≡ c there → id ≡ there
  one_of_content id there h g normal e =
      one_at id.kind there.kind id.number there.number id.within there.within (coherent_built l whole id h) (coherent_built l whole there g) normal e
