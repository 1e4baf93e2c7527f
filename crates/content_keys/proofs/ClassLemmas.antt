-- The classes of a layer get the places of their contents.
use Rattle.std.proofs.Common.{◌≡◌, ℕ, zero, suc, ◌+◌, ◌≤◌, ◌<◌, true, List, [], ◌∷◌, ◌++◌, map, length, get_or, take, All, refl, sym, ap, ◌∙◌, subst, arith, inl, inr, Some, None, Option, IsSome}
use Rattle.std.proofs.lemmas.List.{take_more, map-append}
use Rattle.std.proofs.lemmas.List.Elements.{All-push}
use Rattle.std.specs.List.{AllByRecursion}
use Rattle.std.specs.BTreeMap.{BTreeMap}
use Rattle.mark_base.specs.declared.ann_id.AnnId.{AnnId}
use Rattle.mark_base.specs.declared.ann_id.Kind.{Kind}
use Rattle.mark_base.specs.declared.ann_id.Kind.TheVariants as letter
use Rattle.layer_model.specs.declared.class.Class.{Class}
use Rattle.layer_model.specs.Annotations.{Annotations}
use Rattle.layer_model.specs.Coherent.{AllStand, IsCoherent, is_span_letter}
use Rattle.layer_model.specs.Layers.{has}
use Rattle.content_keys.specs.Nodes.{IsIn, Names, Node, number}
use Rattle.content_keys.specs.Contents.{IsBuilt}
use Rattle.content_keys.specs.Carrying.{Carries, moved_to}
use Rattle.content_keys.specs.LayerContents.{class_content, class_node, content_of, node_of}
use Rattle.content_keys.specs.Places.{ArePlaced, AreRight, place_of}
use Rattle.content_keys.specs.Tables.{IsAdded, IsTable, MayAdd, Starts, values}
use Rattle.content_keys.proofs.BagLemmas.{map-IsIn}
use Rattle.content_keys.proofs.BuiltLemmas.{span_built}
use Rattle.content_keys.proofs.CarryLemmas.{Lost, lost_from}
use Rattle.content_keys.proofs.EnterLemmas.{StillThere, new_value, still}
use Rattle.content_keys.proofs.MoveLemmas.{carried_from, carried_number, length_values}
use Rattle.content_keys.proofs.PlacedLemmas.{is_there}
use Rattle.content_keys.proofs.StartLemmas.{values_start}
use Rattle.content_keys.proofs.TableLemmas.{read}

module _ (l : Annotations) (ss : List (Node ℕ)) (places : BTreeMap ℕ ℕ) (right : AreRight l ss places) (class : Class) where
  abbrev place : AnnId → Option ℕ
  place = place_of places

  abbrev s : Node AnnId
  s = class_node class

  pub class_may : (u : Node ℕ) → Carries place s (Some u) → length ss < 4294967295 → MayAdd ss u
  class_may u c room = record {
    room = room;
    below = λ y n.
        let r : (z : AnnId) × (Names z s × (y ≡ moved_to place z)) = carried_from (moved_to place) s u c.0 y n in
        let small : moved_to place r.0 < length ss = (right r.0 (moved_to place r.0) (c.1 r.0 r.1.0)).0 in
        let same : y ≡ moved_to place r.0 = r.1.1 in
        omega arith;
    rising = c.0.rising;
  }

  pub class_number : (u : Node ℕ) → Carries place s (Some u) → number (read (values ss)) u ≡ class_content (content_of l) class
  class_number u c = carried_number (moved_to place) (content_of l) (read (values ss)) s u c.0 (λ y n. sym (right y (moved_to place y) (c.1 y n)).1)

  -- each member has a place, so none is lost
  pub class_never_lost : ((y : AnnId) → IsIn y class.members → IsSome (place y)) → Carries place s None → ⊥
  class_never_lost all c = let r : Lost place s = lost_from place s c in is_there (place r.place) (named r.place r.named) r.gone
    where
      named : (y : AnnId) → Names y s → IsSome (place_of places y)
      named y n = elim n [
        | inl k ↦ absurd k
        | inr k ↦
            let q : (m : AnnId) × (IsIn m class.members × ((k.0, y) ≡ (0, m))) = map-IsIn (λ (m : AnnId). (0, m)) (k.0, y) class.members k.1 in
            subst (λ z. IsSome (place_of places z)) (sym (ap (λ (p : ℕ × AnnId). p.1) q.1.1)) (all q.0 q.1.0)
      ]

  pub class_right : (t : List (Node ℕ)) (u : Node ℕ) (i : ℕ) → IsAdded ss u t i → AreRight l t places
  class_right t u i a y c e =
      let r : (c < length ss) × (read (values ss) c ≡ content_of l y) = right y c e in
      let z : StillThere ss t c = still ss t u i a c r.0 in
      (z.within, z.same ∙ r.1)

  pub class_placed : (t : List (Node ℕ)) (u : Node ℕ) (i : ℕ) → IsTable t → MayAdd ss u → IsAdded ss u t i → Carries place s (Some u) → (i < length t) × (read (values t) i ≡ class_content (content_of l) class)
  class_placed t u i b m a c = (a.within, new_value ss t u i b m a ∙ class_number u c)

-- ---- the members of classes have places

all_at : {X : Type 0} (P : X → Type 0) (xs : List X) → AllByRecursion P xs → (x : X) → IsIn x xs → P x
all_at P [] h x k = absurd k
all_at P (y ∷ ys) h x k = elim k [ inl e ↦ subst P (sym e) h.0 | inr m ↦ all_at P ys h.1 x m ]

at_in : {X : Type 0} (xs : List X) (j : ℕ) (d : X) → j < length xs → IsIn (get_or xs j d) xs
at_in [] j d k = absurd (omega arith)
at_in (y ∷ ys) zero d k = inl refl
at_in (y ∷ ys) (suc j) d k = inr (at_in ys j d (omega arith))

pub members_placed : (l : Annotations) → IsCoherent l → (places : BTreeMap ℕ ℕ) → ArePlaced 19 l places → (classes : List Class) → classes ≡ l.classes → (i : ℕ) (class : Class) → i < length classes → class ≡ get_or classes i class
    → (y : AnnId) → IsIn y class.members → IsSome (place_of places y)
members_placed l whole places placed classes is i class h at y k =
    let among : IsIn class classes = subst (λ c. IsIn c classes) (sym at) (at_in classes i class h) in
    let known : IsIn class l.classes = subst (λ cs. IsIn class cs) is among in
    let stand : AllStand l class.members = all_at (λ c. AllStand l c.members) l.classes whole.stand.classes class known in
    let letters : AllByRecursion (λ member. is_span_letter member.kind ≡ true) class.members = all_at (λ c. AllByRecursion (λ member. is_span_letter member.kind ≡ true) c.members) l.classes whole.letters.classes class known in
    placed y (go y.kind y.number y.within (all_at (λ id. is_span_letter id.kind ≡ true) class.members letters y k) (all_at (λ id. has l id ≡ true) class.members stand y k))
  where
    go : (kind : Kind) (n : ℕ) (w : n ≤ 999999999) → is_span_letter kind ≡ true → has l (record { kind = kind; number = n; within = w }) ≡ true → IsBuilt (node_of l) 19 (record { kind = kind; number = n; within = w })
    go letter.Text n w fits there = span_built l whole 18 n w there
    go kind n w fits there = cc

-- ---- one class more

grown_value : (ss t : List (Node ℕ)) → Starts ss t → (p : ℕ) → p < length ss → read (values t) p ≡ read (values ss) p
grown_value ss t h p less =
    let long : length (values ss) ≡ length ss = length_values ss in
    front (values ss) (values t) p (omega arith) (values_start ss t h)
  where
    front : (vs ws : List ℕ) (k : ℕ) → k < length vs → Starts vs ws → read ws k ≡ read vs k
    front [] ws k b e = absurd (omega arith)
    front (v ∷ vs) [] k b e = cc
    front (v ∷ vs) (w ∷ ws) zero b e = cc
    front (v ∷ vs) (w ∷ ws) (suc k) b e = front vs ws k (omega arith) cc

grown_values : (ss t : List (Node ℕ)) → Starts ss t → (ps : List ℕ) → All (λ p. p < length ss) ps → map (read (values t)) ps ≡ map (read (values ss)) ps
grown_values ss t h [] all = refl
grown_values ss t h (p ∷ ps) all =
    let less : p < length ss = all 0 p (omega arith) in
    λ i. grown_value ss t h p less i ∷ grown_values ss t h ps (λ k d b. all (suc k) d (omega arith)) i

longer : {X : Type 0} (ss t : List X) → Starts ss t → length ss ≤ length t
longer [] t h = omega arith
longer (s ∷ ss) [] h = cc
longer (s ∷ ss) (u ∷ us) h = let r : length ss ≤ length us = longer ss us cc in omega arith

module _ (l : Annotations) (ss t : List (Node ℕ)) (grown : Starts ss t) (old new : List ℕ) (p : ℕ) (is : new ≡ old ++ p ∷ []) (within : All (λ q. q < length ss) old) where
  pub class_within : p < length t → All (λ q. q < length t) new
  class_within less =
      let P : List ℕ → Type 0 = All (λ q. q < length t) in
      let n : length ss ≤ length t = longer ss t grown in
      subst P (sym is) (All-push (λ q. q < length t) old p (λ k d h. let b : get_or old k d < length ss = within k d h in omega arith) less)

  pub class_contents : (classes : List Class) (i : ℕ) (class : Class) → i < length classes → class ≡ get_or classes i class → read (values t) p ≡ class_content (content_of l) class
      → map (read (values ss)) old ≡ map (class_content (content_of l)) (take i classes) → map (read (values t)) new ≡ map (class_content (content_of l)) (take (i + 1) classes)
  class_contents classes i class h at here so_far =
      ap (map (read (values t))) is ∙ map-append (read (values t)) old (p ∷ [])
      ∙ (λ j. grown_values ss t grown old within j ++ here j ∷ [])
      ∙ (λ j. so_far j ++ class_content (content_of l) (at j) ∷ [])
      ∙ sym (ap (map (class_content (content_of l))) (take_more classes i class h) ∙ map-append (class_content (content_of l)) (take i classes) (get_or classes i class ∷ []))
