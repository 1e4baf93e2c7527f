-- The annotations of a layer get their places, those that name nothing first.
use Rattle.std.proofs.Common.{◌≡◌, ℕ, zero, suc, ◌+◌, ◌<◌, ◌≤◌, ◌⊎◌, List, [], ◌∷◌, ◌++◌, map, length, get_or, take, All, refl, sym, ap, ◌∙◌, subst, arith, inl, inr, Option, Some, None, IsSome}
use Rattle.std.proofs.lemmas.List.{take_more, map-append}
use Rattle.std.proofs.lemmas.List.Elements.{All-push}
use Rattle.std.proofs.lemmas.Option.{same_Some}
use Rattle.std.specs.BTreeMap.{BTreeMap}
use Rattle.mark_base.specs.declared.ann_id.AnnId.{AnnId}
use Rattle.layer_model.specs.Annotations.{Annotations}
use Rattle.layer_model.specs.Layers.{IsLayer}
use Rattle.content_keys.specs.declared.placed_layer.Placed.{Placed}
use Rattle.content_keys.specs.Nodes.{IsIn, Names, Node, number}
use Rattle.content_keys.specs.Contents.{IsBuilt}
use Rattle.content_keys.specs.Tables.{MayAdd, values}
use Rattle.content_keys.specs.Carrying.{Carries, moved_to}
use Rattle.content_keys.specs.LayerContents.{content_of, ids_of, node_of}
use Rattle.content_keys.specs.Places.{AreBuilt, ArePlaced, AreRight, HasPlace, HavePlaces, Keeps, Rounds, contents_at, place_of}
use Rattle.content_keys.proofs.IdLemmas.{ids_have, in_ids}
use Rattle.content_keys.proofs.TableLemmas.{read}
use Rattle.content_keys.proofs.MoveLemmas.{carried_from, carried_number}
use Rattle.content_keys.proofs.CarryLemmas.{Lost, lost_from}
use Rattle.content_keys.proofs.ContentLemmas.{Parts, parts, content_of_parts}

none_some : {X : Type 0} {x : X} → None ≡ Some x → ⊥
none_some e = cc

pub is_there : (o : Option ℕ) → IsSome o → o ≡ None → ⊥
is_there None h e = no h
  where
    no : IsSome {T = ℕ} None → ⊥
    no s = cc
is_there (Some x) h e = none_some (sym e)

module _ (l : Annotations) (ss : List (Node ℕ)) (places : BTreeMap ℕ ℕ) (right : AreRight l ss places) (x : AnnId) (s : Node AnnId) (is : node_of l x ≡ Some s) where
  abbrev place : AnnId → Option ℕ
  place = place_of places

  -- an annotation by the places of what it names may be added to the table
  pub carried_may : (u : Node ℕ) → Carries place s (Some u) → length ss < 4294967295 → MayAdd ss u
  carried_may u c room = record {
    room = room;
    below = λ y n.
        let r : (z : AnnId) × (Names z s × (y ≡ moved_to place z)) = carried_from (moved_to place) s u c.0 y n in
        let small : moved_to place r.0 < length ss = (right r.0 (moved_to place r.0) (c.1 r.0 r.1.0)).0 in
        let same : y ≡ moved_to place r.0 = r.1.1 in
        omega arith;
    rising = c.0.rising;
  }

  -- and has its content
  pub carried_content : (u : Node ℕ) → Carries place s (Some u) → AreBuilt l → number (read (values ss)) u ≡ content_of l x
  carried_content u c built =
      let b : IsBuilt (node_of l) 19 x = built x (let P : Option (Node AnnId) → Type 0 = IsSome in subst P (sym is) refl) in
      carried_number (moved_to place) (content_of l) (read (values ss)) s u c.0 (λ y n. sym (right y (moved_to place y) (c.1 y n)).1)
      ∙ sym (content_of_parts (node_of l) 18 19 x s b (omega arith) is)

  -- if one of its names has no place, not all of them have one
  pub carried_lost : Carries place s None → ((y : AnnId) → Names y s → IsSome (place y)) → ⊥
  carried_lost c all =
      let r : Lost place s = lost_from place s c in
      is_there (place r.place) (all r.place r.named) r.gone

module _ (l : Annotations) (ids : List AnnId) where
  names_built : (f : ℕ) (x : AnnId) (s : Node AnnId) → node_of l x ≡ Some s → IsBuilt (node_of l) (suc f) x → (y : AnnId) → Names y s → IsBuilt (node_of l) f y
  names_built f x s e b y m =
      let p : Parts (node_of l) f x = parts (node_of l) f x b in
      let P : Node AnnId → Type 0 = Names y in
      p.rest y (subst P (same_Some _ _ (sym e ∙ p.is)) m)

  two : (k n : ℕ) → k < n + 1 → (k < n) ⊎ (k ≡ n)
  two k n h = grind arith

  in_place : (xs : List AnnId) (j : ℕ) (a b : AnnId) → j < length xs → get_or xs j a ≡ get_or xs j b
  in_place [] j a b h = absurd (omega arith)
  in_place (y ∷ ys) zero a b h = refl
  in_place (y ∷ ys) (suc j) a b h = in_place ys j a b (omega arith)

  pub rounds_none : (old : BTreeMap ℕ ℕ) → Rounds l ids old old 0
  rounds_none old = record { keeps = λ x h. h; done = λ f p k d h. absurd (omega arith) }

  pub rounds_step : (old mid new : BTreeMap ℕ ℕ) (n : ℕ) (x : AnnId) → Rounds l ids old mid n → x ≡ get_or ids n x → n < length ids
      → Keeps mid new → ((s : Node AnnId) → node_of l x ≡ Some s → ((y : AnnId) → Names y s → IsSome (place_of mid y)) → IsSome (place_of new x)) → Rounds l ids old new (n + 1)
  rounds_step old mid new n x r is within keeps here = record {
    keeps = λ y s. keeps y (r.keeps y s);
    done = λ f p k d h b. elim (two k n h) [
      | inl less ↦ keeps (get_or ids k d) (r.done f p k d less b)
      | inr same ↦
          let at : get_or ids k d ≡ x = ap (λ j. get_or ids j d) same ∙ in_place ids n d x within ∙ sym is in
          let B : AnnId → Type 0 = λ y. IsBuilt (node_of l) (suc f) y in
          let P : AnnId → Type 0 = λ y. IsSome (place_of new y) in
          let built : IsBuilt (node_of l) (suc f) x = subst B at b in
          let q : Parts (node_of l) f x = parts (node_of l) f x built in
          subst P (sym at) (here q.made q.is (λ y m. r.keeps y (p y (names_built f x q.made q.is built y m))))
    ];
  }

  -- one of a list stands at an index
  pub index_of : (x : AnnId) (xs : List AnnId) → IsIn x xs → (k : ℕ) × ((k < length xs) × (get_or xs k x ≡ x))
  index_of x [] h = absurd h
  index_of x (y ∷ ys) h = elim h [
    | inl e ↦ (0, (omega arith, sym e))
    | inr k ↦ let r : (j : ℕ) × ((j < length ys) × (get_or ys j x ≡ x)) = index_of x ys k in (suc r.0, (omega (arith, r.1.0), r.1.1))
  ]

  pub rounds_end : (old new : BTreeMap ℕ ℕ) (n : ℕ) → Rounds l ids old new n → ids ≡ ids_of l → length ids ≤ n → (depth : ℕ) → ArePlaced depth l old → ArePlaced (suc depth) l new
  rounds_end old new n r all long f p x b =
      let q : Parts (node_of l) f x = parts (node_of l) f x b in
      let L : List AnnId → Type 0 = IsIn x in
      let k : (j : ℕ) × ((j < length ids) × (get_or ids j x ≡ x)) = index_of x ids (subst L (sym all) (in_ids l x q.made q.is)) in
      let B : AnnId → Type 0 = λ y. IsBuilt (node_of l) (suc f) y in
      let P : AnnId → Type 0 = λ y. IsSome (place_of new y) in
      let less : k.0 < n = omega (arith, k.1.0, long) in
      subst P k.1.1 (r.done f p k.0 x less (subst B (sym k.1.1) b))

  -- of the annotations so far, each that has a content has a place
  pub places_step : (mid new : BTreeMap ℕ ℕ) (n : ℕ) (x : AnnId) → HavePlaces l ids mid n → x ≡ get_or ids n x → n < length ids → Keeps mid new → HasPlace l new x → HavePlaces l ids new (n + 1)
  places_step mid new n x r is within keeps here = record {
    each = λ k d h s e. elim (two k n h) [
      | inl less ↦ keeps (get_or ids k d) (r.each k d less s e)
      | inr same ↦
          let at : get_or ids k d ≡ x = ap (λ j. get_or ids j d) same ∙ in_place ids n d x within ∙ sym is in
          let P : AnnId → Type 0 = λ y. IsSome (place_of new y) in
          let N : AnnId → Type 0 = λ y. node_of l y ≡ Some s in
          subst P (sym at) (here s (subst N at e))
    ];
  }

  pub places_end : (new : BTreeMap ℕ ℕ) (n : ℕ) → HavePlaces l ids new n → ids ≡ ids_of l → length ids ≤ n → (x : AnnId) → HasPlace l new x
  places_end new n r all long x s e =
      let L : List AnnId → Type 0 = IsIn x in
      let k : (j : ℕ) × ((j < length ids) × (get_or ids j x ≡ x)) = index_of x ids (subst L (sym all) (in_ids l x s e)) in
      let P : AnnId → Type 0 = λ y. IsSome (place_of new y) in
      let N : AnnId → Type 0 = λ y. node_of l y ≡ Some s in
      let less : k.0 < n = omega (arith, k.1.0, long) in
      subst P k.1.1 (r.each k.0 x less s (subst N (sym k.1.1) e))

  -- where each has a place, each that is built to a depth has one
  pub placed_deep : (places : BTreeMap ℕ ℕ) → ((x : AnnId) → HasPlace l places x) → (f : ℕ) → ArePlaced (suc f) l places
  placed_deep places has f x b = let q : Parts (node_of l) f x = parts (node_of l) f x b in has x q.made q.is

-- what is put behind the contents of the first annotations
module _ (l : Annotations) (table : List (Node ℕ)) (places : BTreeMap ℕ ℕ) (right : AreRight l table places) (ids : List AnnId) (i : ℕ) (x : AnnId) (h : i < length ids) (at : x ≡ get_or ids i x) where
  abbrev entry : AnnId → AnnId × ℕ
  entry id = (id, content_of l id)

  pub placed_more : (c : ℕ) (old new : List Placed) → place_of places x ≡ Some c → new ≡ old ++ record { id = x; place = c } ∷ [] → contents_at (values table) old ≡ map entry (take i ids) → contents_at (values table) new ≡ map entry (take (i + 1) ids)
  placed_more c old new e is so_far =
      ap (contents_at (values table)) is ∙ map-append (λ p. (p.id, read (values table) p.place)) old (record { id = x; place = c } ∷ [])
      ∙ (λ j. so_far j ++ (x, (right x c e).1 j) ∷ [])
      ∙ (λ j. map entry (take i ids) ++ entry (at j) ∷ [])
      ∙ sym (ap (map entry) (take_more ids i x h) ∙ map-append entry (take i ids) (get_or ids i x ∷ []))

  pub placed_within : (c : ℕ) (old new : List Placed) → place_of places x ≡ Some c → new ≡ old ++ record { id = x; place = c } ∷ [] → All (λ p. p.place < length table) old → All (λ p. p.place < length table) new
  placed_within c old new e is so_far =
      let P : List Placed → Type 0 = All (λ p. p.place < length table) in
      subst P (sym is) (All-push (λ p. p.place < length table) old (record { id = x; place = c }) so_far (right x c e).0)

  pub never_lost : AreBuilt l → IsLayer l → ids ≡ ids_of l → ArePlaced 19 l places → place_of places x ≡ None → ⊥
  never_lost built keeps all placed e =
      let L : List AnnId → Type 0 = IsIn x in
      let P : AnnId → Type 0 = λ y. IsIn y ids in
      let among : IsIn x ids = subst P (sym at) (at_in ids i x h) in
      let b : IsBuilt (node_of l) 19 x = built x (ids_have l keeps x (subst L all among)) in
      is_there (place_of places x) (placed x b) e
    where
      at_in : (xs : List AnnId) (j : ℕ) (d : AnnId) → j < length xs → IsIn (get_or xs j d) xs
      at_in [] j d k = absurd (omega arith)
      at_in (y ∷ ys) zero d k = inl refl
      at_in (y ∷ ys) (suc j) d k = inr (at_in ys j d (omega arith))
