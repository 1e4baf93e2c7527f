-- What a table has more is of what was placed.
use Rattle.std.proofs.Common.{◌≡◌, ℕ, zero, suc, ◌+◌, ◌-◌, ◌<◌, ◌≤◌, ◌⊎◌, drop, length-drop, List, [], ◌∷◌, ◌++◌, map, length, get_or, take, refl, sym, ap, ◌∙◌, subst, arith, inl, inr, Option, Some, None, IsSome}
use Rattle.std.proofs.lemmas.List.{get_or-drop}
use Rattle.std.proofs.lemmas.Grind.{common_steps}
use Rattle.std.proofs.lemmas.Bool.{cases_lt}
use Rattle.mark_base.specs.declared.ann_id.AnnId.{AnnId}
use Rattle.layer_model.specs.declared.class.Class.{Class}
use Rattle.layer_model.specs.Annotations.{Annotations}
use Rattle.content_keys.specs.Nodes.{IsIn, Node, number}
use Rattle.content_keys.specs.LayerContents.{class_content, class_contents_of, content_of, contents_of, ids_of, node_of}
use Rattle.content_keys.specs.Places.{IsOfMark}
use Rattle.content_keys.specs.Tables.{AddsOnly, IsAdded, IsTable, Starts, values}
use Rattle.content_keys.proofs.BagLemmas.{IsIn-left, IsIn-map, IsIn-right}
use Rattle.content_keys.proofs.EnterLemmas.{no_node}
use Rattle.content_keys.proofs.IdLemmas.{in_ids}
use Rattle.content_keys.proofs.MoveLemmas.{length_values}
use Rattle.content_keys.proofs.StartLemmas.{values_start}
use Rattle.content_keys.proofs.TableLemmas.{one_value, read, values-push}

-- ---- lists that begin with others

starts_long : (old new : List ℕ) → Starts old new → length old ≤ length new
starts_long [] new h = omega arith
starts_long (x ∷ xs) [] h = cc
starts_long (x ∷ xs) (y ∷ ys) h =
    let tail : Starts xs ys = cc in
    let l : length xs ≤ length ys = starts_long xs ys tail in
    omega arith

starts_at : (old new : List ℕ) → Starts old new → (i : ℕ) → i < length old → get_or new i 0 ≡ get_or old i 0
starts_at [] new h i l = absurd (omega arith)
starts_at (x ∷ xs) [] h i l = cc
starts_at (x ∷ xs) (y ∷ ys) h zero l = let head : y ≡ x = cc in head
starts_at (x ∷ xs) (y ∷ ys) h (suc i) l = let tail : Starts xs ys = cc in starts_at xs ys tail i (omega arith)

-- ---- contents that were added

pub only_itself : (P : ℕ → Type 0) (old : List ℕ) → AddsOnly P old old
only_itself P old place from to = absurd (omega arith)

pub only_wider : (P Q : ℕ → Type 0) (old new : List ℕ) → ((content : ℕ) → P content → Q content) → AddsOnly P old new → AddsOnly Q old new
only_wider P Q old new f h place from to = f (get_or new place 0) (h place from to)

-- in two steps
pub only_then : (P : ℕ → Type 0) (a b c : List (Node ℕ)) → Starts b c → AddsOnly P (values a) (values b) → AddsOnly P (values b) (values c) → AddsOnly P (values a) (values c)
only_then P a b c grown first second place from to = elim (cases_lt place (length (values b))) [
  | inl less ↦ subst P (sym (starts_at (values b) (values c) (values_start b c grown) place less)) (first place from less)
  | inr le ↦ second place le to
]

long_push : (xs : List ℕ) (x : ℕ) → length (xs ++ x ∷ []) ≡ length xs + 1
long_push xs x = grind (arith, common_steps)

at_end : (xs : List ℕ) (x i : ℕ) → length xs ≤ i → i < length (xs ++ x ∷ []) → get_or (xs ++ x ∷ []) i 0 ≡ x
at_end [] x zero le l = refl
at_end [] x (suc i) le l = absurd (omega arith)
at_end (y ∷ ys) x zero le l = absurd (omega arith)
at_end (y ∷ ys) x (suc i) le l = at_end ys x i (omega arith) (omega arith)

-- one content more
pub added_only : (P : ℕ → Type 0) (ss : List (Node ℕ)) (s : Node ℕ) (t : List (Node ℕ)) (i : ℕ) → IsAdded ss s t i → P (number (read (values ss)) s) → AddsOnly P (values ss) (values t)
added_only P ss s t i a p =
    let Q : List (Node ℕ) → Type 0 = λ l. AddsOnly P (values ss) (values l) in
    elim a.grows [
      | inl e ↦ subst Q (sym e) (only_itself P (values ss))
      | inr e ↦
          let R : List ℕ → Type 0 = AddsOnly P (values ss) in
          let n : ℕ = number (read (values ss)) s in
          subst Q (sym e) (subst R (sym (values-push ss s)) (λ place from to. subst P (sym (at_end (values ss) n place from to)) p))
    ]

-- ---- the contents of a layer

pub at_in : {X : Type 0} (xs : List X) (j : ℕ) (d : X) → j < length xs → IsIn (get_or xs j d) xs
at_in [] j d k = absurd (omega arith)
at_in (y ∷ ys) zero d k = inl refl
at_in (y ∷ ys) (suc j) d k = inr (at_in ys j d (omega arith))

some_node : (o : Option (Node AnnId)) → IsSome o → (s : Node AnnId) × (o ≡ Some s)
some_node None h = absurd (no_one h)
  where
    no_one : IsSome {T = Node AnnId} None → ⊥
    no_one s = cc
some_node (Some s) h = (s, refl)

module _ (l : Annotations) where
  abbrev entry : AnnId → AnnId × ℕ
  entry id = (id, content_of l id)

  abbrev pub all : List ℕ
  all = map (λ (e : AnnId × ℕ). e.1) (contents_of l) ++ class_contents_of l

  pub mark_among : (content : ℕ) → IsOfMark l content → IsIn content all
  mark_among content h =
      let s : (n : Node AnnId) × (node_of l h.0 ≡ Some n) = some_node (node_of l h.0) h.1.0 in
      let among : IsIn (entry h.0) (contents_of l) = IsIn-map entry h.0 (ids_of l) (in_ids l h.0 s.0 s.1) in
      let here : IsIn (content_of l h.0) (map (λ (e : AnnId × ℕ). e.1) (contents_of l)) = IsIn-map (λ (e : AnnId × ℕ). e.1) (entry h.0) (contents_of l) among in
      IsIn-left content (map (λ (e : AnnId × ℕ). e.1) (contents_of l)) (class_contents_of l) (subst (λ n. IsIn n (map (λ (e : AnnId × ℕ). e.1) (contents_of l))) (sym h.1.1) here)

  pub class_among : (content : ℕ) → IsIn content (class_contents_of l) → IsIn content all
  class_among content h = IsIn-right content (map (λ (e : AnnId × ℕ). e.1) (contents_of l)) (class_contents_of l) h

  -- a class of the layer
  pub class_of : (classes : List Class) → classes ≡ l.classes → (i : ℕ) (class : Class) → i < length classes → class ≡ get_or classes i class → (content : ℕ) → content ≡ class_content (content_of l) class → IsIn content (class_contents_of l)
  class_of classes is i class h at content e =
      let among : IsIn class l.classes = subst (λ cs. IsIn class cs) is (subst (λ c. IsIn c classes) (sym at) (at_in classes i class h)) in
      subst (λ n. IsIn n (class_contents_of l)) (sym e) (IsIn-map (class_content (content_of l)) class l.classes among)

-- ---- how many are added

-- a list without one of its numbers
record Without (x : ℕ) (ys : List ℕ) : Type 0 where
  rest : List ℕ
  long : length ys ≡ length rest + 1
  has : (y : ℕ) → IsIn y ys → (y ≡ x → ⊥) → IsIn y rest

without : (x : ℕ) (ys : List ℕ) → IsIn x ys → Without x ys
without x [] h = absurd h
without x (y ∷ ys) h = elim h [
  | inl e ↦ record { rest = ys; long = omega arith; has = λ z k other. elim k [ inl s ↦ absurd (other (s ∙ sym e)) | inr m ↦ m ] }
  | inr k ↦
      let w : Without x ys = without x ys k in
      record { rest = y ∷ w.rest; long = (let l = w.long in omega arith); has = λ z m other. elim m as (λ _. (z ≡ y) ⊎ IsIn z w.rest) [ inl s ↦ inl s | inr n ↦ inr (w.has z n other) ] }
]

few : (xs ys : List ℕ) → ((i j : ℕ) → i < j → j < length xs → get_or xs i 0 ≡ get_or xs j 0 → ⊥) → ((i : ℕ) → i < length xs → IsIn (get_or xs i 0) ys) → length xs ≤ length ys
few [] ys apart all = omega arith
few (x ∷ xs) ys apart all =
    let w : Without x ys = without x ys (all 0 (omega arith)) in
    let rest : length xs ≤ length w.rest =
    few xs w.rest (λ i j a b e. apart (suc i) (suc j) (omega arith) (omega arith) e) (λ i l. w.has (get_or xs i 0) (all (suc i) (omega arith)) (λ e. apart 0 (suc i) (omega arith) (omega arith) (sym e))) in
    omega (arith, rest, w.long)

-- at most as many as there are
pub few_added : (table : List (Node ℕ)) → IsTable table → (old among : List ℕ) → AddsOnly (λ n. IsIn n among) old (values table) → length (values table) ≤ length old + length among
few_added table is old among only =
    let n : ℕ = length old in
    let tail : List ℕ = drop n (values table) in
    let long : length tail ≡ length (values table) - n = length-drop n (values table) in
    let size : length (values table) ≡ length table = length_values table in
    let at : (i : ℕ) → get_or tail i 0 ≡ get_or (values table) (n + i) 0 = λ i. get_or-drop n (values table) i 0 in
    let most : length tail ≤ length among = few tail among
    (λ i j less l e. let same : n + i ≡ n + j = one_value table is no_node (n + i) (n + j) (omega arith) (omega arith) (sym (at i) ∙ e ∙ at j) in omega arith)
    (λ i l. subst (λ v. IsIn v among) (sym (at i)) (only (n + i) (omega arith) (omega arith))) in
    omega arith
