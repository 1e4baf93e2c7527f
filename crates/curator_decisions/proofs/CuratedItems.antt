-- The items of layers: the first annotation of each content, in the order of the holders and of their IDs.
use Rattle.std.proofs.Common.{◌≡◌, ℕ, suc, ◌+◌, ◌<◌, ◌≤◌, ◌⊎◌, ◌==◌, ◌&&◌, min, eq-eqb, ne_eqb, Bool, true, false, not, T, List, [], ◌∷◌, ◌++◌, map, filter, slice_get, refl, sym, ◌∙◌, ap, subst, inl, inr, Some, arith}
use Rattle.std.proofs.lemmas.Bool.Decides.{eqb_tells}
use Rattle.std.specs.List.{count_by}
use Rattle.std.specs.Map.{keys_of}
use Rattle.std.specs.Ordering.{nat_cmp, is_lt}
use Rattle.std.specs.Cmp.{ranked}
use Rattle.std.specs.FinMap as finite
use Rattle.std.specs.FinMap.{entries_sorted}
use Rattle.std.specs.FinMap.Entries.{below_all, is_sorted}
use Rattle.std.specs.declared.cmp.Ordering.TheVariants.{Less, Equal, Greater}
use Rattle.mark_base.specs.declared.ann_id.AnnId.{AnnId}
use Rattle.mark_base.specs.declared.ann_id.Kind.{Kind}
use Rattle.mark_base.specs.declared.ann_id.Kind.TheVariants as letter
use Rattle.mark_base.specs.ReadIds.{id_at}
use Rattle.layer_model.specs.Annotations.{Annotations}
use Rattle.layer_model.specs.Classes.{letter_place, rank}
use Rattle.content_keys.specs.Nodes.{IsIn}
use Rattle.content_keys.specs.LayerContents.{content_of, ids_of, ids_of_letter}
use Rattle.content_keys.proofs.BagLemmas.{map-IsIn, IsIn-either}
use Rattle.unanimous_merge.specs.Items.{Held, firsts, held_by, held_from}
use Rattle.unanimous_merge.specs.Readings.{contents, reading_of, readings}
use Rattle.curator_decisions.proofs.CuratedParts.{Row}
use Rattle.curator_decisions.proofs.ListLemmas.{Pairs, count_cons, count_filter, filter_in, in_filter, pairs_append, pairs_filter, pairs_map}

-- ---- the IDs of a layer are in their order

abbrev pub NotAbove : AnnId → AnnId → Type 0
NotAbove a b = rank a ≤ rank b

pub left : (a b : Bool) → T (a && b) → T a
left true b h = tt
left false b h = h

pub right : (a b : Bool) → T (a && b) → T b
right true b h = h
right false b h = absurd h

pub is_less : (a b : ℕ) → T (is_lt (nat_cmp a b)) → a < b
is_less a b h = elim (nat_cmp a b) as (λ r. r ≡ nat_cmp a b → T (is_lt r) → a < b) [
  | Less ↦ λ w _. ranked a b Less w
  | Equal ↦ λ _ g. absurd g
  | Greater ↦ λ _ g. absurd g
] refl h

below : {V : Type 0} (kind : Kind) (n : ℕ) (es : List (ℕ × V)) → T (below_all nat_cmp n es) → (y : AnnId) → IsIn y (map (id_at kind) (keys_of es)) → rank (id_at kind n) ≤ rank y
below kind n [] h y k = absurd k
below kind n (e ∷ es) h y k = elim k [
  | inl same ↦
      let less : n < e.0 = is_less n e.0 (left _ _ h) in
      let least : min n 999999999 ≤ min e.0 999999999 = omega arith in
      let up : rank (id_at kind n) ≤ rank (id_at kind e.0) = omega arith in
      subst (λ z. rank (id_at kind n) ≤ rank z) (sym same) up
  | inr m ↦ below kind n es (right _ _ h) y m
]

up_letter : {V : Type 0} (kind : Kind) (es : List (ℕ × V)) → T (is_sorted nat_cmp es) → Pairs NotAbove (map (id_at kind) (keys_of es))
up_letter kind [] h = tt
up_letter kind (e ∷ es) h = (below kind e.0 es (left _ _ h), up_letter kind es (right _ _ h))

-- IDs in their order, of letters behind a place
record Behind (place : ℕ) (ids : List AnnId) : Type 0 where
  up : Pairs NotAbove ids
  from : (id : AnnId) → IsIn id ids → place ≤ letter_place id.kind

none_behind : (place : ℕ) → Behind place []
none_behind place = record { up = tt; from = λ id k. absurd k }

letter_before : {V : Type 0} (kind : Kind) (m : finite.FinMap nat_cmp V) (place : ℕ) (ys : List AnnId) → place ≤ letter_place kind → letter_place kind < place + 2 → Behind (letter_place kind + 1) ys → Behind place (map (id_at kind) (finite.keys m) ++ ys)
letter_before {V} kind m place ys at far rest = record {
  up = go (finite.entries m) (up_letter kind (finite.entries m) (entries_sorted m));
  from = λ id k. elim (IsIn-either id (map (id_at kind) (finite.keys m)) ys k) [
    | inl i ↦ let r : (n : ℕ) × (IsIn n (finite.keys m) × (id ≡ id_at kind n)) = map-IsIn (id_at kind) id (finite.keys m) i in
        let e : letter_place id.kind ≡ letter_place kind = ap (λ (x : AnnId). letter_place x.kind) r.1.1 in omega arith
    | inr j ↦ let e : letter_place kind + 1 ≤ letter_place id.kind = rest.from id j in omega arith
  ];
}
  where
    past : (n : ℕ) (y : AnnId) → IsIn y ys → rank (id_at kind n) ≤ rank y
    past n y k = let e : letter_place kind + 1 ≤ letter_place y.kind = rest.from y k in let w : (id_at kind n).number ≤ 999999999 = (id_at kind n).within in omega arith

    go : (es : List (ℕ × V)) → Pairs NotAbove (map (id_at kind) (keys_of es)) → Pairs NotAbove (map (id_at kind) (keys_of es) ++ ys)
    go [] h = rest.up
    go (e ∷ es) h = (λ y k. elim (IsIn-either y (map (id_at kind) (keys_of es)) ys k) [ inl i ↦ h.0 y i | inr j ↦ past e.0 y j ], go es h.1)

pub ids_rise : (l : Annotations) → Pairs NotAbove (ids_of l)
ids_rise l =
    let n : Behind 5 (ids_of_letter l letter.Normal ++ []) = letter_before letter.Normal l.normals 5 [] (omega arith) (omega arith) (none_behind 6) in
    let m : Behind 4 (ids_of_letter l letter.Legacy ++ (ids_of_letter l letter.Normal ++ [])) = letter_before letter.Legacy l.legacy 4 _ (omega arith) (omega arith) n in
    let a : Behind 3 (ids_of_letter l letter.Attribute ++ (ids_of_letter l letter.Legacy ++ (ids_of_letter l letter.Normal ++ []))) = letter_before letter.Attribute l.attributes 3 _ (omega arith) (omega arith) m in
    let r : Behind 2 (ids_of_letter l letter.Relation ++ (ids_of_letter l letter.Attribute ++ (ids_of_letter l letter.Legacy ++ (ids_of_letter l letter.Normal ++ [])))) =
    letter_before letter.Relation l.relations 2 _ (omega arith) (omega arith) a in
    let e : Behind 1 (ids_of_letter l letter.Event ++ (ids_of_letter l letter.Relation ++ (ids_of_letter l letter.Attribute ++ (ids_of_letter l letter.Legacy ++ (ids_of_letter l letter.Normal ++ []))))) =
    letter_before letter.Event l.events 1 _ (omega arith) (omega arith) r in
    let t : Behind 0 (ids_of l) = letter_before letter.Text l.spans 0 _ (omega arith) (omega arith) e in
    t.up

-- ---- the first of each content

differs : (a b : ℕ) → not (a == b) ≡ true → a ≡ b → ⊥
differs a b t e = let f : not (a == b) ≡ false = ap not (eq-eqb a b e) in let g : true ≡ false = sym t ∙ f in cc

apart_is : (a b : ℕ) → (a ≡ b → ⊥) → not (a == b) ≡ true
apart_is a b h = ap not (ne_eqb a b h)

pub in_firsts : (xs : List Held) (h : Held) → IsIn h (firsts xs) → IsIn h xs
in_firsts [] h k = k
in_firsts (x ∷ xs) h k = elim k as (λ _. (h ≡ x) ⊎ IsIn h xs) [
  | inl e ↦ inl e
  | inr m ↦ inr (in_firsts xs h (in_filter (λ o. not (o.content == x.content)) (firsts xs) h m).0)
]

abbrev pub Differ : Held → Held → Type 0
Differ a b = b.content ≡ a.content → ⊥

pub firsts_differ : (xs : List Held) → Pairs Differ (firsts xs)
firsts_differ [] = tt
firsts_differ (x ∷ xs) =
    (λ y k. differs y.content x.content (in_filter (λ o. not (o.content == x.content)) (firsts xs) y k).1, pairs_filter Differ (λ o. not (o.content == x.content)) (firsts xs) (firsts_differ xs))

pub firsts_keep : (R : Held → Held → Type 0) (xs : List Held) → Pairs R xs → Pairs R (firsts xs)
firsts_keep R [] h = tt
firsts_keep R (x ∷ xs) h =
    (λ y k. h.0 y (in_firsts xs y (in_filter (λ o. not (o.content == x.content)) (firsts xs) y k).0), pairs_filter R (λ o. not (o.content == x.content)) (firsts xs) (firsts_keep R xs h.1))

pub firsts_have : (xs : List Held) (h : Held) → IsIn h xs → (o : Held) × (IsIn o (firsts xs) × (o.content ≡ h.content))
firsts_have [] h k = absurd k
firsts_have (x ∷ xs) h k = elim k as (λ _. (o : Held) × (((o ≡ x) ⊎ IsIn o (filter (λ z. not (z.content == x.content)) (firsts xs))) × (o.content ≡ h.content))) [
  | inl e ↦ (x, (inl refl, sym (ap (λ (z : Held). z.content) e)))
  | inr m ↦
      let r : (o : Held) × (IsIn o (firsts xs) × (o.content ≡ h.content)) = firsts_have xs h m in
      elim (eqb_tells r.0.content x.content) [
        | inl p ↦ (x, (inl refl, sym p.1 ∙ r.1.1))
        | inr p ↦ (r.0, (inr (filter_in (λ z. not (z.content == x.content)) (firsts xs) r.0 r.1.0 (apart_is r.0.content x.content p.1)), r.1.1))
      ]
]

pub count_firsts : (p : Held → Bool) (xs : List Held) → count_by p (firsts xs) ≤ count_by p xs
count_firsts p [] = omega arith
count_firsts p (x ∷ xs) =
    let rest : count_by p (firsts xs) ≤ count_by p xs = count_firsts p xs in
    let fewer : count_by p (filter (λ o. not (o.content == x.content)) (firsts xs)) ≤ count_by p (firsts xs) = count_filter p (λ o. not (o.content == x.content)) (firsts xs) in
    omega (arith, count_cons p x (filter (λ o. not (o.content == x.content)) (firsts xs)), count_cons p x xs)

-- of a content the first is before each that has it
pub firsts_lead : (R : Held → Held → Type 0) (xs : List Held) → Pairs R xs → (h x : Held) → IsIn h (firsts xs) → IsIn x xs → x.content ≡ h.content → (h ≡ x) ⊎ R h x
firsts_lead R [] up h x k m e = absurd m
firsts_lead R (y ∷ ys) up h x k m e = elim k [
  | inl first ↦ elim m as (λ _. (h ≡ x) ⊎ R h x) [ inl same ↦ inl (first ∙ sym same) | inr n ↦ inr (subst (λ z. R z x) (sym first) (up.0 x n)) ]
  | inr later ↦
      let r : IsIn h (firsts ys) × (not (h.content == y.content) ≡ true) = in_filter (λ o. not (o.content == y.content)) (firsts ys) h later in
      elim m as (λ _. (h ≡ x) ⊎ R h x) [
        | inl same ↦ absurd (differs h.content y.content r.1 (sym e ∙ ap (λ (z : Held). z.content) same))
        | inr n ↦ firsts_lead R ys up.1 h x r.0 n e
      ]
]

-- ---- whose an annotation is

-- an annotation of some layers, of which the first has this place
pub record IsHeld (rows : List Row) (n : ℕ) (h : Held) : Type 0 where
  pub row : Row
  pub among : IsIn row rows
  pub place : ℕ
  pub holder : h.holder ≡ n + place
  pub at : slice_get (readings rows) place ≡ Some (reading_of row.1)
  pub listed : IsIn h.id (ids_of row.1)
  pub content : h.content ≡ content_of row.1 h.id

record IsOf (row : Row) (n : ℕ) (h : Held) : Type 0 where
  holder : h.holder ≡ n
  listed : IsIn h.id (ids_of row.1)
  content : h.content ≡ content_of row.1 h.id

of_row : (row : Row) (n : ℕ) (h : Held) → IsIn h (held_by n (contents (reading_of row.1))) → IsOf row n h
of_row row n h k =
    let r : (e : AnnId × ℕ) × (IsIn e (contents (reading_of row.1)) × (h ≡ record { holder = n; id = e.0; content = e.1 })) =
    map-IsIn (λ (e : AnnId × ℕ). let z : Held = record { holder = n; id = e.0; content = e.1 } in z) h (contents (reading_of row.1)) k in
    let q : (id : AnnId) × (IsIn id (ids_of row.1) × (r.0 ≡ (id, content_of row.1 id))) = map-IsIn (λ (id : AnnId). let z : AnnId × ℕ = (id, content_of row.1 id) in z) r.0 (ids_of row.1) r.1.0 in
    let same : h.id ≡ q.0 = ap (λ (z : Held). z.id) r.1.1 ∙ ap (λ (z : AnnId × ℕ). z.0) q.1.1 in
    record {
      holder = ap (λ (z : Held). z.holder) r.1.1;
      listed = subst (λ z. IsIn z (ids_of row.1)) (sym same) q.1.0;
      content = ap (λ (z : Held). z.content) r.1.1 ∙ ap (λ (z : AnnId × ℕ). z.1) q.1.1 ∙ ap (content_of row.1) (sym same);
    }

pub held_is : (rows : List Row) (n : ℕ) (h : Held) → IsIn h (held_from n (map contents (readings rows))) → IsHeld rows n h
held_is [] n h k = absurd k
held_is (row ∷ rows) n h k = elim (IsIn-either h (held_by n (contents (reading_of row.1))) (held_from (suc n) (map contents (readings rows))) k) [
  | inl i ↦ let r : IsOf row n h = of_row row n h i in
      record { row = row; among = inl refl; place = 0; holder = r.holder ∙ (let e : n ≡ n + 0 = omega arith in e); at = refl; listed = r.listed; content = r.content }
  | inr j ↦ let r : IsHeld rows (suc n) h = held_is rows (suc n) h j in
      record {
        row = r.row;
        among = inr r.among;
        place = suc r.place;
        holder = r.holder ∙ (let e : suc n + r.place ≡ n + suc r.place = omega arith in e);
        at = r.at;
        listed = r.listed;
        content = r.content;
      }
]

-- the first is of an earlier holder, or of the same one and of no greater ID
abbrev pub Earlier : Held → Held → Type 0
Earlier a b = (a.holder < b.holder) ⊎ ((a.holder ≡ b.holder) × (rank a.id ≤ rank b.id))

pub held_rise : (rows : List Row) (n : ℕ) → Pairs Earlier (held_from n (map contents (readings rows)))
held_rise [] n = tt
held_rise (row ∷ rows) n =
    pairs_append Earlier (held_by n (contents (reading_of row.1))) (held_from (suc n) (map contents (readings rows)))
    (pairs_map (λ (a b : AnnId × ℕ). rank a.0 ≤ rank b.0) Earlier (λ (e : AnnId × ℕ). let z : Held = record { holder = n; id = e.0; content = e.1 } in z) (contents (reading_of row.1)) (λ a b up. inr (refl, up))
    (pairs_map NotAbove (λ (a b : AnnId × ℕ). rank a.0 ≤ rank b.0) (λ (id : AnnId). let z : AnnId × ℕ = (id, content_of row.1 id) in z) (ids_of row.1) (λ a b up. up) (ids_rise row.1)))
    (held_rise rows (suc n))
    (λ a b i j. inl (
    let x : a.holder ≡ n = (of_row row n a i).holder in
    let y : IsHeld rows (suc n) b = held_is rows (suc n) b j in
    let z : b.holder ≡ suc n + y.place = y.holder in
    omega arith))
