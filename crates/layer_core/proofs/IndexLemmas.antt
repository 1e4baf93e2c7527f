-- The index of a layer: its pairs, what they lead to, and its spans.
use Rattle.std.proofs.Common.{◌≡◌, ℕ, ◌+◌, ◌*◌, ◌/◌, ◌%◌, ◌<◌, ◌≤◌, inl, inr, min, Bool, true, false, not, ◌||◌, ◌==◌, cond, List, [], ◌∷◌, ◌++◌, length, take, get_or, filter, Option, Some, None, option_map, refl, sym, ◌∙◌, ap, subst, arith, append-nil}
use Rattle.std.specs.Option.{option_map_or}
use Rattle.std.specs.List.{AllByRecursion, list_any}
use Rattle.std.specs.List.Sorted.{IsStrictlySortedBy}
use Rattle.std.specs.Ordering.{nat_cmp, eq_by_cmp, is_eq, ordering_then}
use Rattle.std.specs.declared.cmp.Ordering.TheVariants.{Less, Equal, Greater}
use Rattle.std.specs.declared.ops.Bound.TheVariants.{Included, Excluded}
use Rattle.std.specs.Cmp.{nat_cmp_total, ranked, tied_itself, unsigned_tied, both_ways}
use Rattle.std.specs.BTreeMap.{is_at}
use Rattle.std.specs.BTreeMap.Range.{range_contains}
use Rattle.std.specs.BTreeSet.{Updates}
use Rattle.std.specs.FinMap as finite
use Rattle.std.specs.FinMap.{find, get-entries, get-insert, get-remove}
use Rattle.std.proofs.lemmas.Bool.{and_from, eq-eqb, or_cases}
use Rattle.std.proofs.lemmas.List.Folds.{list_any-append}
use Rattle.std.proofs.lemmas.List.{take_more}
use Rattle.std.proofs.lemmas.Nat.{div-mul-add}
use Rattle.std.proofs.Math.Seq.{take-length}
use Rattle.mark_base.specs.declared.ann_id.AnnId.{AnnId}
use Rattle.mark_base.specs.declared.ann_id.Kind.{Kind}
use Rattle.mark_base.specs.declared.ann_id.Kind.TheVariants as letter
use Rattle.mark_base.specs.declared.fragments.Frag.{Frag}
use Rattle.mark_base.specs.ReadIds.{id_at}
use Rattle.mark_base.proofs.IdLemmas.{id_at-id}
use Rattle.overlap_rules.specs.TouchingSpans.{Held}
use Rattle.layer_model.specs.declared.span.Span.{Span}
use Rattle.layer_model.specs.declared.mark.Mark.{Mark}
use Rattle.layer_model.specs.Annotations.{Annotations}
use Rattle.layer_model.specs.Classes.{letter_place, rank}
use Rattle.layer_model.specs.Layers.{IsLayer, mark_at}
use Rattle.layer_model.specs.LayerIds.{ids_of}
use Rattle.layer_rules.specs.LayerRules.{is_id}
use Rattle.layer_rules.specs.MarkRules.{named_by}
use Rattle.layer_rules.proofs.LawLemmas.{same_number}
use Rattle.layer_rules.proofs.OverlapLemmas.{Seen}
use Rattle.layer_core.specs.Namers.{is_but, names_it, namers_but}
use Rattle.layer_core.specs.Indexes.{frags_at, has_pair, HasPairs, HoldsAgain, HoldsNamers, HoldsSpans, id_of_place, is_but_span, is_namer, KeepsOthers, KeepsPairs, letter_at, named_at, namer_at, namers_among, pair_cmp, Pairs}
use Rattle.layer_core.proofs.FallLemmas.{among, equal, is_equal, kept_among, one_id, turned}
use Rattle.layer_core.proofs.PairSets.{all_found, first_true, in_range, not_so, not_true, of_place, put_keeps, second_equal, second_true}
use Rattle.layer_core.proofs.AscendingIds.{all_both, Below, one_list, Rising, rising_both, rising_ids, rising_kept}

none_some : {X : Type 0} {x : X} → None ≡ Some x → ⊥
none_some e = cc

some_is : {X : Type 0} {a b : X} → Some a ≡ Some b → a ≡ b
some_is e = cc

-- ---- the ID of a place

letter_of : (kind : Kind) → letter_at (letter_place kind) ≡ Some kind
letter_of letter.Text = refl
letter_of letter.Event = refl
letter_of letter.Relation = refl
letter_of letter.Attribute = refl
letter_of letter.Legacy = refl
letter_of letter.Normal = refl
letter_of letter.Note = refl

-- one of the letters, or one of those behind it
one_letter : (n place : ℕ) (here kind : Kind) (rest : Option Kind) → letter_place here ≡ place → (rest ≡ Some kind → letter_place kind ≡ n)
    → cond (n == place) (Some here) rest ≡ Some kind → letter_place kind ≡ n
one_letter n place here kind rest is later e = split (n == place) refl e
  where
    split : (b : Bool) → (n == place) ≡ b → cond b (Some here) rest ≡ Some kind → letter_place kind ≡ n
    split true same f = ap letter_place (sym (some_is f)) ∙ is ∙ sym (is_equal n place same)
    split false other f = later f

place_of : (n : ℕ) (kind : Kind) → letter_at n ≡ Some kind → letter_place kind ≡ n
place_of n kind e =
    one_letter n 0 letter.Text kind _ refl (λ f1. one_letter n 1 letter.Event kind _ refl (λ f2. one_letter n 2 letter.Relation kind _ refl (λ f3.
    one_letter n 3 letter.Attribute kind _ refl (λ f4. one_letter n 4 letter.Legacy kind _ refl (λ f5. one_letter n 5 letter.Normal kind _ refl (λ f6.
    one_letter n 6 letter.Note kind None refl (λ f7. absurd (none_some f7)) f6) f5) f4) f3) f2) f1) e

quotient : (p n : ℕ) → n ≤ 999999999 → (p * 1000000000 + n) / 1000000000 ≡ p
quotient p n small = div-mul-add p 1000000000 n (omega arith)

remainder : (p n : ℕ) → n ≤ 999999999 → (p * 1000000000 + n) % 1000000000 ≡ n
remainder p n small = let q = quotient p n small in omega arith

pub id_of_rank : (id : AnnId) → id_of_place (rank id) ≡ Some id
id_of_rank id =
    ap (option_map (λ kind. id_at kind (rank id % 1000000000))) (ap letter_at (quotient (letter_place id.kind) id.number id.within) ∙ letter_of id.kind)
    ∙ ap (λ n. Some (id_at id.kind n)) (remainder (letter_place id.kind) id.number id.within)
    ∙ ap Some (id_at-id id)

joined_place : (p place : ℕ) → p ≡ place / 1000000000 → p * 1000000000 + min (place % 1000000000) 999999999 ≡ place
joined_place p place is = omega arith

rank_of_place : (place : ℕ) (id : AnnId) → id_of_place place ≡ Some id → rank id ≡ place
rank_of_place place id e = split (letter_at (place / 1000000000)) refl e
  where
    split : (o : Option Kind) → letter_at (place / 1000000000) ≡ o → option_map (λ kind. id_at kind (place % 1000000000)) o ≡ Some id → rank id ≡ place
    split None is f = absurd (none_some f)
    split (Some kind) is f = ap rank (sym (some_is f)) ∙ joined_place (letter_place kind) place (place_of (place / 1000000000) kind is)

-- ---- pairs that are put

-- the IDs up to the next one
pub up_to_next : (ids : List AnnId) (n : ℕ) (id : AnnId) → id ≡ get_or ids n id → n < length ids → take (n + 1) ids ≡ take n ids ++ id ∷ []
up_to_next ids n id is within = take_more ids n id within ∙ ap (λ x. take n ids ++ x ∷ []) (sym is)

pub pairs_next : (before after : Pairs) (namer place : ℕ) (ids : List AnnId) (one : AnnId) → HasPairs before namer ids → place ≡ rank one
    → Updates pair_cmp before after (place, namer) true → HasPairs after namer (ids ++ one ∷ [])
pairs_next before after namer place ids one has is updates id e =
    elim (or_cases (list_any (is_id id) ids) (list_any (is_id id) (one ∷ [])) (sym (list_any-append (is_id id) ids (one ∷ [])) ∙ e)) [
      | inl earlier ↦ put_keeps before after place namer updates (rank id) namer (has id earlier)
      | inr here ↦
          elim (or_cases (is_id id one) false here) [
            | inl same ↦ subst (λ p. has_pair after p namer ≡ true) (is ∙ sym (is_equal (rank id) (rank one) same)) updates.1
            | inr later ↦ absurd (not_true later)
          ]
    ]

-- ---- what annotations name

-- each of some annotations makes a pair with each ID that it names
abbrev pub AllHeld : Annotations → Pairs → List AnnId → Type 0
AllHeld layer pairs ids = AllByRecursion (λ other. HasPairs pairs (rank other) (named_at layer other)) ids

kept_held : (layer : Annotations) (before after : Pairs) (ids : List AnnId) → KeepsPairs before after → AllHeld layer before ids → AllHeld layer after ids
kept_held layer before after [] keeps all = tt
kept_held layer before after (other ∷ ids) keeps all = (λ id e. keeps (rank id) (rank other) (all.0 id e), kept_held layer before after ids keeps all.1)

pub held_next : (layer : Annotations) (before after : Pairs) (ids : List AnnId) (one : AnnId) → AllHeld layer before ids → KeepsPairs before after
    → HasPairs after (rank one) (named_at layer one) → AllHeld layer after (ids ++ one ∷ [])
held_next layer before after ids one all keeps has =
    all_both (λ other. HasPairs after (rank other) (named_at layer other)) ids (one ∷ []) (kept_held layer before after ids keeps all) (has, tt)

names_named : (layer : Annotations) (id other : AnnId) → names_it layer id other ≡ list_any (is_id id) (named_at layer other)
names_named layer id other = split (mark_at layer other)
  where
    split : (o : Option Mark) → option_map_or (λ mark. list_any (is_id id) (named_by mark)) o false ≡ list_any (is_id id) (option_map_or named_by o [])
    split None = refl
    split (Some mark) = refl

-- what names another is in the layer
names_there : (layer : Annotations) (id other : AnnId) → names_it layer id other ≡ true → list_any (is_id other) (ids_of layer) ≡ true
names_there layer id other e = split (mark_at layer other) refl e
  where
    split : (o : Option Mark) → mark_at layer other ≡ o → option_map_or (λ mark. list_any (is_id id) (named_by mark)) o false ≡ true → list_any (is_id other) (ids_of layer) ≡ true
    split None is f = absurd (not_true f)
    split (Some mark) is f = among layer other mark is

one_of_all : (P : AnnId → Type 0) (other : AnnId) (ids : List AnnId) → AllByRecursion P ids → list_any (is_id other) ids ≡ true → P other
one_of_all P other [] all e = absurd (not_true e)
one_of_all P other (id ∷ ids) all e = split (one_of_all P other ids all.1) (is_id other id) refl e
  where
    split : (list_any (is_id other) ids ≡ true → P other) → (b : Bool) → is_id other id ≡ b → (b || list_any (is_id other) ids) ≡ true → P other
    split later true is f = subst P (sym (one_id other id is)) all.0
    split later false is f = later f

-- all annotations were gone over
pub all_held : (layer : Annotations) (pairs : Pairs) (ids : List AnnId) (n : ℕ) → ids ≡ ids_of layer → n ≡ length ids → AllHeld layer pairs (take n ids) → HoldsNamers None layer pairs
all_held layer pairs ids n is end all id other _ names =
    let whole : AllHeld layer pairs ids = subst (λ (xs : List AnnId). AllHeld layer pairs xs) (ap (λ m. take m ids) end ∙ take-length ids) all in
    one_of_all (λ one. HasPairs pairs (rank one) (named_at layer one)) other ids whole (ap (list_any (is_id other)) is ∙ names_there layer id other names)
    id (sym (names_named layer id other) ∙ names)

-- one annotation changed: the pairs of the others are as before, and its own are there
pub namers_again : (layer : Annotations) (changed : AnnId) (before between after : Pairs) → HoldsNamers (Some changed) layer before → KeepsOthers (rank changed) before between
    → KeepsPairs between after → HasPairs after (rank changed) (named_at layer changed) → HoldsNamers None layer after
namers_again layer changed before between after holds others keeps has id other _ names = split (is_id changed other) refl
  where
    split : (b : Bool) → is_id changed other ≡ b → has_pair after (rank id) (rank other) ≡ true
    split true is =
        let one : changed ≡ other = one_id changed other is in
        subst (λ o. has_pair after (rank id) (rank o) ≡ true) one (has id (sym (names_named layer id changed) ∙ ap (names_it layer id) one ∙ names))
    split false is =
        keeps (rank id) (rank other)
        (others (rank id) (rank other) (λ same. not_true (sym is ∙ eq-eqb (rank changed) (rank other) (sym same))) (holds id other is names))

-- ---- the annotations that pairs lead to

module _ (but : Option AnnId) (layer : Annotations) (id : AnnId) where
  -- what stands at one place
  each_at : (P : AnnId → Type 0) (place : ℕ) → ((other : AnnId) → rank other ≡ place → P other) → AllByRecursion P (namer_at but layer id place)
  each_at P place f = split (id_of_place place) refl
    where
      split : (o : Option AnnId) → id_of_place place ≡ o → AllByRecursion P (option_map_or (λ other. cond (is_namer but layer id other) (other ∷ []) []) o [])
      split None is = tt
      split (Some other) is =
          elim (is_namer but layer id other) as (λ b. AllByRecursion P (cond b (other ∷ []) [])) [
            | true ↦ (f other (rank_of_place place other is), tt)
            | false ↦ tt
          ]

  one_rising : (place : ℕ) → Rising (namer_at but layer id place)
  one_rising place = split (id_of_place place)
    where
      split : (o : Option AnnId) → Rising (option_map_or (λ other. cond (is_namer but layer id other) (other ∷ []) []) o [])
      split None = tt
      split (Some other) =
          elim (is_namer but layer id other) as (λ b. Rising (cond b (other ∷ []) [])) [
            | true ↦ (tt, tt)
            | false ↦ tt
          ]

  below_more : (place : ℕ) (pair : ℕ × ℕ) (pairs : List (ℕ × ℕ)) → pair.0 ≡ place → AllByRecursion (λ other. pair_cmp pair other ≡ Less) pairs
      → Below pair.1 (namers_among but layer id (filter (in_range place) pairs))
  below_more place pair [] is below = tt
  below_more place pair (next ∷ pairs) is below = split (below_more place pair pairs is below.1) (in_range place next) refl
    where
      higher : next.0 ≡ place → pair.1 < next.1
      higher here =
          let first : pair.0 ≡ next.0 = is ∙ sym here in
          elim (nat_cmp pair.0 next.0) as (λ r. r ≡ nat_cmp pair.0 next.0 → ordering_then r (nat_cmp pair.1 next.1) ≡ Less → pair.1 < next.1) [
            | Less ↦ λ o _. absurd (let low = ranked pair.0 next.0 Less o in omega arith)
            | Equal ↦ λ _ e. ranked pair.1 next.1 Less (sym e)
            | Greater ↦ λ _ e. absurd (let wrong : Greater ≡ Less = e in cc)
          ] refl below.0

      split : Below pair.1 (namers_among but layer id (filter (in_range place) pairs)) → (b : Bool) → in_range place next ≡ b
          → Below pair.1 (namers_among but layer id (cond b (next ∷ filter (in_range place) pairs) (filter (in_range place) pairs)))
      split later true here =
          all_both (λ other. pair.1 < rank other) (namer_at but layer id next.1) (namers_among but layer id (filter (in_range place) pairs))
          (each_at (λ other. pair.1 < rank other) next.1 (λ other e. subst (λ n. pair.1 < n) (sym e) (higher (of_place place next here)))) later
      split later false here = later

  rising_namers : (place : ℕ) (pairs : List (ℕ × ℕ)) → IsStrictlySortedBy pair_cmp pairs → Rising (namers_among but layer id (filter (in_range place) pairs))
  unfolding IsStrictlySortedBy
  rising_namers place [] sorted = tt
  rising_namers place (pair ∷ pairs) sorted = split (rising_namers place pairs sorted.1) (in_range place pair) refl
    where
      split : Rising (namers_among but layer id (filter (in_range place) pairs)) → (b : Bool) → in_range place pair ≡ b
          → Rising (namers_among but layer id (cond b (pair ∷ filter (in_range place) pairs) (filter (in_range place) pairs)))
      split later true here =
          rising_both (namer_at but layer id pair.1) (namers_among but layer id (filter (in_range place) pairs)) (one_rising pair.1) later
          (each_at (λ other. Below (rank other) (namers_among but layer id (filter (in_range place) pairs))) pair.1
          (λ other e. subst (λ n. Below n (namers_among but layer id (filter (in_range place) pairs))) (sym e) (below_more place pair pairs (of_place place pair here) sorted.0)))
      split later false here = later

  -- whatever is found names it
  sound : (pairs : List (ℕ × ℕ)) (x : AnnId) → list_any (is_id x) (namers_among but layer id pairs) ≡ true → is_namer but layer id x ≡ true
  sound [] x e = absurd (not_true e)
  sound (pair ∷ pairs) x e =
      elim (or_cases (list_any (is_id x) (namer_at but layer id pair.1)) (list_any (is_id x) (namers_among but layer id pairs)) (sym (list_any-append (is_id x) (namer_at but layer id pair.1) (namers_among but layer id pairs)) ∙ e)) [
        | inl here ↦ at_place (id_of_place pair.1) here
        | inr later ↦ sound pairs x later
      ]
    where
      at_one : (other : AnnId) (b : Bool) → is_namer but layer id other ≡ b → list_any (is_id x) (cond b (other ∷ []) []) ≡ true → is_namer but layer id x ≡ true
      at_one other true is f =
          elim (or_cases (is_id x other) false f) [
            | inl same ↦ ap (is_namer but layer id) (one_id x other same) ∙ is
            | inr later ↦ absurd (not_true later)
          ]
      at_one other false is f = absurd (not_true f)

      at_place : (o : Option AnnId) → list_any (is_id x) (option_map_or (λ other. cond (is_namer but layer id other) (other ∷ []) []) o []) ≡ true → is_namer but layer id x ≡ true
      at_place None f = absurd (not_true f)
      at_place (Some other) f = at_one other (is_namer but layer id other) refl f

  -- what names it and has a pair is found
  complete : (place : ℕ) (pairs : List (ℕ × ℕ)) (x : AnnId) → is_namer but layer id x ≡ true → list_any (is_at (pair_cmp (place, rank x))) pairs ≡ true
      → list_any (is_id x) (namers_among but layer id pairs) ≡ true
  complete place [] x so e = absurd (not_true e)
  complete place (pair ∷ pairs) x so e =
      list_any-append (is_id x) (namer_at but layer id pair.1) (namers_among but layer id pairs)
      ∙ elim (or_cases (is_at (pair_cmp (place, rank x)) pair) (list_any (is_at (pair_cmp (place, rank x))) pairs) e) [
        | inl here ↦ ap (λ b. b || list_any (is_id x) (namers_among but layer id pairs)) (found (sym (same_number (rank x) pair.1 (second_equal (nat_cmp place pair.0) (nat_cmp (rank x) pair.1) here))))
        | inr later ↦ ap (λ b. list_any (is_id x) (namer_at but layer id pair.1) || b) (complete place pairs x so later) ∙ or_true (list_any (is_id x) (namer_at but layer id pair.1))
      ]
    where
      or_true : (b : Bool) → (b || true) ≡ true
      or_true true = refl
      or_true false = refl

      found : rank x ≡ pair.1 → list_any (is_id x) (namer_at but layer id pair.1) ≡ true
      found is =
          ap (λ n. list_any (is_id x) (namer_at but layer id n)) (sym is)
          ∙ ap (λ o. list_any (is_id x) (option_map_or (λ other. cond (is_namer but layer id other) (other ∷ []) []) o [])) (id_of_rank x)
          ∙ ap (λ b. list_any (is_id x) (cond b (x ∷ []) [])) so
          ∙ ap (λ b. b || false) (equal (rank x))

  -- the annotations that the pairs of an ID lead to are those that name it
  pub namers_are : (pairs : Pairs) (place : ℕ) (range : List (ℕ × ℕ)) → IsLayer layer → HoldsNamers but layer pairs → IsStrictlySortedBy pair_cmp pairs.keys → place ≡ rank id
      → range ≡ filter (range_contains pair_cmp (Included (place, 0)) (Excluded (place + 1, 0))) pairs.keys → namers_among but layer id range ≡ namers_but but layer id
  namers_are pairs place range kept holds sorted is all =
      ap (namers_among but layer id) all
      ∙ one_list found (filter (is_namer but layer id) (ids_of layer)) (rising_namers place pairs.keys sorted) (rising_kept (is_namer but layer id) (ids_of layer) (rising_ids layer kept))
      (λ x. both_ways _ _ (forth x) (back x))
    where
      found : List AnnId
      found = namers_among but layer id (filter (in_range place) pairs.keys)

      forth : (x : AnnId) → list_any (is_id x) found ≡ true → list_any (is_id x) (filter (is_namer but layer id) (ids_of layer)) ≡ true
      forth x e =
          let so = sound (filter (in_range place) pairs.keys) x e in
          kept_among (is_namer but layer id) x (ids_of layer) ∙ and_from _ _ so (names_there layer id x (second_true (not (is_but but x)) _ so))

      back : (x : AnnId) → list_any (is_id x) (filter (is_namer but layer id) (ids_of layer)) ≡ true → list_any (is_id x) found ≡ true
      back x e =
          let so : is_namer but layer id x ≡ true = first_true _ (list_any (is_id x) (ids_of layer)) (sym (kept_among (is_namer but layer id) x (ids_of layer)) ∙ e) in
          let there : has_pair pairs place (rank x) ≡ true =
          ap (λ p. has_pair pairs p (rank x)) is ∙ holds id x (not_so (is_but but x) (first_true (not (is_but but x)) (names_it layer id x) so)) (second_true (not (is_but but x)) (names_it layer id x) so) in
          complete place (filter (in_range place) pairs.keys) x so
          (all_found pairs place (rank x) there)

-- ---- spans

-- all spans were gone over
pub all_seen : (layer : Annotations) (rest : List (ℕ × Span)) (held : Held) → rest ≡ [] → Seen layer rest held → HoldsSpans layer held
all_seen layer rest held none seen n =
    let whole : seen.before ≡ finite.entries layer.spans = sym (seen.split ∙ ap (λ r. seen.before ++ r) none ∙ append-nil seen.before) in
    seen.holds n ∙ ap (option_map (λ (span : Span). span.frags)) (ap (find nat_cmp n) whole ∙ sym (get-entries layer.spans n))

pub not_held_now : (held after : Held) (n : ℕ) → after ≡ finite.remove held n → finite.get after n ≡ None
not_held_now held after n is =
    ap (λ (h : Held). finite.get h n) is ∙ get-remove nat_cmp_total held n n ∙ ap (λ r. cond (is_eq r) None (finite.get held n)) (tied_itself nat_cmp_total n)

equal_tests : (q k : ℕ) → eq_by_cmp nat_cmp q k ≡ (k == q)
equal_tests q k = unsigned_tied q k ∙ turned q k

-- a span that is let go
pub let_go : (layer : Annotations) (held after : Held) (n : ℕ) → after ≡ finite.remove held n → None ≡ finite.get layer.spans n
    → (q : ℕ) → finite.get after q ≡ cond (n == q) (frags_at layer q) (finite.get held q)
let_go layer held after n is none q =
    ap (λ (h : Held). finite.get h q) is ∙ get-remove nat_cmp_total held n q ∙ ap (λ b. cond b None (finite.get held q)) (equal_tests q n) ∙ split (n == q) refl
  where
    split : (b : Bool) → (n == q) ≡ b → cond b None (finite.get held q) ≡ cond b (frags_at layer q) (finite.get held q)
    split true same = ap (option_map (λ (span : Span). span.frags)) (none ∙ ap (finite.get layer.spans) (is_equal n q same))
    split false other = refl

-- a span that is put in the place of another
pub put_again : (layer : Annotations) (held between after : Held) (n : ℕ) (span : Span) (frags : List Frag) → between ≡ finite.remove held n → after ≡ finite.insert between n frags
    → frags ≡ span.frags → Some span ≡ finite.get layer.spans n → (q : ℕ) → finite.get after q ≡ cond (n == q) (frags_at layer q) (finite.get held q)
put_again layer held between after n span frags gone put same there q =
    ap (λ (h : Held). finite.get h q) put ∙ get-insert nat_cmp_total between n frags q
    ∙ ap (λ o. cond (eq_by_cmp nat_cmp q n) (Some frags) o) (ap (λ (h : Held). finite.get h q) gone ∙ get-remove nat_cmp_total held n q)
    ∙ ap (λ b. cond b (Some frags) (cond b None (finite.get held q))) (equal_tests q n) ∙ split (n == q) refl
  where
    split : (b : Bool) → (n == q) ≡ b → cond b (Some frags) (cond b None (finite.get held q)) ≡ cond b (frags_at layer q) (finite.get held q)
    split true is = ap Some same ∙ ap (option_map (λ (one : Span). one.frags)) (there ∙ ap (finite.get layer.spans) (is_equal n q is))
    split false other = refl

-- one annotation changed: the other spans are as before, and its own is there
pub spans_again : (layer : Annotations) (changed : AnnId) (before after : Held)
    → ((number : ℕ) → is_but_span (Some changed) number ≡ false → finite.get before number ≡ frags_at layer number) → HoldsAgain layer changed before after → HoldsSpans layer after
spans_again layer changed before after same again number = again number ∙ split (is_but_span (Some changed) number) refl
  where
    split : (b : Bool) → is_but_span (Some changed) number ≡ b → cond b (frags_at layer number) (finite.get before number) ≡ frags_at layer number
    split true is = refl
    split false is = same number is
