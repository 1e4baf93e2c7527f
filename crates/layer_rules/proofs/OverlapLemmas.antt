-- The first span that overlaps a lower one as the configuration does not allow, with an index of the spans before.
use Rattle.std.proofs.Common.{◌≡◌, ℕ, ◌<◌, zero, suc, Bool, true, false, not, ◌&&◌, ◌||◌, cond, T, List, [], ◌∷◌, ◌++◌, length, nat_eq, nat_lt, refl, sym, ◌∙◌, ap, subst, Option, Some, None, append_assoc, arith, tests}
use Rattle.std.proofs.lemmas.Bool.{lt-ltb}
use Rattle.mark_base.specs.declared.table_places.TypeId.{TypeId}
use Rattle.layer_model.specs.Classes.{rank}
use Rattle.std.specs.Option.{option_or, option_map, option_map_or}
use Rattle.std.specs.List.{AllByRecursion, list_any}
use Rattle.std.specs.List as lists
use Rattle.std.specs.List.Sorted.{IsStrictlySortedBy}
use Rattle.std.specs.Map.{keys_of}
use Rattle.std.specs.Ordering.{nat_cmp, eq_by_cmp, is_lt, is_eq}
use Rattle.std.specs.Cmp.{nat_cmp_total, ranked}
use Rattle.std.specs.declared.cmp.Ordering.{Ordering}
use Rattle.std.specs.declared.cmp.Ordering.TheVariants.{Less, Equal, Greater}
use Rattle.std.specs.FinMap as finite
use Rattle.std.specs.FinMap.{find, get-empty, get-insert, entries_sorted}
use Rattle.std.specs.FinMap.Entries.{is_sorted, below_all}
use Rattle.mark_base.specs.declared.ann_id.AnnId.{AnnId}
use Rattle.mark_base.specs.declared.ann_id.Kind.TheVariants as letter
use Rattle.mark_base.specs.declared.fragments.Frag.{Frag}
use Rattle.mark_base.specs.declared.overlap.OvlKind.{OvlKind}
use Rattle.mark_base.specs.declared.overlap.OvlKind.TheVariants.{Apart, Equal as Same, Contains, Inside, Cross}
use Rattle.conf_model.specs.Configurations.{Configuration}
use Rattle.conf_model.specs.Lookups.{allows_either, overlap_allowed, is_apart as apart_kind}
use Rattle.overlap_rules.specs.Overlaps.{are_ascending, kind_of}
use Rattle.overlap_rules.specs.TouchingSpans.{Held, IsFirstTouching, is_apart}
use Rattle.layer_model.specs.declared.span.Span.{Span}
use Rattle.layer_model.specs.declared.mark.Mark.{Mark}
use Rattle.layer_model.specs.declared.mark.Mark.TheVariants as marked
use Rattle.layer_model.specs.declared.rule.Rule.{Rule}
use Rattle.layer_model.specs.declared.rule.Rule.TheVariants.{OverlapRefused}
use Rattle.layer_model.specs.declared.flaw.Flaw.{Flaw}
use Rattle.layer_model.specs.declared.flaw.FlawPlace.TheVariants as at
use Rattle.layer_model.specs.Annotations.{Annotations}
use Rattle.layer_model.specs.Layers.{IsLayer}
use Rattle.mark_base.specs.ReadIds.{id_at}
use Rattle.layer_model.specs.LayerIds.{ids_of}
use Rattle.layer_rules.specs.FlawPlaces.{first_place, places}
use Rattle.layer_rules.specs.BadTexts.{are_fragments}
use Rattle.layer_rules.specs.LayerRules.{overlap_refused, refused_overlap}
use Rattle.layer_rules.specs.WellFormed.{at_overlap_refused}
use Rattle.layer_rules.specs.LowestFlaw.{HasGoodSpans, flaw_at, refuses}
use Rattle.layer_rules.proofs.FlawLemmas.{or-None}
use Rattle.layer_rules.proofs.PassLemmas.{only_spans}
use Rattle.layer_rules.proofs.PlaceLemmas.{all_entries, along, each_found, entries_found}
use Rattle.layer_rules.proofs.PairLemmas.{among_items, among_letter, first_item, found_by_letters, items, lower, not_among, pair_below, those_before, unpaired, Up, up_entries}

none_some : {X : Type 0} {x : X} → None ≡ Some x → ⊥
none_some e = cc

same_some : {X : Type 0} {a b : X} → Some a ≡ Some b → a ≡ b
same_some e = cc

-- a span is refused over a lower one
abbrev pub hit : Configuration → Span → Span → Bool
hit conf span lower_ = refused_overlap conf (marked.Span span) (marked.Span lower_)

-- the rule at a span
abbrev pub told : Configuration → Annotations → AnnId → Span → Option Rule
told conf layer id span = overlap_refused conf layer id (marked.Span span)

lower_overlap : (conf : Configuration) (layer : Annotations) → IsLayer layer → (id : AnnId) (span : Span)
    → told conf layer id span ≡ option_map OverlapRefused (lower (hit conf span) id (items letter.Text (finite.entries layer.spans)))
lower_overlap conf layer kept id span =
    let pairs : Mark → Bool = refused_overlap conf (marked.Span span) in
    ap (option_map OverlapRefused)
    (found_by_letters (pair_below pairs layer id) layer _ None None None None None None
    (among_letter pairs layer id letter.Text marked.Span layer.spans (λ k. refl) kept.spans refl)
    (not_among pairs layer id letter.Event marked.Event layer.events (λ k. refl) kept.events refl (λ v. refl))
    (not_among pairs layer id letter.Relation marked.Relation layer.relations (λ k. refl) kept.relations refl (λ v. refl))
    (not_among pairs layer id letter.Attribute marked.Attribute layer.attributes (λ k. refl) kept.attributes refl (λ v. refl))
    (not_among pairs layer id letter.Legacy marked.Attribute layer.legacy (λ k. refl) kept.legacy refl (λ v. refl))
    (not_among pairs layer id letter.Normal marked.Normal layer.normals (λ k. refl) kept.normals refl (λ v. refl))
    (not_among pairs layer id letter.Note marked.Note layer.notes (λ k. refl) kept.notes refl (λ v. refl))
    ∙ or-None _)

not_span : (conf : Configuration) (layer : Annotations) (id : AnnId) (mark : Mark) → ((span : Span) → mark ≡ marked.Span span → ⊥) → overlap_refused conf layer id mark ≡ None
not_span conf layer id (marked.Span a) other = absurd (other a refl)
not_span conf layer id (marked.Event a) other = ap (option_map OverlapRefused) (unpaired (refused_overlap conf (marked.Event a)) (λ m. refl) layer id (ids_of layer))
not_span conf layer id (marked.Relation a) other = ap (option_map OverlapRefused) (unpaired (refused_overlap conf (marked.Relation a)) (λ m. refl) layer id (ids_of layer))
not_span conf layer id (marked.Attribute a) other = ap (option_map OverlapRefused) (unpaired (refused_overlap conf (marked.Attribute a)) (λ m. refl) layer id (ids_of layer))
not_span conf layer id (marked.Normal a) other = ap (option_map OverlapRefused) (unpaired (refused_overlap conf (marked.Normal a)) (λ m. refl) layer id (ids_of layer))
not_span conf layer id (marked.Note a) other = ap (option_map OverlapRefused) (unpaired (refused_overlap conf (marked.Note a)) (λ m. refl) layer id (ids_of layer))

-- the pass by spans
pub by_spans : (conf : Configuration) (layer : Annotations) → IsLayer layer
    → first_place (at_overlap_refused conf layer) (places layer) ≡ first_item (told conf layer) (items letter.Text (finite.entries layer.spans))
by_spans conf layer kept =
    only_spans (overlap_refused conf layer) layer kept (not_span conf layer) ∙ among_items letter.Text (told conf layer) (finite.entries layer.spans)

-- ---- order

left : (a b : Bool) → T (a && b) → T a
left true b h = tt
left false b h = h

right : (a b : Bool) → T (a && b) → T b
right true b h = h
right false b h = absurd h

both : (a b : Bool) → T a → T b → T (a && b)
both true b p q = q
both false b p q = p

less_is : (a b : ℕ) → T (is_lt (nat_cmp a b)) → a < b
less_is a b h = ranked a b Less (sym (is (nat_cmp a b) h))
  where
    is : (r : Ordering) → T (is_lt r) → r ≡ Less
    is Less h = refl
    is Equal h = absurd h
    is Greater h = absurd h

same_number : (m n : ℕ) → eq_by_cmp nat_cmp m n ≡ true → m ≡ n
same_number m n e =
    elim (nat_cmp m n) as (λ r. r ≡ nat_cmp m n → is_eq r ≡ true → m ≡ n) [
      | Less ↦ λ _ h. absurd (let f : false ≡ true = h in cc)
      | Equal ↦ λ is _. ranked m n Equal is
      | Greater ↦ λ _ h. absurd (let f : false ≡ true = h in cc)
    ] refl e

differ : (m n : ℕ) → m < n → eq_by_cmp nat_cmp n m ≡ false
differ m n less =
    elim (nat_cmp n m) as (λ r. r ≡ nat_cmp n m → is_eq r ≡ false) [
      | Less ↦ λ _. refl
      | Equal ↦ λ w. absurd (let same = ranked n m Equal w in omega arith)
      | Greater ↦ λ _. refl
    ] refl

below_front : (n : ℕ) (xs ys : List (ℕ × Span)) → T (below_all nat_cmp n (xs ++ ys)) → T (below_all nat_cmp n xs)
below_front n [] ys h = tt
below_front n (x ∷ xs) ys h = both _ _ (left _ _ h) (below_front n xs ys (right _ _ h))

sorted_front : (xs ys : List (ℕ × Span)) → T (is_sorted nat_cmp (xs ++ ys)) → T (is_sorted nat_cmp xs)
sorted_front [] ys h = tt
sorted_front (x ∷ xs) ys h = both _ _ (below_front x.0 xs ys (left _ _ h)) (sorted_front xs ys (right _ _ h))

in_mid : (m : ℕ) (before : List (ℕ × Span)) (one : ℕ × Span) (later : List (ℕ × Span)) → T (below_all nat_cmp m (before ++ (one ∷ later))) → m < one.0
in_mid m [] one later h = less_is m one.0 (left _ _ h)
in_mid m (x ∷ before) one later h = in_mid m before one later (right _ _ h)

-- a number is not among those before it
absent : (before : List (ℕ × Span)) (one : ℕ × Span) (later : List (ℕ × Span)) → T (is_sorted nat_cmp (before ++ (one ∷ later))) → find nat_cmp one.0 before ≡ None
absent [] one later sorted = refl
absent (x ∷ before) one later sorted =
    ap (λ b. cond b (Some x.1) (find nat_cmp one.0 before)) (differ x.0 one.0 (in_mid x.0 before one later (left _ _ sorted))) ∙ absent before one later (right _ _ sorted)

-- what is found behind a number is above it
found_above : (n k : ℕ) (v : Span) (es : List (ℕ × Span)) → T (below_all nat_cmp n es) → find nat_cmp k es ≡ Some v → n < k
found_above n k v [] below is = absurd (none_some is)
found_above n k v (e ∷ es) below is = split (eq_by_cmp nat_cmp k e.0) refl is (λ f. found_above n k v es (right _ _ below) f)
  where
    split : (b : Bool) → eq_by_cmp nat_cmp k e.0 ≡ b → cond b (Some e.1) (find nat_cmp k es) ≡ Some v → (find nat_cmp k es ≡ Some v → n < k) → n < k
    split true same f later = let here = same_number k e.0 same in let low = less_is n e.0 (left _ _ below) in omega arith
    split false other f later = later f

find_more : (q : ℕ) (xs : List (ℕ × Span)) (n : ℕ) (v : Span) → find nat_cmp q (xs ++ ((n, v) ∷ [])) ≡ option_or (find nat_cmp q xs) (cond (eq_by_cmp nat_cmp q n) (Some v) None)
find_more q [] n v = refl
find_more q (x ∷ xs) n v =
    elim (eq_by_cmp nat_cmp q x.0) as (λ b. cond b (Some x.1) (find nat_cmp q (xs ++ ((n, v) ∷ []))) ≡ option_or (cond b (Some x.1) (find nat_cmp q xs)) (cond (eq_by_cmp nat_cmp q n) (Some v) None)) [
      | true ↦ refl
      | false ↦ find_more q xs n v
    ]

-- ---- what the index holds

-- the fragments of a span
abbrev frags_of : Span → List Frag
frags_of span = span.frags

-- the spans before those that are left are held
pub record Seen (layer : Annotations) (rest : List (ℕ × Span)) (held : Held) : Type 0 where
  pub before : List (ℕ × Span)
  pub split : finite.entries layer.spans ≡ before ++ rest
  pub holds : (n : ℕ) → finite.get held n ≡ option_map frags_of (find nat_cmp n before)

pub seen_none : (layer : Annotations) (rest es : List (ℕ × Span)) (held : Held) → finite.from_entries {R = nat_cmp} es ≡ layer.spans → rest ≡ es → IsStrictlySortedBy nat_cmp (keys_of es)
    → held ≡ finite.empty → Seen layer rest held
seen_none layer rest es held is gives sorted empty =
    record { before = []; split = sym (all_entries layer.spans rest es is gives sorted); holds = λ n. ap (λ (h : Held). finite.get h n) empty ∙ get-empty nat_cmp n }

whole_sorted : (layer : Annotations) (before later : List (ℕ × Span)) (n : ℕ) (v : Span) → finite.entries layer.spans ≡ before ++ ((n, v) ∷ later) → T (is_sorted nat_cmp (before ++ ((n, v) ∷ later)))
whole_sorted layer before later n v is = subst (λ (es : List (ℕ × Span)). T (is_sorted nat_cmp es)) is (entries_sorted layer.spans)

pub not_held : (layer : Annotations) (rest later : List (ℕ × Span)) (held : Held) (n : ℕ) (v : Span) → rest ≡ (n, v) ∷ later → Seen layer rest held → finite.get held n ≡ None
not_held layer rest later held n v is seen =
    let parts : finite.entries layer.spans ≡ seen.before ++ ((n, v) ∷ later) = seen.split ∙ ap (λ r. seen.before ++ r) is in
    seen.holds n ∙ ap (option_map frags_of) (absent seen.before (n, v) later (whole_sorted layer seen.before later n v parts))

pub seen_more : (layer : Annotations) (rest later : List (ℕ × Span)) (held after : Held) (n : ℕ) (v : Span) → rest ≡ (n, v) ∷ later → after ≡ finite.insert held n v.frags → Seen layer rest held → Seen layer later after
seen_more layer rest later held after n v is put seen =
    let parts : finite.entries layer.spans ≡ seen.before ++ ((n, v) ∷ later) = seen.split ∙ ap (λ r. seen.before ++ r) is in
    record {
      before = seen.before ++ ((n, v) ∷ []);
      split = parts ∙ sym (append_assoc seen.before ((n, v) ∷ []) later);
      holds = λ q. ap (λ (h : Held). finite.get h q) put ∙ get-insert nat_cmp_total held n v.frags q
          ∙ ap (λ o. cond (eq_by_cmp nat_cmp q n) (Some v.frags) o) (seen.holds q)
          ∙ at_last q (eq_by_cmp nat_cmp q n) refl (absent seen.before (n, v) later (whole_sorted layer seen.before later n v parts)) seen.before
          ∙ sym (ap (option_map frags_of) (find_more q seen.before n v));
    }
  where
    at_last : (q : ℕ) (b : Bool) → eq_by_cmp nat_cmp q n ≡ b → find nat_cmp n seen.before ≡ None → (xs : List (ℕ × Span))
        → cond (eq_by_cmp nat_cmp q n) (Some v.frags) (option_map frags_of (find nat_cmp q seen.before)) ≡ option_map frags_of (option_or (find nat_cmp q seen.before) (cond (eq_by_cmp nat_cmp q n) (Some v) None))
    at_last q true same none xs =
        ap (λ b. cond b (Some v.frags) (option_map frags_of (find nat_cmp q seen.before))) same
        ∙ sym (ap (λ b. option_map frags_of (option_or (find nat_cmp q seen.before) (cond b (Some v) None))) same
        ∙ ap (λ o. option_map frags_of (option_or o (Some v))) (ap (λ k. find nat_cmp k seen.before) (same_number q n same) ∙ none))
    at_last q false other none xs =
        ap (λ b. cond b (Some v.frags) (option_map frags_of (find nat_cmp q seen.before))) other
        ∙ sym (ap (λ b. option_map frags_of (option_or (find nat_cmp q seen.before) (cond b (Some v) None))) other
        ∙ ap (option_map frags_of) (or-None (find nat_cmp q seen.before)))

-- ---- the first span that is touched and refused is the first that is refused

-- what the index was asked
abbrev pub Asked : Configuration → Annotations → Held → Span → Option ℕ → Type 0
Asked conf layer held span answer = IsFirstTouching (λ number overlap b. b ≡ refuses conf layer span.kind number overlap) held span.frags None answer

pub asked : (conf : Configuration) (layer : Annotations) (held : Held) (span : Span) (frags : List Frag) (answers : ℕ → OvlKind → Bool → Type 0) (answer : Option ℕ)
    → IsFirstTouching answers held frags None answer → frags ≡ span.frags → ((n : ℕ) (k : OvlKind) (b : Bool) → answers n k b → b ≡ refuses conf layer span.kind n k) → Asked conf layer held span answer
asked conf layer held span frags answers answer whole e is = with_frags answer (subst (λ fs. IsFirstTouching answers held fs None answer) e whole)
  where
    with_frags : (o : Option ℕ) → IsFirstTouching answers held span.frags None o → Asked conf layer held span o
    with_frags None f = λ n s e p. is n _ false (f n s e p)
    with_frags (Some k) f =
        record {
          passes = record { span = f.passes.span; held_so = f.passes.held_so; touches = f.passes.touches; passes = is k _ true f.passes.passes };
          lowest = λ m l s e q. is m _ false (f.lowest m l s e q);
        }

known : (conf : Configuration) (n : ℕ) → n < length conf.types → nat_lt n (length conf.types) ≡ true
known conf n h = lt-ltb n (length conf.types) h

apart_is : (k : OvlKind) → is_apart k ≡ true → k ≡ Apart
apart_is Apart e = refl
apart_is Same e = absurd (let f : false ≡ true = e in cc)
apart_is Contains e = absurd (let f : false ≡ true = e in cc)
apart_is Inside e = absurd (let f : false ≡ true = e in cc)
apart_is Cross e = absurd (let f : false ≡ true = e in cc)

apart_allowed : (conf : Configuration) (a b : TypeId) → a.n < length conf.types → b.n < length conf.types → overlap_allowed conf a b Apart ≡ true
apart_allowed conf a b ha hb =
    ap (λ p. (p && nat_lt b.n (length conf.types)) && true) (known conf a.n ha) ∙ ap (λ p. (true && p) && true) (known conf b.n hb)

-- spans that are apart are not refused
apart_not_hit : (conf : Configuration) (span other : Span) → span.kind.n < length conf.types → other.kind.n < length conf.types → is_apart (kind_of other.frags span.frags) ≡ true → hit conf span other ≡ false
apart_not_hit conf span other hs ho apart =
    ap not (ap (overlap_allowed conf other.kind span.kind) (apart_is (kind_of other.frags span.frags) apart) ∙ apart_allowed conf other.kind span.kind ho hs)

or_one : (a b c : Bool) → b ≡ true → ((a || b) || c) ≡ true
or_one true b c e = refl
or_one false b c e = ap (λ x. x || c) e

zero_is : (n : ℕ) → nat_eq n 0 ≡ true → n ≡ 0
zero_is n e = search (arith, tests)

no_lines : (n : ℕ) → nat_eq n 0 ≡ true → not (nat_lt 0 n) ≡ true
no_lines zero e = refl
no_lines (suc n) e = absurd (let f = zero_is (suc n) e in omega arith)

-- nor is any where every overlap is allowed
every_allowed : (conf : Configuration) (span other : Span) → nat_eq (length conf.overlaps) 0 ≡ true → span.kind.n < length conf.types → other.kind.n < length conf.types → hit conf span other ≡ false
every_allowed conf span other none hs ho =
    let k = kind_of other.frags span.frags in
    let lines : Bool = list_any (λ line. allows_either conf.types line other.kind span.kind k) conf.overlaps in
    ap not (ap (λ p. (p && nat_lt span.kind.n (length conf.types)) && ((apart_kind k || not (nat_lt 0 (length conf.overlaps))) || lines)) (known conf other.kind.n ho)
    ∙ ap (λ p. (true && p) && ((apart_kind k || not (nat_lt 0 (length conf.overlaps))) || lines)) (known conf span.kind.n hs)
    ∙ or_one (apart_kind k) (not (nat_lt 0 (length conf.overlaps))) lines (no_lines (length conf.overlaps) none))

-- ---- the answer of the index

-- a span before is not refused where its number fails
fail_at : (conf : Configuration) (layer : Annotations) (before : List (ℕ × Span)) (held : Held) (span : Span) (e : ℕ × Span) → HasGoodSpans conf layer → span.kind.n < length conf.types
    → ((n : ℕ) → finite.get held n ≡ option_map frags_of (find nat_cmp n before)) → find nat_cmp e.0 before ≡ Some e.1 → finite.get layer.spans e.0 ≡ Some e.1
    → ((s : List Frag) → finite.get held e.0 ≡ Some s → is_apart (kind_of s span.frags) ≡ false → false ≡ refuses conf layer span.kind e.0 (kind_of s span.frags)) → hit conf span e.1 ≡ false
fail_at conf layer before held span e good known_ holds here there fails = split (is_apart (kind_of e.1.frags span.frags)) refl
  where
    split : (b : Bool) → is_apart (kind_of e.1.frags span.frags) ≡ b → hit conf span e.1 ≡ false
    split true is = apart_not_hit conf span e.1 known_ (good e.0 e.1 there).2 is
    split false is =
        sym (fails e.1.frags (holds e.0 ∙ ap (option_map frags_of) here) is
        ∙ ap (λ o. option_map_or (λ lower_. not (overlap_allowed conf lower_.kind span.kind (kind_of e.1.frags span.frags))) o false) there)

none_hit : (conf : Configuration) (span : Span) (es : List (ℕ × Span)) → AllByRecursion (λ e. hit conf span e.1 ≡ false) es
    → option_map (λ (x : AnnId × Span). x.0) (lists.find (λ x. hit conf span x.1) (items letter.Text es)) ≡ None
none_hit conf span [] all = refl
none_hit conf span (e ∷ es) all =
    ap (λ b. option_map (λ (x : AnnId × Span). x.0) (cond b (Some (id_at letter.Text e.0, e.1)) (lists.find (λ x. hit conf span x.1) (items letter.Text es)))) all.0 ∙ none_hit conf span es all.1

both_all : {X : Type 0} (P Q R : X → Type 0) (f : (x : X) → P x → Q x → R x) (xs : List X) → AllByRecursion P xs → AllByRecursion Q xs → AllByRecursion R xs
both_all P Q R f [] p q = tt
both_all P Q R f (x ∷ xs) p q = (f x p.0 q.0, both_all P Q R f xs p.1 q.1)

front_all : {X : Type 0} (P : X → Type 0) (xs ys : List X) → AllByRecursion P (xs ++ ys) → AllByRecursion P xs
front_all P [] ys all = tt
front_all P (x ∷ xs) ys all = (all.0, front_all P xs ys all.1)

found_there : (m : finite.FinMap nat_cmp Span) (k : ℕ) (w : Span) (es : List (ℕ × Span)) → AllByRecursion (λ e. finite.get m e.0 ≡ Some e.1) es → find nat_cmp k es ≡ Some w → finite.get m k ≡ Some w
found_there m k w [] all is = absurd (none_some is)
found_there m k w (e ∷ es) all is = split (eq_by_cmp nat_cmp k e.0) refl is (λ f. found_there m k w es all.1 f)
  where
    split : (b : Bool) → eq_by_cmp nat_cmp k e.0 ≡ b → cond b (Some e.1) (find nat_cmp k es) ≡ Some w → (find nat_cmp k es ≡ Some w → finite.get m k ≡ Some w) → finite.get m k ≡ Some w
    split true same f later = ap (finite.get m) (same_number k e.0 same) ∙ all.0 ∙ f
    split false other f later = later f

-- the first that is hit is the one of a number, where none of a lower number is
one_hit : (conf : Configuration) (span w : Span) (k : ℕ) (es : List (ℕ × Span)) → T (is_sorted nat_cmp es) → find nat_cmp k es ≡ Some w → hit conf span w ≡ true
    → AllByRecursion (λ e. e.0 < k → hit conf span e.1 ≡ false) es → option_map (λ (x : AnnId × Span). x.0) (lists.find (λ x. hit conf span x.1) (items letter.Text es)) ≡ Some (id_at letter.Text k)
one_hit conf span w k [] sorted is so lows = absurd (none_some is)
one_hit conf span w k (e ∷ es) sorted is so lows = split (eq_by_cmp nat_cmp k e.0) refl is (λ f. one_hit conf span w k es (right _ _ sorted) f so lows.1)
  where
    split : (b : Bool) → eq_by_cmp nat_cmp k e.0 ≡ b → cond b (Some e.1) (find nat_cmp k es) ≡ Some w
        → (find nat_cmp k es ≡ Some w → option_map (λ (x : AnnId × Span). x.0) (lists.find (λ x. hit conf span x.1) (items letter.Text es)) ≡ Some (id_at letter.Text k))
        → option_map (λ (x : AnnId × Span). x.0) (cond (hit conf span e.1) (Some (id_at letter.Text e.0, e.1)) (lists.find (λ x. hit conf span x.1) (items letter.Text es))) ≡ Some (id_at letter.Text k)
    split true same f later =
        ap (λ c. option_map (λ (x : AnnId × Span). x.0) (cond c (Some (id_at letter.Text e.0, e.1)) (lists.find (λ x. hit conf span x.1) (items letter.Text es)))) (ap (hit conf span) (same_some f) ∙ so)
        ∙ ap (λ n. Some (id_at letter.Text n)) (sym (same_number k e.0 same))
    split false other f later =
        ap (λ c. option_map (λ (x : AnnId × Span). x.0) (cond c (Some (id_at letter.Text e.0, e.1)) (lists.find (λ x. hit conf span x.1) (items letter.Text es)))) (lows.0 (found_above e.0 k w es (left _ _ sorted) f))
        ∙ later f

index_answer : (conf : Configuration) (layer : Annotations) (before : List (ℕ × Span)) (held : Held) (span : Span) (answer : Option ℕ) → HasGoodSpans conf layer → span.kind.n < length conf.types
    → ((n : ℕ) → finite.get held n ≡ option_map frags_of (find nat_cmp n before)) → T (is_sorted nat_cmp before) → AllByRecursion (λ e. finite.get layer.spans e.0 ≡ Some e.1) before
    → Asked conf layer held span answer → option_map (λ (x : AnnId × Span). x.0) (lists.find (λ x. hit conf span x.1) (items letter.Text before)) ≡ option_map (id_at letter.Text) answer
index_answer conf layer before held span None good known_ holds sorted there ask =
    none_hit conf span before
    (both_all (λ e. find nat_cmp e.0 before ≡ Some e.1) (λ e. finite.get layer.spans e.0 ≡ Some e.1) (λ e. hit conf span e.1 ≡ false)
    (λ e here found. fail_at conf layer before held span e good known_ holds here found (λ s is apart. ask e.0 s is apart)) before (each_found before sorted) there)
index_answer conf layer before held span (Some k) good known_ holds sorted there ask = at_k (find nat_cmp k before) refl
  where
    at_k : (o : Option Span) → find nat_cmp k before ≡ o → option_map (λ (x : AnnId × Span). x.0) (lists.find (λ x. hit conf span x.1) (items letter.Text before)) ≡ Some (id_at letter.Text k)
    at_k None is = absurd (none_some (sym (holds k ∙ ap (option_map frags_of) is) ∙ ask.passes.held_so))
    at_k (Some w) is =
        let frags : w.frags ≡ ask.passes.span = same_some (sym (holds k ∙ ap (option_map frags_of) is) ∙ ask.passes.held_so) in
        let found : finite.get layer.spans k ≡ Some w = found_there layer.spans k w before there is in
        let so : hit conf span w ≡ true =
        sym (ask.passes.passes ∙ ap (λ o. option_map_or (λ lower_. not (overlap_allowed conf lower_.kind span.kind (kind_of ask.passes.span span.frags))) o false) found
        ∙ ap (λ s. not (overlap_allowed conf w.kind span.kind (kind_of s span.frags))) (sym frags)) in
        one_hit conf span w k before sorted is so
        (both_all (λ e. find nat_cmp e.0 before ≡ Some e.1) (λ e. finite.get layer.spans e.0 ≡ Some e.1) (λ e. e.0 < k → hit conf span e.1 ≡ false)
        (λ e here there_ low. fail_at conf layer before held span e good known_ holds here there_ (λ s held_ apart. ask.lowest e.0 low s held_ apart)) before (each_found before sorted) there)

items-append : (xs ys : List (ℕ × Span)) → items letter.Text (xs ++ ys) ≡ items letter.Text xs ++ items letter.Text ys
items-append [] ys = refl
items-append (x ∷ xs) ys = ap (λ r. (id_at letter.Text x.0, x.1) ∷ r) (items-append xs ys)

in_back : (layer : Annotations) (one : ℕ × Span) (xs ys : List (ℕ × Span)) → AllByRecursion (λ e. finite.get layer.spans e.0 ≡ Some e.1) (xs ++ (one ∷ ys)) → finite.get layer.spans one.0 ≡ Some one.1
in_back layer one [] ys all = all.0
in_back layer one (x ∷ xs) ys all = in_back layer one xs ys all.1

-- the rule at the first span that is left
told_by_index : (conf : Configuration) (layer : Annotations) → IsLayer layer → HasGoodSpans conf layer → (rest later : List (ℕ × Span)) (held : Held) (n : ℕ) (v : Span) (answer : Option ℕ)
    → rest ≡ (n, v) ∷ later → Seen layer rest held → Asked conf layer held v answer → told conf layer (id_at letter.Text n) v ≡ option_map OverlapRefused (option_map (id_at letter.Text) answer)
told_by_index conf layer kept good rest later held n v answer is seen ask =
    let parts : finite.entries layer.spans ≡ seen.before ++ ((n, v) ∷ later) = seen.split ∙ ap (λ r. seen.before ++ r) is in
    let all : items letter.Text (finite.entries layer.spans) ≡ items letter.Text seen.before ++ ((id_at letter.Text n, v) ∷ items letter.Text later) =
    ap (items letter.Text) parts ∙ items-append seen.before ((n, v) ∷ later) in
    let there : AllByRecursion (λ e. finite.get layer.spans e.0 ≡ Some e.1) (seen.before ++ ((n, v) ∷ later)) = subst (AllByRecursion (λ e. finite.get layer.spans e.0 ≡ Some e.1)) parts (entries_found layer.spans) in
    lower_overlap conf layer kept (id_at letter.Text n) v
    ∙ ap (λ xs. option_map OverlapRefused (lower (hit conf v) (id_at letter.Text n) xs)) all
    ∙ ap (option_map OverlapRefused)
    (those_before (hit conf v) (items letter.Text seen.before) (id_at letter.Text n, v) (items letter.Text later) (subst (λ (xs : List (AnnId × Span)). Up xs) all (up_entries letter.Text layer.spans kept.spans))
    ∙ index_answer conf layer seen.before held v answer good (good n v (in_back layer (n, v) seen.before later there)).2 seen.holds
    (sorted_front seen.before ((n, v) ∷ later) (whole_sorted layer seen.before later n v parts)) (front_all (λ e. finite.get layer.spans e.0 ≡ Some e.1) seen.before ((n, v) ∷ later) there) ask)

-- what stands at the first span that is left
pub stands_first : (layer : Annotations) (rest later : List (ℕ × Span)) (held : Held) (n : ℕ) (v : Span) → rest ≡ (n, v) ∷ later → Seen layer rest held → finite.get layer.spans n ≡ Some v
stands_first layer rest later held n v is seen =
    let parts : finite.entries layer.spans ≡ seen.before ++ ((n, v) ∷ later) = seen.split ∙ ap (λ r. seen.before ++ r) is in
    in_back layer (n, v) seen.before later (subst (AllByRecursion (λ e. finite.get layer.spans e.0 ≡ Some e.1)) parts (entries_found layer.spans))

-- ---- the pass

pub refused_here : (conf : Configuration) (layer : Annotations) → IsLayer layer → HasGoodSpans conf layer → (rest later : List (ℕ × Span)) (held : Held) (n k : ℕ) (v : Span) (whole : Option Flaw)
    → rest ≡ (n, v) ∷ later → Seen layer rest held → Asked conf layer held v (Some k) → first_item (told conf layer) (items letter.Text rest) ≡ whole
    → Some (record { rule = OverlapRefused (id_at letter.Text k); at = at.Mark (id_at letter.Text n) }) ≡ whole
refused_here conf layer kept good rest later held n k v whole is seen ask before =
    sym (ap (λ r. first_item (told conf layer) (items letter.Text r)) is
    ∙ ap (λ o. option_or (flaw_at (at.Mark (id_at letter.Text n)) o) (first_item (told conf layer) (items letter.Text later))) (told_by_index conf layer kept good rest later held n v (Some k) is seen ask))
    ∙ before

pub allowed_here : (conf : Configuration) (layer : Annotations) → IsLayer layer → HasGoodSpans conf layer → (rest later : List (ℕ × Span)) (held : Held) (n : ℕ) (v : Span) (whole : Option Flaw)
    → rest ≡ (n, v) ∷ later → Seen layer rest held → Asked conf layer held v None → first_item (told conf layer) (items letter.Text rest) ≡ whole → first_item (told conf layer) (items letter.Text later) ≡ whole
allowed_here conf layer kept good rest later held n v whole is seen ask before =
    sym (ap (λ r. first_item (told conf layer) (items letter.Text r)) is
    ∙ ap (λ o. option_or (flaw_at (at.Mark (id_at letter.Text n)) o) (first_item (told conf layer) (items letter.Text later))) (told_by_index conf layer kept good rest later held n v None is seen ask))
    ∙ before

pub none_left : (conf : Configuration) (layer : Annotations) (rest : List (ℕ × Span)) (whole : Option Flaw) → rest ≡ [] → first_item (told conf layer) (items letter.Text rest) ≡ whole → None ≡ whole
none_left conf layer rest whole is before = sym (ap (λ r. first_item (told conf layer) (items letter.Text r)) is) ∙ before

-- where every overlap is allowed, no span is refused
none_lower : (conf : Configuration) (span : Span) (id : AnnId) (es : List (ℕ × Span)) → AllByRecursion (λ e. hit conf span e.1 ≡ false) es → lower (hit conf span) id (items letter.Text es) ≡ None
none_lower conf span id [] all = refl
none_lower conf span id (e ∷ es) all =
    ap (λ b. option_map (λ (x : AnnId × Span). x.0) (cond (nat_lt (rank (id_at letter.Text e.0)) (rank id) && b) (Some (id_at letter.Text e.0, e.1)) (lists.find (λ x. nat_lt (rank x.0) (rank id) && hit conf span x.1) (items letter.Text es)))) all.0
    ∙ elim (nat_lt (rank (id_at letter.Text e.0)) (rank id)) as (λ b. option_map (λ (x : AnnId × Span). x.0) (cond (b && false) (Some (id_at letter.Text e.0, e.1)) (lists.find (λ x. nat_lt (rank x.0) (rank id) && hit conf span x.1) (items letter.Text es))) ≡ None) [
      | true ↦ none_lower conf span id es all.1
      | false ↦ none_lower conf span id es all.1
    ]

pub no_refusal : (conf : Configuration) (layer : Annotations) → IsLayer layer → HasGoodSpans conf layer → nat_eq (length conf.overlaps) 0 ≡ true → None ≡ first_place (at_overlap_refused conf layer) (places layer)
no_refusal conf layer kept good none = sym (by_spans conf layer kept ∙ each (finite.entries layer.spans) (entries_found layer.spans))
  where
    each : (es : List (ℕ × Span)) → AllByRecursion (λ e. finite.get layer.spans e.0 ≡ Some e.1) es → first_item (told conf layer) (items letter.Text es) ≡ None
    each [] all = refl
    each (e ∷ es) all =
        ap (λ o. option_or (flaw_at (at.Mark (id_at letter.Text e.0)) o) (first_item (told conf layer) (items letter.Text es)))
        (lower_overlap conf layer kept (id_at letter.Text e.0) e.1 ∙ ap (option_map OverlapRefused) (none_lower conf e.1 (id_at letter.Text e.0) (finite.entries layer.spans)
        (along (λ f. finite.get layer.spans f.0 ≡ Some f.1) (λ f. hit conf e.1 f.1 ≡ false) (λ f is. every_allowed conf e.1 f.1 none (good e.0 e.1 all.0).2 (good f.0 f.1 is).2) (finite.entries layer.spans) (entries_found layer.spans))))
        ∙ each es all.1

-- fragments of a good span
pub good_some : (frags : List Frag) → are_fragments frags ≡ true → 0 < length frags
good_some [] e = absurd (let f : false ≡ true = e in cc)
good_some (frag ∷ frags) e = omega arith

pub good_ascending : (frags : List Frag) → are_fragments frags ≡ true → are_ascending frags ≡ true
good_ascending frags e = second (nat_lt 0 (length frags)) (are_ascending frags) e
  where
    second : (a b : Bool) → (a && b) ≡ true → b ≡ true
    second true b h = h
    second false b h = absurd (let f : false ≡ true = h in cc)
