-- The first span that touches one and passes a test is the first annotation that makes a pair with it.
use Rattle.std.proofs.Common.{◌≡◌, ℕ, ◌+◌, ◌-◌, ◌*◌, ◌<◌, ◌≤◌, ◌==◌, ◌⊎◌, inl, inr, min, suc, Bool, true, false, not, ◌&&◌, ◌||◌, List, [], ◌∷◌, ◌++◌, length, nat_eq, nat_lt, nat_le, refl, sym, ◌∙◌, ap, Option, Some, None, eq-eqb, arith}
use Rattle.std.proofs.lemmas.Bool.{eqb-true, le-leb, lt-ltb, ltb-true}
use Rattle.std.specs.Option.{option_map, option_map_or, option_and_then, is_some}
use Rattle.std.specs.List.{find, list_any, range_with_len}
use Rattle.std.specs.FinMap as finite
use Rattle.mark_base.specs.declared.ann_id.AnnId.{AnnId}
use Rattle.mark_base.specs.declared.ann_id.Kind.{Kind}
use Rattle.mark_base.specs.declared.ann_id.Kind.TheVariants as letter
use Rattle.mark_base.specs.declared.fragments.Frag.{Frag}
use Rattle.mark_base.specs.declared.overlap.OvlKind.{OvlKind}
use Rattle.mark_base.specs.declared.overlap.OvlKind.TheVariants.{Apart, Equal as Same, Contains, Inside, Cross}
use Rattle.mark_base.specs.ReadIds.{id_at}
use Rattle.conf_model.specs.Configurations.{Configuration}
use Rattle.conf_model.specs.Lookups.{allows_either, overlap_allowed}
use Rattle.conf_model.specs.Lookups as admitted
use Rattle.overlap_rules.specs.Overlaps.{are_ascending, characters, covers, has_all, kind_by, kind_of, shares}
use Rattle.overlap_rules.specs.TouchingSpans.{Held, Fails, IsFirstTouching, is_apart}
use Rattle.layer_model.specs.declared.span.Span.{Span}
use Rattle.layer_model.specs.declared.mark.Mark.{Mark}
use Rattle.layer_model.specs.declared.mark.Mark.TheVariants as marked
use Rattle.layer_model.specs.Annotations.{Annotations}
use Rattle.layer_model.specs.Classes.{letter_place, rank}
use Rattle.layer_model.specs.Layers.{IsLayer, mark_at, mark_of}
use Rattle.layer_model.specs.LayerIds.{ids_of}
use Rattle.layer_model.specs.Span.{same_fragments}
use Rattle.layer_rules.specs.LayerRules.{is_id, refused_overlap, same_spans}
use Rattle.layer_rules.specs.LowestFlaw.{HasGoodSpans, refuses}
use Rattle.layer_core.specs.CommandRules.{is_span_letter}
use Rattle.layer_core.specs.Commands.{other_than}
use Rattle.layer_core.specs.Indexes.{is_but_span}
use Rattle.layer_core.specs.MadeLayers.{span_of}
use Rattle.layer_core.specs.Near.{is_same_span, other_pair}
use Rattle.layer_core.proofs.NearIdLemmas.{among_ids, first_is, found_nowhere, ids_ascend, not_both}
use Rattle.layer_core.proofs.NearOtherLemmas.{span_letter, span_mark}
use Rattle.layer_core.proofs.PairedLemmas.{span_got, no_overlap as no_overlap_of}
use Rattle.layer_core.proofs.ElsewhereLemmas.{first_false, one_id}

none_some : {X : Type 0} {x : X} → None ≡ Some x → ⊥
none_some e = cc

same_some : {X : Type 0} {a b : X} → Some a ≡ Some b → a ≡ b
same_some e = cc

with_false : (a : Bool) → (a && false) ≡ false
with_false true = refl
with_false false = refl

-- ---- the letter of spans

text_or : (kind : Kind) → (kind ≡ letter.Text) ⊎ (1 ≤ letter_place kind)
text_or letter.Text = inl refl
text_or letter.Event = inr (omega arith)
text_or letter.Relation = inr (omega arith)
text_or letter.Attribute = inr (omega arith)
text_or letter.Legacy = inr (omega arith)
text_or letter.Normal = inr (omega arith)
text_or letter.Note = inr (omega arith)

-- a test holds of no mark but a span
abbrev pub OfSpans : (Mark → Bool) → Type 0
OfSpans pairs = (mark : Mark) → ((span : Span) → mark ≡ marked.Span span → ⊥) → pairs mark ≡ false

untrue_made : {X : Type 0} (pairs : Mark → Bool) (make : X → Mark) (o : Option X) → ((x : X) → pairs (make x) ≡ false) → option_map_or pairs (option_map make o) false ≡ false
untrue_made pairs make None none = refl
untrue_made pairs make (Some x) none = none x

untrue_elsewhere : (pairs : Mark → Bool) → OfSpans pairs → (layer : Annotations) (kind : Kind) (n : ℕ) → 1 ≤ letter_place kind → option_map_or pairs (mark_of layer kind n) false ≡ false
untrue_elsewhere pairs spans layer letter.Text n behind = absurd (omega (arith, behind))
untrue_elsewhere pairs spans layer letter.Event n behind = untrue_made pairs marked.Event (finite.get layer.events n) (λ x. spans (marked.Event x) (λ s e. cc))
untrue_elsewhere pairs spans layer letter.Relation n behind = untrue_made pairs marked.Relation (finite.get layer.relations n) (λ x. spans (marked.Relation x) (λ s e. cc))
untrue_elsewhere pairs spans layer letter.Attribute n behind = untrue_made pairs marked.Attribute (finite.get layer.attributes n) (λ x. spans (marked.Attribute x) (λ s e. cc))
untrue_elsewhere pairs spans layer letter.Legacy n behind = untrue_made pairs marked.Attribute (finite.get layer.legacy n) (λ x. spans (marked.Attribute x) (λ s e. cc))
untrue_elsewhere pairs spans layer letter.Normal n behind = untrue_made pairs marked.Normal (finite.get layer.normals n) (λ x. spans (marked.Normal x) (λ s e. cc))
untrue_elsewhere pairs spans layer letter.Note n behind = untrue_made pairs marked.Note (finite.get layer.notes n) (λ x. spans (marked.Note x) (λ s e. cc))

-- ---- the answer of the index

-- a test of the index judges whether a span makes a pair with another
pub record Judges (layer : Annotations) (pairs : Mark → Bool) (frags : List Frag) (test : ℕ → OvlKind → Bool) : Type 0 where
  pub spans : OfSpans pairs
  pub apart : (n : ℕ) (span : Span) → finite.get layer.spans n ≡ Some span → is_apart (kind_of span.frags frags) ≡ true → pairs (marked.Span span) ≡ false
  pub same : (n : ℕ) (span : Span) → finite.get layer.spans n ≡ Some span → test n (kind_of span.frags frags) ≡ pairs (marked.Span span)

-- the index holds the spans of a layer but for the one of an ID
abbrev pub HoldsSpans : Annotations → AnnId → Held → Type 0
HoldsSpans layer id held = (n : ℕ) → is_but_span (Some id) n ≡ false → finite.get held n ≡ option_map (λ span. span.frags) (finite.get layer.spans n)

-- what a test answers
abbrev pub Answers : (ℕ → OvlKind → Bool) → ℕ → OvlKind → Bool → Type 0
Answers test number overlap answer = answer ≡ test number overlap

-- another ID than one, whose annotation passes a test
abbrev pub is_other : (Mark → Bool) → Annotations → AnnId → AnnId → Bool
is_other pairs layer id other = not (is_id id other) && option_map_or pairs (mark_at layer other) false

numbers_apart : (id other : AnnId) → id.kind ≡ letter.Text → other.kind ≡ letter.Text → is_id id other ≡ false → (id.number == other.number) ≡ false
numbers_apart id other text also apart = split (id.number == other.number) refl
  where
    split : (b : Bool) → (id.number == other.number) ≡ b → b ≡ false
    split false e = refl
    split true e =
        let numbers_ : id.number ≡ other.number = eqb-true id.number other.number e in
        let letters_ : letter_place id.kind ≡ letter_place other.kind = ap letter_place (text ∙ sym also) in
        not_both (is_id id other) (eq-eqb (rank id) (rank other) (λ i. letters_ i * 1000000000 + numbers_ i)) apart

-- a span whose number fails makes no pair
span_fails : (layer : Annotations) (pairs : Mark → Bool) (frags : List Frag) (test : ℕ → OvlKind → Bool) (id : AnnId) (held : Held) (n : ℕ) → Judges layer pairs frags test → HoldsSpans layer id held
    → (id.number == n) ≡ false → Fails (Answers test) held frags (Some id.number) n → option_map_or pairs (option_map marked.Span (finite.get layer.spans n)) false ≡ false
span_fails layer pairs frags test id held n judges holds apart fails = split (finite.get layer.spans n) refl
  where
    not_but : is_but_span (Some id) n ≡ false
    not_but = ap (λ b. is_span_letter id.kind && b) apart ∙ with_false (is_span_letter id.kind)

    near : (span : Span) → finite.get layer.spans n ≡ Some span → (b : Bool) → is_apart (kind_of span.frags frags) ≡ b → pairs (marked.Span span) ≡ false
    near span is true far = judges.apart n span is far
    near span is false touches =
        sym (judges.same n span is)
        ∙ sym (fails span.frags (holds n not_but ∙ ap (option_map (λ s. s.frags)) is) ((λ i. apart i || touches i)))

    split : (o : Option Span) → finite.get layer.spans n ≡ o → option_map_or pairs (option_map marked.Span o) false ≡ false
    split None is = refl
    split (Some span) is = near span is (is_apart (kind_of span.frags frags)) refl

-- an annotation makes no pair where its number fails, if it is a span
other_fails : (layer : Annotations) (pairs : Mark → Bool) (frags : List Frag) (test : ℕ → OvlKind → Bool) (id other : AnnId) (held : Held) → Judges layer pairs frags test → HoldsSpans layer id held
    → id.kind ≡ letter.Text → (other.kind ≡ letter.Text → Fails (Answers test) held frags (Some id.number) other.number) → is_other pairs layer id other ≡ false
other_fails layer pairs frags test id other held judges holds text fails = by_letter (text_or other.kind)
  where
    by_id : other.kind ≡ letter.Text → (b : Bool) → is_id id other ≡ b → (not (is_id id other) && option_map_or pairs (mark_at layer other) false) ≡ false
    by_id also true is = ap (λ b. not b && option_map_or pairs (mark_at layer other) false) is
    by_id also false apart =
        ap (λ b. not (is_id id other) && b)
        (ap (λ k. option_map_or pairs (mark_of layer k other.number) false) also
        ∙ span_fails layer pairs frags test id held other.number judges holds (numbers_apart id other text also apart) (fails also))
        ∙ with_false (not (is_id id other))

    by_letter : (other.kind ≡ letter.Text) ⊎ (1 ≤ letter_place other.kind) → (not (is_id id other) && option_map_or pairs (mark_at layer other) false) ≡ false
    by_letter (inl also) = by_id also (is_id id other) refl
    by_letter (inr behind) =
        ap (λ b. not (is_id id other) && b) (untrue_elsewhere pairs judges.spans layer other.kind other.number behind) ∙ with_false (not (is_id id other))

pub touching_is : (layer : Annotations) → IsLayer layer → (pairs : Mark → Bool) (frags : List Frag) (test : ℕ → OvlKind → Bool) (id : AnnId) (held : Held) → Judges layer pairs frags test
    → HoldsSpans layer id held → id.kind ≡ letter.Text → (answer : Option ℕ) → IsFirstTouching (Answers test) held frags (Some id.number) answer
    → find (is_other pairs layer id) (ids_of layer) ≡ option_map (id_at letter.Text) answer
touching_is layer kept pairs frags test id held judges holds text None ask =
    found_nowhere (is_other pairs layer id) (ids_of layer) (λ other. other_fails layer pairs frags test id other held judges holds text (λ also. ask other.number))
touching_is layer kept pairs frags test id held judges holds text (Some k) ask = at_k (finite.get layer.spans k) refl
  where
    apart : (id.number == k) ≡ false
    apart = first_false (id.number == k) (is_apart (kind_of ask.passes.span frags)) ask.passes.touches

    not_but : is_but_span (Some id) k ≡ false
    not_but = ap (λ b. is_span_letter id.kind && b) apart ∙ with_false (is_span_letter id.kind)

    passing : (span : Span) → finite.get layer.spans k ≡ Some span → find (is_other pairs layer id) (ids_of layer) ≡ Some (id_at letter.Text k)
    passing span is =
        let small : k ≤ 999999999 = kept.spans k (ap is_some is) in
        let number : min k 999999999 ≡ k = omega (arith, small) in
        let mark : mark_at layer (id_at letter.Text k) ≡ Some (marked.Span span) = ap (mark_of layer letter.Text) number ∙ ap (option_map marked.Span) is in
        let frags_ : span.frags ≡ ask.passes.span = same_some (sym (holds k not_but ∙ ap (option_map (λ s. s.frags)) is) ∙ ask.passes.held_so) in
        let so : pairs (marked.Span span) ≡ true = sym (judges.same k span is) ∙ ap (λ fs. test k (kind_of fs frags)) frags_ ∙ sym ask.passes.passes in
        first_is (is_other pairs layer id) (ids_of layer) (id_at letter.Text k) (ids_ascend layer kept) (among_ids layer (id_at letter.Text k) (marked.Span span) mark)
        ((λ i. not (differs number i) && option_map_or pairs (mark i) false) ∙ so)
        (λ lower below. other_fails layer pairs frags test id lower held judges holds text (λ also. ask.lowest lower.number (less number lower also below)))
      where
        differs : min k 999999999 ≡ k → is_id id (id_at letter.Text k) ≡ false
        differs number = split (is_id id (id_at letter.Text k)) refl
          where
            split : (b : Bool) → is_id id (id_at letter.Text k) ≡ b → b ≡ false
            split false e = refl
            split true e =
                let same : id.number ≡ k = ap (λ (i : AnnId). i.number) (one_id id (id_at letter.Text k) e) ∙ number in
                not_both (id.number == k) (eq-eqb id.number k same) apart

        less : min k 999999999 ≡ k → (lower : AnnId) → lower.kind ≡ letter.Text → rank lower < rank (id_at letter.Text k) → lower.number < k
        less number lower also below =
            let place : letter_place lower.kind ≡ 0 = ap letter_place also in
            let low : letter_place lower.kind * 1000000000 + lower.number < 0 * 1000000000 + min k 999999999 = below in
            omega (arith, number, place, low)

    at_k : (o : Option Span) → finite.get layer.spans k ≡ o → find (is_other pairs layer id) (ids_of layer) ≡ Some (id_at letter.Text k)
    at_k None is = absurd (none_some (sym (holds k not_but ∙ ap (option_map (λ s. s.frags)) is) ∙ ask.passes.held_so))
    at_k (Some span) is = passing span is

-- ---- spans that are the same touch

parted : (a b : Bool) → (a && b) ≡ true → (a ≡ true) × (b ≡ true)
parted true b e = (refl, e)
parted false b e = absurd (let f : false ≡ true = e in cc)

one_frag : (a b : Frag) → a.start ≡ b.start → a.end ≡ b.end → a ≡ b
one_frag a b start end = λ i. record { start = start i; end = end i }

pub one_list : (as_ bs : List Frag) → same_fragments as_ bs ≡ true → as_ ≡ bs
one_list [] [] e = refl
one_list [] (b ∷ bs) e = absurd (let f : false ≡ true = e in cc)
one_list (a ∷ as_) [] e = absurd (let f : false ≡ true = e in cc)
one_list (a ∷ as_) (b ∷ bs) e =
    let two = parted (a.start == b.start && a.end == b.end) (same_fragments as_ bs) e in
    let one = parted (a.start == b.start) (a.end == b.end) two.0 in
    let frag : a ≡ b = one_frag a b (eqb-true a.start b.start one.0) (eqb-true a.end b.end one.1) in
    let rest : as_ ≡ bs = one_list as_ bs two.1 in
    λ i. frag i ∷ rest i

first_full : (frag : Frag) (more : List Frag) → are_ascending (frag ∷ more) ≡ true → frag.start < frag.end
first_full frag [] e = ltb-true frag.start frag.end e
first_full frag (next ∷ more) e =
    ltb-true frag.start frag.end
    (parted (nat_lt frag.start frag.end) (nat_le frag.end next.start) (parted (nat_lt frag.start frag.end && nat_le frag.end next.start) (are_ascending (next ∷ more)) e).0).0

shares_itself : (frags : List Frag) → are_ascending frags ≡ true → 0 < length frags → shares frags frags ≡ true
shares_itself [] ascending some_ = absurd (omega (arith, some_))
shares_itself (frag ∷ more) ascending some_ =
    let full : frag.start < frag.end = first_full frag more ascending in
    let count : frag.end - frag.start ≡ suc (frag.end - frag.start - 1) = omega (arith, full) in
    ap (λ n. list_any (covers (frag ∷ more)) (range_with_len frag.start n ++ characters more)) count
    ∙ (λ i. ((le-leb frag.start frag.start low i && lt-ltb frag.start frag.end full i) || covers more frag.start) || rest)
  where
    low : frag.start ≤ frag.start
    low = omega arith

    rest : Bool
    rest = list_any (covers (frag ∷ more)) (range_with_len (frag.start + 1) (frag.end - frag.start - 1) ++ characters more)

touches_itself : (frags : List Frag) → are_ascending frags ≡ true → 0 < length frags → is_apart (kind_of frags frags) ≡ false
unfolding kind_of
touches_itself frags ascending some_ = ap (λ b. is_apart (kind_by b (has_all frags frags) (has_all frags frags))) (shares_itself frags ascending some_) ∙ by_all (has_all frags frags)
  where
    by_all : (b : Bool) → is_apart (kind_by true b b) ≡ false
    by_all true = refl
    by_all false = refl

-- the test whether a span is the same as another
pub judges_same : (conf : Configuration) (layer : Annotations) → HasGoodSpans conf layer → (span : Span) → are_ascending span.frags ≡ true → 0 < length span.frags
    → Judges layer (same_spans (marked.Span span)) span.frags (λ n overlap. is_same_span layer span n)
judges_same conf layer good span ascending some_ = record {
  spans = no_span;
  apart = λ n other is far. apart n other far (same_spans (marked.Span span) (marked.Span other)) refl;
  same = λ n other is. ap (λ o. option_map_or (λ w. same_spans (marked.Span span) (marked.Span w)) o false) is;
}
  where
    no_span : OfSpans (same_spans (marked.Span span))
    no_span (marked.Span x) other = absurd (other x refl)
    no_span (marked.Event x) other = refl
    no_span (marked.Relation x) other = refl
    no_span (marked.Attribute x) other = refl
    no_span (marked.Normal x) other = refl
    no_span (marked.Note x) other = refl

    apart : (n : ℕ) (other : Span) → is_apart (kind_of other.frags span.frags) ≡ true → (b : Bool) → same_spans (marked.Span span) (marked.Span other) ≡ b → b ≡ false
    apart n other far false e = refl
    apart n other far true e =
        let frags_ : span.frags ≡ other.frags = one_list span.frags other.frags (parted (span.kind.n == other.kind.n) (same_fragments span.frags other.frags) e).1 in
        not_both (is_apart (kind_of span.frags span.frags)) (ap (λ fs. is_apart (kind_of fs span.frags)) frags_ ∙ far) (touches_itself span.frags ascending some_)

-- ---- spans that may not lie so to one another

apart_is : (kind : OvlKind) → is_apart kind ≡ true → kind ≡ Apart
apart_is Apart e = refl
apart_is Same e = absurd (let f : false ≡ true = e in cc)
apart_is Contains e = absurd (let f : false ≡ true = e in cc)
apart_is Inside e = absurd (let f : false ≡ true = e in cc)
apart_is Cross e = absurd (let f : false ≡ true = e in cc)

-- what is apart is not refused
apart_allowed : (conf : Configuration) (span other : Span) → span.kind.n < length conf.types → other.kind.n < length conf.types → is_apart (kind_of other.frags span.frags) ≡ true
    → refused_overlap conf (marked.Span span) (marked.Span other) ≡ false
apart_allowed conf span other hs ho far =
    ap not (ap (overlap_allowed conf other.kind span.kind) (apart_is (kind_of other.frags span.frags) far)
    ∙ (λ i. (lt-ltb other.kind.n (length conf.types) ho i && lt-ltb span.kind.n (length conf.types) hs i)
    && (true || not (nat_lt 0 (length conf.overlaps)) || list_any (λ line. allows_either conf.types line other.kind span.kind Apart) conf.overlaps)))

no_overlap : (conf : Configuration) (span : Span) → OfSpans (refused_overlap conf (marked.Span span))
no_overlap conf span (marked.Span x) other = absurd (other x refl)
no_overlap conf span (marked.Event x) other = refl
no_overlap conf span (marked.Relation x) other = refl
no_overlap conf span (marked.Attribute x) other = refl
no_overlap conf span (marked.Normal x) other = refl
no_overlap conf span (marked.Note x) other = refl

pub judges_overlap : (conf : Configuration) (layer : Annotations) → HasGoodSpans conf layer → (span : Span) → span.kind.n < length conf.types
    → Judges layer (refused_overlap conf (marked.Span span)) span.frags (λ n overlap. refuses conf layer span.kind n overlap)
judges_overlap conf layer good span known = record {
  spans = no_overlap conf span;
  apart = λ n other is far. apart_allowed conf span other known (good n other is).2 far;
  same = λ n other is. ap (λ o. option_map_or (λ lower. not (overlap_allowed conf lower.kind span.kind (kind_of other.frags span.frags))) o false) is;
}

-- where no line speaks of overlaps, none is refused
one_line : (a b c : Bool) → b ≡ true → ((a || b) || c) ≡ true
one_line true b c e = refl
one_line false b c e = ap (λ x. x || c) e

no_lines : (n : ℕ) → nat_eq n 0 ≡ true → not (nat_lt 0 n) ≡ true
no_lines n e = ap (λ k. not (nat_lt 0 k)) (eqb-true n 0 e)

none_refused : (conf : Configuration) (span other : Span) → nat_eq (length conf.overlaps) 0 ≡ true → span.kind.n < length conf.types → other.kind.n < length conf.types
    → refused_overlap conf (marked.Span span) (marked.Span other) ≡ false
none_refused conf span other none hs ho =
    ap not
    ((λ i. (lt-ltb other.kind.n (length conf.types) ho i && lt-ltb span.kind.n (length conf.types) hs i)
    && (admitted.is_apart (kind_of other.frags span.frags) || not (nat_lt 0 (length conf.overlaps))
    || list_any (λ line. allows_either conf.types line other.kind span.kind (kind_of other.frags span.frags)) conf.overlaps))
    ∙ one_line (admitted.is_apart (kind_of other.frags span.frags)) (not (nat_lt 0 (length conf.overlaps)))
    (list_any (λ line. allows_either conf.types line other.kind span.kind (kind_of other.frags span.frags)) conf.overlaps) (no_lines (length conf.overlaps) none))

-- no annotation of a letter and a number is refused
refused_at : (conf : Configuration) (layer : Annotations) → HasGoodSpans conf layer → (span : Span) → nat_eq (length conf.overlaps) 0 ≡ true → span.kind.n < length conf.types → (kind : Kind) (n : ℕ)
    → (kind ≡ letter.Text) ⊎ (1 ≤ letter_place kind) → option_map_or (refused_overlap conf (marked.Span span)) (mark_of layer kind n) false ≡ false
refused_at conf layer good span none known kind n (inr behind) = untrue_elsewhere (refused_overlap conf (marked.Span span)) (no_overlap conf span) layer kind n behind
refused_at conf layer good span none known kind n (inl text) = ap (λ k. option_map_or (refused_overlap conf (marked.Span span)) (mark_of layer k n) false) text ∙ split (finite.get layer.spans n) refl
  where
    split : (o : Option Span) → finite.get layer.spans n ≡ o → option_map_or (refused_overlap conf (marked.Span span)) (option_map marked.Span o) false ≡ false
    split None is = refl
    split (Some other) is = none_refused conf span other none known (good n other is).2

-- where every overlap is allowed, no annotation is refused for the one of an ID
pub all_allowed : (conf : Configuration) (layer : Annotations) → HasGoodSpans conf layer → nat_eq (length conf.overlaps) 0 ≡ true → (id : AnnId) (o : Option Span) → o ≡ span_of layer id
    → other_pair (refused_overlap conf) layer id ≡ None
all_allowed conf layer good none id None is = no_overlap_of conf layer id (ids_of layer) is
all_allowed conf layer good none id (Some span) is =
    ap (option_and_then (λ mark. find (other_than (refused_overlap conf) layer id mark) (ids_of layer))) (span_mark layer id.kind id.number span is)
    ∙ found_nowhere (other_than (refused_overlap conf) layer id (marked.Span span)) (ids_of layer)
    (λ other. ap (λ b. not (is_id id other) && b) (refused_at conf layer good span none (good id.number span (span_got layer id.kind id.number span is)).2 other.kind other.number (text_or other.kind))
    ∙ with_false (not (is_id id other)))

-- the lowest span that the index finds is the lowest annotation that makes a pair
pub pair_by_index : (pairs : Mark → Mark → Bool) (layer : Annotations) → IsLayer layer → (test : ℕ → OvlKind → Bool) (id : AnnId) (held : Held) (span : Span) (answer : Option ℕ)
    → Some span ≡ span_of layer id → Judges layer (pairs (marked.Span span)) span.frags test → HoldsSpans layer id held → IsFirstTouching (Answers test) held span.frags (Some id.number) answer
    → other_pair pairs layer id ≡ option_map (id_at letter.Text) answer
pair_by_index pairs layer kept test id held span answer is judges holds ask =
    ap (option_and_then (λ mark. find (other_than pairs layer id mark) (ids_of layer))) (span_mark layer id.kind id.number span is)
    ∙ touching_is layer kept (pairs (marked.Span span)) span.frags test id held judges holds (span_letter layer id.kind id.number span is) answer ask
