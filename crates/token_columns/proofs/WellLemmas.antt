-- A layer of spans that rise, of types that may be used, is well-formed.
use Rattle.std.proofs.Common.{◌≡◌, ℕ, ◌+◌, ◌-◌, ◌*◌, ◌<◌, ◌≤◌, ◌==◌, ◌&&◌, ◌||◌, inl, inr, not, true, false, cond, Bool, List, [], ◌∷◌, ◌++◌, map, Option, Some, None, refl, sym, ◌∙◌, ap, subst, arith, length, nat_lt, zero, suc, slice_get, is_none, find}
use Rattle.std.specs.Option.{option_map, option_map_or, option_and_then}
use Rattle.std.specs.List.{list_any, range_with_len, AllByRecursion}
use Rattle.std.proofs.lemmas.List.{length-map}
use Rattle.std.specs.Ordering.{nat_cmp, eq_by_cmp}
use Rattle.std.specs.FinMap as finite
use Rattle.std.specs.FinMap.Entries as entries
use Rattle.std.proofs.lemmas.Bool.{cond-false, ne_eqb, lt-ltb, le-ltb, lt-leb, cases_lt}
use Rattle.mark_base.specs.declared.ann_id.AnnId.{AnnId}
use Rattle.mark_base.specs.declared.ann_id.Kind.{Kind}
use Rattle.mark_base.specs.declared.ann_id.Kind.TheVariants as letter
use Rattle.mark_base.specs.declared.fragments.Frag.{Frag}
use Rattle.mark_base.specs.declared.overlap.OvlKind.TheVariants.{Apart}
use Rattle.type_hierarchy.specs.declared.type_row.TypeRow.{TypeRow}
use Rattle.conf_model.specs.Configurations.{Configuration}
use Rattle.conf_model.specs.Lookups.{allows_either, overlap_allowed, is_apart}
use Rattle.mark_base.specs.ReadIds.{id_at}
use Rattle.overlap_rules.specs.Overlaps.{covers, has_all, kind_by, kind_of}
use Rattle.layer_model.specs.declared.class.Class.{Class}
use Rattle.layer_model.specs.declared.flaw.FlawPlace.TheVariants as at
use Rattle.layer_model.specs.declared.mark.Mark.{Mark}
use Rattle.layer_model.specs.declared.mark.Mark.TheVariants as marked
use Rattle.layer_model.specs.declared.rule.Rule.{Rule}
use Rattle.layer_model.specs.declared.rule.Rule.TheVariants.{UnknownType, NotForUse, BadFragments, OutOfText, SpanTooLong, SameSpan, SameEvent, SameRelation, AttributeThere, OverlapRefused, LayerFull}
use Rattle.layer_model.specs.Classes.{letter_place}
use Rattle.layer_model.specs.LayerIds.{id_place, ids_of, ids_of_letter}
use Rattle.layer_model.specs.declared.span.Span.{Span}
use Rattle.layer_model.specs.Layers.{mark_of}
use Rattle.layer_rules.specs.FlawPlaces.{by_place}
use Rattle.layer_rules.specs.LayerRules.{attribute_there, bad_text, classes_full, equiv_members, overlap_refused, same_event, same_relation, same_span, too_deep, counted_letter, counted_with, is_id, layer_full, lower_pair, refused_overlap, same_attributes, same_events, same_relations, same_spans}
use Rattle.layer_rules.specs.MarkRules.{argument_type, first_missing, first_unwanted, member, named_by, too_many, unknown_class, class_not_for_use, unknown_role, unknown_value, wanted_by, bad_fragments, not_for_use, out_of_text, span_too_long, unknown_type, where_so}
use Rattle.layer_rules.specs.WellFormed.{Never, IsWellFormed, no_class}
use Rattle.token_columns.specs.declared.run.Run.{Run}
use Rattle.token_columns.specs.Fits.{only_spans}
use Rattle.token_columns.specs.ReadRuns.{span_of, numbered}
use Rattle.layer_rules.proofs.LawLemmas.{same_number}
use Rattle.token_columns.proofs.RunLemmas.{RunsRise}
use Rattle.token_columns.proofs.JudgedLemmas.{CanUse, RunStands}

-- ---- what stands in a layer of spans alone

none_at : {X : Type 0} (i : ℕ) → slice_get {X = X} [] i ≡ None
none_at zero = refl
none_at (suc i) = refl

at_span : (of_mark : AnnId → Mark → Option Rule) (spans : finite.FinMap nat_cmp Span) (id : AnnId) (o : Option Span) → finite.get spans id.number ≡ o
    → ((span : Span) → finite.get spans id.number ≡ Some span → of_mark id (marked.Span span) ≡ None) → option_and_then (of_mark id) (option_map marked.Span o) ≡ None
at_span of_mark spans id None is each = refl
at_span of_mark spans id (Some span) is each = each span is

-- what stands under an ID
at_mark : (of_mark : AnnId → Mark → Option Rule) (spans : finite.FinMap nat_cmp Span)
    → ((id : AnnId) (span : Span) → id.kind ≡ letter.Text → finite.get spans id.number ≡ Some span → of_mark id (marked.Span span) ≡ None)
    → (id : AnnId) (kind : Kind) → id.kind ≡ kind → option_and_then (of_mark id) (mark_of (only_spans spans) kind id.number) ≡ None
at_mark of_mark spans each id letter.Text is = at_span of_mark spans id (finite.get spans id.number) refl (λ span h. each id span is h)
at_mark of_mark spans each id letter.Event is = ap (λ o. option_and_then (of_mark id) (option_map marked.Event o)) (finite.get-empty nat_cmp id.number)
at_mark of_mark spans each id letter.Relation is = ap (λ o. option_and_then (of_mark id) (option_map marked.Relation o)) (finite.get-empty nat_cmp id.number)
at_mark of_mark spans each id letter.Attribute is = ap (λ o. option_and_then (of_mark id) (option_map marked.Attribute o)) (finite.get-empty nat_cmp id.number)
at_mark of_mark spans each id letter.Legacy is = ap (λ o. option_and_then (of_mark id) (option_map marked.Attribute o)) (finite.get-empty nat_cmp id.number)
at_mark of_mark spans each id letter.Normal is = ap (λ o. option_and_then (of_mark id) (option_map marked.Normal o)) (finite.get-empty nat_cmp id.number)
at_mark of_mark spans each id letter.Note is = ap (λ o. option_and_then (of_mark id) (option_map marked.Note o)) (finite.get-empty nat_cmp id.number)

-- a rule that no span breaks is broken nowhere
pub never_in : (of_mark : AnnId → Mark → Option Rule) (of_class : ℕ → Class → Option Rule) (spans : finite.FinMap nat_cmp Span)
    → ((id : AnnId) (span : Span) → id.kind ≡ letter.Text → finite.get spans id.number ≡ Some span → of_mark id (marked.Span span) ≡ None) → Never (by_place of_mark of_class (only_spans spans))
never_in of_mark of_class spans each (at.Class index) = ap (option_and_then (of_class index)) (none_at index)
never_in of_mark of_class spans each (at.Mark id) = at_mark of_mark spans each id id.kind refl

-- ---- the spans of numbered runs

-- the span of a number is that of the run at its place
pub record IsAt (first : ℕ) (runs : List Run) (number : ℕ) (span : Span) : Type 0 where
  pub place : ℕ
  pub run : Run
  pub is : number ≡ first + place
  pub held : slice_get runs place ≡ Some run
  pub spans : span ≡ span_of run

same_key : (a b : ℕ) → eq_by_cmp nat_cmp a b ≡ true → a ≡ b
same_key a b h = sym (same_number a b h)

pub found_at : (n : ℕ) (runs : List Run) (number : ℕ) (span : Span) → entries.find nat_cmp number (numbered n runs) ≡ Some span → IsAt n runs number span
found_at n [] number span h = absurd (let e : None ≡ Some span = h in cc)
found_at n (run ∷ runs) number span h =
    elim (eq_by_cmp nat_cmp number n) as (λ b. eq_by_cmp nat_cmp number n ≡ b → cond b (Some (span_of run)) (entries.find nat_cmp number (numbered (n + 1) runs)) ≡ Some span → IsAt n (run ∷ runs) number span) [
      | true ↦ λ same e.
          let key : number ≡ n = same_key number n same in
          let is : Some (span_of run) ≡ Some span = e in
          record { place = 0; run = run; is = omega (arith, key); held = refl; spans = let s : span_of run ≡ span = cc in sym s }
      | false ↦ λ _ e.
          let more : IsAt (n + 1) runs number span = found_at (n + 1) runs number span e in
          record { place = suc more.place; run = more.run; is = omega (arith, more.is); held = more.held; spans = more.spans }
    ] refl h

pub held_all : (P : Run → Type 0) (runs : List Run) (i : ℕ) (run : Run) → AllByRecursion P runs → slice_get runs i ≡ Some run → P run
held_all P [] i run all h = absurd (let e : None ≡ Some run = sym (none_at {X = Run} i) ∙ h in cc)
held_all P (first ∷ runs) zero run all h = let e : Some first ≡ Some run = h in let same : first ≡ run = cc in subst P same all.0
held_all P (first ∷ runs) (suc i) run all h = held_all P runs i run all.1 h

pub held_rise : (low : ℕ) (runs : List Run) (i : ℕ) (run : Run) → RunsRise low runs → slice_get runs i ≡ Some run → (low ≤ run.start) × (run.start < run.end)
held_rise low [] i run r h = absurd (let e : None ≡ Some run = sym (none_at {X = Run} i) ∙ h in cc)
held_rise low (first ∷ runs) zero run r h = let e : Some first ≡ Some run = h in let same : first ≡ run = cc in subst (λ (x : Run). (low ≤ x.start) × (x.start < x.end)) same (r.0, r.1)
held_rise low (first ∷ runs) (suc i) run r h = let more = held_rise first.end runs i run r.2 h in (omega (arith, r.0, r.1, more.0), more.1)

pub held_apart : (low : ℕ) (runs : List Run) (i j : ℕ) (a b : Run) → RunsRise low runs → i < j → slice_get runs i ≡ Some a → slice_get runs j ≡ Some b → a.end ≤ b.start
held_apart low [] i j a b r less h k = absurd (let e : None ≡ Some a = sym (none_at {X = Run} i) ∙ h in cc)
held_apart low (first ∷ runs) i zero a b r less h k = absurd (omega arith)
held_apart low (first ∷ runs) zero (suc j) a b r less h k =
    let e : Some first ≡ Some a = h in let same : first ≡ a = cc in
    let later = held_rise first.end runs j b r.2 k in subst (λ (x : Run). x.end ≤ b.start) same later.0
held_apart low (first ∷ runs) (suc i) (suc j) a b r less h k = held_apart first.end runs i j a b r.2 (omega arith) h k

-- ---- pairs

-- spans that lie apart have no character in common

find_none : {X : Type 0} (p : X → Bool) (xs : List X) → ((x : X) → p x ≡ false) → find p xs ≡ None
find_none p [] h = refl
find_none p (x ∷ xs) h = cond-false (p x) (Some x) (find p xs) (h x) ∙ find_none p xs h

and_no : (b : Bool) → (b && false) ≡ false
and_no true = refl
and_no false = refl

-- no annotation of another letter makes a pair
other_letter : (pairs : Mark → Bool) (t : Bool) (o : Option Mark) → o ≡ None → (t && option_map_or pairs o false) ≡ false
other_letter pairs t o is = ap (λ x. t && option_map_or pairs x false) is ∙ and_no t

span_pair : (pairs : Mark → Mark → Bool) (span : Span) (id other : AnnId) (o : Option Span) → id.kind ≡ letter.Text → other.kind ≡ letter.Text
    → ((b : Span) → other.number < id.number → o ≡ Some b → pairs (marked.Span span) (marked.Span b) ≡ false)
    → (nat_lt (id_place other) (id_place id) && option_map_or (pairs (marked.Span span)) (option_map marked.Span o) false) ≡ false
span_pair pairs span id other None is like each = and_no (nat_lt (id_place other) (id_place id))
span_pair pairs span id other (Some b) is like each =
    elim (cases_lt other.number id.number) [
      | inl less ↦ ap (λ t. nat_lt (id_place other) (id_place id) && t) (each b less refl) ∙ and_no (nat_lt (id_place other) (id_place id))
      | inr more ↦
          let there : id_place other ≡ letter_place letter.Text * 1000000000 + other.number = ap (λ k. letter_place k * 1000000000 + other.number) like in
          let here : id_place id ≡ letter_place letter.Text * 1000000000 + id.number = ap (λ k. letter_place k * 1000000000 + id.number) is in
          ap (λ t. t && pairs (marked.Span span) (marked.Span b)) (le-ltb (id_place other) (id_place id) (omega (arith, there, here)))
    ]

pair_at : (pairs : Mark → Mark → Bool) (spans : finite.FinMap nat_cmp Span) (span : Span) (id other : AnnId) (kind : Kind) → id.kind ≡ letter.Text → other.kind ≡ kind
    → ((n : ℕ) (b : Span) → n < id.number → finite.get spans n ≡ Some b → pairs (marked.Span span) (marked.Span b) ≡ false)
    → (nat_lt (id_place other) (id_place id) && option_map_or (pairs (marked.Span span)) (mark_of (only_spans spans) kind other.number) false) ≡ false
pair_at pairs spans span id other letter.Text is like each = span_pair pairs span id other (finite.get spans other.number) is like (λ b less h. each other.number b less h)
pair_at pairs spans span id other letter.Event is like each = other_letter (pairs (marked.Span span)) (nat_lt (id_place other) (id_place id)) (mark_of (only_spans spans) letter.Event other.number) (ap (option_map marked.Event) (finite.get-empty nat_cmp other.number))
pair_at pairs spans span id other letter.Relation is like each = other_letter (pairs (marked.Span span)) (nat_lt (id_place other) (id_place id)) (mark_of (only_spans spans) letter.Relation other.number) (ap (option_map marked.Relation) (finite.get-empty nat_cmp other.number))
pair_at pairs spans span id other letter.Attribute is like each = other_letter (pairs (marked.Span span)) (nat_lt (id_place other) (id_place id)) (mark_of (only_spans spans) letter.Attribute other.number) (ap (option_map marked.Attribute) (finite.get-empty nat_cmp other.number))
pair_at pairs spans span id other letter.Legacy is like each = other_letter (pairs (marked.Span span)) (nat_lt (id_place other) (id_place id)) (mark_of (only_spans spans) letter.Legacy other.number) (ap (option_map marked.Attribute) (finite.get-empty nat_cmp other.number))
pair_at pairs spans span id other letter.Normal is like each = other_letter (pairs (marked.Span span)) (nat_lt (id_place other) (id_place id)) (mark_of (only_spans spans) letter.Normal other.number) (ap (option_map marked.Normal) (finite.get-empty nat_cmp other.number))
pair_at pairs spans span id other letter.Note is like each = other_letter (pairs (marked.Span span)) (nat_lt (id_place other) (id_place id)) (mark_of (only_spans spans) letter.Note other.number) (ap (option_map marked.Note) (finite.get-empty nat_cmp other.number))

-- a span makes a pair with no lower one
pub no_pair : (pairs : Mark → Mark → Bool) (spans : finite.FinMap nat_cmp Span) (span : Span) (id : AnnId) → id.kind ≡ letter.Text
    → ((n : ℕ) (b : Span) → n < id.number → finite.get spans n ≡ Some b → pairs (marked.Span span) (marked.Span b) ≡ false) → lower_pair pairs (only_spans spans) id (marked.Span span) ≡ None
no_pair pairs spans span id is each = find_none _ (ids_of (only_spans spans)) (λ other. pair_at pairs spans span id other other.kind is refl each)

-- ---- overlaps

none_covered : (start count : ℕ) (frag : Frag) → start + count ≤ frag.start → list_any (covers (frag ∷ [])) (range_with_len start count ++ []) ≡ false
none_covered start zero frag h = refl
none_covered start (suc count) frag h =
    let first : covers (frag ∷ []) start ≡ false = ap (λ t. (t && nat_lt start frag.end) || false) (lt-leb frag.start start (omega arith)) in
    ap (λ t. t || list_any (covers (frag ∷ [])) (range_with_len (start + 1) count ++ [])) first ∙ none_covered (start + 1) count frag (omega arith)

apart_kind : (a b : Run) → a.start < a.end → a.end ≤ b.start → kind_of (span_of a).frags (span_of b).frags ≡ Apart
unfolding kind_of
apart_kind a b some h =
    let f : Frag = record { start = a.start; end = a.end } in
    let g : Frag = record { start = b.start; end = b.end } in
    ap (λ t. kind_by t (has_all (f ∷ []) (g ∷ [])) (has_all (g ∷ []) (f ∷ []))) (none_covered a.start (a.end - a.start) g (omega arith))

some_within : {X : Type 0} (xs : List X) (i : ℕ) (x : X) → slice_get xs i ≡ Some x → i < length xs
some_within [] i x h = absurd (let e : None ≡ Some x = sym (none_at i) ∙ h in cc)
some_within (y ∷ ys) zero x h = omega arith
some_within (y ∷ ys) (suc i) x h = let more : i < length ys = some_within ys i x h in omega arith

past_all : {X : Type 0} (xs : List X) (i : ℕ) → length xs ≤ i → slice_get xs i ≡ None
past_all [] i h = none_at i
past_all (x ∷ xs) zero h = absurd (omega arith)
past_all (x ∷ xs) (suc i) h = past_all xs i (omega arith)

allowed : (conf : Configuration) (a b : Run) → CanUse conf a.kind → CanUse conf b.kind → overlap_allowed conf a.kind b.kind Apart ≡ true
allowed conf a b x y =
    ap (λ t. (t && nat_lt b.kind.n (length conf.types)) && (is_apart Apart || not (nat_lt 0 (length conf.overlaps)) || list_any (λ line. allows_either conf.types line a.kind b.kind Apart) conf.overlaps))
    (lt-ltb a.kind.n (length conf.types) (some_within conf.types a.kind.n x.0 x.1))
    ∙ ap (λ t. (true && t) && (is_apart Apart || not (nat_lt 0 (length conf.overlaps)) || list_any (λ line. allows_either conf.types line a.kind b.kind Apart) conf.overlaps))
    (lt-ltb b.kind.n (length conf.types) (some_within conf.types b.kind.n y.0 y.1))

-- ---- all rules

-- what is known of the spans of a layer
pub record Spans (conf : Configuration) (characters : ℕ) (runs : List Run) (spans : finite.FinMap nat_cmp Span) : Type 0 where
  pub held : finite.entries spans ≡ numbered 1 runs
  pub rise : RunsRise 0 runs
  pub stand : AllByRecursion (RunStands conf) runs
  pub within : AllByRecursion (λ (run : Run). run.end ≤ characters) runs
  pub few : length runs ≤ 10000

length_numbered : (n : ℕ) (runs : List Run) → length (numbered n runs) ≡ length runs
length_numbered n [] = refl
length_numbered n (run ∷ runs) = ap suc (length_numbered (n + 1) runs)

module _ (conf : Configuration) (characters : ℕ) (runs : List Run) (spans : finite.FinMap nat_cmp Span) (all : Spans conf characters runs spans) where
  at_get : (number : ℕ) (span : Span) → finite.get spans number ≡ Some span → IsAt 1 runs number span
  at_get number span h = found_at 1 runs number span (sym (ap (entries.find nat_cmp number) all.held) ∙ sym (finite.get-entries spans number) ∙ h)

  stands_at : (number : ℕ) (span : Span) → IsAt 1 runs number span → (run : Run) × (span ≡ span_of run) × RunStands conf run × (run.start < run.end) × (run.end ≤ characters)
  stands_at number span h = (
    h.run,
    h.spans,
    held_all (RunStands conf) runs h.place h.run all.stand h.held,
    (held_rise 0 runs h.place h.run all.rise h.held).1,
    held_all (λ (run : Run). run.end ≤ characters) runs h.place h.run all.within h.held,
  )

  known_type : (span : Span) (run : Run) → span ≡ span_of run → CanUse conf run.kind → unknown_type conf (marked.Span span) ≡ None
  known_type span run is can =
      ap (λ (x : Span). unknown_type conf (marked.Span x)) is ∙ ap (λ o. where_so (is_none o) UnknownType) can.1

  used_type : (span : Span) (run : Run) → span ≡ span_of run → CanUse conf run.kind → not_for_use conf (marked.Span span) ≡ None
  used_type span run is can =
      ap (λ (x : Span). not_for_use conf (marked.Span x)) is
      ∙ ap (λ o. where_so (option_map_or (λ (row : TypeRow). not row.usable) o false) NotForUse) can.1 ∙ ap (λ b. where_so (not b) NotForUse) can.2

  good_fragments : (span : Span) (run : Run) → span ≡ span_of run → run.start < run.end → bad_fragments (marked.Span span) ≡ None
  good_fragments span run is some =
      ap (λ (x : Span). bad_fragments (marked.Span x)) is ∙ ap (λ b. where_so (not b) BadFragments) (lt-ltb run.start run.end some)

  in_the_text : (span : Span) (run : Run) → span ≡ span_of run → run.end ≤ characters → out_of_text characters (marked.Span span) ≡ None
  in_the_text span run is by =
      ap (λ (x : Span). out_of_text characters (marked.Span x)) is ∙ ap (λ b. where_so b OutOfText) (le-ltb characters run.end by)

  not_too_long : (span : Span) (run : Run) → span ≡ span_of run → run.end - run.start ≤ 10000 → span_too_long (marked.Span span) ≡ None
  not_too_long span run is short =
      ap (λ (x : Span). span_too_long (marked.Span x)) is ∙ ap (λ b. where_so b SpanTooLong) (le-ltb 10000 (run.end - run.start) short)

  -- a lower span ends where a higher one starts, or before
  lower_apart : (m n : ℕ) (a b : Span) (x : IsAt 1 runs m a) (y : IsAt 1 runs n b) → m < n → x.run.end ≤ y.run.start
  lower_apart m n a b x y less = held_apart 0 runs x.place y.place x.run y.run all.rise (omega (arith, x.is, y.is)) x.held y.held

  spans_differ : (m n : ℕ) (a b : Span) → m < n → finite.get spans m ≡ Some a → finite.get spans n ≡ Some b → same_spans (marked.Span b) (marked.Span a) ≡ false
  spans_differ m n a b less h k =
      let x = at_get m a h in
      let y = at_get n b k in
      let some = (held_rise 0 runs x.place x.run all.rise x.held).1 in
      let apart = lower_apart m n a b x y less in
      ap (λ (s : Span). same_spans (marked.Span s) (marked.Span a)) y.spans ∙ ap (λ (s : Span). same_spans (marked.Span (span_of y.run)) (marked.Span s)) x.spans
      ∙ ap (λ t. y.run.kind.n == x.run.kind.n && (t && y.run.end == x.run.end && true)) (ne_eqb y.run.start x.run.start (λ same. absurd (omega (arith, some, apart))))
      ∙ and_no (y.run.kind.n == x.run.kind.n)

  overlaps_allowed : (m n : ℕ) (a b : Span) → m < n → finite.get spans m ≡ Some a → finite.get spans n ≡ Some b → refused_overlap conf (marked.Span b) (marked.Span a) ≡ false
  unfolding at_get stands_at
  overlaps_allowed m n a b less h k =
      let x = at_get m a h in
      let y = at_get n b k in
      let p = stands_at m a x in
      let q = stands_at n b y in
      let apart = lower_apart m n a b x y less in
      ap (λ (s : Span). refused_overlap conf (marked.Span s) (marked.Span a)) y.spans ∙ ap (λ (s : Span). refused_overlap conf (marked.Span (span_of y.run)) (marked.Span s)) x.spans
      ∙ ap (λ kind. not (overlap_allowed conf x.run.kind y.run.kind kind)) (apart_kind x.run y.run p.3 apart)
      ∙ ap not (allowed conf x.run y.run (p.2).0 (q.2).0)

  not_full : (id : AnnId) (span : Span) → id.kind ≡ letter.Text → layer_full (only_spans spans) id (marked.Span span) ≡ None
  not_full id span is =
      let count : length (ids_of_letter (only_spans spans) letter.Text) ≡ length runs =
      length-map (finite.keys spans) (id_at letter.Text) ∙ length-map (finite.entries spans) _ ∙ ap length all.held ∙ length_numbered 1 runs in
      ap (λ kind. where_so (option_map_or (is_id id) (slice_get (counted_with (only_spans spans) kind) 10000) false) (LayerFull (counted_letter id.kind))) is
      ∙ ap (λ o. where_so (option_map_or (is_id id) o false) (LayerFull (counted_letter id.kind))) (past_all (ids_of_letter (only_spans spans) letter.Text) 10000 (omega (arith, count, all.few)))

  -- a layer of these spans is well-formed
  pub well_formed : IsWellFormed conf characters (only_spans spans)
  well_formed = record {
    types = never_in (λ id. unknown_type conf) (λ index. unknown_class conf) spans (λ id span is h. let s = stands_at id.number span (at_get id.number span h) in known_type span s.0 s.1 (s.2).0);
    for_use = never_in (λ id. not_for_use conf) (λ index. class_not_for_use conf) spans (λ id span is h. let s = stands_at id.number span (at_get id.number span h) in used_type span s.0 s.1 (s.2).0);
    fragments = never_in (λ id. bad_fragments) no_class spans (λ id span is h. let s = stands_at id.number span (at_get id.number span h) in good_fragments span s.0 s.1 s.3);
    in_text = never_in (λ id. out_of_text characters) no_class spans (λ id span is h. let s = stands_at id.number span (at_get id.number span h) in in_the_text span s.0 s.1 s.4);
    short = never_in (λ id. span_too_long) no_class spans (λ id span is h. let s = stands_at id.number span (at_get id.number span h) in not_too_long span s.0 s.1 (s.2).1);
    there = never_in (λ id mark. first_missing (only_spans spans) (named_by mark)) (λ index class. first_missing (only_spans spans) class.members) spans (λ id span is h. refl);
    fitting = never_in (λ id mark. first_unwanted (wanted_by conf (only_spans spans) mark)) (λ index class. first_unwanted (map (member conf (only_spans spans)) class.members)) spans (λ id span is h. refl);
    roles = never_in (λ id. unknown_role conf) no_class spans (λ id span is h. refl);
    admitted = never_in (λ id. argument_type conf (only_spans spans)) no_class spans (λ id span is h. refl);
    not_too_many = never_in (λ id. too_many conf) no_class spans (λ id span is h. refl);
    values = never_in (λ id. unknown_value conf) no_class spans (λ id span is h. refl);
    shallow = never_in (too_deep (only_spans spans)) no_class spans (λ id span is h. refl);
    spans_differ = never_in (same_span (only_spans spans)) no_class spans (λ id span is h. ap (option_map SameSpan) (no_pair same_spans spans span id is (λ n b less k. spans_differ n id.number b span less k h)));
    events_differ = never_in (same_event (only_spans spans)) no_class spans (λ id span is h. ap (option_map SameEvent) (no_pair same_events spans span id is (λ n b less k. refl)));
    relations_differ = never_in (same_relation (only_spans spans)) no_class spans (λ id span is h. ap (option_map SameRelation) (no_pair same_relations spans span id is (λ n b less k. refl)));
    attributes_differ = never_in (attribute_there (only_spans spans)) no_class spans (λ id span is h. ap (option_map AttributeThere) (no_pair same_attributes spans span id is (λ n b less k. refl)));
    members = never_in (λ id mark. None) (λ index. equiv_members conf (only_spans spans)) spans (λ id span is h. refl);
    overlaps = never_in (overlap_refused conf (only_spans spans)) no_class spans (λ id span is h. ap (option_map OverlapRefused) (no_pair (refused_overlap conf) spans span id is (λ n b less k. overlaps_allowed n id.number b span less k h)));
    texts = never_in (λ id. bad_text) no_class spans (λ id span is h. refl);
    room = never_in (layer_full (only_spans spans)) classes_full spans (λ id span is h. not_full id span is);
  }
