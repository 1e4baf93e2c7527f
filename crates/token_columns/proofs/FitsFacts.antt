-- A layer fits columns exactly where it has no fault, and its spans then rise.
use Rattle.std.proofs.Common.{◌≡◌, ℕ, ◌<◌, ◌≤◌, ◌==◌, ◌&&◌, ◌||◌, inl, inr, not, true, false, cond, Bool, List, [], ◌∷◌, ◌++◌, map, Option, Some, None, refl, sym, ◌∙◌, ap, subst, arith, length, nat_lt, find, option_map, T, append_assoc, codes}
use Rattle.conf_model.specs.Configurations.{Configuration}
use Rattle.layer_model.specs.Layers.{IsLayer}
use Rattle.layer_rules.specs.WellFormed.{IsWellFormed}
use Rattle.token_columns.specs.Columns.{column_line, columns}
use Rattle.token_columns.specs.WriteRuns.{text_from}
use Rattle.token_columns.proofs.TextFrom.{text_is}
use Rattle.token_columns.proofs.TokenLemmas.{tokens_rising}
use Rattle.std.specs.Prelude.{⊤, count_by}
use Rattle.std.specs.Option.{option_or}
use Rattle.std.specs.Ordering.{nat_cmp}
use Rattle.std.specs.Cmp.{ranked}
use Rattle.std.specs.declared.cmp.Ordering.TheVariants.{Less}
use Rattle.std.specs.FinMap as finite
use Rattle.std.specs.FinMap.Entries.{below_all, is_sorted}
use Rattle.std.specs.List.{filter, flat_map, fold, list_any, AllByRecursion}
use Rattle.std.proofs.lemmas.Bool.{cond_both, ne_eqb, ltb-false, and_parts, eqb-true, lt-ltb, le-ltb, cond-true, cond-false, cases_lt, true≢false}
use Rattle.std.proofs.lemmas.List.Sums.{sum_by-cons}
use Rattle.std.proofs.lemmas.List.{length-map}
use Rattle.mark_base.specs.declared.ann_id.AnnId.{AnnId}
use Rattle.mark_base.specs.declared.ann_id.Kind.{Kind}
use Rattle.mark_base.specs.declared.ann_id.Kind.TheVariants as letter
use Rattle.mark_base.specs.declared.fragments.Frag.{Frag}
use Rattle.mark_base.specs.ReadIds.{id_at}
use Rattle.char_documents.specs.Tokens.{tokens_of}
use Rattle.layer_model.specs.declared.span.Span.{Span}
use Rattle.layer_model.specs.Annotations.{Annotations}
use Rattle.layer_model.specs.Coherent.{is_span_letter}
use Rattle.layer_model.specs.LayerIds.{ids_of, ids_of_letter}
use Rattle.layer_rules.proofs.PlaceLemmas.{is_less, left, right}
use Rattle.token_columns.specs.declared.column_fault.ColumnOut.{ColumnOut}
use Rattle.token_columns.specs.declared.column_fault.ColumnOut.TheVariants.{OtherThere, ClassThere, Fragmented, Unaligned, Shared, Numbered, WriteFault, Memory}
use Rattle.token_columns.specs.declared.run.Run.{Run}
use Rattle.token_columns.specs.declared.run.Placed.{Placed}
use Rattle.token_columns.specs.Labels.{placed_of, runs_of, spans_of}
use Rattle.token_columns.specs.Fits.{Fits, is_aligned, only_spans, place_of, share_token, shares_lower}
use Rattle.token_columns.specs.WriteFaults.{TellsLayer, TellsOut, class_there, earlier, fragmented, is_misnumbered, misnumbered, other_there, out_fault, shared, unaligned}
use Rattle.token_columns.specs.WriteRuns.{meet}
use Rattle.token_columns.proofs.OutLemmas.{Stands, all_aligned, all_whole, each, from_not, none_found, shared_is_met, spans_some, unmapped}
use Rattle.token_columns.proofs.RunLemmas.{RunsRise}
use Rattle.token_columns.proofs.RunsAgain.{AllAligned, starts_at, ends_at}

-- ---- no fault: the layer fits

neither : {X : Type 0} (a b : Option X) → option_or a b ≡ None → (a ≡ None) × (b ≡ None)
neither None b h = (refl, h)
neither (Some x) b h = absurd (let g : Some x ≡ None = h in cc)

-- a letter whose IDs are all of spans has none, where it is not that of spans
no_numbers : {V : Type 0} (kind : Kind) (m : finite.FinMap nat_cmp V) (ns : List ℕ) → is_span_letter kind ≡ false → AllByRecursion (λ (id : AnnId). not (is_span_letter id.kind) ≡ false) (map (id_at kind) ns) → ns ≡ []
no_numbers kind m [] other h = refl
no_numbers kind m (n ∷ ns) other h = absurd (true≢false (sym (ap not other) ∙ h.0))

no_entries : {V : Type 0} (m : finite.FinMap nat_cmp V) → finite.keys m ≡ [] → m ≡ finite.empty
no_entries m h = finite.empty_of_len m (finite.len-entries m ∙ sym (length-map (finite.entries m) _) ∙ ap length h)

front : {X : Type 0} (P : X → Type 0) (xs ys : List X) → AllByRecursion P (xs ++ ys) → AllByRecursion P xs
front P [] ys h = tt
front P (x ∷ xs) ys h = (h.0, front P xs ys h.1)

back : {X : Type 0} (P : X → Type 0) (xs ys : List X) → AllByRecursion P (xs ++ ys) → AllByRecursion P ys
back P [] ys h = h
back P (x ∷ xs) ys h = back P xs ys h.1

same_fields : (layer : Annotations) → layer.events ≡ finite.empty → layer.relations ≡ finite.empty → layer.attributes ≡ finite.empty → layer.legacy ≡ finite.empty → layer.normals ≡ finite.empty → layer.notes ≡ finite.empty
    → layer.classes ≡ [] → layer ≡ only_spans layer.spans
same_fields layer e r a m n t c =
    ap (λ x. (let l : Annotations = record layer { events = x } in l)) e ∙ ap (λ x. (let l : Annotations = record (record layer { events = finite.empty }) { relations = x } in l)) r
    ∙ ap (λ x. (let l : Annotations = record (record layer { events = finite.empty; relations = finite.empty }) { attributes = x } in l)) a
    ∙ ap (λ x. (let l : Annotations = record (record layer { events = finite.empty; relations = finite.empty; attributes = finite.empty }) { legacy = x } in l)) m
    ∙ ap (λ x. (let l : Annotations = record (record layer { events = finite.empty; relations = finite.empty; attributes = finite.empty; legacy = finite.empty }) { normals = x } in l)) n
    ∙ ap (λ x. (let l : Annotations = record (record layer { events = finite.empty; relations = finite.empty; attributes = finite.empty; legacy = finite.empty; normals = finite.empty }) { notes = x } in l)) t
    ∙ ap (λ x. (let l : Annotations = record (only_spans layer.spans) { classes = x } in l)) c

abbrev if_empty : Bool → Option ColumnOut
if_empty b = cond b None (Some ClassThere)

no_class : (layer : Annotations) → class_there layer ≡ None → layer.classes ≡ []
no_class layer h =
    elim layer.classes as (λ cs. (if_empty (length cs == 0)) ≡ None → cs ≡ []) [
      | [] ↦ λ _. refl
      | class ∷ cs ↦ λ e. absurd (let g : Some ClassThere ≡ None = sym (ap if_empty (ne_eqb (length (class ∷ cs)) 0 (λ z. absurd (omega arith)))) ∙ e in cc)
    ] h

only_is : (layer : Annotations) → other_there layer ≡ None → class_there layer ≡ None → layer ≡ only_spans layer.spans
only_is layer a b =
    let P : AnnId → Type 0 = λ id. not (is_span_letter id.kind) ≡ false in
    let all : AllByRecursion P (ids_of layer) = none_found (λ (id : AnnId). not (is_span_letter id.kind)) (ids_of layer) (unmapped _ (find (λ (id : AnnId). not (is_span_letter id.kind)) (ids_of layer)) a) in
    let e = back P (ids_of_letter layer letter.Text) _ all in
    let r = back P (ids_of_letter layer letter.Event) _ e in
    let t = back P (ids_of_letter layer letter.Relation) _ r in
    let m = back P (ids_of_letter layer letter.Attribute) _ t in
    let n = back P (ids_of_letter layer letter.Legacy) _ m in
    let k = back P (ids_of_letter layer letter.Normal) _ n in
    same_fields layer
    (no_entries layer.events (no_numbers letter.Event layer.events (finite.keys layer.events) refl (front P (ids_of_letter layer letter.Event) _ e)))
    (no_entries layer.relations (no_numbers letter.Relation layer.relations (finite.keys layer.relations) refl (front P (ids_of_letter layer letter.Relation) _ r)))
    (no_entries layer.attributes (no_numbers letter.Attribute layer.attributes (finite.keys layer.attributes) refl (front P (ids_of_letter layer letter.Attribute) _ t)))
    (no_entries layer.legacy (no_numbers letter.Legacy layer.legacy (finite.keys layer.legacy) refl (front P (ids_of_letter layer letter.Legacy) _ m)))
    (no_entries layer.normals (no_numbers letter.Normal layer.normals (finite.keys layer.normals) refl (front P (ids_of_letter layer letter.Normal) _ n)))
    (no_entries layer.notes (no_numbers letter.Note layer.notes (finite.keys layer.notes) refl (front P (ids_of_letter layer letter.Note) _ k)))
    (no_class layer b)

-- the earliest of some spans is one of them
kept_some : (x : Placed) (xs : List Placed) → fold earlier (Some x) xs ≡ None → ⊥
kept_some x [] h = let g : Some x ≡ None = h in absurd cc
kept_some x (y ∷ ys) h =
    cond_both (nat_lt y.run.start x.run.start) (Some y) (Some x) (λ o. fold earlier o ys ≡ None → ⊥) (λ _. kept_some y ys) (λ _. kept_some x ys) h

none_first : (p : Placed → Bool) (xs : List Placed) → fold earlier None (filter p xs) ≡ None → AllByRecursion (λ x. p x ≡ false) xs
none_first p [] h = tt
none_first p (x ∷ xs) h =
    elim (p x) as (λ b. p x ≡ b → fold earlier None (cond b (x ∷ filter p xs) (filter p xs)) ≡ None → AllByRecursion (λ x. p x ≡ false) (x ∷ xs)) [
      | true ↦ λ _ e. absurd (kept_some x (filter p xs) e)
      | false ↦ λ no e. (no, none_first p xs e)
    ] refl h

-- a layer without a fault fits
pub fits_of : (text : List ℕ) (layer : Annotations) → out_fault text layer ≡ None → Fits text layer
unfolding out_fault
fits_of text layer h =
    let spans : List Placed = spans_of layer in
    let a = neither (other_there layer) _ h in
    let b = neither (class_there layer) _ a.1 in
    let c = neither (fragmented spans) _ b.1 in
    let d = neither (unaligned text spans) _ c.1 in
    let e = neither (shared text spans) _ d.1 in
    record {
      only = only_is layer a.0 b.0;
      whole = all_whole spans c.0;
      aligned = all_aligned text spans d.0;
      apart = none_found (shares_lower (tokens_of text) spans) spans (unmapped _ (find (shares_lower (tokens_of text) spans) spans) e.0);
      numbered =
          each (λ (span : Placed). is_misnumbered spans span ≡ false) (λ span. span.number ≡ place_of spans span) (λ span no. eqb-true span.number (place_of spans span) (from_not (span.number == place_of spans span) no)) spans
          (none_first (is_misnumbered spans) spans (unmapped _ (fold earlier None (filter (is_misnumbered spans) spans)) e.1));
    }

-- ---- the spans of a layer that fits rise

-- each number is above those before it
abbrev pub Ascends : List Placed → Type 0
Ascends [] = ⊤
Ascends (span ∷ spans) = AllByRecursion (λ (other : Placed). span.number < other.number) spans × Ascends spans

above : (k : ℕ) (es : List (ℕ × Span)) → T (below_all nat_cmp k es) → AllByRecursion (λ (other : Placed). k < other.number) (map placed_of es)
above k [] h = tt
above k (e ∷ es) h = (let less = ranked k e.0 Less (sym (is_less (nat_cmp k e.0) (left _ _ h))) in omega arith, above k es (right _ _ h))

ascends : (es : List (ℕ × Span)) → T (is_sorted nat_cmp es) → Ascends (map placed_of es)
ascends [] h = tt
ascends (e ∷ es) h = (above e.0 es (left _ _ h), ascends es (right _ _ h))

pub layer_ascends : (layer : Annotations) → Ascends (spans_of layer)
layer_ascends layer = ascends (finite.entries layer.spans) (finite.entries_sorted layer.spans)

abbrev lower_one : ℕ → Placed → ℕ
lower_one place span = cond (nat_lt span.run.start place) 1 0

fewer : (a b : ℕ) (spans : List Placed) → a ≤ b → count_by (λ (span : Placed). nat_lt span.run.start a) spans ≤ count_by (λ (span : Placed). nat_lt span.run.start b) spans
fewer a b [] h = omega arith
fewer a b (span ∷ spans) h =
    let more : count_by (λ (s : Placed). nat_lt s.run.start a) spans ≤ count_by (λ (s : Placed). nat_lt s.run.start b) spans = fewer a b spans h in
    let p = sum_by-cons (lower_one a) span spans in
    let q = sum_by-cons (lower_one b) span spans in
    elim (cases_lt span.run.start a) [
      | inl less ↦
          let one : lower_one b span ≡ 1 = cond-true (nat_lt span.run.start b) 1 0 (lt-ltb span.run.start b (omega arith)) in
          let own : lower_one a span ≡ 1 = cond-true (nat_lt span.run.start a) 1 0 (lt-ltb span.run.start a less) in
          omega (arith, more, p, q, one, own)
      | inr past ↦
          let none : lower_one a span ≡ 0 = cond-false (nat_lt span.run.start a) 1 0 (le-ltb span.run.start a past) in
          omega (arith, more, p, q, none)
    ]

none_any : {X : Type 0} (p : X → Bool) (xs : List X) → list_any p xs ≡ false → AllByRecursion (λ x. p x ≡ false) xs
none_any p [] h = tt
none_any p (x ∷ xs) h =
    elim (p x) as (λ b. p x ≡ b → (b || list_any p xs) ≡ false → AllByRecursion (λ x. p x ≡ false) (x ∷ xs)) [
      | true ↦ λ _ e. absurd (true≢false e)
      | false ↦ λ no e. (no, none_any p xs e)
    ] refl h

-- of two spans the one of the lower number ends where the other starts, or before
pair_apart : (tokens : List Frag) (whole : List Placed) (a b : Placed) → Stands tokens a.run → Stands tokens b.run → a.number < b.number → a.number ≡ place_of whole a → b.number ≡ place_of whole b
    → (nat_lt a.number b.number && share_token tokens a.run b.run) ≡ false → a.run.end ≤ b.run.start
pair_apart tokens whole a b x y less p q unshared =
    let share : share_token tokens a.run b.run ≡ false = sym (ap (λ t. t && share_token tokens a.run b.run) (lt-ltb a.number b.number less)) ∙ unshared in
    let apart : meet a.run b.run ≡ false = sym (shared_is_met tokens a.run b.run x y) ∙ share in
    let first : a.run.start < b.run.start =
    elim (cases_lt a.run.start b.run.start) [
      | inl h ↦ h
      | inr h ↦ let few = fewer b.run.start a.run.start whole h in absurd (omega (arith, few, p, q, less))
    ] in
    let one : (true && nat_lt b.run.start a.run.end) ≡ false = sym (ap (λ t. t && nat_lt b.run.start a.run.end) (lt-ltb a.run.start b.run.end (omega (arith, first, y.1)))) ∙ apart in
    ltb-false b.run.start a.run.end one

pairs_apart : (tokens : List Frag) (whole front spans : List Placed) (span : Placed) (later : List Placed) → whole ≡ front ++ span ∷ later → Stands tokens span.run → span.number ≡ place_of whole span
    → AllByRecursion (λ (other : Placed). Stands tokens other.run) spans → AllByRecursion (λ (other : Placed). span.number < other.number) spans → AllByRecursion (λ (other : Placed). other.number ≡ place_of whole other) spans
    → AllByRecursion (λ (other : Placed). shares_lower tokens whole other ≡ false) spans → AllByRecursion (λ (other : Placed). span.run.end ≤ other.run.start) spans
pairs_apart tokens whole front [] span later is x p all less places apart = tt
pairs_apart tokens whole front (other ∷ spans) span later is x p all less places apart =
    let test : Placed → Bool = λ (o : Placed). nat_lt o.number other.number && share_token tokens o.run other.run in
    let none : AllByRecursion (λ o. test o ≡ false) whole = none_any test whole apart.0 in
    let here = (back (λ o. test o ≡ false) front (span ∷ later) (subst (AllByRecursion (λ o. test o ≡ false)) is none)).0 in
    (pair_apart tokens whole span other x all.0 less.0 p places.0 here, pairs_apart tokens whole front spans span later is x p all.1 less.1 places.1 apart.1)

rise_from : (tokens : List Frag) (whole front spans : List Placed) (low : ℕ) → whole ≡ front ++ spans → AllByRecursion (λ (span : Placed). Stands tokens span.run) spans → Ascends spans
    → AllByRecursion (λ (span : Placed). span.number ≡ place_of whole span) spans → AllByRecursion (λ (span : Placed). shares_lower tokens whole span ≡ false) spans
    → AllByRecursion (λ (span : Placed). low ≤ span.run.start) spans → RunsRise low (map (λ (span : Placed). span.run) spans)
rise_from tokens whole front [] low is all up places apart from = tt
rise_from tokens whole front (span ∷ spans) low is all up places apart from = (
  from.0,
  (all.0).1,
  rise_from tokens whole (front ++ span ∷ []) spans span.run.end (is ∙ sym (append_assoc front (span ∷ []) spans)) all.1 up.1 places.1 apart.1
      (pairs_apart tokens whole front spans span spans is all.0 places.0 all.1 up.0 places.1 apart.1),
)

zero_low : (spans : List Placed) → AllByRecursion (λ (span : Placed). 0 ≤ span.run.start) spans
zero_low [] = tt
zero_low (span ∷ spans) = (omega arith, zero_low spans)

stand_all : (tokens : List Frag) (spans : List Placed) → AllByRecursion (λ (span : Placed). is_aligned tokens span.run ≡ true) spans → AllByRecursion (λ (span : Placed). span.run.start < span.run.end) spans
    → AllByRecursion (λ (span : Placed). Stands tokens span.run) spans
stand_all tokens [] a s = tt
stand_all tokens (span ∷ spans) a s = ((a.0, s.0), stand_all tokens spans a.1 s.1)

-- the spans of a layer that fits rise, where they are not empty
pub fits_rise : (text : List ℕ) (layer : Annotations) → Fits text layer → AllByRecursion (λ (span : Placed). span.run.start < span.run.end) (spans_of layer) → RunsRise 0 (runs_of layer)
fits_rise text layer fits some =
    rise_from (tokens_of text) (spans_of layer) [] (spans_of layer) 0 refl (stand_all (tokens_of text) (spans_of layer) fits.aligned some) (layer_ascends layer) fits.numbered fits.apart (zero_low (spans_of layer))

aligned_runs : (tokens : List Frag) (spans : List Placed) → AllByRecursion (λ (span : Placed). is_aligned tokens span.run ≡ true) spans → AllAligned tokens (map (λ (span : Placed). span.run) spans)
aligned_runs tokens [] a = tt
aligned_runs tokens (span ∷ spans) a = (and_parts (starts_at span.run.start tokens) (ends_at span.run.end tokens) a.0, aligned_runs tokens spans a.1)

pub fits_aligned : (text : List ℕ) (layer : Annotations) → Fits text layer → AllAligned (tokens_of text) (runs_of layer)
fits_aligned text layer fits = aligned_runs (tokens_of text) (spans_of layer) fits.aligned

-- ---- the faults are those of the layer

abbrev NoWrite : Option ColumnOut → Type 0
NoWrite None = ⊤
NoWrite (Some WriteFault) = ⊥
NoWrite (Some fault) = ⊤

either : (a b : Option ColumnOut) → NoWrite a → NoWrite b → NoWrite (option_or a b)
either None b h k = k
either (Some fault) b h k = h

mapped : {X : Type 0} (f : X → ColumnOut) (o : Option X) → ((x : X) → NoWrite (Some (f x))) → NoWrite (option_map f o)
mapped f None h = tt
mapped f (Some x) h = h x

pub never_written : (text : List ℕ) (layer : Annotations) → NoWrite (out_fault text layer)
unfolding out_fault
never_written text layer =
    let spans : List Placed = spans_of layer in
    either (other_there layer) _ (mapped OtherThere (find (λ (id : AnnId). not (is_span_letter id.kind)) (ids_of layer)) (λ x. tt))
    (either (class_there layer) _ (cond_both (length layer.classes == 0) None (Some ClassThere) NoWrite (λ _. tt) (λ _. tt))
    (either (fragmented spans) _ (mapped _ (find (λ (span : Placed). not (span.pieces == 1)) spans) (λ x. tt))
    (either (unaligned text spans) _ (mapped _ (find (λ (span : Placed). not (is_aligned (tokens_of text) span.run)) spans) (λ x. tt))
    (either (shared text spans) (misnumbered spans) (mapped _ (find (shares_lower (tokens_of text) spans) spans) (λ x. tt))
    (mapped _ (fold earlier None (filter (is_misnumbered spans) spans)) (λ x. tt))))))

-- a fault that is told is that of the layer
pub told_layer : (text : List ℕ) (layer : Annotations) (fault : ColumnOut) → out_fault text layer ≡ Some fault → TellsLayer text layer fault
told_layer text layer (OtherThere id) h = h
told_layer text layer ClassThere h = h
told_layer text layer (Fragmented id) h = h
told_layer text layer (Unaligned id) h = h
told_layer text layer (Shared id) h = h
told_layer text layer (Numbered id) h = h
told_layer text layer WriteFault h = subst NoWrite h (never_written text layer)
told_layer text layer Memory h = tt

pub told_out : (text : List ℕ) (layer : Annotations) (fault : ColumnOut) → TellsLayer text layer fault → TellsOut text layer fault
told_out text layer (OtherThere id) h = h
told_out text layer ClassThere h = h
told_out text layer (Fragmented id) h = h
told_out text layer (Unaligned id) h = h
told_out text layer (Shared id) h = h
told_out text layer (Numbered id) h = h
told_out text layer WriteFault h = absurd h
told_out text layer Memory h = tt

pub not_written : (text : List ℕ) (layer : Annotations) (fault : ColumnOut) → TellsLayer text layer fault → fault ≡ WriteFault → ⊥
not_written text layer fault h is = subst (TellsLayer text layer) is h

-- the text of a layer that fits
pub columns_are : (conf : Configuration) (text : List ℕ) (layer : Annotations) (runs : List Run) → IsLayer layer → IsWellFormed conf (length text) layer → runs ≡ runs_of layer → out_fault text layer ≡ None
    → text_from conf text runs (tokens_of text) ≡ columns conf text layer
unfolding columns
columns_are conf text layer runs kept well is clean =
    let fits : Fits text layer = fits_of text layer clean in
    let rise : RunsRise 0 runs = subst (RunsRise 0) (sym is) (fits_rise text layer fits (spans_some conf (length text) layer kept well fits.whole)) in
    text_is conf text 0 0 runs (tokens_of text) rise (tokens_rising text)
    ∙ ap (λ (r : List Run). flat_map (λ line. line ++ codes "\n") (map (column_line conf text r) (tokens_of text))) is
