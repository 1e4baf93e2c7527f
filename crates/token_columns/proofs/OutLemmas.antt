-- The first fault of a layer, told one after the other.
use Rattle.std.proofs.Common.{◌≡◌, ℕ, ◌<◌, ◌≤◌, ◌==◌, ◌&&◌, ◌||◌, inl, inr, not, true, false, cond, Bool, List, [], ◌∷◌, map, Option, Some, None, refl, sym, ◌∙◌, ap, subst, arith, length, nat_lt, find, option_map, is_some}
use Rattle.std.specs.Option.{option_or, option_and_then}
use Rattle.layer_model.specs.declared.rule.Rule.TheVariants.{BadFragments}
use Rattle.label_tracks.specs.Candidates.{start_of, end_of}
use Rattle.std.specs.List.{list_any, AllByRecursion}
use Rattle.std.specs.FinMap as finite
use Rattle.std.proofs.lemmas.Bool.{and_from, and_parts, or_cases, or_left, or_right, eqb-true, lt-ltb, le-ltb, ltb-true, cases_lt, false≢true, true≢false}
use Rattle.mark_base.specs.declared.fragments.Frag.{Frag}
use Rattle.mark_base.specs.declared.ann_id.Kind.TheVariants as letter
use Rattle.conf_model.specs.Configurations.{Configuration}
use Rattle.layer_model.specs.declared.flaw.FlawPlace.TheVariants as at
use Rattle.layer_model.specs.declared.mark.Mark.TheVariants as marked
use Rattle.layer_model.specs.declared.span.Span.{Span}
use Rattle.layer_model.specs.Annotations.{Annotations}
use Rattle.layer_model.specs.Layers.{IsLayer}
use Rattle.layer_rules.specs.MarkRules.{bad_fragments, where_so}
use Rattle.layer_rules.specs.BadTexts.{are_fragments}
use Rattle.layer_rules.specs.WellFormed.{IsWellFormed}
use Rattle.layer_rules.proofs.PlaceLemmas.{entries_found}
use Rattle.char_documents.specs.Tokens.{tokens_of}
use Rattle.token_columns.specs.declared.column_fault.ColumnOut.{ColumnOut}
use Rattle.token_columns.specs.declared.column_fault.ColumnOut.TheVariants.{Shared}
use Rattle.token_columns.specs.declared.run.Run.{Run}
use Rattle.token_columns.specs.declared.run.Placed.{Placed}
use Rattle.token_columns.specs.Labels.{placed_of, reaches, run_of, spans_of}
use Rattle.token_columns.specs.Fits.{is_aligned, share_token, shares_lower}
use Rattle.token_columns.specs.WriteFaults.{class_there, fragmented, misnumbered, other_there, out_fault, shared, span_id, unaligned}
use Rattle.token_columns.specs.WriteRuns.{meet, meets_lower}
use Rattle.token_columns.proofs.FitsLemmas.{none_shared, apart_at}
use Rattle.token_columns.proofs.RunLemmas.{reached}
use Rattle.token_columns.proofs.RunsAgain.{starts_at, ends_at}

-- ---- one fault after the other

module _ (text : List ℕ) (layer : Annotations) (fault : ColumnOut) where
  pub first_told : other_there layer ≡ Some fault → out_fault text layer ≡ Some fault
  unfolding out_fault
  first_told a = ap (λ o. option_or o (option_or (class_there layer) (option_or (fragmented (spans_of layer)) (option_or (unaligned text (spans_of layer)) (option_or (shared text (spans_of layer)) (misnumbered (spans_of layer))))))) a

  pub second_told : other_there layer ≡ None → class_there layer ≡ Some fault → out_fault text layer ≡ Some fault
  unfolding out_fault
  second_told a b =
      ap (λ o. option_or o (option_or (class_there layer) (option_or (fragmented (spans_of layer)) (option_or (unaligned text (spans_of layer)) (option_or (shared text (spans_of layer)) (misnumbered (spans_of layer))))))) a
      ∙ ap (λ o. option_or o (option_or (fragmented (spans_of layer)) (option_or (unaligned text (spans_of layer)) (option_or (shared text (spans_of layer)) (misnumbered (spans_of layer)))))) b

-- behind these that are none
behind_none : (text : List ℕ) (layer : Annotations) → other_there layer ≡ None → class_there layer ≡ None
    → out_fault text layer ≡ option_or (fragmented (spans_of layer)) (option_or (unaligned text (spans_of layer)) (option_or (shared text (spans_of layer)) (misnumbered (spans_of layer))))
unfolding out_fault
behind_none text layer a b =
    ap (λ o. option_or o (option_or (class_there layer) (option_or (fragmented (spans_of layer)) (option_or (unaligned text (spans_of layer)) (option_or (shared text (spans_of layer)) (misnumbered (spans_of layer))))))) a
    ∙ ap (λ o. option_or o (option_or (fragmented (spans_of layer)) (option_or (unaligned text (spans_of layer)) (option_or (shared text (spans_of layer)) (misnumbered (spans_of layer)))))) b

pub third_told : (text : List ℕ) (layer : Annotations) (spans : List Placed) (fault : ColumnOut) → spans ≡ spans_of layer → other_there layer ≡ None → class_there layer ≡ None → fragmented spans ≡ Some fault → out_fault text layer ≡ Some fault
third_told text layer spans fault is a b c =
    behind_none text layer a b ∙ ap (λ s. option_or (fragmented s) (option_or (unaligned text s) (option_or (shared text s) (misnumbered s)))) (sym is)
    ∙ ap (λ o. option_or o (option_or (unaligned text spans) (option_or (shared text spans) (misnumbered spans)))) c

pub fourth_told : (text : List ℕ) (layer : Annotations) (spans : List Placed) (fault : ColumnOut) → spans ≡ spans_of layer → other_there layer ≡ None → class_there layer ≡ None → fragmented spans ≡ None → unaligned text spans ≡ Some fault
    → out_fault text layer ≡ Some fault
fourth_told text layer spans fault is a b c d =
    behind_none text layer a b ∙ ap (λ s. option_or (fragmented s) (option_or (unaligned text s) (option_or (shared text s) (misnumbered s)))) (sym is)
    ∙ ap (λ o. option_or o (option_or (unaligned text spans) (option_or (shared text spans) (misnumbered spans)))) c ∙ ap (λ o. option_or o (option_or (shared text spans) (misnumbered spans))) d

-- behind all but the last two
pub last_told : (text : List ℕ) (layer : Annotations) (spans : List Placed) → spans ≡ spans_of layer → other_there layer ≡ None → class_there layer ≡ None → fragmented spans ≡ None → unaligned text spans ≡ None
    → out_fault text layer ≡ option_or (shared text spans) (misnumbered spans)
last_told text layer spans is a b c d =
    behind_none text layer a b ∙ ap (λ s. option_or (fragmented s) (option_or (unaligned text s) (option_or (shared text s) (misnumbered s)))) (sym is)
    ∙ ap (λ o. option_or o (option_or (unaligned text spans) (option_or (shared text spans) (misnumbered spans)))) c ∙ ap (λ o. option_or o (option_or (shared text spans) (misnumbered spans))) d

-- ---- what no fault says of each span

pub none_found : {X : Type 0} (p : X → Bool) (xs : List X) → find p xs ≡ None → AllByRecursion (λ x. p x ≡ false) xs
none_found p [] h = tt
none_found p (x ∷ xs) h =
    elim (p x) as (λ b. p x ≡ b → cond b (Some x) (find p xs) ≡ None → AllByRecursion (λ x. p x ≡ false) (x ∷ xs)) [
      | true ↦ λ _ e. absurd (let g : Some x ≡ None = e in cc)
      | false ↦ λ no e. (no, none_found p xs e)
    ] refl h

pub unmapped : {X Y : Type 0} (f : X → Y) (o : Option X) → option_map f o ≡ None → o ≡ None
unmapped f None h = refl
unmapped f (Some x) h = absurd (let g : Some (f x) ≡ None = h in cc)

pub each : {X : Type 0} (P Q : X → Type 0) → ((x : X) → P x → Q x) → (xs : List X) → AllByRecursion P xs → AllByRecursion Q xs
each P Q f [] h = tt
each P Q f (x ∷ xs) h = (f x h.0, each P Q f xs h.1)

pub from_not : (b : Bool) → not b ≡ false → b ≡ true
from_not true h = refl
from_not false h = absurd (true≢false h)

pub all_whole : (spans : List Placed) → fragmented spans ≡ None → AllByRecursion (λ (span : Placed). span.pieces ≡ 1) spans
all_whole spans h =
    each (λ (span : Placed). not (span.pieces == 1) ≡ false) (λ span. span.pieces ≡ 1) (λ span no. eqb-true span.pieces 1 (from_not (span.pieces == 1) no)) spans
    (none_found (λ (span : Placed). not (span.pieces == 1)) spans (unmapped _ (find (λ (span : Placed). not (span.pieces == 1)) spans) h))

pub all_aligned : (text : List ℕ) (spans : List Placed) → unaligned text spans ≡ None → AllByRecursion (λ (span : Placed). is_aligned (tokens_of text) span.run ≡ true) spans
all_aligned text spans h =
    each (λ (span : Placed). not (is_aligned (tokens_of text) span.run) ≡ false) (λ span. is_aligned (tokens_of text) span.run ≡ true) (λ span no. from_not (is_aligned (tokens_of text) span.run) no) spans
    (none_found (λ (span : Placed). not (is_aligned (tokens_of text) span.run)) spans (unmapped _ (find (λ (span : Placed). not (is_aligned (tokens_of text) span.run)) spans) h))

-- ---- spans of one fragment in a well-formed layer are not empty

unbarred : (b : Bool) → where_so (not b) BadFragments ≡ None → b ≡ true
unbarred true h = refl
unbarred false h = absurd (let g : Some BadFragments ≡ None = h in cc)

whole_some : (frags : List Frag) (span : Span) → span.frags ≡ frags → length frags ≡ 1 → are_fragments frags ≡ true → (run_of span).start < (run_of span).end
whole_some [] span is one h = absurd (omega arith)
whole_some (frag ∷ []) span is one h =
    let some : frag.start < frag.end = ltb-true frag.start frag.end (and_parts (nat_lt 0 (length (frag ∷ []))) (nat_lt frag.start frag.end) h).1 in
    subst (λ fs. start_of fs < end_of fs) (sym is) some
whole_some (frag ∷ next ∷ more) span is one h = absurd (omega arith)

entry_some : (conf : Configuration) (characters : ℕ) (layer : Annotations) → IsLayer layer → IsWellFormed conf characters layer → (number : ℕ) (span : Span) → finite.get layer.spans number ≡ Some span → length span.frags ≡ 1
    → (run_of span).start < (run_of span).end
entry_some conf characters layer kept well number span held one =
    let within : number ≤ 999999999 = kept.spans number (ap is_some held) in
    let sound : option_and_then bad_fragments (option_map marked.Span (finite.get layer.spans number)) ≡ None = well.fragments (at.Mark (record { kind = letter.Text; number = number; within = within })) in
    let good : bad_fragments (marked.Span span) ≡ None = sym (ap (λ o. option_and_then bad_fragments (option_map marked.Span o)) held) ∙ sound in
    whole_some span.frags span refl one (unbarred (are_fragments span.frags) good)

entries_some : (conf : Configuration) (characters : ℕ) (layer : Annotations) → IsLayer layer → IsWellFormed conf characters layer → (es : List (ℕ × Span)) → AllByRecursion (λ (e : ℕ × Span). finite.get layer.spans e.0 ≡ Some e.1) es
    → AllByRecursion (λ (span : Placed). span.pieces ≡ 1) (map placed_of es) → AllByRecursion (λ (span : Placed). span.run.start < span.run.end) (map placed_of es)
entries_some conf characters layer kept well [] found whole = tt
entries_some conf characters layer kept well (e ∷ es) found whole =
    (entry_some conf characters layer kept well e.0 e.1 found.0 whole.0, entries_some conf characters layer kept well es found.1 whole.1)

pub spans_some : (conf : Configuration) (characters : ℕ) (layer : Annotations) → IsLayer layer → IsWellFormed conf characters layer → AllByRecursion (λ (span : Placed). span.pieces ≡ 1) (spans_of layer)
    → AllByRecursion (λ (span : Placed). span.run.start < span.run.end) (spans_of layer)
spans_some conf characters layer kept well whole = entries_some conf characters layer kept well (finite.entries layer.spans) (entries_found layer.spans) whole

-- ---- aligned spans share a token where they have a character in common

start_there : (p : ℕ → Bool) (place : ℕ) (tokens : List Frag) → starts_at place tokens ≡ true → p place ≡ true → list_any (λ (token : Frag). p token.start) tokens ≡ true
start_there p place [] h t = absurd (false≢true h)
start_there p place (token ∷ tokens) h t =
    elim (or_cases (token.start == place) (starts_at place tokens) h) [
      | inl here ↦ or_left (p token.start) (list_any (λ (k : Frag). p k.start) tokens) (ap p (eqb-true token.start place here) ∙ t)
      | inr there ↦ or_right (p token.start) (list_any (λ (k : Frag). p k.start) tokens) (start_there p place tokens there t)
    ]

and_turns : (a b : Bool) → (a && b) ≡ (b && a)
and_turns true true = refl
and_turns true false = refl
and_turns false true = refl
and_turns false false = refl

and_no : (b : Bool) → (b && false) ≡ false
and_no true = refl
and_no false = refl

none_shared_back : (tokens : List Frag) (a b : Run) → b.end ≤ a.start → share_token tokens a b ≡ false
none_shared_back [] a b h = refl
none_shared_back (token ∷ tokens) a b h =
    let first : (reaches token.start a && reaches token.start b) ≡ false = and_turns (reaches token.start a) (reaches token.start b) ∙ apart_at token.start b a h in
    ap (λ t. t || share_token tokens a b) first ∙ none_shared_back tokens a b h

-- a span of a layer without a fault so far
abbrev pub Stands : List Frag → Run → Type 0
Stands tokens run = (is_aligned tokens run ≡ true) × (run.start < run.end)

pub shared_is_met : (tokens : List Frag) (a b : Run) → Stands tokens a → Stands tokens b → share_token tokens a b ≡ meet a b
shared_is_met tokens a b x y =
    elim (cases_lt a.start b.end) [
      | inl before ↦
          elim (cases_lt b.start a.end) [
            | inl behind ↦
                let met : meet a b ≡ true = and_from (nat_lt a.start b.end) (nat_lt b.start a.end) (lt-ltb a.start b.end before) (lt-ltb b.start a.end behind) in
                elim (cases_lt a.start b.start) [
                  | inl less ↦
                      start_there (λ c. reaches c a && reaches c b) b.start tokens (and_parts (starts_at b.start tokens) (ends_at b.end tokens) y.0).0
                      (and_from (reaches b.start a) (reaches b.start b) (reached b.start a (omega arith) behind) (reached b.start b (omega arith) y.1)) ∙ sym met
                  | inr more ↦
                      start_there (λ c. reaches c a && reaches c b) a.start tokens (and_parts (starts_at a.start tokens) (ends_at a.end tokens) x.0).0
                      (and_from (reaches a.start a) (reaches a.start b) (reached a.start a (omega arith) x.1) (reached a.start b more before)) ∙ sym met
                ]
            | inr past ↦ none_shared tokens a b past ∙ sym (ap (λ t. nat_lt a.start b.end && t) (le-ltb b.start a.end past) ∙ and_no (nat_lt a.start b.end))
          ]
      | inr past ↦ none_shared_back tokens a b past ∙ sym (ap (λ t. t && nat_lt b.start a.end) (le-ltb a.start b.end past))
    ]

lower_is_met : (tokens : List Frag) (spans : List Placed) (span : Placed) → Stands tokens span.run → AllByRecursion (λ (other : Placed). Stands tokens other.run) spans
    → shares_lower tokens spans span ≡ meets_lower spans span
lower_is_met tokens [] span x all = refl
lower_is_met tokens (other ∷ spans) span x all =
    ap (λ t. (nat_lt other.number span.number && t) || shares_lower tokens spans span) (shared_is_met tokens other.run span.run all.0 x)
    ∙ ap (λ t. (nat_lt other.number span.number && meet other.run span.run) || t) (lower_is_met tokens spans span x all.1)

find_is_met : (tokens : List Frag) (whole spans : List Placed) → AllByRecursion (λ (other : Placed). Stands tokens other.run) whole → AllByRecursion (λ (other : Placed). Stands tokens other.run) spans
    → find (shares_lower tokens whole) spans ≡ find (meets_lower whole) spans
find_is_met tokens whole [] all some = refl
find_is_met tokens whole (span ∷ spans) all some =
    ap (λ t. cond t (Some span) (find (shares_lower tokens whole) spans)) (lower_is_met tokens whole span some.0 all)
    ∙ ap (λ o. cond (meets_lower whole span) (Some span) o) (find_is_met tokens whole spans all some.1)

both : (tokens : List Frag) (spans : List Placed) → AllByRecursion (λ (span : Placed). is_aligned tokens span.run ≡ true) spans → AllByRecursion (λ (span : Placed). span.run.start < span.run.end) spans
    → AllByRecursion (λ (span : Placed). Stands tokens span.run) spans
both tokens [] a s = tt
both tokens (span ∷ spans) a s = ((a.0, s.0), both tokens spans a.1 s.1)

pub shared_is : (conf : Configuration) (text : List ℕ) (layer : Annotations) (spans : List Placed) → IsLayer layer → IsWellFormed conf (length text) layer → spans ≡ spans_of layer → fragmented spans ≡ None → unaligned text spans ≡ None
    → shared text spans ≡ option_map (λ span. Shared (span_id span)) (find (meets_lower spans) spans)
shared_is conf text layer spans kept well is c d =
    let whole = subst (AllByRecursion (λ (span : Placed). span.pieces ≡ 1)) is (all_whole spans c) in
    let some = subst (AllByRecursion (λ (span : Placed). span.run.start < span.run.end)) (sym is) (spans_some conf (length text) layer kept well whole) in
    let all = both (tokens_of text) spans (all_aligned text spans d) some in
    ap (option_map (λ span. Shared (span_id span))) (find_is_met (tokens_of text) spans spans all all)

-- what is none of some is none
pub none_of : {X : Type 0} (o : Option X) → ((x : X) → o ≡ Some x → ⊥) → o ≡ None
none_of None h = refl
none_of (Some x) h = absurd (h x refl)

pub fifth_told : (conf : Configuration) (text : List ℕ) (layer : Annotations) (spans : List Placed) (fault : ColumnOut) → IsLayer layer → IsWellFormed conf (length text) layer → spans ≡ spans_of layer
    → other_there layer ≡ None → class_there layer ≡ None → fragmented spans ≡ None → unaligned text spans ≡ None → option_map (λ span. Shared (span_id span)) (find (meets_lower spans) spans) ≡ Some fault → out_fault text layer ≡ Some fault
fifth_told conf text layer spans fault kept well is a b c d e =
    last_told text layer spans is a b c d ∙ ap (λ o. option_or o (misnumbered spans)) (shared_is conf text layer spans kept well is c d ∙ e)

pub sixth_told : (conf : Configuration) (text : List ℕ) (layer : Annotations) (spans : List Placed) → IsLayer layer → IsWellFormed conf (length text) layer → spans ≡ spans_of layer
    → other_there layer ≡ None → class_there layer ≡ None → fragmented spans ≡ None → unaligned text spans ≡ None → option_map (λ span. Shared (span_id span)) (find (meets_lower spans) spans) ≡ None → out_fault text layer ≡ misnumbered spans
sixth_told conf text layer spans kept well is a b c d e =
    last_told text layer spans is a b c d ∙ ap (λ o. option_or o (misnumbered spans)) (shared_is conf text layer spans kept well is c d ∙ e)
