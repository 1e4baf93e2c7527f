-- The labels of a well-formed layer that fits may each stand where they stand.
use Rattle.std.proofs.Common.{◌≡◌, ℕ, ◌+◌, ◌-◌, ◌<◌, ◌≤◌, not, true, false, cond, Bool, List, [], ◌∷◌, ◌++◌, map, Option, Some, None, refl, sym, ◌∙◌, ap, subst, arith, nat_lt, length, slice_get, is_none, is_some, option_map, min, zero, suc, inl, inr}
use Rattle.std.specs.Option.{option_map_or, option_and_then}
use Rattle.std.specs.List.{AllByRecursion}
use Rattle.std.specs.FinMap as finite
use Rattle.std.proofs.lemmas.Bool.{eq-eqb, ltb-false, cases_lt, true≢false}
use Rattle.std.proofs.lemmas.List.Sums.{sum_by-cons}
use Rattle.std.proofs.lemmas.List.{length-append, length-map}
use Rattle.mark_base.specs.declared.ann_id.AnnId.{AnnId}
use Rattle.mark_base.specs.declared.ann_id.Kind.TheVariants as letter
use Rattle.mark_base.specs.declared.fragments.Frag.{Frag}
use Rattle.mark_base.specs.ReadIds.{id_at}
use Rattle.type_hierarchy.specs.declared.type_row.TypeRow.{TypeRow}
use Rattle.conf_model.specs.Configurations.{Configuration}
use Rattle.overlap_rules.specs.Overlaps.{reach}
use Rattle.layer_model.specs.declared.flaw.FlawPlace.TheVariants as at
use Rattle.layer_model.specs.declared.mark.Mark.TheVariants as marked
use Rattle.layer_model.specs.declared.rule.Rule.{Rule}
use Rattle.layer_model.specs.declared.rule.Rule.TheVariants.{UnknownType, NotForUse, SpanTooLong, LayerFull}
use Rattle.layer_model.specs.declared.span.Span.{Span}
use Rattle.layer_model.specs.Annotations.{Annotations}
use Rattle.layer_model.specs.LayerIds.{id_place, ids_of_letter}
use Rattle.layer_model.specs.Layers.{IsLayer}
use Rattle.layer_rules.specs.LayerRules.{counted_letter, counted_with, is_id, layer_full}
use Rattle.label_tracks.specs.Candidates.{start_of, end_of}
use Rattle.layer_model.specs.declared.mark.Mark.{Mark}
use Rattle.layer_rules.specs.MarkRules.{not_for_use, span_too_long, unknown_type, where_so}
use Rattle.layer_rules.specs.WellFormed.{IsWellFormed}
use Rattle.layer_rules.proofs.PlaceLemmas.{entries_found}
use Rattle.token_columns.specs.declared.label.Label.{Label}
use Rattle.token_columns.specs.declared.label.Label.TheVariants as label
use Rattle.token_columns.specs.declared.run.Run.{Run}
use Rattle.token_columns.specs.declared.run.Placed.{Placed}
use Rattle.token_columns.specs.Labels.{placed_of, run_of, runs_of, spans_of}
use Rattle.token_columns.specs.ReadColumns.{Tag, opened, last_of, begun, is_begin}
use Rattle.token_columns.specs.ReadRuns.{closed, closed_by, runs_from}
use Rattle.token_columns.proofs.AcceptLemmas.{AllSay, CanSay}
use Rattle.token_columns.proofs.JudgedLemmas.{CanUse, RunStands}
use Rattle.token_columns.proofs.RunLemmas.{AllFollow, EndsBy, Follows, Heads, Rising, made, tokens_in}

-- ---- one label

head_stands : (conf : Configuration) (run : Run) (runs : List Run) → Heads run runs → AllByRecursion (RunStands conf) runs → CanUse conf run.kind × (run.end - run.start ≤ 10000) × (0 < length runs)
head_stands conf run [] h all = absurd h
head_stands conf run (first ∷ rest) h all = (subst (CanUse conf) h.0 (all.0).0, omega (arith, h.1, h.2, (all.0).1), omega arith)

back : {X : Type 0} (P : X → Type 0) (xs ys : List X) → AllByRecursion P (xs ++ ys) → AllByRecursion P ys
back P [] ys h = h
back P (x ∷ xs) ys h = back P xs ys h.1

abbrev one_of : Label → ℕ
one_of label_ = cond (is_begin label_) 1 0

-- a label may stand, and what is known behind it
pub record Step (conf : Configuration) (last : Option Run) (count : ℕ) (token : Frag) (label_ : Label) (tags : List Tag) : Type 0 where
  pub say : CanSay conf last count token label_
  pub ends : EndsBy token.end (opened last token label_)
  pub stand : AllByRecursion (RunStands conf) (runs_from (opened last token label_) tags)
  pub room : one_of label_ + count + length (runs_from (opened last token label_) tags) ≤ 10000 + length (closed (opened last token label_))

can_step : (conf : Configuration) (last : Option Run) (count low : ℕ) (token : Frag) (label_ : Label) (tags : List Tag) → EndsBy low last → low ≤ token.start → token.start < token.end → Rising token.end (tokens_in tags) → Follows last label_
    → AllByRecursion (RunStands conf) (closed_by last label_ ++ runs_from (opened last token label_) tags) → count + length (closed_by last label_ ++ runs_from (opened last token label_) tags) ≤ 10000 + length (closed last)
    → Step conf last count token label_ tags
can_step conf last count low token label.Out tags e at some r f all room = record {
  say = tt;
  ends = tt;
  stand = back (RunStands conf) (closed last) (runs_from None tags) all;
  room = omega (arith, room, length-append (closed last) (runs_from None tags));
}
can_step conf last count low token (label.Begin kind) tags e at some r f all room =
    let own : Run = record { kind = kind; start = token.start; end = token.end } in
    let stand : AllByRecursion (RunStands conf) (runs_from (Some own) tags) = back (RunStands conf) (closed last) (runs_from (Some own) tags) all in
    let head = head_stands conf own (runs_from (Some own) tags) (made (Some own) token.end tags (some, omega arith) r) stand in
    record {
      say = (head.0, head.1, omega (arith, room, head.2, length-append (closed last) (runs_from (Some own) tags)));
      ends = (some, omega arith);
      stand = stand;
      room = omega (arith, room, length-append (closed last) (runs_from (Some own) tags));
    }
can_step conf None count low token (label.Inside kind) tags e at some r f all room = absurd f
can_step conf (Some run) count low token (label.Inside kind) tags e at some r f all room =
    let longer : Run = record run { end = token.end } in
    let ends : EndsBy token.end (Some longer) = (omega (arith, e.0, e.1), omega arith) in
    let head = head_stands conf longer (runs_from (Some longer) tags) (made (Some longer) token.end tags ends r) all in
    record { say = (subst (CanUse conf) f head.0, f, head.1); ends = ends; stand = all; room = omega (arith, room) }

abbrev tag_one : Tag → ℕ
tag_one tag = cond (is_begin tag.label) 1 0

pub can_all : (conf : Configuration) (before : List Tag) (low : ℕ) (tags : List Tag) → EndsBy low (last_of before) → Rising low (tokens_in tags) → AllFollow (last_of before) tags
    → AllByRecursion (RunStands conf) (runs_from (last_of before) tags) → begun before + length (runs_from (last_of before) tags) ≤ 10000 + length (closed (last_of before)) → AllSay conf before tags
can_all conf before low [] e r f all room = tt
can_all conf before low (tag ∷ tags) e r f all room =
    let step = can_step conf (last_of before) (begun before) low tag.token tag.label tags e r.0 r.1 r.2 f.0 all room in
    (step.say, can_all conf (tag ∷ before) tag.token.end tags step.ends r.2 f.1 step.stand (let one = sum_by-cons tag_one tag before in omega (arith, step.room, one)))

-- ---- the spans of a well-formed layer

kept_type : (rows : Option TypeRow) → where_so (is_none rows) UnknownType ≡ None → where_so (option_map_or (λ (row : TypeRow). not row.usable) rows false) NotForUse ≡ None → (row : TypeRow) × (rows ≡ Some row) × (row.usable ≡ true)
kept_type None h k = absurd (let e : Some UnknownType ≡ None = h in cc)
kept_type (Some row) h k = (row, refl, free row.usable k)
  where
    free : (b : Bool) → where_so (not b) NotForUse ≡ None → b ≡ true
    free true e = refl
    free false e = absurd (let g : Some NotForUse ≡ None = e in cc)

not_so : (b : Bool) (rule : Rule) → where_so b rule ≡ None → b ≡ false
not_so true rule h = absurd (let g : Some rule ≡ None = h in cc)
not_so false rule h = refl

whole_short : (frags : List Frag) (span : Span) → span.frags ≡ frags → length frags ≡ 1 → reach frags ≤ 10000 → (run_of span).end - (run_of span).start ≤ 10000
whole_short [] span is one h = absurd (omega arith)
whole_short (frag ∷ []) span is one h = subst (λ fs. end_of fs - start_of fs ≤ 10000) (sym is) h
whole_short (frag ∷ next ∷ more) span is one h = absurd (omega arith)

rule_none : (of_mark : Mark → Option Rule) (o : Option Span) (span : Span) → o ≡ Some span → option_and_then of_mark (option_map marked.Span o) ≡ None → of_mark (marked.Span span) ≡ None
rule_none of_mark o span is h = sym (ap (λ x. option_and_then of_mark (option_map marked.Span x)) is) ∙ h

entry_stands : (conf : Configuration) (characters : ℕ) (layer : Annotations) → IsLayer layer → IsWellFormed conf characters layer → (number : ℕ) (span : Span) → finite.get layer.spans number ≡ Some span → length span.frags ≡ 1 → RunStands conf (run_of span)
entry_stands conf characters layer kept well number span held one =
    let id : AnnId = record { kind = letter.Text; number = number; within = kept.spans number (ap is_some held) } in
    let known = rule_none (unknown_type conf) (finite.get layer.spans number) span held (well.types (at.Mark id)) in
    let used = rule_none (not_for_use conf) (finite.get layer.spans number) span held (well.for_use (at.Mark id)) in
    let short = rule_none span_too_long (finite.get layer.spans number) span held (well.short (at.Mark id)) in
    (kept_type (slice_get conf.types span.kind.n) known used, whole_short span.frags span refl one (ltb-false 10000 (reach span.frags) (not_so (nat_lt 10000 (reach span.frags)) SpanTooLong short)))

entries_stand : (conf : Configuration) (characters : ℕ) (layer : Annotations) → IsLayer layer → IsWellFormed conf characters layer → (es : List (ℕ × Span)) → AllByRecursion (λ (e : ℕ × Span). finite.get layer.spans e.0 ≡ Some e.1) es
    → AllByRecursion (λ (span : Placed). span.pieces ≡ 1) (map placed_of es) → AllByRecursion (RunStands conf) (map (λ (placed : Placed). placed.run) (map placed_of es))
entries_stand conf characters layer kept well [] found whole = tt
entries_stand conf characters layer kept well (e ∷ es) found whole =
    (entry_stands conf characters layer kept well e.0 e.1 found.0 whole.0, entries_stand conf characters layer kept well es found.1 whole.1)

pub runs_stand : (conf : Configuration) (characters : ℕ) (layer : Annotations) → IsLayer layer → IsWellFormed conf characters layer → AllByRecursion (λ (span : Placed). span.pieces ≡ 1) (spans_of layer) → AllByRecursion (RunStands conf) (runs_of layer)
runs_stand conf characters layer kept well whole = entries_stand conf characters layer kept well (finite.entries layer.spans) (entries_found layer.spans) whole

-- ---- at most 10,000 spans

at_entry : (es : List (ℕ × Span)) (i : ℕ) (P : ℕ × Span → Type 0) → i < length es → AllByRecursion P es → (e : ℕ × Span) × (slice_get es i ≡ Some e) × P e × (slice_get (map (id_at letter.Text) (map (λ (x : ℕ × Span). x.0) es)) i ≡ Some (id_at letter.Text e.0))
at_entry [] i P within all = absurd (omega arith)
at_entry (e ∷ es) zero P within all = (e, refl, all.0, refl)
at_entry (e ∷ es) (suc i) P within all = at_entry es i P (omega arith) all.1

full_there : (layer : Annotations) (id : AnnId) (span : Span) → slice_get (ids_of_letter layer letter.Text) 10000 ≡ Some id → id.kind ≡ letter.Text → layer_full layer id (marked.Span span) ≡ None → ⊥
full_there layer id span held is none =
    let so : (where_so (option_map_or (is_id id) (slice_get (counted_with layer letter.Text) 10000) false) (LayerFull (counted_letter id.kind))) ≡ None =
    sym (ap (λ kind. where_so (option_map_or (is_id id) (slice_get (counted_with layer kind) 10000) false) (LayerFull (counted_letter id.kind))) is) ∙ none in
    let here : where_so (is_id id id) (LayerFull (counted_letter id.kind)) ≡ None = sym (ap (λ o. where_so (option_map_or (is_id id) o false) (LayerFull (counted_letter id.kind))) held) ∙ so in
    true≢false (sym (eq-eqb (id_place id) (id_place id) refl) ∙ not_so (is_id id id) (LayerFull (counted_letter id.kind)) here)

entries_few : (conf : Configuration) (characters : ℕ) (layer : Annotations) → IsLayer layer → IsWellFormed conf characters layer → length (finite.entries layer.spans) ≤ 10000
entries_few conf characters layer kept well =
    elim (cases_lt 10000 (length (finite.entries layer.spans))) [
      | inl more ↦
          let found = at_entry (finite.entries layer.spans) 10000 (λ (e : ℕ × Span). finite.get layer.spans e.0 ≡ Some e.1) more (entries_found layer.spans) in
          let within : (found.0).0 ≤ 999999999 = kept.spans (found.0).0 (ap is_some found.2) in
          let low : min (found.0).0 999999999 ≡ (found.0).0 = omega arith in
          let held : finite.get layer.spans (id_at letter.Text (found.0).0).number ≡ Some (found.0).1 = ap (finite.get layer.spans) low ∙ found.2 in
          absurd (full_there layer (id_at letter.Text (found.0).0) (found.0).1 found.3 refl
          (rule_none (layer_full layer (id_at letter.Text (found.0).0)) (finite.get layer.spans (id_at letter.Text (found.0).0).number) (found.0).1 held (well.room (at.Mark (id_at letter.Text (found.0).0)))))
      | inr few ↦ few
    ]

pub runs_few : (conf : Configuration) (characters : ℕ) (layer : Annotations) → IsLayer layer → IsWellFormed conf characters layer → length (runs_of layer) ≤ 10000
runs_few conf characters layer kept well =
    let few : length (finite.entries layer.spans) ≤ 10000 = entries_few conf characters layer kept well in
    omega (arith, few, length-map (spans_of layer) (λ (placed : Placed). placed.run), length-map (finite.entries layer.spans) placed_of)
