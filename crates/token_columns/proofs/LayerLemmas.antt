-- Spans that are put into a layer under rising numbers.
use Rattle.std.proofs.Common.{◌≡◌, ℕ, ◌+◌, ◌<◌, ◌≤◌, false, cond, List, [], ◌∷◌, ◌++◌, map, length, Some, is_some, refl, sym, ◌∙◌, ap, subst, arith, append_assoc, append-nil, min, drop, get_or}
use Rattle.std.proofs.lemmas.List.{at_drop_more}
use Rattle.std.specs.List.{AllByRecursion}
use Rattle.std.specs.Ordering.{nat_cmp, is_eq}
use Rattle.std.specs.declared.cmp.Ordering.TheVariants.{Less, Equal, Greater}
use Rattle.std.specs.Cmp.{ranked, nat_cmp_total}
use Rattle.std.specs.FinMap as finite
use Rattle.std.specs.FinMap.Entries.{put, by_order}
use Rattle.mark_base.specs.declared.ann_id.AnnId.{AnnId}
use Rattle.mark_base.specs.declared.ann_id.Kind.TheVariants as letter
use Rattle.mark_base.specs.ReadIds.{id_at}
use Rattle.layer_model.specs.declared.mark.Mark.TheVariants as marked
use Rattle.layer_model.specs.Layers.{with_mark}
use Rattle.layer_model.specs.declared.span.Span.{Span}
use Rattle.layer_model.specs.Annotations.{Annotations, no_marks}
use Rattle.token_columns.specs.declared.run.Run.{Run}
use Rattle.token_columns.specs.declared.run.Placed.{Placed}
use Rattle.token_columns.specs.Fits.{only_spans}
use Rattle.token_columns.specs.Labels.{placed_of, runs_of, spans_of}
use Rattle.token_columns.specs.ReadRuns.{span_of, numbered, put_from}

greater : (a b : ℕ) → b < a → nat_cmp a b ≡ Greater
greater a b h =
    elim (nat_cmp a b) as (λ o. nat_cmp a b ≡ o → o ≡ Greater) [
      | Less ↦ λ e. let less : a < b = ranked a b Less (sym e) in absurd (omega arith)
      | Equal ↦ λ e. let same : a ≡ b = ranked a b Equal (sym e) in absurd (omega arith)
      | Greater ↦ λ e. refl
    ] refl

-- each number is below this one
abbrev pub Below : {X : Type 0} → ℕ → List (ℕ × X) → Type 0
Below n es = AllByRecursion (λ e. e.0 < n) es

put_last : {X : Type 0} (k : ℕ) (v : X) (es : List (ℕ × X)) → Below k es → put nat_cmp k v es ≡ es ++ (k, v) ∷ []
put_last k v [] h = refl
put_last {X} k v (e ∷ es) h =
    ap (λ o. by_order {A = List (ℕ × X)} o ((k, v) ∷ e ∷ es) ((e.0, v) ∷ es) (e ∷ put nat_cmp k v es)) (greater k e.0 h.0) ∙ ap (λ rest. e ∷ rest) (put_last k v es h.1)

below_push : {X : Type 0} (n : ℕ) (v : X) (es : List (ℕ × X)) → Below n es → Below (n + 1) (es ++ (n, v) ∷ [])
below_push n v [] h = (omega arith, tt)
below_push n v (e ∷ es) h = (omega (arith, h.0), below_push n v es h.1)

insert_entries : (m : finite.FinMap nat_cmp Span) (n : ℕ) (span : Span) → Below n (finite.entries m) → finite.entries (finite.insert m n span) ≡ finite.entries m ++ (n, span) ∷ []
insert_entries m n span h = finite.entries-insert nat_cmp_total m n span ∙ put_last n span (finite.entries m) h

pub put_entries : (layer : Annotations) (n : ℕ) (runs : List Run) → Below n (finite.entries layer.spans)
    → finite.entries (put_from layer n runs).spans ≡ finite.entries layer.spans ++ numbered n runs
put_entries layer n [] h = sym (append-nil (finite.entries layer.spans))
put_entries layer n (run ∷ runs) h =
    let more : finite.FinMap nat_cmp Span = finite.insert layer.spans n (span_of run) in
    let one : finite.entries more ≡ finite.entries layer.spans ++ (n, span_of run) ∷ [] = insert_entries layer.spans n (span_of run) h in
    put_entries (record layer { spans = more }) (n + 1) runs (subst (Below (n + 1)) (sym one) (below_push n (span_of run) (finite.entries layer.spans) h))
    ∙ ap (λ es. es ++ numbered (n + 1) runs) one ∙ append_assoc (finite.entries layer.spans) ((n, span_of run) ∷ []) (numbered (n + 1) runs)

pub put_only : (layer : Annotations) (n : ℕ) (runs : List Run) → layer ≡ only_spans layer.spans → put_from layer n runs ≡ only_spans (put_from layer n runs).spans
put_only layer n [] h = h
put_only layer n (run ∷ runs) h =
    let more : finite.FinMap nat_cmp Span = finite.insert layer.spans n (span_of run) in
    put_only (record layer { spans = more }) (n + 1) runs (ap (λ (l : Annotations). (let r : Annotations = record l { spans = more } in r)) h)

-- the entries of the layer of some spans
nothing : {X : Type 0} (xs : List X) → length xs ≡ 0 → xs ≡ []
nothing [] h = refl
nothing (x ∷ xs) h = absurd (omega arith)

none_at_first : finite.entries no_marks.spans ≡ []
none_at_first = nothing (finite.entries no_marks.spans) (sym (finite.len-entries no_marks.spans) ∙ finite.len-empty nat_cmp Span)

pub layer_entries : (runs : List Run) → finite.entries (put_from no_marks 1 runs).spans ≡ numbered 1 runs
layer_entries runs =
    put_entries no_marks 1 runs (subst (Below 1) (sym none_at_first) tt) ∙ ap (λ es. es ++ numbered 1 runs) none_at_first

placed_runs : (n : ℕ) (runs : List Run) → map (λ (placed : Placed). placed.run) (map placed_of (numbered n runs)) ≡ runs
placed_runs n [] = refl
placed_runs n (run ∷ runs) = ap (λ rest. run ∷ rest) (placed_runs (n + 1) runs)

pub layer_spans : (runs : List Run) → spans_of (put_from no_marks 1 runs) ≡ map placed_of (numbered 1 runs)
layer_spans runs = ap (map placed_of) (layer_entries runs)

pub layer_runs : (runs : List Run) → runs_of (put_from no_marks 1 runs) ≡ runs
layer_runs runs = ap (map (λ (placed : Placed). placed.run)) (layer_spans runs) ∙ placed_runs 1 runs

-- ---- a number that is free

pub free_first : (q : ℕ) → finite.contains_key no_marks.spans q ≡ false
free_first q = ap is_some (finite.get-empty nat_cmp q)

pub free_more : (m : finite.FinMap nat_cmp Span) (k : ℕ) (v : Span) (q : ℕ) → k < q → finite.contains_key m q ≡ false → finite.contains_key (finite.insert m k v) q ≡ false
free_more m k v q less h =
    ap is_some (finite.get-insert nat_cmp_total m k v q)
    ∙ ap (λ o. is_some (cond (is_eq o) (Some v) (finite.get m q))) (greater q k less) ∙ h

-- ---- a span is put under a number

pub put_is : (layer after : Annotations) (id : AnnId) (n : ℕ) (span s : Span) → id ≡ id_at letter.Text n → n ≤ 999999999 → span ≡ s → after ≡ with_mark layer id (marked.Span span)
    → after ≡ record layer { spans = finite.insert layer.spans n s }
put_is layer after id n span s is few same put =
    let low : min n 999999999 ≡ n = omega arith in
    put ∙ ap (λ i. with_mark layer i (marked.Span span)) is
    ∙ ap (λ k. (let l : Annotations = record layer { spans = finite.insert layer.spans k span } in l)) low
    ∙ ap (λ x. (let l : Annotations = record layer { spans = finite.insert layer.spans n x } in l)) same

pub put_step : (layer after : Annotations) (runs : List Run) (d : Run) (i n : ℕ) (id : AnnId) (span : Span) (whole : Annotations)
    → i < length runs → id ≡ id_at letter.Text n → n ≤ 999999999 → span ≡ span_of (get_or runs i d) → after ≡ with_mark layer id (marked.Span span)
    → put_from layer n (drop i runs) ≡ whole → put_from after (n + 1) (drop (i + 1) runs) ≡ whole
put_step layer after runs d i n id span whole within is few same put h =
    ap (λ l. put_from l (n + 1) (drop (i + 1) runs)) (put_is layer after id n span (span_of (get_or runs i d)) is few same put)
    ∙ sym (at_drop_more (put_from layer n) runs i d within) ∙ h

pub free_step : (layer after : Annotations) (id : AnnId) (n : ℕ) (span : Span) → id ≡ id_at letter.Text n → n ≤ 999999999 → after ≡ with_mark layer id (marked.Span span)
    → ((q : ℕ) → n ≤ q → finite.contains_key layer.spans q ≡ false) → (q : ℕ) → n + 1 ≤ q → finite.contains_key after.spans q ≡ false
free_step layer after id n span is few put h q more =
    ap (λ (l : Annotations). finite.contains_key l.spans q) (put_is layer after id n span span is few refl put)
    ∙ free_more layer.spans n span q (omega arith) (h q (omega arith))
