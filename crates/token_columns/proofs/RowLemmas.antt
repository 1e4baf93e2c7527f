-- The types of columns are the labels of agreement.
use Rattle.std.proofs.Common.{◌≡◌, ℕ, ◌<◌, ◌==◌, ◌&&◌, ◌||◌, true, false, Bool, List, [], ◌∷◌, map, Some, None, refl, sym, ◌∙◌, ap, subst, arith, length, nat_lt, nat_le}
use Rattle.std.specs.Option.{option_map_or}
use Rattle.std.specs.List.{filter, fold, AllByRecursion}
use Rattle.std.specs.FinMap as finite
use Rattle.std.proofs.lemmas.Bool.{cond_both, cond-true, cond-false, ltb-true, and_parts}
use Rattle.mark_base.specs.declared.fragments.Frag.{Frag}
use Rattle.type_hierarchy.specs.declared.type_row.TypeRow.{TypeRow}
use Rattle.char_documents.specs.Tokens.{tokens_of}
use Rattle.conf_model.specs.Configurations.{Configuration}
use Rattle.layer_model.specs.declared.span.Span.{Span}
use Rattle.layer_model.specs.Annotations.{Annotations}
use Rattle.layer_rules.specs.WellFormed.{IsWellFormed}
use Rattle.overlap_rules.specs.Overlaps.{covers}
use Rattle.label_tracks.specs.Candidates.{candidate_of, end_of, sooner, start_of}
use Rattle.label_tracks.specs.Labels.{label_at, labels_of}
use Rattle.label_tracks.specs.Levels.{group_at}
use Rattle.token_columns.specs.declared.label.Label.TheVariants as label
use Rattle.token_columns.specs.declared.run.Run.{Run}
use Rattle.token_columns.specs.declared.run.Placed.{Placed}
use Rattle.token_columns.specs.ColumnFiles.{IsOfProgram}
use Rattle.token_columns.specs.Fits.{Fits}
use Rattle.token_columns.specs.Labels.{covering, group_of, label_by, label_of, placed_of, reaches, run_of, runs_of}
use Rattle.token_columns.proofs.FitsFacts.{fits_rise}
use Rattle.token_columns.proofs.OutLemmas.{spans_some}
use Rattle.token_columns.proofs.RunLemmas.{RunsRise, before}

abbrev runs_in : List (ℕ × Span) → List Run
runs_in es = map (λ (placed : Placed). placed.run) (map placed_of es)

or_no : (b : Bool) → (b || false) ≡ b
or_no true = refl
or_no false = refl

same_cover : (frags : List Frag) (span : Span) (c : ℕ) → span.frags ≡ frags → length frags ≡ 1 → covers span.frags c ≡ reaches c (run_of span)
same_cover [] span c is one = absurd (omega arith)
same_cover (frag ∷ []) span c is one = subst (λ fs. covers fs c ≡ (nat_le (start_of fs) c && nat_lt c (end_of fs))) (sym is) (or_no (nat_le frag.start c && nat_lt c frag.end))
same_cover (frag ∷ next ∷ more) span c is one = absurd (omega arith)

-- a span covers the character
abbrev cover : ℕ → (ℕ × Span) → Bool
cover c entry = covers entry.1.frags c

none_covers : (c low : ℕ) (es : List (ℕ × Span)) → c < low → RunsRise low (runs_in es) → AllByRecursion (λ (span : Placed). span.pieces ≡ 1) (map placed_of es) → filter (cover c) es ≡ []
none_covers c low [] h r one = refl
none_covers c low (e ∷ es) h r one =
    let no : cover c e ≡ false = same_cover (e.1).frags e.1 c refl one.0 ∙ before c (run_of e.1) (omega (arith, h, r.0)) in
    cond-false (cover c e) (e ∷ filter (cover c) es) (filter (cover c) es) no ∙ none_covers c (run_of e.1).end es (omega (arith, h, r.0, r.1)) r.2 one.1

-- the label of agreement of the first of some spans that cover a character
abbrev found_in : List TypeRow → List (ℕ × Span) → ℕ
found_in rows es = option_map_or (λ first. group_at rows 255 first.kind.n) (fold sooner None (map (λ entry. candidate_of entry.0 entry.1) es)) 0

own_group : (rows : List TypeRow) (run : Run) (token : Frag) → group_of rows (label_by (Some run) token) ≡ group_at rows 255 run.kind.n
own_group rows run token =
    cond_both (run.start == token.start) (label.Begin run.kind) (label.Inside run.kind) (λ l. group_of rows l ≡ group_at rows 255 run.kind.n) (λ _. refl) (λ _. refl)

one_row : (rows : List TypeRow) (c low : ℕ) (token : Frag) (es : List (ℕ × Span)) → RunsRise low (runs_in es) → AllByRecursion (λ (span : Placed). span.pieces ≡ 1) (map placed_of es)
    → found_in rows (filter (cover c) es) ≡ group_of rows (label_by (covering (runs_in es) c) token)
one_row rows c low token [] r one = refl
one_row rows c low token (e ∷ es) r one =
    let run : Run = run_of e.1 in
    let same : cover c e ≡ reaches c run = same_cover (e.1).frags e.1 c refl one.0 in
    elim (reaches c run) as (λ b. reaches c run ≡ b → found_in rows (filter (cover c) (e ∷ es)) ≡ group_of rows (label_by (covering (run ∷ runs_in es) c) token)) [
      | true ↦ λ yes.
          let less : c < run.end = ltb-true c run.end (and_parts (nat_le run.start c) (nat_lt c run.end) yes).1 in
          ap (found_in rows)
          (cond-true (cover c e) (e ∷ filter (cover c) es) (filter (cover c) es) (same ∙ yes) ∙ ap (λ l. e ∷ l) (none_covers c run.end es less r.2 one.1))
          ∙ sym (own_group rows run token) ∙ sym (ap (λ o. group_of rows (label_by o token)) (cond-true (reaches c run) (Some run) (covering (runs_in es) c) yes))
      | false ↦ λ no_.
          ap (found_in rows) (cond-false (cover c e) (e ∷ filter (cover c) es) (filter (cover c) es) (same ∙ no_))
          ∙ one_row rows c run.end token es r.2 one.1
          ∙ sym (ap (λ o. group_of rows (label_by o token)) (cond-false (reaches c run) (Some run) (covering (runs_in es) c) no_))
    ] refl

all_rows : (rows : List TypeRow) (es : List (ℕ × Span)) (tokens : List Frag) → RunsRise 0 (runs_in es) → AllByRecursion (λ (span : Placed). span.pieces ≡ 1) (map placed_of es)
    → map (λ (token : Frag). label_at rows 255 es token.start) tokens ≡ map (λ (token : Frag). group_of rows (label_of (runs_in es) token)) tokens
all_rows rows es [] r one = refl
all_rows rows es (token ∷ tokens) r one =
    ap (λ n. n ∷ map (λ (t : Frag). label_at rows 255 es t.start) tokens) (one_row rows token.start 0 token es r one)
    ∙ ap (λ ns. group_of rows (label_of (runs_in es) token) ∷ ns) (all_rows rows es tokens r one)

-- the labels of agreement, with no level, are those of the types on the lines
pub rows_are : (conf : Configuration) (text : List ℕ) (layer : Annotations) → IsOfProgram conf text layer → IsWellFormed conf (length text) layer → Fits text layer
    → labels_of conf.types 255 layer text ≡ map (λ (token : Frag). group_of conf.types (label_of (runs_of layer) token)) (tokens_of text)
unfolding labels_of
rows_are conf text layer own well fits =
    all_rows conf.types (finite.entries layer.spans) (tokens_of text) (fits_rise text layer fits (spans_some conf (length text) layer own.kept well fits.whole)) fits.whole
