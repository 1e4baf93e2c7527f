-- What is read is the layer that the columns show.
use Rattle.std.proofs.Common.{◌≡◌, ℕ, ◌+◌, ◌≤◌, ◌==◌, inl, inr, not, true, false, List, [], ◌∷◌, ◌++◌, map, Option, Some, None, refl, sym, ◌∙◌, ap, subst, arith, length, count_by}
use Rattle.std.specs.Prelude.{⊤, IsUtf8}
use Rattle.std.specs.List.{filter, slice_split, AllByRecursion}
use Rattle.std.specs.Str.Lines.{lines, lines_of_parts}
use Rattle.std.proofs.lemmas.Bool.{cond_both, or_right, or_left, eq-eqb, eqb-true, or_cases, false≢true}
use Rattle.std.proofs.lemmas.List.Splits.{length-slice_split}
use Rattle.std.proofs.lemmas.List.Sums.{count_by-le-length}
use Rattle.mark_base.specs.declared.fragments.Frag.{Frag}
use Rattle.char_documents.specs.Tokens.{tokens_of}
use Rattle.conf_model.specs.Configurations.{Configuration}
use Rattle.layer_model.specs.Annotations.{Annotations, no_marks}
use Rattle.layer_rules.specs.WellFormed.{IsWellFormed}
use Rattle.token_columns.specs.declared.label.Label.{Label}
use Rattle.token_columns.specs.declared.label.Label.TheVariants as label
use Rattle.token_columns.specs.declared.run.Run.{Run}
use Rattle.token_columns.specs.declared.run.Placed.{Placed}
use Rattle.token_columns.specs.Columns.{column_line, column_lines}
use Rattle.token_columns.specs.ColumnFiles.{IsColumns, lines_of}
use Rattle.token_columns.specs.Fits.{Fits, is_aligned, only_spans, place_of, shares_lower}
use Rattle.token_columns.specs.Labels.{label_of, spans_of}
use Rattle.token_columns.specs.ReadColumns.{Tag, opened, is_blank, read_from}
use Rattle.token_columns.specs.ReadRuns.{closed_by, put_from, runs_from, SaysRuns}
use Rattle.token_columns.proofs.FitsLemmas.{Ordered, aligned_all, apart_all, numbered_all, placed, placed_ordered, whole_all}
use Rattle.token_columns.proofs.LayerLemmas.{layer_entries, layer_runs, layer_spans, put_only}
use Rattle.token_columns.proofs.JudgedLemmas.{RunStands}
use Rattle.token_columns.proofs.ReadFacts.{Facts, IsRead, facts, lines_by}
use Rattle.token_columns.proofs.RunLemmas.{Rising, RunsRise, labelled, made, tokens_in}
use Rattle.token_columns.proofs.RunsAgain.{AllAligned, starts_at, ends_at}
use Rattle.token_columns.proofs.TokenLemmas.{EndBy, tokens_end, tokens_rising}
use Rattle.token_columns.proofs.WellLemmas.{well_formed}

parts_few : (parts : List (List ℕ)) → length (lines_of_parts parts) ≤ length parts
parts_few [] = omega arith
parts_few (part ∷ []) = cond_both (length part == 0) [] (part ∷ []) (λ (l : List (List ℕ)). length l ≤ 1) (λ _. omega arith) (λ _. omega arith)
parts_few (part ∷ next ∷ more) = let rest : length (lines_of_parts (next ∷ more)) ≤ length (next ∷ more) = parts_few (next ∷ more) in omega arith

pub lines_few : (text : List ℕ) → length (lines text) ≤ length text + 1
lines_few text =
    let a : length (slice_split (λ b. b == 10) text) ≡ count_by (λ b. b == 10) text + 1 = length-slice_split (λ b. b == 10) text in
    let b : count_by (λ b. b == 10) text ≤ length text = count_by-le-length (λ b. b == 10) text in
    let c : length (lines_of_parts (slice_split (λ b. b == 10) text)) ≤ length (slice_split (λ b. b == 10) text) = parts_few (slice_split (λ b. b == 10) text) in
    omega arith

-- ---- the spans that labels make go from a token's start to a token's end

-- each token starts and ends where one of some tokens does
abbrev pub Among : List Frag → List Frag → Type 0
Among all tokens = AllByRecursion (λ (token : Frag). (starts_at token.start all ≡ true) × (ends_at token.end all ≡ true)) tokens

among_more : (first : Frag) (all tokens : List Frag) → Among all tokens → Among (first ∷ all) tokens
among_more first all [] a = tt
among_more first all (token ∷ tokens) a =
    ((or_right (first.start == token.start) (starts_at token.start all) a.0.0, or_right (first.end == token.end) (ends_at token.end all) a.0.1), among_more first all tokens a.1)

among_self : (tokens : List Frag) → Among tokens tokens
among_self [] = tt
among_self (token ∷ tokens) = (
  (or_left (token.start == token.start) (starts_at token.start tokens) (eq-eqb token.start token.start refl), or_left (token.end == token.end) (ends_at token.end tokens) (eq-eqb token.end token.end refl)),
  among_more token tokens tokens (among_self tokens),
)

abbrev LastAligned : List Frag → Option Run → Type 0
LastAligned all None = ⊤
LastAligned all (Some run) = (starts_at run.start all ≡ true) × (ends_at run.end all ≡ true)

closed_aligned : (all : List Frag) (last : Option Run) (label_ : Label) (runs : List Run) → LastAligned all last → AllAligned all runs → AllAligned all (closed_by last label_ ++ runs)
closed_aligned all None label.Out runs h a = a
closed_aligned all (Some run) label.Out runs h a = (h, a)
closed_aligned all None (label.Begin kind) runs h a = a
closed_aligned all (Some run) (label.Begin kind) runs h a = (h, a)
closed_aligned all last (label.Inside kind) runs h a = a

opened_aligned : (all : List Frag) (last : Option Run) (token : Frag) (label_ : Label) → LastAligned all last → (starts_at token.start all ≡ true) × (ends_at token.end all ≡ true) → LastAligned all (opened last token label_)
opened_aligned all last token label.Out h a = tt
opened_aligned all last token (label.Begin kind) h a = a
opened_aligned all None token (label.Inside kind) h a = tt
opened_aligned all (Some run) token (label.Inside kind) h a = (h.0, a.1)

runs_aligned : (all : List Frag) (last : Option Run) (tags : List Tag) → LastAligned all last → Among all (tokens_in tags) → AllAligned all (runs_from last tags)
runs_aligned all None [] h a = tt
runs_aligned all (Some run) [] h a = (h, tt)
runs_aligned all last (tag ∷ tags) h a =
    closed_aligned all last tag.label (runs_from (opened last tag.token tag.label) tags) h
    (runs_aligned all (opened last tag.token tag.label) tags (opened_aligned all last tag.token tag.label h a.0) a.1)

end_at : (most place : ℕ) (tokens : List Frag) → EndBy most tokens → ends_at place tokens ≡ true → place ≤ most
end_at most place [] e h = absurd (false≢true h)
end_at most place (token ∷ tokens) e h =
    elim (or_cases (token.end == place) (ends_at place tokens) h) [
      | inl here ↦ let same : token.end ≡ place = eqb-true token.end place here in omega (arith, e.0)
      | inr there ↦ end_at most place tokens e.1 there
    ]

runs_end : (most : ℕ) (tokens : List Frag) (runs : List Run) → EndBy most tokens → AllAligned tokens runs → AllByRecursion (λ (run : Run). run.end ≤ most) runs
runs_end most tokens [] e a = tt
runs_end most tokens (run ∷ runs) e a = (end_at most run.end tokens e a.0.1, runs_end most tokens runs e a.1)

-- ---- the layer

shows : (conf : Configuration) (text : List ℕ) (rows : List (List ℕ)) (bytes : List ℕ) (layer : Annotations) (runs : List Run) (tags : List Tag) → IsUtf8 bytes → lines bytes ≡ rows
    → IsRead conf text None (tokens_of text) rows tags → runs ≡ runs_from None tags → length runs ≤ 10000 → layer ≡ put_from no_marks 1 runs → IsColumns conf text bytes layer
shows conf text rows bytes layer runs tags valid same read made_of few put =
    let tokens : tokens_in tags ≡ tokens_of text = read.tokens_are in
    let rising : Rising 0 (tokens_in tags) = subst (Rising 0) (sym tokens) (tokens_rising text) in
    let rise : RunsRise 0 runs = subst (RunsRise 0) (sym made_of) (made None 0 tags tt rising) in
    let aligned : AllAligned (tokens_of text) runs =
    subst (AllAligned (tokens_of text)) (sym made_of) (runs_aligned (tokens_of text) None tags tt (subst (Among (tokens_of text)) (sym tokens) (among_self (tokens_of text)))) in
    let labels : map (label_of runs) (tokens_in tags) ≡ map (λ tag. tag.label) tags =
    ap (λ (r : List Run). map (label_of r) (tokens_in tags)) made_of ∙ labelled None 0 tags tt rising read.follows in
    let own : Annotations = put_from no_marks 1 runs in
    let shown : lines_of bytes ≡ column_lines conf text own =
    ap (λ (ls : List (List ℕ)). filter (λ line. not (is_blank line)) ls) same ∙ read.shown ∙ sym (lines_by conf text runs tags labels)
    ∙ ap (map (column_line conf text runs)) tokens ∙ sym (ap (λ (r : List Run). map (column_line conf text r) (tokens_of text)) (layer_runs runs)) in
    let ordered : Ordered 0 1 (placed 1 runs) = placed_ordered 0 1 runs rise in
    let spans : spans_of own ≡ placed 1 runs = layer_spans runs in
    let only : own ≡ only_spans own.spans = put_only no_marks 1 runs refl in
    let fits : Fits text own = record {
      only = only;
      whole = subst (AllByRecursion (λ (span : Placed). span.pieces ≡ 1)) (sym spans) (whole_all 1 runs);
      aligned = subst (AllByRecursion (λ (span : Placed). is_aligned (tokens_of text) span.run ≡ true)) (sym spans) (aligned_all (tokens_of text) 1 runs aligned);
      apart = subst (λ (s : List Placed). AllByRecursion (λ (span : Placed). shares_lower (tokens_of text) s span ≡ false) s) (sym spans) (apart_all (tokens_of text) (placed 1 runs) ordered);
      numbered = subst (λ (s : List Placed). AllByRecursion (λ (span : Placed). span.number ≡ place_of s span) s) (sym spans) (numbered_all (placed 1 runs) ordered);
    } in
    let well : IsWellFormed conf (length text) own =
    subst (IsWellFormed conf (length text)) (sym only)
    (well_formed conf (length text) runs own.spans (record {
      held = layer_entries runs;
      rise = rise;
      stand = subst (AllByRecursion (RunStands conf)) (sym made_of) (read.stands tt);
      within = runs_end (length text) (tokens_of text) runs (tokens_end text) aligned;
      few = few;
    })) in
    subst (IsColumns conf text bytes) (sym put) (record { valid = valid; shown = shown; fits = fits; well_formed = well })

-- reading that ends well gives a layer whose columns the lines are
pub sound : (conf : Configuration) (text bytes : List ℕ) (rows : List (List ℕ)) (runs : List Run) (layer : Annotations) → IsUtf8 bytes → rows ≡ lines bytes
    → SaysRuns (read_from conf text 1 [] (tokens_of text) rows) runs → length runs ≤ 10000 → layer ≡ put_from no_marks 1 runs → IsColumns conf text bytes layer
sound conf text bytes rows runs layer valid same says few put =
    shows conf text rows bytes layer runs says.0 valid (sym same) (subst (Facts conf text None (tokens_of text) rows) says.1 (facts conf text 1 [] (tokens_of text) rows)) says.2 few put
