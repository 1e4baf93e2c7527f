-- What was written is read back.
use Rattle.std.proofs.Common.{◌≡◌, ℕ, ◌+◌, ◌<◌, ◌≤◌, true, cond, List, [], ◌∷◌, ◌++◌, map, None, Ok, refl, sym, ◌∙◌, ap, subst, arith, length, nat_lt, append_assoc, length-append, encode_utf8_all, count_by}
use Rattle.std.specs.List.{AllByRecursion}
use Rattle.std.specs.Str.{NonePass, all_scalars}
use Rattle.std.specs.Str.Lines.{lines}
use Rattle.std.specs.FinMap as finite
use Rattle.std.specs.Char.{is_whitespace}
use Rattle.std.proofs.lemmas.Bool.{cond-true, cond-false, lt-ltb, le-ltb}
use Rattle.std.proofs.lemmas.List.Sums.{sum_by-cons, sum_by-append}
use Rattle.mark_base.specs.declared.fragments.Frag.{Frag}
use Rattle.char_documents.specs.Texts.{covered}
use Rattle.char_documents.specs.Tokens.{tokens_of}
use Rattle.conf_model.specs.Configurations.{Configuration}
use Rattle.conf_model.specs.Sound.{IsSound}
use Rattle.layer_model.specs.declared.span.Span.{Span}
use Rattle.layer_model.specs.Annotations.{Annotations}
use Rattle.layer_rules.specs.WellFormed.{IsWellFormed}
use Rattle.token_columns.specs.declared.run.Run.{Run}
use Rattle.token_columns.specs.declared.run.Placed.{Placed}
use Rattle.token_columns.specs.Columns.{column_line}
use Rattle.token_columns.specs.ColumnFiles.{IsColumns, IsOfProgram}
use Rattle.token_columns.specs.Fits.{Fits, only_spans, place_of}
use Rattle.token_columns.specs.Labels.{placed_of, run_of, runs_of, spans_of}
use Rattle.token_columns.specs.ReadColumns.{Tag, read_from, read_of}
use Rattle.token_columns.specs.ReadRuns.{numbered, runs_from, span_of}
use Rattle.token_columns.proofs.AcceptLemmas.{AllSay, ArePlain, all_read}
use Rattle.token_columns.proofs.AnswerLemmas.{text_read}
use Rattle.token_columns.proofs.FitsFacts.{fits_aligned, fits_rise}
use Rattle.token_columns.proofs.JudgedLemmas.{RunStands}
use Rattle.token_columns.proofs.OutLemmas.{spans_some}
use Rattle.token_columns.proofs.PlainLemmas.{token_plain}
use Rattle.token_columns.proofs.ReadFacts.{tag_line}
use Rattle.token_columns.proofs.RunLemmas.{Rising, RunsRise, tokens_in}
use Rattle.token_columns.proofs.RunsAgain.{Again, runs_again, tagged}
use Rattle.token_columns.proofs.SayLemmas.{can_all, runs_few, runs_stand}
use Rattle.token_columns.proofs.TextLemmas.{text_scalars}
use Rattle.token_columns.proofs.TokenLemmas.{EndBy, tokens_end, tokens_hold, tokens_rising}

tokens_tagged : (runs : List Run) (tokens : List Frag) → tokens_in (map (tagged runs) tokens) ≡ tokens
tokens_tagged runs [] = refl
tokens_tagged runs (token ∷ tokens) = ap (λ ts. token ∷ ts) (tokens_tagged runs tokens)

lines_tagged : (conf : Configuration) (text : List ℕ) (runs : List Run) (tokens : List Frag) → map (column_line conf text runs) tokens ≡ map (tag_line conf text) (map (tagged runs) tokens)
lines_tagged conf text runs [] = refl
lines_tagged conf text runs (token ∷ tokens) = ap (λ ls. column_line conf text runs token ∷ ls) (lines_tagged conf text runs tokens)

plain_tokens : (text : List ℕ) (low : ℕ) (tokens : List Frag) → all_scalars text ≡ true → Rising low tokens → EndBy (length text) tokens → AllByRecursion (λ (token : Frag). NonePass is_whitespace (covered text token)) tokens → ArePlain text tokens
plain_tokens text low [] s r e h = tt
plain_tokens text low (token ∷ tokens) s r e h = (token_plain text token s h.0 r.1 e.0, plain_tokens text token.end tokens s r.2 e.1 h.1)

-- what is known of a well-formed layer that fits
pub record Known (conf : Configuration) (text : List ℕ) (layer : Annotations) : Type 0 where
  pub sound : IsSound conf
  pub scalars : all_scalars text ≡ true
  pub plain : ArePlain text (tokens_of text)
  pub rise : RunsRise 0 (runs_of layer)
  pub stand : AllByRecursion (RunStands conf) (runs_of layer)
  pub few : length (runs_of layer) ≤ 10000
  pub again : Again None (runs_of layer) (tokens_of text)

pub known : (conf : Configuration) (text : List ℕ) (layer : Annotations) → IsOfProgram conf text layer → IsWellFormed conf (length text) layer → Fits text layer → Known conf text layer
known conf text layer own well fits =
    let scalars : all_scalars text ≡ true = text_scalars (encode_utf8_all text) text own.valid own.characters in
    let rise : RunsRise 0 (runs_of layer) = fits_rise text layer fits (spans_some conf (length text) layer own.kept well fits.whole) in
    record {
      sound = own.sound;
      scalars = scalars;
      plain = plain_tokens text 0 (tokens_of text) scalars (tokens_rising text) (tokens_end text) (tokens_hold text);
      rise = rise;
      stand = runs_stand conf (length text) layer own.kept well fits.whole;
      few = runs_few conf (length text) layer own.kept well;
      again = runs_again (tokens_of text) (runs_of layer) (tokens_rising text) rise (fits_aligned text layer fits);
    }

-- the columns of a layer are read as the labels of its tokens
pub read_again : (conf : Configuration) (text bytes : List ℕ) (layer : Annotations) → IsOfProgram conf text layer → IsColumns conf text bytes layer → read_of conf text bytes ≡ Ok (map (tagged (runs_of layer)) (tokens_of text))
read_again conf text bytes layer own is =
    let k : Known conf text layer = known conf text layer own is.well_formed is.fits in
    let tags : List Tag = map (tagged (runs_of layer)) (tokens_of text) in
    let tokens : tokens_in tags ≡ tokens_of text = tokens_tagged (runs_of layer) (tokens_of text) in
    let say : AllSay conf [] tags =
    can_all conf [] 0 tags tt (subst (Rising 0) (sym tokens) (tokens_rising text)) k.again.0 (subst (AllByRecursion (RunStands conf)) (sym k.again.1) k.stand)
    (let count = ap length k.again.1 in omega (arith, k.few, count)) in
    text_read conf text bytes is.valid ∙ ap (λ ts. read_from conf text 1 [] ts (lines bytes)) (sym tokens)
    ∙ all_read conf text k.sound 1 [] tags (lines bytes) (is.shown ∙ lines_tagged conf text (runs_of layer) (tokens_of text)) say (subst (ArePlain text) (sym tokens) k.plain)

-- ---- a layer that fits is that of its spans

same_span : (frags : List Frag) (span : Span) → span.frags ≡ frags → length frags ≡ 1 → span ≡ span_of (run_of span)
same_span [] span is one = absurd (omega arith)
same_span (frag ∷ []) span is one =
    ap (λ fs. (let s : Span = record { kind = span.kind; frags = fs } in s)) is
    ∙ sym (ap (λ fs. (let s : Span = span_of (run_of (record { kind = span.kind; frags = fs })) in s)) is)
same_span (frag ∷ next ∷ more) span is one = absurd (omega arith)

abbrev lower_one : ℕ → Placed → ℕ
lower_one place span = cond (nat_lt span.run.start place) 1 0

-- spans that end before a place
abbrev Before : ℕ → List Placed → Type 0
Before low spans = AllByRecursion (λ (span : Placed). (span.run.start < span.run.end) × (span.run.end ≤ low)) spans

before_later : (low high : ℕ) (spans : List Placed) → low ≤ high → Before low spans → Before high spans
before_later low high [] h e = tt
before_later low high (span ∷ spans) h e = ((e.0.0, omega (arith, h, e.0.1)), before_later low high spans h e.1)

before_push : (low : ℕ) (spans : List Placed) (span : Placed) → Before low spans → span.run.start < span.run.end → span.run.end ≤ low → Before low (spans ++ span ∷ [])
before_push low [] span e some by = ((some, by), tt)
before_push low (first ∷ spans) span e some by = (e.0, before_push low spans span e.1 some by)

count_before : (place : ℕ) (spans : List Placed) → Before place spans → count_by (λ (span : Placed). nat_lt span.run.start place) spans ≡ length spans
count_before place [] e = refl
count_before place (span ∷ spans) e =
    let one : lower_one place span ≡ 1 = cond-true (nat_lt span.run.start place) 1 0 (lt-ltb span.run.start place (omega (arith, e.0.0, e.0.1))) in
    let more : count_by (λ (s : Placed). nat_lt s.run.start place) spans ≡ length spans = count_before place spans e.1 in
    omega (arith, one, more, sum_by-cons (lower_one place) span spans)

count_behind : (place low : ℕ) (spans : List Placed) → place ≤ low → RunsRise low (map (λ (s : Placed). s.run) spans) → count_by (λ (span : Placed). nat_lt span.run.start place) spans ≡ 0
count_behind place low [] h r = refl
count_behind place low (span ∷ spans) h r =
    let none : lower_one place span ≡ 0 = cond-false (nat_lt span.run.start place) 1 0 (le-ltb span.run.start place (omega (arith, h, r.0))) in
    let more : count_by (λ (s : Placed). nat_lt s.run.start place) spans ≡ 0 = count_behind place span.run.end spans (omega (arith, h, r.0, r.1)) r.2 in
    omega (arith, none, more, sum_by-cons (lower_one place) span spans)

entries_are : (whole front : List Placed) (low n : ℕ) (es : List (ℕ × Span)) → whole ≡ front ++ map placed_of es → length front + 1 ≡ n → Before low front → RunsRise low (map (λ (s : Placed). s.run) (map placed_of es))
    → AllByRecursion (λ (span : Placed). span.pieces ≡ 1) (map placed_of es) → AllByRecursion (λ (span : Placed). span.number ≡ place_of whole span) (map placed_of es)
    → es ≡ numbered n (map (λ (s : Placed). s.run) (map placed_of es))
entries_are whole front low n [] is count e r pieces places = refl
entries_are whole front low n (entry ∷ es) is count e r pieces places =
    let span : Placed = placed_of entry in
    let split = sum_by-append (lower_one span.run.start) front (span ∷ map placed_of es) in
    let own : lower_one span.run.start span ≡ 0 = cond-false (nat_lt span.run.start span.run.start) 1 0 (le-ltb span.run.start span.run.start (omega arith)) in
    let later : count_by (λ (s : Placed). nat_lt s.run.start span.run.start) (map placed_of es) ≡ 0 = count_behind span.run.start span.run.end (map placed_of es) (omega (arith, r.1)) r.2 in
    let earlier : count_by (λ (s : Placed). nat_lt s.run.start span.run.start) front ≡ length front = count_before span.run.start front (before_later low span.run.start front r.0 e) in
    let place : place_of whole span ≡ length front + 1 = ap (λ w. place_of w span) is ∙ (let h : place_of (front ++ span ∷ map placed_of es) span ≡ length front + 1 = omega (arith, split, own, later, earlier, sum_by-cons (lower_one span.run.start) span (map placed_of es)) in h) in
    let number : entry.0 ≡ n = places.0 ∙ place ∙ count in
    let span_is : entry.1 ≡ span_of (run_of entry.1) = same_span (entry.1).frags entry.1 refl pieces.0 in
    let next : Before span.run.end (front ++ span ∷ []) = before_push span.run.end front span (before_later low span.run.end front (omega (arith, r.0, r.1)) e) r.1 (omega arith) in
    let rest : es ≡ numbered (n + 1) (map (λ (s : Placed). s.run) (map placed_of es)) =
    entries_are whole (front ++ span ∷ []) span.run.end (n + 1) es (is ∙ sym (append_assoc front (span ∷ []) (map placed_of es))) (omega (arith, count, length-append front (span ∷ []))) next r.2 pieces.1 places.1 in
    ap (λ k. (k, entry.1) ∷ es) number ∙ ap (λ s. (n, s) ∷ es) span_is ∙ ap (λ ls. (n, span_of (run_of entry.1)) ∷ ls) rest

layer_is : (text : List ℕ) (layer : Annotations) → Fits text layer → RunsRise 0 (runs_of layer) → finite.entries layer.spans ≡ numbered 1 (runs_of layer)
layer_is text layer fits rise = entries_are (spans_of layer) [] 0 1 (finite.entries layer.spans) refl refl tt rise fits.whole fits.numbered

-- a file shows at most one layer
pub one_layer : (conf : Configuration) (text bytes : List ℕ) (a b : Annotations) → IsOfProgram conf text a → IsOfProgram conf text b → IsColumns conf text bytes a → IsColumns conf text bytes b → a ≡ b
one_layer conf text bytes a b p q x y =
    let k : Known conf text a = known conf text a p x.well_formed x.fits in
    let l : Known conf text b = known conf text b q y.well_formed y.fits in
    let both : Ok (map (tagged (runs_of a)) (tokens_of text)) ≡ Ok (map (tagged (runs_of b)) (tokens_of text)) = sym (read_again conf text bytes a p x) ∙ read_again conf text bytes b q y in
    let tags : map (tagged (runs_of a)) (tokens_of text) ≡ map (tagged (runs_of b)) (tokens_of text) = cc in
    let runs : runs_of a ≡ runs_of b = sym k.again.1 ∙ ap (runs_from None) tags ∙ l.again.1 in
    let spans : a.spans ≡ b.spans = finite.same_entries_map a.spans b.spans (layer_is text a x.fits k.rise ∙ ap (numbered 1) runs ∙ sym (layer_is text b y.fits l.rise)) in
    x.fits.only ∙ ap only_spans spans ∙ sym y.fits.only
