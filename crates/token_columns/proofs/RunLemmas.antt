-- Tokens of which each has a label, and the spans that the labels make.
use Rattle.std.proofs.Common.{◌≡◌, ℕ, ◌<◌, ◌≤◌, ◌==◌, true, false, cond, List, [], ◌∷◌, ◌++◌, map, Option, Some, None, refl, ◌∙◌, ap, arith}
use Rattle.std.specs.Prelude.{⊤}
use Rattle.std.proofs.lemmas.Bool.{cond-true, cond-false, eq-eqb, ne_eqb}
use Rattle.std.proofs.lemmas.Bool.Decides.{nat_tests}
use Rattle.mark_base.specs.declared.fragments.Frag.{Frag}
use Rattle.token_columns.specs.declared.label.Label.{Label}
use Rattle.token_columns.specs.declared.label.Label.TheVariants as label
use Rattle.token_columns.specs.declared.run.Run.{Run}
use Rattle.token_columns.specs.Labels.{reaches, covering, label_by, label_of}
use Rattle.token_columns.specs.ReadColumns.{Tag, opened}
use Rattle.token_columns.specs.ReadRuns.{closed, closed_by, runs_from}

-- tokens that are not empty, each behind the one before it, and the first at this place or behind
abbrev pub Rising : ℕ → List Frag → Type 0
Rising low [] = ⊤
Rising low (token ∷ tokens) = (low ≤ token.start) × (token.start < token.end) × Rising token.end tokens

-- the same of spans
abbrev pub RunsRise : ℕ → List Run → Type 0
RunsRise low [] = ⊤
RunsRise low (run ∷ runs) = (low ≤ run.start) × (run.start < run.end) × RunsRise run.end runs

-- a label may stand behind an open span: one that goes on names the type of the span
abbrev pub Follows : Option Run → Label → Type 0
Follows last label.Out = ⊤
Follows last (label.Begin kind) = ⊤
Follows None (label.Inside kind) = ⊥
Follows (Some run) (label.Inside kind) = run.kind ≡ kind

-- each label may stand behind those before it
abbrev pub AllFollow : Option Run → List Tag → Type 0
AllFollow last [] = ⊤
AllFollow last (tag ∷ tags) = Follows last tag.label × AllFollow (opened last tag.token tag.label) tags

-- the tokens of tags
abbrev pub tokens_in : List Tag → List Frag
tokens_in tags = map (λ tag. tag.token) tags

-- ---- what covers a character

pub reached : (c : ℕ) (run : Run) → run.start ≤ c → c < run.end → reaches c run ≡ true
reached c run from to = grind (arith, nat_tests)

pub before : (c : ℕ) (run : Run) → c < run.start → reaches c run ≡ false
before c run h = grind (arith, nat_tests)

pub behind : (c : ℕ) (run : Run) → run.end ≤ c → reaches c run ≡ false
behind c run h = grind (arith, nat_tests)

pub runs_lower : (a b : ℕ) (runs : List Run) → a ≤ b → RunsRise b runs → RunsRise a runs
runs_lower a b [] h r = tt
runs_lower a b (run ∷ runs) h r = (omega (arith, h, r.0), r.1, r.2)

-- no span covers what stands before all
pub none_before : (c low : ℕ) (runs : List Run) → c < low → RunsRise low runs → covering runs c ≡ None
none_before c low [] h r = refl
none_before c low (run ∷ runs) h r =
    cond-false (reaches c run) (Some run) (covering runs c) (before c run (omega (arith, h, r.0)))
    ∙ none_before c run.end runs (omega (arith, h, r.0, r.1)) r.2

-- the open span ends at this place or before
abbrev pub EndsBy : ℕ → Option Run → Type 0
EndsBy place None = ⊤
EndsBy place (Some run) = (run.start < run.end) × (run.end ≤ place)

-- the first span goes on with an open one, and the others stand behind it
abbrev pub Heads : Run → List Run → Type 0
Heads run [] = ⊥
Heads run (first ∷ rest) = (first.kind ≡ run.kind) × (first.start ≡ run.start) × (run.end ≤ first.end) × (run.start < first.end) × RunsRise first.end rest

-- spans stand behind a place, or the first goes on with the open one
abbrev pub Made : ℕ → Option Run → List Run → Type 0
Made low None runs = RunsRise low runs
Made low (Some run) runs = Heads run runs

heads_rise : (low : ℕ) (run : Run) (runs : List Run) → low ≤ run.start → Heads run runs → RunsRise low runs
heads_rise low run [] h r = absurd r
heads_rise low run (first ∷ rest) h r = (omega (arith, h, r.1), omega (arith, r.1, r.3), r.4)

heads_less : (run longer : Run) (runs : List Run) → longer.kind ≡ run.kind → longer.start ≡ run.start → run.end ≤ longer.end → Heads longer runs → Heads run runs
heads_less run longer [] k s e r = absurd r
heads_less run longer (first ∷ rest) k s e r = (r.0 ∙ k, r.1 ∙ s, omega (arith, e, r.2), omega (arith, s, r.3), r.4)

made_more : (last : Option Run) (low : ℕ) (token : Frag) (label_ : Label) (tags : List Tag) → EndsBy low last → low ≤ token.start → token.start < token.end
    → ((next : Option Run) → EndsBy token.end next → Made token.end next (runs_from next tags))
    → Made low last (closed_by last label_ ++ runs_from (opened last token label_) tags)
made_more None low token label.Out tags e at some ih = runs_lower low token.end (runs_from None tags) (omega arith) (ih None tt)
made_more (Some run) low token label.Out tags e at some ih = (refl, refl, omega arith, e.0, runs_lower run.end token.end (runs_from None tags) (omega (arith, e.1)) (ih None tt))
made_more None low token (label.Begin kind) tags e at some ih =
    let begun : Run = record { kind = kind; start = token.start; end = token.end } in
    heads_rise low begun (runs_from (Some begun) tags) at (ih (Some begun) (some, omega arith))
made_more (Some run) low token (label.Begin kind) tags e at some ih =
    let begun : Run = record { kind = kind; start = token.start; end = token.end } in
    (refl, refl, omega arith, e.0, heads_rise run.end begun (runs_from (Some begun) tags) (omega (arith, e.1)) (ih (Some begun) (some, omega arith)))
made_more None low token (label.Inside kind) tags e at some ih = runs_lower low token.end (runs_from None tags) (omega arith) (ih None tt)
made_more (Some run) low token (label.Inside kind) tags e at some ih =
    let longer : Run = record run { end = token.end } in
    heads_less run longer (runs_from (Some longer) tags) refl refl (omega (arith, e.1)) (ih (Some longer) (omega (arith, e.0, e.1), omega arith))

pub made : (last : Option Run) (low : ℕ) (tags : List Tag) → EndsBy low last → Rising low (tokens_in tags) → Made low last (runs_from last tags)
made None low [] e r = tt
made (Some run) low [] e r = (refl, refl, omega arith, e.0, tt)
made last low (tag ∷ tags) e r = made_more last low tag.token tag.label tags e r.0 r.1 (λ next ends. made next tag.token.end tags ends r.2)

-- ---- the labels of tokens among the spans that their labels make

-- a span that ends before some tokens labels none of them
skip : (run : Run) (runs : List Run) (low : ℕ) (tokens : List Frag) → run.end ≤ low → Rising low tokens → map (label_of (run ∷ runs)) tokens ≡ map (label_of runs) tokens
skip run runs low [] e r = refl
skip run runs low (token ∷ tokens) e r =
    let first : label_of (run ∷ runs) token ≡ label_of runs token =
    ap (λ found. label_by found token) (cond-false (reaches token.start run) (Some run) (covering runs token.start) (behind token.start run (omega (arith, e, r.0)))) in
    let rest : map (label_of (run ∷ runs)) tokens ≡ map (label_of runs) tokens = skip run runs token.end tokens (omega (arith, e, r.0, r.1)) r.2 in
    cc

pub skip_closed : (last : Option Run) (runs : List Run) (low : ℕ) (tokens : List Frag) → EndsBy low last → Rising low tokens
    → map (label_of (closed last ++ runs)) tokens ≡ map (label_of runs) tokens
skip_closed None runs low tokens e r = refl
skip_closed (Some run) runs low tokens e r = skip run runs low tokens e.1 r

head_label : (run : Run) (runs : List Run) (token : Frag) → Heads run runs → run.start ≤ token.start → token.start < run.end
    → label_of runs token ≡ cond (run.start == token.start) (label.Begin run.kind) (label.Inside run.kind)
head_label run [] token h from to = absurd h
head_label run (first ∷ rest) token h from to =
    ap (λ found. label_by found token) (cond-true (reaches token.start first) (Some first) (covering rest token.start) (reached token.start first (omega (arith, h.1)) (omega (arith, h.2))))
    ∙ ap (λ start. cond (start == token.start) (label.Begin first.kind) (label.Inside first.kind)) h.1
    ∙ ap (λ kind. cond (run.start == token.start) (label.Begin kind) (label.Inside kind)) h.0

labelled_more : (last : Option Run) (low : ℕ) (token : Frag) (label_ : Label) (tags : List Tag) → EndsBy low last → Rising low (token ∷ tokens_in tags) → Follows last label_
    → ((next : Option Run) → EndsBy token.end next → AllFollow next tags → map (label_of (runs_from next tags)) (tokens_in tags) ≡ map (λ tag. tag.label) tags)
    → AllFollow (opened last token label_) tags
    → map (label_of (closed_by last label_ ++ runs_from (opened last token label_) tags)) (token ∷ tokens_in tags) ≡ label_ ∷ map (λ tag. tag.label) tags
labelled_more last low token label.Out tags e r f ih more =
    let first : label_of (runs_from None tags) token ≡ label.Out = ap (λ found. label_by found token) (none_before token.start token.end (runs_from None tags) r.1 (made None token.end tags tt r.2)) in
    let rest : map (label_of (runs_from None tags)) (tokens_in tags) ≡ map (λ tag. tag.label) tags = ih None tt more in
    skip_closed last (runs_from None tags) low (token ∷ tokens_in tags) e r ∙ cc
labelled_more last low token (label.Begin kind) tags e r f ih more =
    let begun : Run = record { kind = kind; start = token.start; end = token.end } in
    let ends : EndsBy token.end (Some begun) = (r.1, omega arith) in
    let first : label_of (runs_from (Some begun) tags) token ≡ label.Begin kind =
    head_label begun (runs_from (Some begun) tags) token (made (Some begun) token.end tags ends r.2) (omega arith) r.1
    ∙ cond-true (token.start == token.start) (label.Begin kind) (label.Inside kind) (eq-eqb token.start token.start refl) in
    let rest : map (label_of (runs_from (Some begun) tags)) (tokens_in tags) ≡ map (λ tag. tag.label) tags = ih (Some begun) ends more in
    skip_closed last (runs_from (Some begun) tags) low (token ∷ tokens_in tags) e r ∙ cc
labelled_more None low token (label.Inside kind) tags e r f ih more = absurd f
labelled_more (Some run) low token (label.Inside kind) tags e r f ih more =
    let longer : Run = record run { end = token.end } in
    let ends : EndsBy token.end (Some longer) = (omega (arith, e.0, e.1, r.0, r.1), omega arith) in
    let first : label_of (runs_from (Some longer) tags) token ≡ label.Inside kind =
    head_label longer (runs_from (Some longer) tags) token (made (Some longer) token.end tags ends r.2) (omega (arith, e.0, e.1, r.0)) r.1
    ∙ cond-false (run.start == token.start) (label.Begin run.kind) (label.Inside run.kind) (ne_eqb run.start token.start (λ same. absurd (omega (arith, e.0, e.1, r.0))))
    ∙ ap label.Inside f in
    let rest : map (label_of (runs_from (Some longer) tags)) (tokens_in tags) ≡ map (λ tag. tag.label) tags = ih (Some longer) ends more in
    cc

pub labelled : (last : Option Run) (low : ℕ) (tags : List Tag) → EndsBy low last → Rising low (tokens_in tags) → AllFollow last tags
    → map (label_of (runs_from last tags)) (tokens_in tags) ≡ map (λ tag. tag.label) tags
labelled last low [] e r f = refl
labelled last low (tag ∷ tags) e r f =
    labelled_more last low tag.token tag.label tags e r f.0 (λ next ends more. labelled next tag.token.end tags ends r.2 more) f.1
