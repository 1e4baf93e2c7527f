-- The lines that one pass over the spans gives are the columns.
use Rattle.std.proofs.Common.{◌≡◌, ℕ, ◌+◌, ◌<◌, ◌≤◌, true, false, cond, List, [], ◌∷◌, ◌++◌, map, Some, None, refl, sym, ◌∙◌, ap, arith, length, nat_le, codes, append_assoc, inl, inr, drop, get_or, zero, suc}
use Rattle.std.proofs.lemmas.List.{at_drop_more}
use Rattle.std.specs.List.{flat_map}
use Rattle.std.proofs.lemmas.Bool.{cond-true, cond-false, le-leb, lt-leb, cases_lt}
use Rattle.mark_base.specs.declared.fragments.Frag.{Frag}
use Rattle.conf_model.specs.Configurations.{Configuration}
use Rattle.token_columns.specs.declared.run.Run.{Run}
use Rattle.token_columns.specs.Columns.{column_line, labelled_line, token_text}
use denote.Ref.{Bor}
use Rattle.token_columns.specs.Labels.{covering, label_by, reaches}
use Rattle.token_columns.specs.WriteRuns.{first_at, still, text_from}
use Rattle.token_columns.proofs.RunLemmas.{Rising, RunsRise, before, behind, none_before, reached, runs_lower}

-- what ends before a character covers none behind it
still_covers : (c d : ℕ) (runs : List Run) → c ≤ d → covering (still c runs) d ≡ covering runs d
still_covers c d [] h = refl
still_covers c d (run ∷ runs) h =
    elim (cases_lt c run.end) [
      | inl less ↦ ap (λ rs. covering rs d) (cond-false (nat_le run.end c) (still c runs) (run ∷ runs) (lt-leb run.end c less))
      | inr past ↦
          ap (λ rs. covering rs d) (cond-true (nat_le run.end c) (still c runs) (run ∷ runs) (le-leb run.end c past)) ∙ still_covers c d runs h
          ∙ sym (cond-false (reaches d run) (Some run) (covering runs d) (behind d run (omega (arith, past))))
    ]

still_rise : (c low : ℕ) (runs : List Run) → RunsRise low runs → RunsRise low (still c runs)
still_rise c low [] r = tt
still_rise c low (run ∷ runs) r =
    elim (nat_le run.end c) as (λ b. RunsRise low (cond b (still c runs) (run ∷ runs))) [
      | true ↦ runs_lower low run.end (still c runs) (omega (arith, r.0, r.1)) (still_rise c run.end runs r.2)
      | false ↦ r
    ]

first_covers : (c low : ℕ) (runs : List Run) → RunsRise low runs → first_at c (still c runs) ≡ covering runs c
first_covers c low [] r = refl
first_covers c low (run ∷ runs) r =
    elim (cases_lt c run.end) [
      | inl less ↦
          ap (first_at c) (cond-false (nat_le run.end c) (still c runs) (run ∷ runs) (lt-leb run.end c less))
          ∙ elim (cases_lt c run.start) [
            | inl early ↦
                cond-false (nat_le run.start c) (Some run) None (lt-leb run.start c early)
                ∙ sym (cond-false (reaches c run) (Some run) (covering runs c) (before c run early) ∙ none_before c run.end runs less r.2)
            | inr there ↦
                cond-true (nat_le run.start c) (Some run) None (le-leb run.start c there)
                ∙ sym (cond-true (reaches c run) (Some run) (covering runs c) (reached c run there less))
          ]
      | inr past ↦
          ap (first_at c) (cond-true (nat_le run.end c) (still c runs) (run ∷ runs) (le-leb run.end c past)) ∙ first_covers c run.end runs r.2
          ∙ sym (cond-false (reaches c run) (Some run) (covering runs c) (behind c run past))
    ]

same_lines : (conf : Configuration) (text : List ℕ) (c low : ℕ) (runs : List Run) (tokens : List Frag) → c ≤ low → Rising low tokens
    → map (column_line conf text (still c runs)) tokens ≡ map (column_line conf text runs) tokens
same_lines conf text c low runs [] h r = refl
same_lines conf text c low runs (token ∷ tokens) h r =
    ap (λ found. labelled_line conf text token (label_by found token) ∷ map (column_line conf text (still c runs)) tokens) (still_covers c token.start runs (omega (arith, h, r.0)))
    ∙ ap (λ ls. column_line conf text runs token ∷ ls) (same_lines conf text c token.end runs tokens (omega (arith, h, r.0, r.1)) r.2)

abbrev ended : List ℕ → List ℕ
ended line = line ++ codes "\n"

pub text_is : (conf : Configuration) (text : List ℕ) (low place : ℕ) (runs : List Run) (tokens : List Frag) → RunsRise low runs → Rising place tokens
    → text_from conf text runs tokens ≡ flat_map ended (map (column_line conf text runs) tokens)
text_is conf text low place runs [] rise r = refl
text_is conf text low place runs (token ∷ tokens) rise r =
    let left : List Run = still token.start runs in
    ap (λ found. ended (labelled_line conf text token (label_by found token)) ++ text_from conf text left tokens) (first_covers token.start low runs rise)
    ∙ ap (λ more. ended (column_line conf text runs token) ++ more)
    (text_is conf text low token.end left tokens (still_rise token.start low runs rise) r.2
    ∙ ap (flat_map ended) (same_lines conf text token.start token.end runs tokens (omega (arith, r.1)) r.2))

-- one line more
pub line_step : (conf : Configuration) (doc before after : List ℕ) (runs : List Run) (tokens : List Frag) (i : ℕ) (d : Frag) (line whole : List ℕ) → i < length tokens
    → line ≡ labelled_line conf doc (get_or tokens i d) (label_by (first_at (get_or tokens i d).start (still (get_or tokens i d).start runs)) (get_or tokens i d)) ++ codes "\n" → after ≡ before ++ line
    → before ++ text_from conf doc runs (drop i tokens) ≡ whole → after ++ text_from conf doc (still (get_or tokens i d).start runs) (drop (i + 1) tokens) ≡ whole
line_step conf doc made after runs tokens i d line whole within is added h =
    let rest : List ℕ = text_from conf doc (still (get_or tokens i d).start runs) (drop (i + 1) tokens) in
    ap (λ l. l ++ rest) added ∙ append_assoc made line rest ∙ ap (λ l. made ++ (l ++ rest)) is
    ∙ sym (at_drop_more (λ ts. made ++ text_from conf doc runs ts) tokens i d within) ∙ h

-- the text of a token by its place
pub text_there : (doc : List ℕ) (tokens : List Frag) (texts : List (Bor (List ℕ))) (i : ℕ) (d : Frag) (e : Bor (List ℕ)) → map (λ text. text.now) texts ≡ map (token_text doc) tokens → i < length texts
    → (i < length tokens) × ((get_or texts i e).now ≡ token_text doc (get_or tokens i d))
text_there doc [] [] i d e h within = absurd (omega arith)
text_there doc [] (text ∷ texts) i d e h within = absurd (let g : length {A = List ℕ} [] ≡ length (map (λ (t : Bor (List ℕ)). t.now) (text ∷ texts)) = sym (ap length h) in omega (arith, g))
text_there doc (token ∷ tokens) [] i d e h within = absurd (omega arith)
text_there doc (token ∷ tokens) (text ∷ texts) zero d e h within = let same : text.now ≡ token_text doc token = cc in (omega arith, same)
text_there doc (token ∷ tokens) (text ∷ texts) (suc i) d e h within =
    let rest : map (λ (t : Bor (List ℕ)). t.now) texts ≡ map (token_text doc) tokens = cc in
    let more = text_there doc tokens texts i d e rest (omega arith) in (omega (arith, more.0), more.1)
