-- Spans that go from a token's start to a token's end are those that the labels of the tokens make.
use Rattle.std.proofs.Common.{◌≡◌, ℕ, ◌<◌, ◌≤◌, ◌==◌, ◌⊎◌, inl, inr, true, Bool, List, [], ◌∷◌, ◌++◌, map, Option, Some, None, refl, sym, ◌∙◌, ap, subst, arith}
use Rattle.std.specs.List.{list_any, AllByRecursion}
use Rattle.std.proofs.lemmas.Bool.{cond-true, cond-false, eq-eqb, eqb-true, ne_eqb, or_cases, false≢true}
use Rattle.mark_base.specs.declared.fragments.Frag.{Frag}
use Rattle.token_columns.specs.declared.label.Label.{Label}
use Rattle.token_columns.specs.declared.label.Label.TheVariants as label
use Rattle.token_columns.specs.declared.run.Run.{Run}
use Rattle.token_columns.specs.Labels.{reaches, covering, label_by, label_of}
use Rattle.token_columns.specs.ReadColumns.{Tag, opened}
use Rattle.token_columns.specs.ReadRuns.{closed_by, runs_from}
use Rattle.token_columns.proofs.RunLemmas.{Rising, RunsRise, Follows, AllFollow, behind, reached, none_before}

-- some token starts there, and some token ends there
abbrev pub starts_at : ℕ → List Frag → Bool
starts_at place tokens = list_any (λ token. token.start == place) tokens

abbrev pub ends_at : ℕ → List Frag → Bool
ends_at place tokens = list_any (λ token. token.end == place) tokens

-- each span goes from a token's start to a token's end
abbrev pub AllAligned : List Frag → List Run → Type 0
AllAligned tokens runs = AllByRecursion (λ run. (starts_at run.start tokens ≡ true) × (ends_at run.end tokens ≡ true)) runs

-- a token with its label among spans
abbrev pub tagged : List Run → Frag → Tag
tagged runs token = record { token = token; label = label_of runs token }

starts_behind : (low place : ℕ) (tokens : List Frag) → Rising low tokens → starts_at place tokens ≡ true → low ≤ place
starts_behind low place [] r h = absurd (false≢true h)
starts_behind low place (token ∷ tokens) r h =
    elim (or_cases (token.start == place) (starts_at place tokens) h) [
      | inl here ↦ let same : token.start ≡ place = eqb-true token.start place here in omega (arith, r.0)
      | inr there ↦ let more : token.end ≤ place = starts_behind token.end place tokens r.2 there in omega (arith, r.0, r.1)
    ]

ends_behind : (low place : ℕ) (tokens : List Frag) → Rising low tokens → ends_at place tokens ≡ true → low < place
ends_behind low place [] r h = absurd (false≢true h)
ends_behind low place (token ∷ tokens) r h =
    elim (or_cases (token.end == place) (ends_at place tokens) h) [
      | inl here ↦ let same : token.end ≡ place = eqb-true token.end place here in omega (arith, r.0, r.1)
      | inr there ↦ let more : token.end < place = ends_behind token.end place tokens r.2 there in omega (arith, r.0, r.1)
    ]

other_start : (place : ℕ) (token : Frag) (tokens : List Frag) → token.start < place → starts_at place (token ∷ tokens) ≡ true → starts_at place tokens ≡ true
other_start place token tokens less h =
    elim (or_cases (token.start == place) (starts_at place tokens) h) [
      | inl here ↦ let same : token.start ≡ place = eqb-true token.start place here in absurd (omega arith)
      | inr there ↦ there
    ]

other_end : (place : ℕ) (token : Frag) (tokens : List Frag) → token.end < place → ends_at place (token ∷ tokens) ≡ true → ends_at place tokens ≡ true
other_end place token tokens less h =
    elim (or_cases (token.end == place) (ends_at place tokens) h) [
      | inl here ↦ let same : token.end ≡ place = eqb-true token.end place here in absurd (omega arith)
      | inr there ↦ there
    ]

-- the end of some token, where it is the first or a later one
ends_from_here : (token : Frag) (tokens : List Frag) (place : ℕ) → Rising token.end tokens → ends_at place (token ∷ tokens) ≡ true → token.end ≤ place
ends_from_here token tokens place r h =
    elim (or_cases (token.end == place) (ends_at place tokens) h) [
      | inl here ↦ let same : token.end ≡ place = eqb-true token.end place here in omega arith
      | inr there ↦ let more : token.end < place = ends_behind token.end place tokens r there in omega arith
    ]

end_or : (token : Frag) (tokens : List Frag) (place : ℕ) → ends_at place (token ∷ tokens) ≡ true → (place ≡ token.end) ⊎ (ends_at place tokens ≡ true)
end_or token tokens place h =
    elim (or_cases (token.end == place) (ends_at place tokens) h) [
      | inl here ↦ inl (sym (eqb-true token.end place here))
      | inr there ↦ inr there
    ]

-- spans behind a token go from a token behind it
narrow : (low : ℕ) (token : Frag) (tokens : List Frag) (runs : List Run) → token.start < token.end → token.end ≤ low → RunsRise low runs → AllAligned (token ∷ tokens) runs → AllAligned tokens runs
narrow low token tokens [] some by r a = tt
narrow low token tokens (run ∷ runs) some by r a = (
  (other_start run.start token tokens (omega (arith, r.0)) a.0.0, other_end run.end token tokens (omega (arith, r.0, r.1)) a.0.1),
  narrow run.end token tokens runs some (omega (arith, r.0, r.1)) r.2 a.1,
)

skip_tags : (run : Run) (runs : List Run) (low : ℕ) (tokens : List Frag) → run.end ≤ low → Rising low tokens → map (tagged (run ∷ runs)) tokens ≡ map (tagged runs) tokens
skip_tags run runs low [] e r = refl
skip_tags run runs low (token ∷ tokens) e r =
    let first : label_of (run ∷ runs) token ≡ label_of runs token =
    ap (λ found. label_by found token) (cond-false (reaches token.start run) (Some run) (covering runs token.start) (behind token.start run (omega (arith, e, r.0)))) in
    let rest : map (tagged (run ∷ runs)) tokens ≡ map (tagged runs) tokens = skip_tags run runs token.end tokens (omega (arith, e, r.0, r.1)) r.2 in
    cc

-- ---- an open span

-- the labels follow one another, and make the spans
abbrev pub Again : Option Run → List Run → List Frag → Type 0
Again last runs tokens = AllFollow last (map (tagged runs) tokens) × (runs_from last (map (tagged runs) tokens) ≡ runs)

-- a span that is open goes on up to the end of the first of some spans
pub record Within (low : ℕ) (tokens : List Frag) (run first : Run) (rest : List Run) : Type 0 where
  pub kind : run.kind ≡ first.kind
  pub start : run.start ≡ first.start
  pub some : run.start < run.end
  pub by : run.end ≤ low
  pub end : (first.end ≡ run.end) ⊎ (ends_at first.end tokens ≡ true)
  pub rise : RunsRise first.end rest
  pub aligned : AllAligned tokens rest

-- tokens at which this is so
pub record IsAgain (tokens : List Frag) : Type 0 where
  pub outside : (low : ℕ) (runs : List Run) → Rising low tokens → RunsRise low runs → AllAligned tokens runs → Again None runs tokens
  pub within : (low : ℕ) (run first : Run) (rest : List Run) → Rising low tokens → Within low tokens run first rest → Again (Some run) (first ∷ rest) tokens

same_run : (a b : Run) → a.kind ≡ b.kind → a.start ≡ b.start → a.end ≡ b.end → a ≡ b
same_run a b k s e = ap (λ kind. (let r : Run = record { kind = kind; start = a.start; end = a.end } in r)) k ∙ ap (λ start. (let r : Run = record { kind = b.kind; start = start; end = a.end } in r)) s
    ∙ ap (λ end. (let r : Run = record { kind = b.kind; start = b.start; end = end } in r)) e

closes_by : (run : Run) (token : Frag) (label_ : Label) (tags : List Tag) → Follows None label_ → AllFollow (opened None token label_) tags
    → (Follows (Some run) label_ × AllFollow (opened (Some run) token label_) tags)
    × (closed_by (Some run) label_ ++ runs_from (opened (Some run) token label_) tags ≡ run ∷ closed_by None label_ ++ runs_from (opened None token label_) tags)
closes_by run token label.Out tags f more = ((tt, more), refl)
closes_by run token (label.Begin kind) tags f more = ((tt, more), refl)
closes_by run token (label.Inside kind) tags f more = absurd f

-- what follows nothing follows a span that ends
closes : (run : Run) (tags : List Tag) → AllFollow None tags → AllFollow (Some run) tags × (runs_from (Some run) tags ≡ run ∷ runs_from None tags)
closes run [] f = (tt, refl)
closes run (tag ∷ tags) f = closes_by run tag.token tag.label tags f.0 f.1

-- ---- one token more

no_start : (place : ℕ) → starts_at place [] ≡ true → ⊥
no_start place h = false≢true h

outside_end : (low : ℕ) (runs : List Run) → RunsRise low runs → AllAligned [] runs → Again None runs []
outside_end low [] r a = (tt, refl)
outside_end low (run ∷ runs) r a = absurd (no_start run.start a.0.0)

within_end : (low : ℕ) (run first : Run) (rest : List Run) → Within low [] run first rest → Again (Some run) (first ∷ rest) []
within_end low run first [] w =
    elim w.end [
      | inl same ↦ (tt, ap (λ only. only ∷ []) (same_run run first w.kind w.start (sym same)))
      | inr more ↦ absurd (no_start first.end more)
    ]
within_end low run first (next ∷ rest) w = absurd (no_start next.start w.aligned.0.0)

-- a token outside of all spans
free_token : (token : Frag) (tokens : List Frag) (runs : List Run) → label_of runs token ≡ label.Out → Again None runs tokens → Again None runs (token ∷ tokens)
free_token token tokens runs out again =
    subst (λ (l : Label). (Follows None l × AllFollow (opened None token l) (map (tagged runs) tokens))
    × (closed_by None l ++ runs_from (opened None token l) (map (tagged runs) tokens) ≡ runs)) (sym out) ((tt, again.0), again.1)

-- a token that begins the first span
first_token : (token : Frag) (tokens : List Frag) (run : Run) (rest : List Run) → label_of (run ∷ rest) token ≡ label.Begin run.kind
    → Again (Some (record { kind = run.kind; start = token.start; end = token.end })) (run ∷ rest) tokens → Again None (run ∷ rest) (token ∷ tokens)
first_token token tokens run rest begins again =
    subst (λ (l : Label). (Follows None l × AllFollow (opened None token l) (map (tagged (run ∷ rest)) tokens))
    × (closed_by None l ++ runs_from (opened None token l) (map (tagged (run ∷ rest)) tokens) ≡ run ∷ rest)) (sym begins) ((tt, again.0), again.1)

-- a token with which an open span goes on
next_token : (token : Frag) (tokens : List Frag) (run first : Run) (rest : List Run) → run.kind ≡ first.kind → label_of (first ∷ rest) token ≡ label.Inside first.kind
    → Again (Some (record run { end = token.end })) (first ∷ rest) tokens → Again (Some run) (first ∷ rest) (token ∷ tokens)
next_token token tokens run first rest kind inside again =
    subst (λ (l : Label). (Follows (Some run) l × AllFollow (opened (Some run) token l) (map (tagged (first ∷ rest)) tokens))
    × (closed_by (Some run) l ++ runs_from (opened (Some run) token l) (map (tagged (first ∷ rest)) tokens) ≡ first ∷ rest)) (sym inside) ((kind, again.0), again.1)

covered_label : (run : Run) (rest : List Run) (token : Frag) → run.start ≤ token.start → token.start < run.end → label_of (run ∷ rest) token ≡ label_by (Some run) token
covered_label run rest token from to = ap (λ found. label_by found token) (cond-true (reaches token.start run) (Some run) (covering rest token.start) (reached token.start run from to))

outside_more : (low : ℕ) (token : Frag) (tokens : List Frag) (runs : List Run) → IsAgain tokens → Rising low (token ∷ tokens) → RunsRise low runs → AllAligned (token ∷ tokens) runs → Again None runs (token ∷ tokens)
outside_more low token tokens [] ih r rise a = free_token token tokens [] refl (ih.outside token.end [] r.2 tt tt)
outside_more low token tokens (run ∷ rest) ih r rise a =
    let later : AllAligned tokens rest = narrow run.end token tokens rest r.1 (let at : low < run.end = omega (arith, rise.0, rise.1) in let end : token.end ≤ run.end = ends_from_here token tokens run.end r.2 a.0.1 in end) rise.2 a.1 in
    elim (or_cases (token.start == run.start) (starts_at run.start tokens) a.0.0) [
      | inl here ↦
          let same : token.start ≡ run.start = eqb-true token.start run.start here in
          let end : token.end ≤ run.end = ends_from_here token tokens run.end r.2 a.0.1 in
          let begun : Run = record { kind = run.kind; start = token.start; end = token.end } in
          first_token token tokens run rest
          (covered_label run rest token (omega arith) (omega (arith, r.1)) ∙ cond-true (run.start == token.start) (label.Begin run.kind) (label.Inside run.kind) (eq-eqb run.start token.start (sym same)))
          (ih.within token.end begun run rest r.2 (record { kind = refl; start = same; some = r.1; by = omega arith; end = end_or token tokens run.end a.0.1; rise = rise.2; aligned = later }))
      | inr there ↦
          let behind_it : token.end ≤ run.start = starts_behind token.end run.start tokens r.2 there in
          free_token token tokens (run ∷ rest)
          (ap (λ found. label_by found token) (none_before token.start run.start (run ∷ rest) (omega (arith, r.1)) (omega arith, rise.1, rise.2)))
          (ih.outside token.end (run ∷ rest) r.2 (behind_it, rise.1, rise.2) (narrow token.end token tokens (run ∷ rest) r.1 (omega arith) (behind_it, rise.1, rise.2) a))
    ]

within_more : (low : ℕ) (token : Frag) (tokens : List Frag) (run first : Run) (rest : List Run) → IsAgain tokens
    → ((at : ℕ) (runs : List Run) → Rising at (token ∷ tokens) → RunsRise at runs → AllAligned (token ∷ tokens) runs → Again None runs (token ∷ tokens))
    → Rising low (token ∷ tokens) → Within low (token ∷ tokens) run first rest → Again (Some run) (first ∷ rest) (token ∷ tokens)
within_more low token tokens run first rest ih none r w =
    elim w.end [
      | inl same ↦
          let at : Rising first.end (token ∷ tokens) = (omega (arith, r.0, w.by, same), r.1, r.2) in
          let rest_again : Again None rest (token ∷ tokens) = none first.end rest at w.rise w.aligned in
          let is_same : run ≡ first = same_run run first w.kind w.start (sym same) in
          let skipped : map (tagged (first ∷ rest)) (token ∷ tokens) ≡ map (tagged rest) (token ∷ tokens) = skip_tags first rest first.end (token ∷ tokens) (omega arith) at in
          let ended = closes run (map (tagged rest) (token ∷ tokens)) rest_again.0 in
          subst (λ (tags : List Tag). AllFollow (Some run) tags × (runs_from (Some run) tags ≡ first ∷ rest)) (sym skipped)
          (ended.0, ended.1 ∙ ap (λ runs. run ∷ runs) rest_again.1 ∙ ap (λ one. one ∷ rest) is_same)
      | inr more ↦
          let end : token.end ≤ first.end = ends_from_here token tokens first.end r.2 more in
          next_token token tokens run first rest w.kind
          (covered_label first rest token (omega (arith, w.start, w.some, w.by, r.0)) (omega (arith, r.1))
          ∙ cond-false (first.start == token.start) (label.Begin first.kind) (label.Inside first.kind) (ne_eqb first.start token.start (λ e. absurd (omega (arith, w.start, w.some, w.by, r.0)))))
          (ih.within token.end (record run { end = token.end }) first rest r.2
          (record { kind = w.kind; start = w.start; some = omega (arith, w.some, w.by, r.0, r.1); by = omega arith; end = end_or token tokens first.end more; rise = w.rise; aligned = narrow first.end token tokens rest r.1 end w.rise w.aligned }))
    ]

again : (tokens : List Frag) → IsAgain tokens
again [] = record { outside = λ low runs r rise a. outside_end low runs rise a; within = λ low run first rest r w. within_end low run first rest w }
again (token ∷ tokens) =
    let ih : IsAgain tokens = again tokens in
    let none : (at : ℕ) (runs : List Run) → Rising at (token ∷ tokens) → RunsRise at runs → AllAligned (token ∷ tokens) runs → Again None runs (token ∷ tokens) =
    λ at runs r rise a. outside_more at token tokens runs ih r rise a in
    record { outside = none; within = λ low run first rest r w. within_more low token tokens run first rest ih none r w }

-- spans that rise and are aligned with tokens are those that the labels of the tokens make
pub runs_again : (tokens : List Frag) (runs : List Run) → Rising 0 tokens → RunsRise 0 runs → AllAligned tokens runs → Again None runs tokens
runs_again tokens runs r rise a = (again tokens).outside 0 runs r rise a
