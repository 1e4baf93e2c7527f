-- How the tokens of a text come of one character after another.
use Rattle.std.proofs.Common.{◌≡◌, ℕ, ◌+◌, ◌<◌, ◌≤◌, ◌==◌, true, false, cond, List, [], ◌∷◌, ◌++◌, Option, Some, None, unwrap_or, length, get_or, drop, refl, sym, ◌∙◌, ap, arith, append_assoc}
use Rattle.std.specs.Char.{is_whitespace}
use Rattle.std.proofs.lemmas.List.{at_drop_more, at_drop_all}
use Rattle.std.proofs.lemmas.Bool.{ne_eqb, eq-eqb, cond-false, cond-true, cond_both}
use Rattle.mark_base.specs.declared.fragments.Frag.{Frag}
use Rattle.char_documents.specs.Tokens.{join_run, tokens_from}
use Rattle.char_documents.specs.TokenRuns.{closed, run_on}

-- the first of the tokens, if there is one, starts at this place or behind
abbrev Behind : ℕ → List Frag → Type 0
Behind place [] = Unit {0}
Behind place (token ∷ tokens) = place ≤ token.start

joined_behind : (start place : ℕ) (ts : List Frag) → Behind start (join_run start place ts)
joined_behind start place [] = omega arith
joined_behind start place (t ∷ ts) =
    cond_both (t.start == place) (record { start = start; end = t.end } ∷ ts) (record { start = start; end = place } ∷ t ∷ ts) (Behind start) (λ _. omega arith) (λ _. omega arith)

nearer : (place : ℕ) (ts : List Frag) → Behind (place + 1) ts → Behind place ts
nearer place [] h = tt
nearer place (t ∷ ts) h = omega arith

tokens_behind : (place : ℕ) (cs : List ℕ) → Behind place (tokens_from place cs)
tokens_behind place [] = tt
tokens_behind place (c ∷ cs) =
    cond_both (is_whitespace c) (tokens_from (place + 1) cs) (join_run place (place + 1) (tokens_from (place + 1) cs)) (Behind place)
    (λ _. nearer place (tokens_from (place + 1) cs) (tokens_behind (place + 1) cs))
    (λ _. joined_behind place (place + 1) (tokens_from (place + 1) cs))

-- a run before white space is a token of its own
apart : (start place : ℕ) (ts : List Frag) → Behind (place + 1) ts → join_run start place ts ≡ record { start = start; end = place } ∷ ts
apart start place [] h = refl
apart start place (t ∷ ts) h =
    cond-false (t.start == place) (record { start = start; end = t.end } ∷ ts) (record { start = start; end = place } ∷ t ∷ ts) (ne_eqb t.start place (λ e. absurd (omega arith)))

closes : (run : Option ℕ) (place : ℕ) (ts : List Frag) → Behind (place + 1) ts → run_on run place ts ≡ closed run place ++ ts
closes None place ts h = refl
closes (Some start) place ts h = apart start place ts h

-- a run goes on over one character more
goes_on : (start place : ℕ) (ts : List Frag) → join_run start place (join_run place (place + 1) ts) ≡ join_run start (place + 1) ts
goes_on start place [] = cond-true (place == place) (record { start = start; end = place + 1 } ∷ []) (record { start = start; end = place } ∷ record { start = place; end = place + 1 } ∷ []) (eq-eqb place place refl)
goes_on start place (t ∷ ts) =
    elim (t.start == place + 1) as (λ v. join_run start place (cond v (record { start = place; end = t.end } ∷ ts) (record { start = place; end = place + 1 } ∷ t ∷ ts))
    ≡ cond v (record { start = start; end = t.end } ∷ ts) (record { start = start; end = place + 1 } ∷ t ∷ ts)) [
      | true ↦ cond-true (place == place) (record { start = start; end = t.end } ∷ ts) (record { start = start; end = place } ∷ record { start = place; end = t.end } ∷ ts) (eq-eqb place place refl)
      | false ↦ cond-true (place == place) (record { start = start; end = place + 1 } ∷ t ∷ ts) (record { start = start; end = place } ∷ record { start = place; end = place + 1 } ∷ t ∷ ts) (eq-eqb place place refl)
    ]

opens : (run : Option ℕ) (place : ℕ) (ts : List Frag) → run_on run place (join_run place (place + 1) ts) ≡ run_on (Some (unwrap_or run place)) (place + 1) ts
opens None place ts = refl
opens (Some start) place ts = goes_on start place ts

-- the tokens at a character
at_white : (cs : List ℕ) (place c : ℕ) → place < length cs → c ≡ get_or cs place c → is_whitespace c ≡ true
    → tokens_from place (drop place cs) ≡ tokens_from (place + 1) (drop (place + 1) cs)
at_white cs place c within is white =
    at_drop_more (tokens_from place) cs place c within
    ∙ cond-true (is_whitespace (get_or cs place c)) (tokens_from (place + 1) (drop (place + 1) cs)) (join_run place (place + 1) (tokens_from (place + 1) (drop (place + 1) cs))) (sym (ap is_whitespace is) ∙ white)

at_other : (cs : List ℕ) (place c : ℕ) → place < length cs → c ≡ get_or cs place c → is_whitespace c ≡ false
    → tokens_from place (drop place cs) ≡ join_run place (place + 1) (tokens_from (place + 1) (drop (place + 1) cs))
at_other cs place c within is other =
    at_drop_more (tokens_from place) cs place c within
    ∙ cond-false (is_whitespace (get_or cs place c)) (tokens_from (place + 1) (drop (place + 1) cs)) (join_run place (place + 1) (tokens_from (place + 1) (drop (place + 1) cs))) (sym (ap is_whitespace is) ∙ other)

-- the tokens so far, the open run and what is left make the tokens of the whole
pub white_step : (cs : List ℕ) (place c : ℕ) (run : Option ℕ) (before now whole : List Frag)
    → (place < length cs) × (c ≡ get_or cs place c) → is_whitespace c ≡ true → now ≡ before ++ closed run place
    → before ++ run_on run place (tokens_from place (drop place cs)) ≡ whole
    → now ++ run_on None (place + 1) (tokens_from (place + 1) (drop (place + 1) cs)) ≡ whole
white_step cs place c run before now whole at white added so_far =
    let rest : List Frag = tokens_from (place + 1) (drop (place + 1) cs) in
    ap (λ l. l ++ rest) added ∙ append_assoc before (closed run place) rest
    ∙ sym (ap (λ l. before ++ l) (closes run place rest (tokens_behind (place + 1) (drop (place + 1) cs))))
    ∙ sym (ap (λ l. before ++ run_on run place l) (at_white cs place c at.0 at.1 white)) ∙ so_far

pub other_step : (cs : List ℕ) (place c : ℕ) (run : Option ℕ) (before whole : List Frag)
    → (place < length cs) × (c ≡ get_or cs place c) → is_whitespace c ≡ false
    → before ++ run_on run place (tokens_from place (drop place cs)) ≡ whole
    → before ++ run_on (Some (unwrap_or run place)) (place + 1) (tokens_from (place + 1) (drop (place + 1) cs)) ≡ whole
other_step cs place c run before whole at other so_far =
    let rest : List Frag = tokens_from (place + 1) (drop (place + 1) cs) in
    sym (ap (λ l. before ++ l) (opens run place rest)) ∙ sym (ap (λ l. before ++ run_on run place l) (at_other cs place c at.0 at.1 other)) ∙ so_far

at_end : (run : Option ℕ) (place : ℕ) → run_on run place [] ≡ closed run place
at_end None place = refl
at_end (Some start) place = refl

pub last_step : (cs : List ℕ) (place : ℕ) (run : Option ℕ) (before now whole : List Frag) → length cs ≤ place
    → now ≡ before ++ closed run place → before ++ run_on run place (tokens_from place (drop place cs)) ≡ whole → now ≡ whole
last_step cs place run before now whole past added so_far =
    added ∙ sym (ap (λ l. before ++ l) (at_end run place)) ∙ sym (ap (λ l. before ++ run_on run place l) (at_drop_all (tokens_from place) cs place past)) ∙ so_far
