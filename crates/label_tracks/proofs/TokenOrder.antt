-- The tokens of a text start one behind another, and there are no more of them than characters.
use Rattle.std.proofs.Common.{ℕ, ◌+◌, ◌<◌, ◌≤◌, ◌==◌, List, [], ◌∷◌, length, get_or, zero, suc, arith}
use Rattle.std.specs.Char.{is_whitespace}
use Rattle.std.specs.List.Sorted.{IsNonDecreasingBy}
use Rattle.std.proofs.lemmas.Bool.{cond_both}
use Rattle.mark_base.specs.declared.fragments.Frag.{Frag}
use Rattle.char_documents.specs.Tokens.{join_run, tokens_from, tokens_of}

-- each starts at this place or behind, and none before the one in front of it
abbrev Rises : ℕ → List Frag → Type 0
Rises place [] = Unit {0}
Rises place (token ∷ tokens) = (place ≤ token.start) × Rises token.start tokens

sooner_still : (low place : ℕ) (ts : List Frag) → low ≤ place → Rises place ts → Rises low ts
sooner_still low place [] less h = tt
sooner_still low place (t ∷ ts) less h = (omega (arith, h.0), h.1)

joined_rise : (place : ℕ) (ts : List Frag) → Rises (place + 1) ts → Rises place (join_run place (place + 1) ts)
joined_rise place [] h = (omega arith, tt)
joined_rise place (t ∷ ts) h =
    cond_both (t.start == place + 1) (record { start = place; end = t.end } ∷ ts) (record { start = place; end = place + 1 } ∷ t ∷ ts) (Rises place)
    (λ _. (omega arith, sooner_still place t.start ts (omega (arith, h.0)) h.1))
    (λ _. (omega arith, (omega (arith, h.0), h.1)))

tokens_rise : (place : ℕ) (cs : List ℕ) → Rises place (tokens_from place cs)
tokens_rise place [] = tt
tokens_rise place (c ∷ cs) =
    cond_both (is_whitespace c) (tokens_from (place + 1) cs) (join_run place (place + 1) (tokens_from (place + 1) cs)) (Rises place)
    (λ _. sooner_still place (place + 1) (tokens_from (place + 1) cs) (omega arith) (tokens_rise (place + 1) cs))
    (λ _. joined_rise place (tokens_from (place + 1) cs) (tokens_rise (place + 1) cs))

from_first : (place : ℕ) (ts : List Frag) → Rises place ts → (k : ℕ) (d : Frag) → k < length ts → place ≤ (get_or ts k d).start
from_first place [] h k d within = absurd (omega arith)
from_first place (t ∷ ts) h zero d within = h.0
from_first place (t ∷ ts) h (suc k) d within =
    let near : t.start ≤ (get_or ts k d).start = from_first t.start ts h.1 k d (omega arith) in omega (arith, h.0, near)

in_order : (place : ℕ) (ts : List Frag) → Rises place ts → (i j : ℕ) (d : Frag) → i ≤ j → j < length ts → (get_or ts i d).start ≤ (get_or ts j d).start
in_order place [] h i j d before within = absurd (omega arith)
in_order place (t ∷ ts) h zero zero d before within = omega arith
in_order place (t ∷ ts) h zero (suc j) d before within = from_first t.start ts h.1 j d (omega arith)
in_order place (t ∷ ts) h (suc i) zero d before within = absurd (omega arith)
in_order place (t ∷ ts) h (suc i) (suc j) d before within = in_order t.start ts h.1 i j d (omega arith) (omega arith)

pub starts_rise : (text : List ℕ) → IsNonDecreasingBy (λ (token : Frag). token.start) (tokens_of text)
unfolding tokens_of
starts_rise text = in_order 0 (tokens_from 0 text) (tokens_rise 0 text)

joined_length : (start place : ℕ) (ts : List Frag) → length (join_run start place ts) ≤ length ts + 1
joined_length start place [] = omega arith
joined_length start place (t ∷ ts) =
    cond_both (t.start == place) (record { start = start; end = t.end } ∷ ts) (record { start = start; end = place } ∷ t ∷ ts) (λ l. length l ≤ suc (length ts) + 1)
    (λ _. omega arith) (λ _. omega arith)

few_from : (place : ℕ) (cs : List ℕ) → length (tokens_from place cs) ≤ length cs
few_from place [] = omega arith
few_from place (c ∷ cs) =
    let rest : List Frag = tokens_from (place + 1) cs in
    let few : length rest ≤ length cs = few_from (place + 1) cs in
    let one : length (join_run place (place + 1) rest) ≤ length rest + 1 = joined_length place (place + 1) rest in
    cond_both (is_whitespace c) rest (join_run place (place + 1) rest) (λ l. length l ≤ suc (length cs)) (λ _. omega (arith, few)) (λ _. omega (arith, few, one))

pub tokens_few : (text : List ℕ) → length (tokens_of text) ≤ length text
unfolding tokens_of
tokens_few text = few_from 0 text
