-- What is found for each token, step by step.
use Rattle.std.proofs.Common.{◌≡◌, ℕ, ◌+◌, ◌<◌, ◌≤◌, ◌&&◌, ◌||◌, Bool, true, false, cond, List, [], ◌∷◌, ◌++◌, length, map, take, get_or, set, max, replicate, nat_le, nat_lt, Option, Some, None, inl, inr, refl, sym, ◌∙◌, ap, arith}
use Rattle.std.specs.List.{fold, filter}
use Rattle.std.specs.List.Sorted.{IsPartitionPoint}
use Rattle.std.proofs.lemmas.Bool.{and_from, and_left, and_right, cases_eq, cases_lt, cond-false, cond_both, le-leb, le-ltb, lt-leb, lt-ltb, ltb-false, ltb-true}
use Rattle.std.proofs.lemmas.List.{ext_get_or, get_or-map, get_or-replicate, length-replicate, get_or-set_other, get_or-set_same, length-map, take_more}
use Rattle.std.proofs.lemmas.List.Folds.{list_any-append}
use Rattle.mark_base.specs.declared.fragments.Frag.{Frag}
use Rattle.layer_model.specs.declared.span.Span.{Span}
use Rattle.overlap_rules.specs.Overlaps.{covers}
use Rattle.label_tracks.specs.declared.candidate.Candidate.{Candidate}
use Rattle.label_tracks.specs.Candidates.{candidate_of, candidates, comes_before, first_covering, sooner}
use Rattle.label_tracks.specs.Offers.{AreOffered, lies_in, offered, starts}

-- a candidate offered twice is offered once
twice_first : (other : Candidate) → sooner (Some other) other ≡ Some other
twice_first other = cond_both (comes_before other other) (Some other) (Some other) (λ v. v ≡ Some other) (λ _. refl) (λ _. refl)

twice : (found : Option Candidate) (other : Candidate) → sooner (sooner found other) other ≡ sooner found other
twice None other = twice_first other
twice (Some first) other =
    elim (comes_before other first) as (λ b. comes_before other first ≡ b → sooner (cond b (Some other) (Some first)) other ≡ cond b (Some other) (Some first)) [
      | true ↦ λ _. twice_first other
      | false ↦ λ is. cond-false (comes_before other first) (Some other) (Some first) is
    ] refl

pub either : (p q : Bool) (found : Option Candidate) (other : Candidate) → offered q (offered p found other) other ≡ offered (p || q) found other
either true true found other = twice found other
either true false found other = refl
either false q found other = refl

-- where a token starts, read either way
start_at : (tokens : List Frag) (k : ℕ) (d : Frag) → k < length tokens → get_or (starts tokens) k 0 ≡ (get_or tokens k d).start
start_at tokens k d within = get_or-map (λ (token : Frag). token.start) tokens k d 0 within

-- a place is behind a point exactly where the token there starts at a character or behind
from_point : (tokens : List Frag) (at point k : ℕ) (d : Frag)
    → IsPartitionPoint (λ (y : Frag). nat_lt y.start at ≡ true) (λ (y : Frag). nat_lt y.start at ≡ false) tokens point
    → k < length tokens → nat_le point k ≡ nat_le at (get_or tokens k d).start
from_point tokens at point k d parted within =
    elim (cases_lt k point) [
      | inl before ↦ lt-leb point k before ∙ sym (lt-leb at (get_or tokens k d).start (ltb-true (get_or tokens k d).start at (parted.0 k d (omega arith) before)))
      | inr behind ↦ le-leb point k behind ∙ sym (le-leb at (get_or tokens k d).start (ltb-false (get_or tokens k d).start at (parted.1 k d behind within)))
    ]

before_point : (tokens : List Frag) (at point k : ℕ) (d : Frag)
    → IsPartitionPoint (λ (y : Frag). nat_lt y.start at ≡ true) (λ (y : Frag). nat_lt y.start at ≡ false) tokens point
    → k < length tokens → nat_lt k point ≡ nat_lt (get_or tokens k d).start at
before_point tokens at point k d parted within =
    elim (cases_lt k point) [
      | inl before ↦ lt-ltb k point before ∙ sym (parted.0 k d (omega arith) before)
      | inr behind ↦ le-ltb k point behind ∙ sym (parted.1 k d behind within)
    ]

-- the tokens from one place up to another
abbrev pub BetweenOffered : ℕ → ℕ → ℕ → Candidate → List (Option Candidate) → List (Option Candidate) → Type 0
BetweenOffered count from to other before after = (k : ℕ) → k < count → get_or after k None ≡ offered (nat_le from k && nat_lt k to) (get_or before k None) other

pub none_between : (count from : ℕ) (other : Candidate) (found : List (Option Candidate)) → BetweenOffered count from from other found found
none_between count from other found k within =
    elim (cases_lt k from) [
      | inl before ↦ ap (λ b. offered b (get_or found k None) other) (sym (and_left (nat_le from k) (nat_lt k from) (lt-leb from k before)))
      | inr behind ↦ ap (λ b. offered b (get_or found k None) other) (sym (and_right (nat_le from k) (nat_lt k from) (le-ltb k from behind)))
    ]

pub one_more : (count from i : ℕ) (other : Candidate) (before now : List (Option Candidate)) → from ≤ i → i < length now → length now ≡ count
    → BetweenOffered count from i other before now → BetweenOffered count from (i + 1) other before (set now i (sooner (get_or now i None) other))
one_more count from i other before now low within same so_far k k_within =
    elim (cases_eq k i) [
      | inl here ↦
          let now_here : get_or now i None ≡ get_or before i None =
          so_far i (omega arith) ∙ ap (λ b. offered b (get_or before i None) other) (and_right (nat_le from i) (nat_lt i i) (le-ltb i i (omega arith))) in
          let passes : (nat_le from k && nat_lt k (i + 1)) ≡ true = and_from (nat_le from k) (nat_lt k (i + 1)) (le-leb from k (omega arith)) (lt-ltb k (i + 1) (omega arith)) in
          ap (λ n. get_or (set now i (sooner (get_or now i None) other)) n None) here ∙ get_or-set_same now i (sooner (get_or now i None) other) None within
          ∙ ap (λ f. sooner f other) (now_here ∙ sym (ap (λ n. get_or before n None) here))
          ∙ sym (ap (λ b. offered b (get_or before k None) other) passes)
      | inr elsewhere ↦
          let same_test : nat_lt k i ≡ nat_lt k (i + 1) = elim (cases_lt k i) [
            | inl less ↦ lt-ltb k i less ∙ sym (lt-ltb k (i + 1) (omega arith))
            | inr more ↦ let far : i + 1 ≤ k = elim (cases_lt i k) [ inl l ↦ omega arith | inr l ↦ absurd (elsewhere (omega arith)) ] in le-ltb k i more ∙ sym (le-ltb k (i + 1) far)
          ] in
          get_or-set_other now i k (sooner (get_or now i None) other) None elsewhere ∙ so_far k k_within
          ∙ ap (λ b. offered (nat_le from k && b) (get_or before k None) other) same_test
    ]

-- the tokens of a fragment
pub fragment_offered : (tokens : List Frag) (frag : Frag) (from to end : ℕ) (other : Candidate) (before after : List (Option Candidate))
    → IsPartitionPoint (λ (y : Frag). nat_lt y.start frag.start ≡ true) (λ (y : Frag). nat_lt y.start frag.start ≡ false) tokens from
    → IsPartitionPoint (λ (y : Frag). nat_lt y.start frag.end ≡ true) (λ (y : Frag). nat_lt y.start frag.end ≡ false) tokens to
    → end ≡ max to from → BetweenOffered (length tokens) from end other before after → AreOffered (lies_in frag) tokens other before after
fragment_offered tokens frag from to end other before after first last is between k within =
    between k within ∙ ap (λ b. offered b (get_or before k None) other) (sym capped ∙ passes)
  where
    capped : (nat_le from k && nat_lt k to) ≡ (nat_le from k && nat_lt k end)
    capped = elim (cases_lt k from) [
      | inl low ↦ and_left (nat_le from k) (nat_lt k to) (lt-leb from k low) ∙ sym (and_left (nat_le from k) (nat_lt k end) (lt-leb from k low))
      | inr high ↦ ap (λ b. nat_le from k && b) (elim (cases_lt k to) [
        | inl less ↦ lt-ltb k to less ∙ sym (lt-ltb k end (omega arith))
        | inr more ↦ le-ltb k to more ∙ sym (le-ltb k end (omega arith))
      ])
    ]

    d : Frag
    d = record { start = 0; end = 0 }

    start : get_or (starts tokens) k 0 ≡ (get_or tokens k d).start
    start = start_at tokens k d within

    passes : (nat_le from k && nat_lt k to) ≡ lies_in frag (get_or (starts tokens) k 0)
    passes =
        ap (λ b. b && nat_lt k to) (from_point tokens frag.start from k d first within)
        ∙ ap (λ b. nat_le frag.start (get_or tokens k d).start && b) (before_point tokens frag.end to k d last within)
        ∙ ap (lies_in frag) (sym start)

-- ---- the fragments of a span, one after another

pub no_fragment : (tokens : List Frag) (other : Candidate) (found : List (Option Candidate)) → AreOffered (covers []) tokens other found found
no_fragment tokens other found k within = refl

pub next_fragment : (tokens frags : List Frag) (i : ℕ) (frag : Frag) (other : Candidate) (before now after : List (Option Candidate))
    → i < length frags → frag ≡ get_or frags i frag → AreOffered (covers (take i frags)) tokens other before now
    → AreOffered (lies_in frag) tokens other now after → AreOffered (covers (take (i + 1) frags)) tokens other before after
next_fragment tokens frags i frag other before now after i_within is so_far here k within =
    let c : ℕ = get_or (starts tokens) k 0 in
    let front : Bool = covers (take i frags) c in
    here k within ∙ ap (λ f. offered (lies_in frag c) f other) (so_far k within) ∙ either front (lies_in frag c) (get_or before k None) other
    ∙ ap (λ b. offered b (get_or before k None) other) (sym whole)
  where
    or_none : (b : Bool) → (b || false) ≡ b
    or_none true = refl
    or_none false = refl

    whole : covers (take (i + 1) frags) (get_or (starts tokens) k 0) ≡ (covers (take i frags) (get_or (starts tokens) k 0) || lies_in frag (get_or (starts tokens) k 0))
    whole =
        ap (λ l. covers l (get_or (starts tokens) k 0)) (take_more frags i frag i_within ∙ ap (λ f. take i frags ++ f ∷ []) (sym is))
        ∙ list_any-append (λ (f : Frag). lies_in f (get_or (starts tokens) k 0)) (take i frags) (frag ∷ [])
        ∙ ap (λ b. covers (take i frags) (get_or (starts tokens) k 0) || b) (or_none (lies_in frag (get_or (starts tokens) k 0)))

-- ---- the spans of a layer, one after another

-- what is found so far and the spans that are left give the first of all
abbrev pub LeftGives : List Frag → List (ℕ × Span) → List (ℕ × Span) → List (Option Candidate) → Type 0
LeftGives tokens all rest found =
    (k : ℕ) → k < length tokens → fold sooner (get_or found k None) (candidates (get_or (starts tokens) k 0) rest) ≡ first_covering (get_or (starts tokens) k 0) all

weighed : (c : ℕ) (entry : ℕ × Span) (rest : List (ℕ × Span)) (found : Option Candidate)
    → fold sooner (offered (covers entry.1.frags c) found (candidate_of entry.0 entry.1)) (candidates c rest) ≡ fold sooner found (candidates c (entry ∷ rest))
weighed c entry rest found =
    elim (covers entry.1.frags c) as (λ b. fold sooner (offered b found (candidate_of entry.0 entry.1)) (candidates c rest)
    ≡ fold sooner found (map (λ (e : ℕ × Span). candidate_of e.0 e.1) (cond b (entry ∷ filter (λ (e : ℕ × Span). covers e.1.frags c) rest) (filter (λ (e : ℕ × Span). covers e.1.frags c) rest)))) [
      | true ↦ refl
      | false ↦ refl
    ]

pub next_span : (tokens : List Frag) (all rest later : List (ℕ × Span)) (number : ℕ) (span : Span) (other : Candidate) (now after : List (Option Candidate))
    → rest ≡ (number, span) ∷ later → other ≡ candidate_of number span → LeftGives tokens all rest now
    → AreOffered (covers span.frags) tokens other now after → LeftGives tokens all later after
next_span tokens all rest later number span other now after is weighs so_far here k within =
    let c : ℕ = get_or (starts tokens) k 0 in
    ap (λ f. fold sooner f (candidates c later)) (here k within ∙ ap (offered (covers span.frags c) (get_or now k None)) weighs)
    ∙ weighed c (number, span) later (get_or now k None)
    ∙ ap (λ l. fold sooner (get_or now k None) (candidates c l)) (sym is) ∙ so_far k within

pub all_found : (tokens : List Frag) (all rest : List (ℕ × Span)) (found : List (Option Candidate)) → rest ≡ [] → length found ≡ length tokens
    → LeftGives tokens all rest found → found ≡ map (λ (token : Frag). first_covering token.start all) tokens
all_found tokens all rest found none same so_far =
    ext_get_or None found (map (λ (token : Frag). first_covering token.start all) tokens) (same ∙ sym (length-map tokens (λ (token : Frag). first_covering token.start all))) each
  where
    d : Frag
    d = record { start = 0; end = 0 }

    each : (k : ℕ) → k < length found → get_or found k None ≡ get_or (map (λ (token : Frag). first_covering token.start all) tokens) k None
    each k within =
        let near : k < length tokens = omega arith in
        sym (ap (λ l. fold sooner (get_or found k None) (candidates (get_or (starts tokens) k 0) l)) none) ∙ so_far k near
        ∙ ap (λ c. first_covering c all) (start_at tokens k d near) ∙ sym (get_or-map (λ (token : Frag). first_covering token.start all) tokens k d None near)

-- before the first span nothing is found
pub none_yet : (tokens : List Frag) (all rest : List (ℕ × Span)) (found : List (Option Candidate)) (n : ℕ) → n ≡ length tokens → found ≡ replicate n None → rest ≡ all
    → (length found ≡ length tokens) × LeftGives tokens all rest found
none_yet tokens all rest found n count empty is = (ap length empty ∙ length-replicate n None ∙ count, gives)
  where
    gives : LeftGives tokens all rest found
    gives k within =
        ap (λ f. fold sooner f (candidates (get_or (starts tokens) k 0) rest)) (ap (λ l. get_or l k None) empty ∙ get_or-replicate n k None None (omega arith))
        ∙ ap (λ l. fold sooner None (candidates (get_or (starts tokens) k 0) l)) is
