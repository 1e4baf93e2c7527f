-- Spans that rise and are numbered from 1 fit columns.
use Rattle.std.proofs.Common.{◌≡◌, ℕ, ◌+◌, ◌<◌, ◌≤◌, ◌&&◌, ◌||◌, inl, inr, true, false, cond, Bool, List, [], ◌∷◌, ◌++◌, map, refl, sym, ◌∙◌, ap, arith, length, nat_lt, append_assoc, length-append}
use Rattle.std.specs.Prelude.{⊤, count_by}
use Rattle.std.specs.List.{list_any, AllByRecursion}
use Rattle.std.proofs.lemmas.Bool.{and_from, cond-false, cond-true, lt-ltb, le-ltb, cases_lt}
use Rattle.std.proofs.lemmas.List.Sums.{sum_by-append, sum_by-cons}
use Rattle.std.proofs.lemmas.List.Folds.{list_any-append}
use Rattle.mark_base.specs.declared.fragments.Frag.{Frag}
use Rattle.token_columns.specs.declared.run.Run.{Run}
use Rattle.token_columns.specs.declared.run.Placed.{Placed}
use Rattle.token_columns.specs.Labels.{placed_of, reaches}
use Rattle.token_columns.specs.Fits.{is_aligned, share_token, shares_lower, place_of}
use Rattle.token_columns.specs.ReadRuns.{numbered}
use Rattle.token_columns.proofs.RunLemmas.{RunsRise, before, behind}
use Rattle.token_columns.proofs.RunsAgain.{starts_at, ends_at, AllAligned}

-- spans with numbers, from this one on
abbrev pub placed : ℕ → List Run → List Placed
placed n runs = map placed_of (numbered n runs)

pub whole_all : (n : ℕ) (runs : List Run) → AllByRecursion (λ (span : Placed). span.pieces ≡ 1) (placed n runs)
whole_all n [] = tt
whole_all n (run ∷ runs) = (refl, whole_all (n + 1) runs)

pub aligned_all : (tokens : List Frag) (n : ℕ) (runs : List Run) → AllAligned tokens runs → AllByRecursion (λ (span : Placed). is_aligned tokens span.run ≡ true) (placed n runs)
aligned_all tokens n [] a = tt
aligned_all tokens n (run ∷ runs) a = (and_from (starts_at run.start tokens) (ends_at run.end tokens) a.0.0 a.0.1, aligned_all tokens (n + 1) runs a.1)

-- ---- places

-- spans that are numbered from this one on rise
abbrev pub Ordered : ℕ → ℕ → List Placed → Type 0
Ordered low n [] = ⊤
Ordered low n (span ∷ spans) = (span.number ≡ n) × (low ≤ span.run.start) × (span.run.start < span.run.end) × Ordered span.run.end (n + 1) spans

pub placed_ordered : (low n : ℕ) (runs : List Run) → RunsRise low runs → Ordered low n (placed n runs)
placed_ordered low n [] r = tt
placed_ordered low n (run ∷ runs) r = (refl, r.0, r.1, placed_ordered run.end (n + 1) runs r.2)

-- spans that end before a place
abbrev pub EndBefore : ℕ → List Placed → Type 0
EndBefore low spans = AllByRecursion (λ span. (span.run.start < span.run.end) × (span.run.end ≤ low)) spans

end_later : (low high : ℕ) (spans : List Placed) → low ≤ high → EndBefore low spans → EndBefore high spans
end_later low high [] h e = tt
end_later low high (span ∷ spans) h e = ((e.0.0, omega (arith, h, e.0.1)), end_later low high spans h e.1)

end_push : (low : ℕ) (spans : List Placed) (span : Placed) → EndBefore low spans → span.run.start < span.run.end → span.run.end ≤ low → EndBefore low (spans ++ span ∷ [])
end_push low [] span e some by = ((some, by), tt)
end_push low (first ∷ spans) span e some by = (e.0, end_push low spans span e.1 some by)

-- one for a span that starts before a place
abbrev lower_one : ℕ → Placed → ℕ
lower_one place span = cond (nat_lt span.run.start place) 1 0

count_front : (place : ℕ) (spans : List Placed) → EndBefore place spans → count_by (λ (span : Placed). nat_lt span.run.start place) spans ≡ length spans
count_front place [] e = refl
count_front place (span ∷ spans) e =
    let one : lower_one place span ≡ 1 = cond-true (nat_lt span.run.start place) 1 0 (lt-ltb span.run.start place (omega (arith, e.0.0, e.0.1))) in
    let more : count_by (λ (s : Placed). nat_lt s.run.start place) spans ≡ length spans = count_front place spans e.1 in
    omega (arith, one, more, sum_by-cons (lower_one place) span spans)

count_back : (place low n : ℕ) (spans : List Placed) → place ≤ low → Ordered low n spans → count_by (λ (span : Placed). nat_lt span.run.start place) spans ≡ 0
count_back place low n [] h o = refl
count_back place low n (span ∷ spans) h o =
    let none : lower_one place span ≡ 0 = cond-false (nat_lt span.run.start place) 1 0 (le-ltb span.run.start place (omega (arith, h, o.1))) in
    let more : count_by (λ (s : Placed). nat_lt s.run.start place) spans ≡ 0 = count_back place span.run.end (n + 1) spans (omega (arith, h, o.1, o.2)) o.3 in
    omega (arith, none, more, sum_by-cons (lower_one place) span spans)

-- the place of a span behind some and before others
place_here : (front : List Placed) (span : Placed) (spans : List Placed) (n : ℕ) → EndBefore span.run.start front → span.run.start < span.run.end → Ordered span.run.end n spans
    → place_of (front ++ span ∷ spans) span ≡ length front + 1
place_here front span spans n e some o =
    let split = sum_by-append (lower_one span.run.start) front (span ∷ spans) in
    let own : lower_one span.run.start span ≡ 0 = cond-false (nat_lt span.run.start span.run.start) 1 0 (le-ltb span.run.start span.run.start (omega arith)) in
    let later : count_by (λ (s : Placed). nat_lt s.run.start span.run.start) spans ≡ 0 = count_back span.run.start span.run.end n spans (omega arith) o in
    let earlier : count_by (λ (s : Placed). nat_lt s.run.start span.run.start) front ≡ length front = count_front span.run.start front e in
    omega (arith, split, own, later, earlier, sum_by-cons (lower_one span.run.start) span spans)

numbered_from : (whole front spans : List Placed) (low n : ℕ) → whole ≡ front ++ spans → length front + 1 ≡ n → EndBefore low front → Ordered low n spans
    → AllByRecursion (λ (span : Placed). span.number ≡ place_of whole span) spans
numbered_from whole front [] low n is count e o = tt
numbered_from whole front (span ∷ spans) low n is count e o =
    let here : place_of (front ++ span ∷ spans) span ≡ length front + 1 = place_here front span spans (n + 1) (end_later low span.run.start front o.1 e) o.2 o.3 in
    let next : EndBefore span.run.end (front ++ span ∷ []) = end_push span.run.end front span (end_later low span.run.end front (omega (arith, o.1, o.2)) e) o.2 (omega arith) in (
      o.0 ∙ sym count ∙ sym here ∙ ap (λ w. place_of w span) (sym is),
      numbered_from whole (front ++ span ∷ []) spans span.run.end (n + 1) (is ∙ sym (append_assoc front (span ∷ []) spans)) (omega (arith, count, length-append front (span ∷ []))) next o.3,
    )

pub numbered_all : (spans : List Placed) → Ordered 0 1 spans → AllByRecursion (λ (span : Placed). span.number ≡ place_of spans span) spans
numbered_all spans o = numbered_from spans [] spans 0 1 refl refl tt o

-- ---- shared tokens

and_no : (b : Bool) → (b && false) ≡ false
and_no true = refl
and_no false = refl

pub apart_at : (c : ℕ) (a b : Run) → a.end ≤ b.start → (reaches c a && reaches c b) ≡ false
apart_at c a b h =
    elim (cases_lt c b.start) [
      | inl less ↦ ap (λ t. reaches c a && t) (before c b less) ∙ and_no (reaches c a)
      | inr more ↦ ap (λ t. t && reaches c b) (behind c a (omega arith))
    ]

pub none_shared : (tokens : List Frag) (a b : Run) → a.end ≤ b.start → share_token tokens a b ≡ false
none_shared [] a b h = refl
none_shared (token ∷ tokens) a b h =
    let first : (reaches token.start a && reaches token.start b) ≡ false = apart_at token.start a b h in
    ap (λ t. t || share_token tokens a b) first ∙ none_shared tokens a b h

no_lower_front : (tokens : List Frag) (span : Placed) (front : List Placed) → EndBefore span.run.start front
    → list_any (λ (other : Placed). nat_lt other.number span.number && share_token tokens other.run span.run) front ≡ false
no_lower_front tokens span [] e = refl
no_lower_front tokens span (other ∷ front) e =
    ap (λ t. (nat_lt other.number span.number && t) || list_any (λ (o : Placed). nat_lt o.number span.number && share_token tokens o.run span.run) front) (none_shared tokens other.run span.run e.0.1)
    ∙ ap (λ t. t || list_any (λ (o : Placed). nat_lt o.number span.number && share_token tokens o.run span.run) front) (and_no (nat_lt other.number span.number))
    ∙ no_lower_front tokens span front e.1

no_lower_back : (tokens : List Frag) (span : Placed) (low n : ℕ) (spans : List Placed) → span.number ≤ n → Ordered low n spans
    → list_any (λ (other : Placed). nat_lt other.number span.number && share_token tokens other.run span.run) spans ≡ false
no_lower_back tokens span low n [] h o = refl
no_lower_back tokens span low n (other ∷ spans) h o =
    ap (λ t. (t && share_token tokens other.run span.run) || list_any (λ (s : Placed). nat_lt s.number span.number && share_token tokens s.run span.run) spans)
    (le-ltb other.number span.number (omega (arith, h, o.0)))
    ∙ no_lower_back tokens span other.run.end (n + 1) spans (omega (arith, h)) o.3

apart_from : (tokens : List Frag) (whole front spans : List Placed) (low n : ℕ) → whole ≡ front ++ spans → EndBefore low front → Ordered low n spans
    → AllByRecursion (λ (span : Placed). shares_lower tokens whole span ≡ false) spans
apart_from tokens whole front [] low n is e o = tt
apart_from tokens whole front (span ∷ spans) low n is e o =
    let test : Placed → Bool = λ other. nat_lt other.number span.number && share_token tokens other.run span.run in
    let none : list_any test front ≡ false = no_lower_front tokens span front (end_later low span.run.start front o.1 e) in
    let later : list_any test (span ∷ spans) ≡ false = no_lower_back tokens span low n (span ∷ spans) (omega (arith, o.0)) o in
    let next : EndBefore span.run.end (front ++ span ∷ []) = end_push span.run.end front span (end_later low span.run.end front (omega (arith, o.1, o.2)) e) o.2 (omega arith) in (
      ap (λ w. shares_lower tokens w span) is ∙ list_any-append test front (span ∷ spans) ∙ ap (λ t. t || list_any test (span ∷ spans)) none ∙ later,
      apart_from tokens whole (front ++ span ∷ []) spans span.run.end (n + 1) (is ∙ sym (append_assoc front (span ∷ []) spans)) next o.3,
    )

pub apart_all : (tokens : List Frag) (spans : List Placed) → Ordered 0 1 spans → AllByRecursion (λ (span : Placed). shares_lower tokens spans span ≡ false) spans
apart_all tokens spans o = apart_from tokens spans [] spans 0 1 refl tt o
