-- Places that rise, searched by halves.
use Rattle.std.proofs.Common.{◌≡◌, ℕ, ◌<◌, ◌≤◌, ◌==◌, ◌&&◌, ◌||◌, inl, inr, true, false, Bool, List, [], ◌∷◌, map, Some, Result, Ok, Err, is_ok, zero, suc, ◌+◌, refl, sym, ◌∙◌, ap, subst, arith, length, get_or, drop, find}
use Rattle.std.specs.List.{list_any}
use Rattle.std.specs.List.Sorted.{IsBinarySearchResult}
use Rattle.std.specs.Ordering.{nat_cmp}
use Rattle.std.proofs.lemmas.Bool.{cases_lt, cond-false, cond-true, eq-eqb, ne_eqb, or_left, or_right}
use Rattle.std.proofs.lemmas.List.{at_drop_more}
use Rattle.std.proofs.lemmas.List.Sorted.{searched}
use Rattle.mark_base.specs.declared.fragments.Frag.{Frag}
use Rattle.char_documents.specs.Tokens.{tokens_of}
use Rattle.token_columns.specs.declared.run.Run.{Run}
use Rattle.token_columns.specs.declared.run.Placed.{Placed}
use Rattle.token_columns.specs.Fits.{is_aligned}
use Rattle.token_columns.specs.WriteRuns.{Rises}
use Rattle.token_columns.proofs.RunLemmas.{Rising}
use Rattle.token_columns.proofs.TokenLemmas.{rising_lower, tokens_rising}

-- ---- a search

above : (low : ℕ) (xs : List ℕ) (j : ℕ) → Rises low xs → j < length xs → low ≤ get_or xs j 0
above low [] j r h = absurd (omega (arith, h))
above low (x ∷ xs) zero r h = r.0
above low (x ∷ xs) (suc j) r h =
    let more : x ≤ get_or xs j 0 = above x xs j r.1 (omega (arith, h)) in omega (arith, r.0, more)

rises_far : (low : ℕ) (xs : List ℕ) (i j : ℕ) → Rises low xs → i ≤ j → j < length xs → get_or xs i 0 ≤ get_or xs j 0
rises_far low [] i j r h less = absurd (omega (arith, less))
rises_far low (x ∷ xs) zero zero r h less = omega arith
rises_far low (x ∷ xs) zero (suc j) r h less = above x xs j r.1 (omega (arith, less))
rises_far low (x ∷ xs) (suc i) zero r h less = absurd (omega (arith, h))
rises_far low (x ∷ xs) (suc i) (suc j) r h less = rises_far x xs i j r.1 (omega (arith, h)) (omega (arith, less))

there : (xs : List ℕ) (i x : ℕ) → i < length xs → get_or xs i 0 ≡ x → list_any (λ other. other == x) xs ≡ true
there [] i x h is = absurd (omega (arith, h))
there (y ∷ xs) zero x h is = or_left (y == x) (list_any (λ other. other == x) xs) (eq-eqb y x is)
there (y ∷ xs) (suc i) x h is = or_right (y == x) (list_any (λ other. other == x) xs) (there xs i x (omega (arith, h)) is)

nowhere : (xs : List ℕ) (x : ℕ) → ((k : ℕ) → k < length xs → get_or xs k 0 ≡ x → ⊥) → list_any (λ other. other == x) xs ≡ false
nowhere [] x none = refl
nowhere (y ∷ xs) x none =
    ap (λ b. b || list_any (λ other. other == x) xs) (ne_eqb y x (none zero (omega arith))) ∙ nowhere xs x (λ k h. none (suc k) (omega (arith, h)))

-- what a search by halves answers of places that rise
pub among : (xs : List ℕ) (x : ℕ) (r : Result ℕ ℕ) → Rises 0 xs → IsBinarySearchResult (λ y. nat_cmp y x) xs r → is_ok r ≡ list_any (λ other. other == x) xs
among xs x (Ok i) rises found =
    let at = searched xs x (Ok i) found (λ i j h less. rises_far 0 xs i j rises h less) in sym (there xs i x at.0 at.1)
among xs x (Err i) rises found =
    let at = searched xs x (Err i) found (λ i j h less. rises_far 0 xs i j rises h less) in
    sym (nowhere xs x (λ k h is. elim (cases_lt k i) [ inl less ↦ omega (arith, at.1 k less, is) | inr more ↦ omega (arith, at.2 k more h, is) ]))

-- ---- where tokens start and end

starts_rise : (low : ℕ) (tokens : List Frag) → Rising low tokens → Rises low (map (λ token. token.start) tokens)
starts_rise low [] r = tt
starts_rise low (token ∷ tokens) r =
    (r.0, starts_rise token.start tokens (rising_lower token.start token.end tokens (omega (arith, r.1)) r.2))

ends_rise : (low : ℕ) (tokens : List Frag) → Rising low tokens → Rises low (map (λ token. token.end) tokens)
ends_rise low [] r = tt
ends_rise low (token ∷ tokens) r = (omega (arith, r.0, r.1), ends_rise token.end tokens r.2)

pub token_starts : (text starts : List ℕ) (tokens : List Frag) → tokens ≡ tokens_of text → starts ≡ map (λ token. token.start) tokens → Rises 0 starts
token_starts text starts tokens own is =
    subst (Rises 0) (sym is) (starts_rise 0 tokens (subst (Rising 0) (sym own) (tokens_rising text)))

pub token_ends : (text ends : List ℕ) (tokens : List Frag) → tokens ≡ tokens_of text → ends ≡ map (λ token. token.end) tokens → Rises 0 ends
token_ends text ends tokens own is =
    subst (Rises 0) (sym is) (ends_rise 0 tokens (subst (Rising 0) (sym own) (tokens_rising text)))

any_start : (x : ℕ) (tokens : List Frag) → list_any (λ other. other == x) (map (λ (token : Frag). token.start) tokens) ≡ list_any (λ (token : Frag). token.start == x) tokens
any_start x [] = refl
any_start x (token ∷ tokens) = ap (λ b. (token.start == x) || b) (any_start x tokens)

any_end : (x : ℕ) (tokens : List Frag) → list_any (λ other. other == x) (map (λ (token : Frag). token.end) tokens) ≡ list_any (λ (token : Frag). token.end == x) tokens
any_end x [] = refl
any_end x (token ∷ tokens) = ap (λ b. (token.end == x) || b) (any_end x tokens)

-- a span goes from a token's start to a token's end, told by where tokens start and end
pub aligned_by : (text starts ends : List ℕ) (tokens : List Frag) (run : Run) (answer : Bool) → tokens ≡ tokens_of text → starts ≡ map (λ token. token.start) tokens → ends ≡ map (λ token. token.end) tokens
    → answer ≡ (list_any (λ start. start == run.start) starts && list_any (λ end. end == run.end) ends) → answer ≡ is_aligned (tokens_of text) run
aligned_by text starts ends tokens run answer own s e is =
    is ∙ ap (λ xs. list_any (λ start. start == run.start) xs && list_any (λ end. end == run.end) ends) s
    ∙ ap (λ xs. list_any (λ start. start == run.start) (map (λ (token : Frag). token.start) tokens) && list_any (λ end. end == run.end) xs) e
    ∙ ap (λ b. b && list_any (λ end. end == run.end) (map (λ (token : Frag). token.end) tokens)) (any_start run.start tokens)
    ∙ ap (λ b. list_any (λ (token : Frag). token.start == run.start) tokens && b) (any_end run.end tokens) ∙ ap (λ ts. is_aligned ts run) own

-- ---- the first span of which a test holds

next_span : (spans : List Placed) (i : ℕ) (d : Placed) → i < length spans → drop i spans ≡ get_or spans i d ∷ drop (i + 1) spans
next_span spans i d h = at_drop_more (λ l. l) spans i d h

pub find_past : (p : Placed → Bool) (spans : List Placed) (i : ℕ) (d : Placed) → i < length spans → p (get_or spans i d) ≡ false → find p (drop (i + 1) spans) ≡ find p (drop i spans)
find_past p spans i d h off =
    sym (ap (find p) (next_span spans i d h) ∙ cond-false (p (get_or spans i d)) (Some (get_or spans i d)) (find p (drop (i + 1) spans)) off)

pub find_here : (p : Placed → Bool) (spans : List Placed) (i : ℕ) (d : Placed) → i < length spans → p (get_or spans i d) ≡ true → find p (drop i spans) ≡ Some (get_or spans i d)
find_here p spans i d h on = ap (find p) (next_span spans i d h) ∙ cond-true (p (get_or spans i d)) (Some (get_or spans i d)) (find p (drop (i + 1) spans)) on
