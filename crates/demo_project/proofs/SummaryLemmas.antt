-- Sums over documents and snapshots, one more at a time, and what an answer of a project shows.
use Rattle.std.proofs.Common.{◌≡◌, ◌≢◌, ◌⊎◌, ℕ, ◌+◌, ◌-◌, ◌<◌, ◌≤◌, ◌==◌, ◌||◌, Bool, true, false, List, [], ◌∷◌, ◌++◌, length, map, take, get_or, nat_lt, Option, Some, None, option_map, refl, sym, ap, subst, ◌∙◌, zero-add, inl, inr, arith, if◌then◌else◌}
use Rattle.std.specs.List.{sum_by}
use Rattle.std.proofs.lemmas.List.{length-map, take_all, take_more}
use Rattle.std.proofs.lemmas.List.Sums.{sum_by-append}
use Rattle.std.proofs.lemmas.Bool.{cases_lt, le-ltb, lt-ltb}
use Rattle.std.proofs.lemmas.Bool.Decides.{nat_tests}
use Rattle.kappa_alpha.specs.Standing as tables
use Rattle.kappa_alpha.specs.Standing.{Standing, document_at, tokens_in}
use Rattle.kappa_alpha.specs.declared.figures.PairLine.{PairLine}
use Rattle.kappa_alpha.specs.declared.figures.AlphaLine.{AlphaLine}
use Rattle.project_machine.specs.Machine.{view_of}
use Rattle.project_machine.specs.ProjectState.{ProjectState, Snapshot, annotators, is_untaken, no_snapshot, snapshot, snapshot_of}
use Rattle.project_machine.specs.Requests.{Alpha, Happened, Pairs, ReadAlpha, ReadPairs, TakeSnapshot, Taken, View}
use Rattle.project_machine.specs.History.{after}
use Rattle.project_machine.specs.Tables.{all_line, pair_lines}
use Rattle.project_book.specs.Keeping.{AreTables}
use Rattle.demo_project.specs.Reading.{IsRead}
use Rattle.demo_project.specs.Summary.{curated_spans, spans_in, tokens_of_all}

-- ---- tokens

-- no document
pub tokens_none : (docs : List tables.Document) → tokens_in (take 0 docs) ≡ 0
unfolding tokens_in
tokens_none docs = refl

-- one document more
pub tokens_more : (docs : List tables.Document) (k : ℕ) → k < length docs → tokens_in (take (k + 1) docs) ≡ tokens_in (take k docs) + (document_at docs k).tokens
unfolding tokens_in
tokens_more docs k h =
    let f : tables.Document → ℕ = λ d. d.tokens in
    let one : sum_by f (document_at docs k ∷ []) ≡ (document_at docs k).tokens = zero-add (document_at docs k).tokens in
    ap (sum_by f) (take_more docs k tables.no_document h) ∙ sum_by-append f (take k docs) (document_at docs k ∷ []) ∙ ap (λ n. sum_by f (take k docs) + n) one

-- all documents
pub tokens_all : (docs : List tables.Document) (k : ℕ) → length docs ≤ k → tokens_in (take k docs) ≡ tokens_in docs
tokens_all docs k h = ap tokens_in (take_all k docs h)

-- as many documents as in the tables
pub tables_documents : (s : ProjectState) (t : Standing) → AreTables s t → length t.documents ≡ length s.documents
tables_documents s t are = ap (λ (u : Standing). length u.documents) are ∙ length-map s.documents _

-- and as many tokens
pub tables_tokens : (s : ProjectState) (t : Standing) → AreTables s t → tokens_in t.documents ≡ tokens_of_all s
tables_tokens s t are = ap (λ (u : Standing). tokens_in u.documents) are

-- ---- snapshots

-- no snapshot
pub spans_none : (s : ProjectState) (shots : List Snapshot) → spans_in s (take 0 shots) ≡ 0
unfolding spans_in
spans_none s shots = refl

-- one snapshot more
pub spans_more : (s : ProjectState) (shots : List Snapshot) (k : ℕ) → k < length shots → spans_in s (take (k + 1) shots) ≡ spans_in s (take k shots) + curated_spans s (get_or shots k no_snapshot)
unfolding spans_in
spans_more s shots k h =
    let f : Snapshot → ℕ = curated_spans s in
    let one : sum_by f (get_or shots k no_snapshot ∷ []) ≡ f (get_or shots k no_snapshot) = zero-add (f (get_or shots k no_snapshot)) in
    ap (sum_by f) (take_more shots k no_snapshot h) ∙ sum_by-append f (take k shots) (get_or shots k no_snapshot ∷ []) ∙ ap (λ n. sum_by f (take k shots) + n) one

-- all snapshots
pub spans_all : (s : ProjectState) (shots : List Snapshot) (k : ℕ) → length shots ≤ k → spans_in s (take k shots) ≡ spans_in s shots
spans_all s shots k h = ap (spans_in s) (take_all k shots h)

untaken_low : (s : ProjectState) (n : ℕ) → n ≢ 0 → n ≤ length s.snapshots → is_untaken s n ≡ false
untaken_low s n some low =
    let positive : (n == 0) ≡ false = grind (arith, nat_tests, some) in
    ap (λ b. b || nat_lt (length s.snapshots) n) positive ∙ le-ltb (length s.snapshots) n low

or_true : (a b : Bool) → b ≡ true → (a || b) ≡ true
or_true true b h = refl
or_true false b h = h

untaken_high : (s : ProjectState) (n : ℕ) → length s.snapshots < n → is_untaken s n ≡ true
untaken_high s n high = or_true (n == 0) (nat_lt (length s.snapshots) n) (lt-ltb (length s.snapshots) n high)

when_taken : (s : ProjectState) (n : ℕ) → is_untaken s n ≡ false → snapshot_of s n ≡ Some (snapshot s n)
when_taken s n e = ap (λ (b : Bool). if b then None else Some (snapshot s n)) e

when_untaken : (s : ProjectState) (n : ℕ) → is_untaken s n ≡ true → snapshot_of s n ≡ None
when_untaken s n e = ap (λ (b : Bool). if b then None else Some (snapshot s n)) e

-- a snapshot that is not there is behind all
pub none_taken : {Y : Type 0} (s : ProjectState) (k : ℕ) (h : Snapshot → Y) → None ≡ option_map h (snapshot_of s (k + 1)) → length s.snapshots ≤ k
none_taken {Y} s k h none = by (cases_lt k (length s.snapshots))
  where
    by : (k < length s.snapshots) ⊎ (length s.snapshots ≤ k) → length s.snapshots ≤ k
    by (inl low) =
        let there : snapshot_of s (k + 1) ≡ Some (snapshot s (k + 1)) = when_taken s (k + 1) (untaken_low s (k + 1) (omega arith) (omega arith)) in
        let both : ◌≡◌ {A = Option Y} None (Some (h (snapshot s (k + 1)))) = none ∙ ap (option_map h) there in cc
    by (inr high) = high

-- a snapshot that is there is not
pub some_taken : {Y : Type 0} (s : ProjectState) (k : ℕ) (h : Snapshot → Y) (y : Y) → Some y ≡ option_map h (snapshot_of s (k + 1)) → k < length s.snapshots
some_taken {Y} s k h y some = by (cases_lt k (length s.snapshots))
  where
    by : (k < length s.snapshots) ⊎ (length s.snapshots ≤ k) → k < length s.snapshots
    by (inl low) = low
    by (inr high) =
        let absent : snapshot_of s (k + 1) ≡ None = when_untaken s (k + 1) (untaken_high s (k + 1) (omega arith)) in
        let both : ◌≡◌ {A = Option Y} (Some y) None = some ∙ ap (option_map h) absent in cc

-- the spans of one snapshot more, told of a history that is still the same
pub curated_more : (first log : List Happened) (k spans more : ℕ) → log ≡ first → k < length (after log).snapshots → spans ≡ spans_in (after first) (take k (after first).snapshots)
    → more ≡ curated_spans (after log) (snapshot (after log) (k + 1)) → spans + more ≡ spans_in (after first) (take (k + 1) (after first).snapshots)
curated_more first log k spans more same low so_far is =
    let s : ProjectState = after first in
    let low_here : k < length s.snapshots = subst (λ (l : List Happened). k < length (after l).snapshots) same low in
    let is_here : more ≡ curated_spans s (snapshot s (k + 1)) = subst (λ (l : List Happened). more ≡ curated_spans (after l) (snapshot (after l) (k + 1))) same is in
    let back : (k + 1) - 1 ≡ k = omega arith in
    ap (λ n. n + more) so_far
    ∙ ap (λ n. spans_in s (take k s.snapshots) + n) (is_here ∙ ap (λ i. curated_spans s (get_or s.snapshots i no_snapshot)) back)
    ∙ sym (spans_more s s.snapshots k low_here)

-- ---- what is shown

-- a snapshot
pub view_read : (log : List Happened) (caller : List ℕ) (number : ℕ) (view : View) (now : List Happened) → IsRead log caller (TakeSnapshot number) (Taken view) now → view ≡ view_of (after log) (snapshot (after log) number)
view_read log caller number view now read = elim read.told [ inl is ↦ cc | inr refused ↦ let e = refused.2 in cc ]

-- the names of the annotators
pub names_read : (log : List Happened) (caller : List ℕ) (names : List (List ℕ)) (lines : List PairLine) (now : List Happened) → IsRead log caller ReadPairs (Pairs names lines) now → names ≡ annotators (after log)
names_read log caller names lines now read = elim read.told [ inl is ↦ cc | inr refused ↦ let e = refused.2 in cc ]

-- the lines of each two
pub pairs_read : (log : List Happened) (caller : List ℕ) (names : List (List ℕ)) (lines : List PairLine) (now : List Happened) → IsRead log caller ReadPairs (Pairs names lines) now → lines ≡ pair_lines (after log)
pairs_read log caller names lines now read = elim read.told [ inl is ↦ cc | inr refused ↦ let e = refused.2 in cc ]

-- the line of all
pub alpha_read : (log : List Happened) (caller : List ℕ) (line : AlphaLine) (now : List Happened) → IsRead log caller ReadAlpha (Alpha line) now → line ≡ all_line (after log)
alpha_read log caller line now read = elim read.told [ inl is ↦ cc | inr refused ↦ let e = refused.2 in cc ]
