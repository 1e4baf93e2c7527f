-- How a run of pieces grows.
use Rattle.std.proofs.Common.{◌≡◌, ℕ, ◌+◌, ◌<◌, ◌≤◌, Bool, true, false, List, [], ◌∷◌, ◌++◌, length, map, get_or, take, nat_lt, slice_get, Some, zero, suc, refl, sym, ◌∙◌, ap, subst, arith, append_assoc, append-nil, if◌then◌else◌}
use Rattle.std.specs.List.{All, flat_map, zip, enumerate_from}
use Rattle.std.proofs.lemmas.Bool.{ltb-false}
use Rattle.std.proofs.lemmas.List.{flat_map_more, map-append, take_all, take_more}
use Rattle.std.proofs.lemmas.List.Concat.{flat_map_single}
use Rattle.std.proofs.lemmas.List.FromFn.{get_or-enumerate_from, length-enumerate_from}
use Rattle.std.proofs.lemmas.Option.{get_or_from_slice_get, slice_get_within}
use Rattle.std.proofs.lemmas.Slice.Zip.{get_or-zip}
use Rattle.std.proofs.lemmas.List.Elements.{All-push}
use Rattle.entry_bytes.specs.declared.entry.Entry.{Entry}
use Rattle.entry_bytes.specs.Entries.{entry_bytes}
use Rattle.project_journal.specs.Keeper.{IsEntry}
use Rattle.project_state.specs.declared.entries.written.Written.TheVariants as written
use Rattle.project_state.specs.Entries.Writing.{written_of}

-- ---- one piece

bytes_same : (a b : List ℕ) → written.Bytes a ≡ written.Bytes b → a ≡ b
bytes_same a b e = cc

not_long : (a : List ℕ) (n : ℕ) → written.Bytes a ≡ written.TooLong n → ⊥
not_long a n e = cc

written_by : (bytes whole : List ℕ) (long : Bool) → nat_lt 16777216 (length whole) ≡ long → written.Bytes bytes ≡ (if long then written.TooLong (length whole) else written.Bytes whole) → (bytes ≡ whole) × (length whole ≤ 16777216)
written_by bytes whole true is e = absurd (not_long bytes (length whole) e)
written_by bytes whole false is e = (bytes_same bytes whole e, ltb-false 16777216 (length whole) is)

written_is : (bytes whole : List ℕ) → written.Bytes bytes ≡ written_of whole → (bytes ≡ whole) × (length whole ≤ 16777216)
written_is bytes whole e = written_by bytes whole (nat_lt 16777216 (length whole)) refl e

-- what was written is the piece
pub piece_put : (old new : List (List ℕ)) (bytes : List ℕ) (piece : Entry) → written.Bytes bytes ≡ written_of (entry_bytes piece) → new ≡ old ++ bytes ∷ [] → new ≡ old ++ map entry_bytes (piece ∷ [])
piece_put old new bytes piece e is = is ∙ ap (λ (b : List ℕ). old ++ b ∷ []) (written_is bytes (entry_bytes piece) e).0

-- and a journal takes it
pub pieces_taken : (old new : List (List ℕ)) (bytes : List ℕ) (piece : Entry) → ((e : Entry) → 1 ≤ length (entry_bytes e)) → written.Bytes bytes ≡ written_of (entry_bytes piece) → new ≡ old ++ bytes ∷ [] → All IsEntry old → All IsEntry new
pieces_taken old new bytes piece some e is taken =
    let told : (bytes ≡ entry_bytes piece) × (length (entry_bytes piece) ≤ 16777216) = written_is bytes (entry_bytes piece) e in
    subst (All IsEntry) (sym is) (All-push IsEntry old bytes taken (subst IsEntry (sym told.0) (record { some = some piece; most = told.1 })))

-- ---- pieces behind one another

-- pieces, and others behind them
pub joined : (old mid new : List (List ℕ)) (first behind : List Entry) → mid ≡ old ++ map entry_bytes first → new ≡ mid ++ map entry_bytes behind → new ≡ old ++ map entry_bytes (first ++ behind)
joined old mid new first behind e f =
    f ∙ (ap (λ m. m ++ map entry_bytes behind) e ∙ (append_assoc old (map entry_bytes first) (map entry_bytes behind) ∙ ap (λ m. old ++ m) (sym (map-append entry_bytes first behind))))

-- the pieces of a whole state, part by part
pub whole_told : (f e : Entry) (ds rs xs : List Entry) (none one two three four all : List (List ℕ)) → none ≡ [] → one ≡ none ++ map entry_bytes (f ∷ []) → two ≡ one ++ map entry_bytes ds → three ≡ two ++ map entry_bytes rs → four ≡ three ++ map entry_bytes xs
    → all ≡ four ++ map entry_bytes (e ∷ []) → all ≡ map entry_bytes (f ∷ ds ++ rs ++ xs ++ e ∷ [])
whole_told f e ds rs xs none one two three four all nothing first documents rows shots last =
    let opening : one ≡ [] ++ map entry_bytes (f ∷ []) = first ∙ ap (λ (r : List (List ℕ)). r ++ map entry_bytes (f ∷ [])) nothing in
    let texts : two ≡ [] ++ map entry_bytes (f ∷ ds) = joined [] one two (f ∷ []) ds opening documents in
    let layers : three ≡ [] ++ map entry_bytes (f ∷ ds ++ rs) = joined [] two three (f ∷ ds) rs texts rows in
    let verdicts : four ≡ [] ++ map entry_bytes (f ∷ ds ++ rs ++ xs) = joined [] three four (f ∷ ds ++ rs) xs layers shots in
    joined [] four all (f ∷ ds ++ rs ++ xs) (e ∷ []) verdicts last

-- no piece more
pub nothing_put : (old : List (List ℕ)) → old ≡ old ++ map entry_bytes []
nothing_put old = sym (append-nil old)

-- ---- the pieces of a list, one element after another

-- the pieces of the first elements of a list stand behind those from before
abbrev pub ToldSoFar : {X : Type 0} → (X → List Entry) → List X → List (List ℕ) → List (List ℕ) → ℕ → Type 0
ToldSoFar each xs old now k = now ≡ old ++ map entry_bytes (flat_map each (take k xs))

pub told_none : {X : Type 0} (each : X → List Entry) (xs : List X) (old : List (List ℕ)) → ToldSoFar each xs old old 0
told_none each xs old = nothing_put old

pub told_more : {X : Type 0} (each : X → List Entry) (xs : List X) (old now new : List (List ℕ)) (k : ℕ) (x : X) → k < length xs → x ≡ get_or xs k x → ToldSoFar each xs old now k → new ≡ now ++ map entry_bytes (each x) → ToldSoFar each xs old new (k + 1)
told_more each xs old now new k x within is told more =
    joined old now new (flat_map each (take k xs)) (each x) told more
    ∙ ap (λ (pieces : List Entry). old ++ map entry_bytes pieces)
    (flat_map_more each [] (take k xs) x ∙ ap (λ ys. flat_map each ys) (ap (λ y. take k xs ++ y ∷ []) is ∙ sym (take_more xs k x within)))

pub told_all : {X : Type 0} (each : X → List Entry) (xs : List X) (old now : List (List ℕ)) (k : ℕ) → length xs ≤ k → ToldSoFar each xs old now k → now ≡ old ++ map entry_bytes (flat_map each xs)
told_all each xs old now k all told = told ∙ ap (λ ys. old ++ map entry_bytes (flat_map each ys)) (take_all k xs all)

-- one piece for each element
abbrev pub one_each : {X : Type 0} → (X → Entry) → X → List Entry
one_each piece x = piece x ∷ []

pub told_each : {X : Type 0} (piece : X → Entry) (xs : List X) (old now : List (List ℕ)) (k : ℕ) → length xs ≤ k → ToldSoFar (one_each piece) xs old now k → now ≡ old ++ map entry_bytes (map piece xs)
told_each piece xs old now k all told = told_all (one_each piece) xs old now k all told ∙ ap (λ (pieces : List Entry). old ++ map entry_bytes pieces) (flat_map_single piece xs)

-- ---- lists whose elements are counted, or go beside those of another

pub get_or-same : {X : Type 0} (xs : List X) (k : ℕ) (d : X) → k < length xs → get_or xs k (get_or xs k d) ≡ get_or xs k d
get_or-same [] k d within = absurd (omega arith)
get_or-same (x ∷ xs) zero d within = refl
get_or-same (x ∷ xs) (suc k) d within = get_or-same xs k d (omega arith)

placed_at : {X : Type 0} (xs : List X) (k : ℕ) (d : X) → k < length xs → (k, get_or xs k d) ≡ get_or (enumerate_from 0 xs) k (k, get_or xs k d)
placed_at xs k d within =
    let here : 0 + k ≡ k = omega arith in
    let same : get_or xs k (get_or xs k d) ≡ get_or xs k d = get_or-same xs k d within in
    sym (get_or-enumerate_from 0 xs k (k, get_or xs k d) within ∙ (ap (λ n. (n, get_or xs k (get_or xs k d))) here ∙ ap (λ x. (k, x)) same))

-- one element more of a list whose elements are counted
pub told_numbered_more : {X : Type 0} (each : ℕ × X → List Entry) (xs : List X) (old now new : List (List ℕ)) (k : ℕ) (d : X) → k < length xs → ToldSoFar each (enumerate_from 0 xs) old now k → new ≡ now ++ map entry_bytes (each (k, get_or xs k d)) → ToldSoFar each (enumerate_from 0 xs) old new (k + 1)
told_numbered_more each xs old now new k d within told more =
    let size : length (enumerate_from 0 xs) ≡ length xs = length-enumerate_from 0 xs in
    told_more each (enumerate_from 0 xs) old now new k (k, get_or xs k d) (omega arith) (placed_at xs k d within) told more

pub told_numbered : {X : Type 0} (each : ℕ × X → List Entry) (xs : List X) (old now : List (List ℕ)) (k : ℕ) → length xs ≤ k → ToldSoFar each (enumerate_from 0 xs) old now k → now ≡ old ++ map entry_bytes (flat_map each (enumerate_from 0 xs))
told_numbered each xs old now k all told =
    let size : length (enumerate_from 0 xs) ≡ length xs = length-enumerate_from 0 xs in
    told_all each (enumerate_from 0 xs) old now k (omega arith) told

pub zip_length : {A B : Type 0} (ks : List A) (vs : List B) → length vs ≡ length ks → length (zip ks vs) ≡ length ks
zip_length [] vs same = refl
zip_length (a ∷ ks) [] same = absurd (omega arith)
zip_length (a ∷ ks) (b ∷ vs) same = (let rest : length (zip ks vs) ≡ length ks = zip_length ks vs (omega arith) in omega arith)

-- one element more of a list beside another
pub told_paired_more : {A B : Type 0} (each : A × B → List Entry) (ks : List A) (vs : List B) (old now new : List (List ℕ)) (k : ℕ) (a : A) (b : B) → k < length ks → length vs ≡ length ks → a ≡ get_or ks k a → b ≡ get_or vs k b → ToldSoFar each (zip ks vs) old now k
    → new ≡ now ++ map entry_bytes (each (a, b)) → ToldSoFar each (zip ks vs) old new (k + 1)
told_paired_more each ks vs old now new k a b within same is_a is_b told more =
    let size : length (zip ks vs) ≡ length ks = zip_length ks vs same in
    told_more each (zip ks vs) old now new k (a, b) (omega arith) (ap (λ x. (x, b)) is_a ∙ (ap (λ y. (get_or ks k a, y)) is_b ∙ sym (get_or-zip ks vs k (a, b) within (omega arith)))) told more

pub told_paired : {A B : Type 0} (each : A × B → List Entry) (ks : List A) (vs : List B) (old now : List (List ℕ)) (k : ℕ) → length ks ≤ k → length vs ≡ length ks → ToldSoFar each (zip ks vs) old now k → now ≡ old ++ map entry_bytes (flat_map each (zip ks vs))
told_paired each ks vs old now k all same told =
    let size : length (zip ks vs) ≡ length ks = zip_length ks vs same in
    told_all each (zip ks vs) old now k (omega arith) told

-- the bytes of one element more
pub flat_next : {X : Type 0} (each : X → List ℕ) (xs : List X) (k : ℕ) (x : X) → slice_get xs k ≡ Some x → flat_map each (take (k + 1) xs) ≡ flat_map each (take k xs) ++ each x
flat_next each xs k x is =
    ap (λ ys. flat_map each ys) (take_more xs k x (slice_get_within xs k x is) ∙ ap (λ y. take k xs ++ y ∷ []) (get_or_from_slice_get xs k x x is)) ∙ sym (flat_map_more each [] (take k xs) x)
