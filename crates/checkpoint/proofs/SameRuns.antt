-- Entries are read in one way: a checkpoint tells one project, and nothing is at fault with it.
use Rattle.std.proofs.Common.{◌≡◌, ◌⊎◌, ℕ, ◌+◌, ◌-◌, ◌<◌, ◌≤◌, true, false, List, [], ◌∷◌, ◌++◌, length, get_or, take, drop, refl, sym, ◌∙◌, ap, subst, arith, inl, inr, append-nil, length-append}
use Rattle.std.proofs.lemmas.Bool.{and_parts, cases_lt}
use Rattle.std.proofs.lemmas.List.{get_or-take, get_or_append_left, get_or_push, length-take-le, nil_from_length, same_from_push, take-append-drop, take-append-le, take-take, take_all, take_at}
use Rattle.entry_bytes.specs.declared.entry.Entry.{Entry}
use Rattle.entry_bytes.specs.declared.entry.Entry.TheVariants as entry
use Rattle.entry_bytes.specs.Entries.{IsEntry, entry_bytes}
use Rattle.layer_model.specs.Annotations.{Annotations}
use Rattle.layer_core.specs.declared.command.Command.{Command}
use Rattle.unanimous_merge.specs.declared.item.ItemId.{ItemId}
use Rattle.curator_decisions.specs.declared.verdict.Verdict.{Verdict}
use Rattle.project_machine.specs.ProjectState.{ProjectState, rater_of}
use Rattle.checkpoint.specs.declared.so_far.Part.{Part}
use Rattle.checkpoint.specs.declared.so_far.Part.TheVariants as part
use Rattle.checkpoint.specs.declared.so_far.SoFar.{SoFar}
use Rattle.checkpoint.specs.Reading.{Begins, Reads, TakesDraft, TakesHeld, TakesLayer, TakesVerdicts, comes_next, is_start, is_whole}
use Rattle.checkpoint.specs.Runs.{IsCheckpoint, IsFault, IsNoFirst, IsNoNext, IsReadTo, begins, goes_on, is_ended, no_end, no_first, no_next}
use Rattle.checkpoint.proofs.SamePieces.{Laws, begins_one, reads_one}
use Rattle.checkpoint.proofs.SameValues.{head_same}
use Rattle.checkpoint.proofs.StandLemmas.{stands}

-- ---- entries that are read leave one thing

some_read : (entries : List (List ℕ)) (so : SoFar) → IsReadTo entries so → 0 < length entries
some_read _ _ (begins e so entered b) = omega arith
some_read _ _ (goes_on entries so now e read entered reads) = omega (arith, length-append entries (entry_bytes e ∷ []))

first_one : Laws → (e : Entry) (a : SoFar) → IsEntry e → Begins e a → (entries : List (List ℕ)) (b : SoFar) → IsReadTo entries b → entry_bytes e ∷ [] ≡ entries → a ≡ b
first_one laws e a entered x _ _ (begins f b other y) same =
    let one : e ≡ f = laws.apart e f entered other (head_same (entry_bytes e) (entry_bytes f) [] [] same) in
    begins_one laws.back f a b (subst (λ (g : Entry). Begins g a) one x) y
first_one laws e a entered x _ _ (goes_on entries so b f read other y) same =
    let some : 0 < length entries = some_read entries so read in
    let size : 1 ≡ length (entries ++ entry_bytes f ∷ []) = ap length same in
    absurd (omega (arith, some, size, length-append entries (entry_bytes f ∷ [])))

next_one : Laws → (es : List (List ℕ)) (so a : SoFar) (e : Entry) → IsReadTo es so → IsEntry e → Reads so e a → ((fs : List (List ℕ)) (c : SoFar) → IsReadTo fs c → es ≡ fs → so ≡ c)
    → (entries : List (List ℕ)) (b : SoFar) → IsReadTo entries b → es ++ entry_bytes e ∷ [] ≡ entries → a ≡ b
next_one laws es so a e read entered x before _ _ (begins f b other y) same =
    let some : 0 < length es = some_read es so read in
    let size : length (es ++ entry_bytes e ∷ []) ≡ 1 = ap length same in
    absurd (omega (arith, some, size, length-append es (entry_bytes e ∷ [])))
next_one laws es so a e read entered x before _ _ (goes_on fs c b f again other y) same =
    let parts : (es ≡ fs) × (entry_bytes e ≡ entry_bytes f) = same_from_push es fs (entry_bytes e) (entry_bytes f) same in
    let one : e ≡ f = laws.apart e f entered other parts.1 in
    reads_one laws c (stands laws.flawless fs c again) f a b (subst (λ (g : Entry). Reads c g a) one (subst (λ (z : SoFar). Reads z e a) (before fs c again parts.0) x)) y

-- the same entries leave the same
pub one_reading : Laws → (es : List (List ℕ)) (a : SoFar) → IsReadTo es a → (fs : List (List ℕ)) (b : SoFar) → IsReadTo fs b → es ≡ fs → a ≡ b
one_reading laws _ _ (begins e a entered x) fs b other same = first_one laws e a entered x fs b other same
one_reading laws _ _ (goes_on es so a e read entered x) fs b other same = next_one laws es so a e read entered x (λ gs c again is. one_reading laws es so read gs c again is) fs b other same

-- ---- nothing is read behind the last piece

false_true : false ≡ true → ⊥
false_true e = cc

not_start : (p : Part) → is_ended p ≡ true → is_start p ≡ true → ⊥
not_start part.Ended ended is = false_true is
not_start _ ended is = false_true ended

not_whole : (p : Part) → is_ended p ≡ true → is_whole p ≡ true → ⊥
not_whole part.Ended ended is = false_true is
not_whole _ ended is = false_true ended

not_next : (p : Part) (doc rater : ℕ) → is_ended p ≡ true → comes_next p doc rater ≡ true → ⊥
not_next part.Ended doc rater ended is = false_true is
not_next _ doc rater ended is = false_true ended

no_layer : (s : ProjectState) (p : Part) (lines : List ℕ) (layer : Annotations) → is_ended p ≡ true → TakesLayer s p lines layer → ⊥
no_layer s (part.Row r) lines layer ended x = false_true ended
no_layer s _ lines layer ended x = absurd x

no_draft : (s : ProjectState) (p : Part) (bytes : List ℕ) (done undone : List Command) → is_ended p ≡ true → TakesDraft s p bytes done undone → ⊥
no_draft s (part.Row r) bytes done undone ended x = false_true ended
no_draft s _ bytes done undone ended x = absurd x

no_held : (s : ProjectState) (p : Part) (who lines : List ℕ) (layer : Annotations) → is_ended p ≡ true → TakesHeld s p who lines layer → ⊥
no_held s (part.Shot h) who lines layer ended x = false_true ended
no_held s _ who lines layer ended x = absurd x

no_verdicts : (s : ProjectState) (p : Part) (bytes : List ℕ) (verdicts : List (ItemId × Verdict)) → is_ended p ≡ true → TakesVerdicts s p bytes verdicts → ⊥
no_verdicts s (part.Shot h) bytes verdicts ended x = false_true ended
no_verdicts s _ bytes verdicts ended x = absurd x

none_behind : (so : SoFar) (e : Entry) (now : SoFar) → is_ended so.part ≡ true → Reads so e now → ⊥
none_behind so (entry.Document name text) now ended x =
    let a = and_parts _ _ x.0 in
    let b = and_parts _ _ a.0 in
    let c = and_parts _ _ b.0 in
    let d = and_parts _ _ c.0 in
    not_start so.part ended d.0
none_behind so (entry.Row doc who revision flags) now ended x =
    let a = and_parts _ _ x.0 in
    let b = and_parts _ _ a.0 in
    let c = and_parts _ _ b.0 in
    let d = and_parts _ _ c.0 in
    let e = and_parts _ _ d.0 in
    not_next so.part doc (rater_of so.state who) ended e.1
none_behind so (entry.Layer lines) now ended x = no_layer so.state so.part lines x.0 ended x.1
none_behind so (entry.Draft bytes) now ended x = no_draft so.state so.part bytes x.0 x.1.0 ended x.1.1
none_behind so (entry.Snapshot doc layers) now ended x =
    let a = and_parts _ _ x.0 in
    let b = and_parts _ _ a.0 in
    let c = and_parts _ _ b.0 in
    let d = and_parts _ _ c.0 in
    let e = and_parts _ _ d.0 in
    not_whole so.part ended e.1
none_behind so (entry.HeldLayer who lines) now ended x = no_held so.state so.part who lines x.0 ended x.1
none_behind so (entry.Decided bytes) now ended x = no_verdicts so.state so.part bytes x.0 ended x.1
none_behind so entry.End now ended x =
    let a = and_parts _ _ x.0 in
    let b = and_parts _ _ a.0 in
    not_whole so.part ended b.1
none_behind so _ now ended x = absurd x

-- ---- the pieces of which entries that are read consist

-- the first of them
record FirstRead (entries : List (List ℕ)) : Type 0 where
  e : Entry
  so : SoFar
  entered : IsEntry e
  is : get_or entries 0 [] ≡ entry_bytes e
  begun : Begins e so

first_read : (entries : List (List ℕ)) (so : SoFar) → IsReadTo entries so → FirstRead entries
first_read _ _ (begins e so entered b) = record { e = e; so = so; entered = entered; is = refl; begun = b }
first_read _ _ (goes_on entries so now e read entered reads) =
    let first : FirstRead entries = first_read entries so read in
    record { e = first.e; so = first.so; entered = first.entered; is = get_or_append_left entries (entry_bytes e ∷ []) [] 0 (some_read entries so read) ∙ first.is; begun = first.begun }

-- the one behind so many, and what those leave
record NextRead (entries : List (List ℕ)) (k : ℕ) : Type 0 where
  e : Entry
  so : SoFar
  now : SoFar
  read : IsReadTo (take k entries) so
  entered : IsEntry e
  is : get_or entries k [] ≡ entry_bytes e
  reads : Reads so e now

next_last : (entries : List (List ℕ)) (so now : SoFar) (e : Entry) (k : ℕ) → length entries ≡ k → IsReadTo entries so → IsEntry e → Reads so e now → NextRead (entries ++ entry_bytes e ∷ []) k
next_last entries so now e k here read entered reads = record {
  e = e;
  so = so;
  now = now;
  read = subst (λ (es : List (List ℕ)). IsReadTo es so) (sym (take_at entries (entry_bytes e ∷ []) k here)) read;
  entered = entered;
  is = get_or_push entries (entry_bytes e) [] k here;
  reads = reads;
}

next_before : (entries : List (List ℕ)) (bytes : List ℕ) (k : ℕ) → k < length entries → NextRead entries k → NextRead (entries ++ bytes ∷ []) k
next_before entries bytes k inside next = record {
  e = next.e;
  so = next.so;
  now = next.now;
  read = subst (λ (es : List (List ℕ)). IsReadTo es next.so) (sym (take-append-le k entries (bytes ∷ []) (omega arith))) next.read;
  entered = next.entered;
  is = get_or_append_left entries (bytes ∷ []) [] k inside ∙ next.is;
  reads = next.reads;
}

next_either : (entries : List (List ℕ)) (so now : SoFar) (e : Entry) (k : ℕ) → IsReadTo entries so → IsEntry e → Reads so e now → k < length (entries ++ entry_bytes e ∷ []) → (k < length entries → NextRead entries k) → (k < length entries) ⊎ (length entries ≤ k)
    → NextRead (entries ++ entry_bytes e ∷ []) k
next_either entries so now e k read entered reads within before (inl inside) = next_before entries (entry_bytes e) k inside (before inside)
next_either entries so now e k read entered reads within before (inr past) = next_last entries so now e k (omega (arith, within, past, length-append entries (entry_bytes e ∷ []))) read entered reads

next_read : (entries : List (List ℕ)) (so : SoFar) → IsReadTo entries so → (k : ℕ) → 0 < k → k < length entries → NextRead entries k
next_read _ _ (begins e so entered b) k some within = absurd (omega arith)
next_read _ _ (goes_on entries so now e read entered reads) k some within = next_either entries so now e k read entered reads within (λ inside. next_read entries so read k some inside) (cases_lt k (length entries))

-- ---- a checkpoint ends with its last piece

longer_not : Laws → (entries es : List (List ℕ)) (last so : SoFar) → IsReadTo entries last → is_ended last.part ≡ true → IsReadTo es so → take (length entries) es ≡ entries → length entries < length es → ⊥
longer_not laws entries es last so read ended more front longer =
    let next : NextRead es (length entries) = next_read es so more (length entries) (some_read entries last read) longer in
    let same : last ≡ next.so = one_reading laws entries last read (take (length entries) es) next.so next.read (sym front) in
    none_behind next.so next.e next.now (subst (λ (z : SoFar). is_ended z.part ≡ true) same ended) next.reads

-- entries that are read, and begin with a checkpoint, are no more than it
ends_there : Laws → (entries es : List (List ℕ)) (last so : SoFar) → IsReadTo entries last → is_ended last.part ≡ true → IsReadTo es so → take (length entries) es ≡ entries → es ≡ entries
ends_there laws entries es last so read ended more front = by (cases_lt (length entries) (length es))
  where
    by : (length entries < length es) ⊎ (length es ≤ length entries) → es ≡ entries
    by (inl longer) = absurd (longer_not laws entries es last so read ended more front longer)
    by (inr all) = sym (take_all (length entries) es all) ∙ front

-- no checkpoint goes on behind another, and the same entries tell one project
pub one_checkpoint : Laws → (entries more : List (List ℕ)) (s t : ProjectState) → IsCheckpoint entries s → IsCheckpoint (entries ++ more) t → (more ≡ []) × (s ≡ t)
one_checkpoint laws entries more s t is other =
    let whole : entries ++ more ≡ entries = ends_there laws entries (entries ++ more) is.so other.so is.read is.ended other.read (take_at entries more (length entries) refl) in
    let size : length (entries ++ more) ≡ length entries = ap length whole in
    let same : is.so ≡ other.so = one_reading laws entries is.so is.read (entries ++ more) other.so other.read (sym whole) in
    (nil_from_length more (omega (arith, size, length-append entries more)), sym is.told ∙ (ap (λ (z : SoFar). z.state) same ∙ other.told))

-- ---- nothing is at fault with a checkpoint

first_faultless : (entries more : List (List ℕ)) (so : SoFar) → IsReadTo entries so → ((e : Entry) (now : SoFar) → IsEntry e → entry_bytes e ≡ get_or (entries ++ more) 0 [] → Begins e now → ⊥) → ⊥
first_faultless entries more so read none =
    let first : FirstRead entries = first_read entries so read in
    none first.e first.so first.entered (sym (get_or_append_left entries more [] 0 (some_read entries so read) ∙ first.is)) first.begun

next_faultless : Laws → (entries more : List (List ℕ)) (last so : SoFar) (k : ℕ) → IsReadTo entries last → 0 < k → k < length entries → IsReadTo (take k (entries ++ more)) so
    → ((e : Entry) (now : SoFar) → IsEntry e → entry_bytes e ≡ get_or (entries ++ more) k [] → Reads so e now → ⊥) → ⊥
next_faultless laws entries more last so k read some inside front none =
    let next : NextRead entries k = next_read entries last read k some inside in
    let same : next.so ≡ so = one_reading laws (take k entries) next.so next.read (take k (entries ++ more)) so front (sym (take-append-le k entries more (omega arith))) in
    none next.e next.now next.entered (sym (get_or_append_left entries more [] k inside ∙ next.is)) (subst (λ (z : SoFar). Reads z next.e next.now) same next.reads)

-- what is read behind a checkpoint is ended
not_going : Laws → (entries es : List (List ℕ)) (last so : SoFar) → IsReadTo entries last → is_ended last.part ≡ true → IsReadTo es so → take (length entries) es ≡ entries → is_ended so.part ≡ false → ⊥
not_going laws entries es last so read ended more front going =
    let whole : es ≡ entries = ends_there laws entries es last so read ended more front in
    let same : last ≡ so = one_reading laws entries last read es so more (sym whole) in
    false_true (sym going ∙ subst (λ (z : SoFar). is_ended z.part ≡ true) same ended)

front_of : (entries more : List (List ℕ)) (k : ℕ) → length entries ≤ k → take (length entries) (take k (entries ++ more)) ≡ entries
front_of entries more k past = take-take (length entries) k (entries ++ more) past ∙ take_at entries more (length entries) refl

pub no_fault : Laws → (entries more : List (List ℕ)) (s : ProjectState) (n : ℕ) → IsCheckpoint entries s → IsFault (entries ++ more) n → ⊥
no_fault laws entries more s n is (no_first first none) = first_faultless entries more is.so is.read none
no_fault laws entries more s n is (no_next so some within front going none) = by (cases_lt (n - 1) (length entries))
  where
    by : (n - 1 < length entries) ⊎ (length entries ≤ n - 1) → ⊥
    by (inl inside) = next_faultless laws entries more is.so so (n - 1) is.read (omega arith) inside front none
    by (inr past) = not_going laws entries (take (n - 1) (entries ++ more)) is.so so is.read is.ended front (front_of entries more (n - 1) past) going
no_fault laws entries more s n is (no_end so at read going) = not_going laws entries (entries ++ more) is.so so is.read is.ended read (take_at entries more (length entries) refl) going

-- so it is where nothing stands behind it
pub no_fault_alone : Laws → (entries : List (List ℕ)) (s : ProjectState) (n : ℕ) → IsCheckpoint entries s → IsFault entries n → ⊥
no_fault_alone laws entries s n is fault = no_fault laws entries [] s n is (subst (λ (es : List (List ℕ)). IsFault es n) (sym (append-nil entries)) fault)

-- ---- the first at fault is one

-- bytes are no first piece where entries that are read begin with them
never_first : (entries : List (List ℕ)) (k : ℕ) (so : SoFar) → 0 < k → IsReadTo (take k entries) so → IsNoFirst (get_or entries 0 []) → ⊥
never_first entries k so some read none =
    let first : FirstRead (take k entries) = first_read (take k entries) so read in
    none first.e first.so first.entered (sym (sym (get_or-take k entries 0 [] some) ∙ first.is)) first.begun

-- and no next one where they stand among entries that are read
never_next : Laws → (entries : List (List ℕ)) (j k : ℕ) (last so : SoFar) → 0 < j → j < k → k ≤ length entries → IsReadTo (take k entries) last → IsReadTo (take j entries) so → IsNoNext so (get_or entries j []) → ⊥
never_next laws entries j k last so some low within read front none =
    let size : length (take k entries) ≡ k = length-take-le k entries within in
    let next : NextRead (take k entries) j = next_read (take k entries) last read j some (omega (arith, size, low)) in
    let same : next.so ≡ so = one_reading laws (take j (take k entries)) next.so next.read (take j entries) so front (take-take j k entries (omega arith)) in
    none next.e next.now next.entered (sym (sym (get_or-take k entries j [] low) ∙ next.is)) (subst (λ (z : SoFar). Reads z next.e next.now) same next.reads)

-- it stands behind all entries that are read
behind_read : Laws → (entries : List (List ℕ)) (k n : ℕ) (so : SoFar) → 0 < k → k ≤ length entries → IsReadTo (take k entries) so → IsFault entries n → k < n
behind_read laws entries k n so some within read (no_first first none) = absurd (never_first entries k so some read none)
behind_read laws entries k n so some within read (no_next here more inside front going none) = by (cases_lt k n)
  where
    by : (k < n) ⊎ (n ≤ k) → k < n
    by (inl low) = low
    by (inr past) = absurd (never_next laws entries (n - 1) k so here (omega arith) (omega (arith, past, more)) within read front none)
behind_read laws entries k n so some within read (no_end here at front going) = omega (arith, at, within)

fault_counts : (entries : List (List ℕ)) (n : ℕ) → IsFault entries n → 0 < n
fault_counts entries n (no_first first none) = omega (arith, first)
fault_counts entries n (no_next so some within front going none) = omega (arith, some)
fault_counts entries n (no_end so at front going) = omega (arith, at)

no_later : Laws → (entries : List (List ℕ)) (m n : ℕ) → IsFault entries m → IsFault entries n → m ≤ n
no_later laws entries m n (no_first first none) fault = let some : 0 < n = fault_counts entries n fault in omega (arith, first, some)
no_later laws entries m n (no_next so some within front going none) fault =
    let before : m - 1 < n = behind_read laws entries (m - 1) n so (omega arith) (omega (arith, within)) front fault in
    omega (arith, before, some)
no_later laws entries m n (no_end so at front going) fault =
    let all : take (length entries) entries ≡ entries = take_all (length entries) entries (omega arith) in
    let before : length entries < n = behind_read laws entries (length entries) n so (some_read entries so front) (omega arith) (subst (λ (es : List (List ℕ)). IsReadTo es so) (sym all) front) fault in
    omega (arith, before, at)

pub one_fault : Laws → (entries : List (List ℕ)) (m n : ℕ) → IsFault entries m → IsFault entries n → m ≡ n
one_fault laws entries m n first second =
    let low : m ≤ n = no_later laws entries m n first second in
    let high : n ≤ m = no_later laws entries n m second first in
    omega arith

-- ---- entries that begin with two checkpoints

-- of two lists that begin entries alike, the longer goes on behind the shorter
longer_goes_on : (p q more other : List (List ℕ)) → length p ≤ length q → p ++ more ≡ q ++ other → q ≡ p ++ drop (length p) q
longer_goes_on p q more other short same =
    let front : take (length p) q ≡ p = sym (take-append-le (length p) q other short) ∙ (ap (take (length p)) (sym same) ∙ take_at p more (length p) refl) in
    sym (ap (λ (xs : List (List ℕ)). xs ++ drop (length p) q) (sym front) ∙ take-append-drop (length p) q)

shorter_told : Laws → (p q more other : List (List ℕ)) (s t : ProjectState) → IsCheckpoint p s → IsCheckpoint q t → length p ≤ length q → p ++ more ≡ q ++ other → s ≡ t
shorter_told laws p q more other s t is it short same = (one_checkpoint laws p (drop (length p) q) s t is (subst (λ (es : List (List ℕ)). IsCheckpoint es t) (longer_goes_on p q more other short same) it)).1

-- entries that begin with two checkpoints begin with one
pub told_apart : Laws → (p q more other : List (List ℕ)) (s t : ProjectState) → IsCheckpoint p s → IsCheckpoint q t → p ++ more ≡ q ++ other → s ≡ t
told_apart laws p q more other s t is it same = by (cases_lt (length p) (length q))
  where
    by : (length p < length q) ⊎ (length q ≤ length p) → s ≡ t
    by (inl less) = shorter_told laws p q more other s t is it (omega arith) same
    by (inr short) = sym (shorter_told laws q p other more t s it is short (sym same))
