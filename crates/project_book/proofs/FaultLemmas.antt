-- The first entry at fault.
use Rattle.std.proofs.Common.{◌≡◌, ◌≢◌, ◌⊎◌, inl, inr, ℕ, ◌+◌, ◌-◌, ◌<◌, ◌≤◌, ◌==◌, Bool, true, false, cond, List, [], ◌∷◌, ◌++◌, get_or, map, take, slice_get, None, Some, sym, ◌∙◌, ap, subst, arith, append_assoc, append-nil}
use Rattle.std.specs.Prelude.{drop}
use Rattle.std.proofs.lemmas.Bool.{cases_lt}
use Rattle.std.proofs.lemmas.List.{take-append-drop, take-take}
use Rattle.conf_model.specs.ConfText.{conf_text}
use Rattle.conf_model.specs.Configurations.{Configuration}
use Rattle.entry_bytes.specs.declared.entry.Entry.TheVariants as entry
use Rattle.entry_bytes.specs.declared.person.Person.{Person}
use Rattle.entry_bytes.specs.Entries.{entry_bytes}
use Rattle.project_machine.specs.Entries.{pieces_of}
use Rattle.project_machine.specs.History.{encoded}
use Rattle.project_machine.specs.Legal.{IsLegal}
use Rattle.project_machine.specs.Opening.{IsBadEntry, IsBegun, IsReplay, is_lacking, is_not_accepted}
use Rattle.project_machine.specs.Requests.{Happened, Founded}
use Rattle.checkpoint.specs.Runs.{IsFault}
use Rattle.checkpoint.specs.SoundLaws.{CheckpointsHaveNoFault, FaultIsOne, SoundStatesHaveCheckpoints}
use Rattle.project_book.specs.Opening.{AreOfHistory, BeginsWithPiece, IsEntryAtFault, of_changes, of_pieces}
use Rattle.project_book.proofs.StatePiecesProofs.BeginLemmas.{Begins, begins, with_founding, with_state}

-- ---- how entries begin

none_some : {X : Type 0} (x : X) → None ≡ Some x → ⊥
none_some x e = cc

some_same : {X : Type 0} (x y : X) → Some x ≡ Some y → x ≡ y
some_same x y e = cc

first_of : (entries : List (List ℕ)) (first : List ℕ) → slice_get entries 0 ≡ Some first → get_or entries 0 [] ≡ first
first_of [] first is = absurd (none_some first is)
first_of (x ∷ xs) first is = some_same x first is

-- the first entry begins with the byte of a first piece
pub piece_begins : (entries : List (List ℕ)) (first : List ℕ) → slice_get entries 0 ≡ Some first → slice_get first 0 ≡ Some 16 → BeginsWithPiece entries
piece_begins entries first is tag = ap (λ bs. slice_get bs 0) (first_of entries first is) ∙ tag

-- or it does not
pub no_piece_begins : (entries : List (List ℕ)) (first : List ℕ) → slice_get entries 0 ≡ Some first → slice_get first 0 ≢ Some 16 → BeginsWithPiece entries → ⊥
no_piece_begins entries first is other begins = other (sym (ap (λ bs. slice_get bs 0) (first_of entries first is)) ∙ begins)

-- no piece is there
pub nothing_begins_so : (entries : List (List ℕ)) → slice_get entries 0 ≡ None → BeginsWithPiece entries → ⊥
nothing_begins_so [] none begins = none_some 16 begins
nothing_begins_so (x ∷ xs) none begins = none_some x (sym none)

-- ---- the entry at fault

-- where entries begin with a piece, the first that is not read is the first at fault
pub piece_fault : (entries : List (List ℕ)) (n : ℕ) → BeginsWithPiece entries → IsFault entries n → IsEntryAtFault entries n
piece_fault entries n = of_pieces

-- where entries begin with no piece, one with which no history goes on is the first at fault
pub fault_without_pieces : (entries : List (List ℕ)) (n : ℕ) → (BeginsWithPiece entries → ⊥) → IsBadEntry entries n → IsEntryAtFault entries n
fault_without_pieces entries n none bad = of_changes (λ begins. absurd (none begins)) bad

-- behind the entries of a history too
pub fault_behind : (entries : List (List ℕ)) (place : ℕ) (log : List Happened) → IsReplay (take place entries) log → IsBadEntry entries (place + 1) → IsEntryAtFault entries (place + 1)
fault_behind entries place log replay bad =
    let before : place + 1 - 1 ≡ place = omega arith in
    of_changes (λ begins. subst (λ n. AreOfHistory (take n entries)) (sym before) (record { log = log; legal = replay.legal; told = replay.told })) bad

-- ---- nothing that was kept is at fault

none_bad : (entries : List (List ℕ)) (log : List Happened) (n : ℕ) → IsLegal log → entries ≡ encoded log → IsBadEntry entries n → ⊥
none_bad entries log n legal told (is_not_accepted some low begun none) = none (record { log = log; legal = legal; more = drop n entries; told = take-append-drop n entries ∙ told })
none_bad entries log n legal told (is_lacking last begun none) = none log legal told

no_founding_tag : (text : List ℕ) (people : List Person) (level : ℕ) (b : Bool) → slice_get (entry_bytes (cond b (entry.Found text people) (entry.FoundAt text people level))) 0 ≡ Some 16 → ⊥
unfolding entry_bytes
no_founding_tag text people level true e = absurd (let k : 1 ≡ 16 = some_same 1 16 e in omega arith)
no_founding_tag text people level false e = absurd (let k : 15 ≡ 16 = some_same 15 16 e in omega arith)

no_founding : (conf : Configuration) (level : ℕ) (people : List Person) (rest : List Happened) (more : List (List ℕ)) → BeginsWithPiece (encoded (Founded conf level people ∷ rest) ++ more) → ⊥
no_founding conf level people rest more begins = no_founding_tag (conf_text conf) people level (level == 255) begins

-- entries that begin with those of a history, whose first is a piece, have none of a checkpoint at fault
pub no_piece_bad : CheckpointsHaveNoFault → SoundStatesHaveCheckpoints → (log : List Happened) (more : List (List ℕ)) (n : ℕ) → IsLegal log → BeginsWithPiece (encoded log ++ more) → IsFault (encoded log ++ more) n → ⊥
no_piece_bad faultless told log more n legal begins_so fault = by (begins log legal)
  where
    by : Begins log → ⊥
    by (with_founding conf level people rest is same) = no_founding conf level people rest more (subst (λ l. BeginsWithPiece (encoded l ++ more)) same begins_so)
    by (with_state s rest sound same) =
        faultless (map entry_bytes (pieces_of s)) _ s n (told s sound) (subst (λ es. IsFault es n) (append_assoc (map entry_bytes (pieces_of s)) _ more) (subst (λ l. IsFault (encoded l ++ more) n) same fault))

-- none of the entries of a history is at fault
pub none_at_fault : CheckpointsHaveNoFault → SoundStatesHaveCheckpoints → (entries : List (List ℕ)) (log : List Happened) (n : ℕ) → IsLegal log → entries ≡ encoded log → IsEntryAtFault entries n → ⊥
none_at_fault faultless told entries log n legal is (of_pieces begins_so fault) =
    let whole : entries ≡ encoded log ++ [] = is ∙ sym (append-nil (encoded log)) in
    no_piece_bad faultless told log [] n legal (subst BeginsWithPiece whole begins_so) (subst (λ es. IsFault es n) whole fault)
none_at_fault faultless told entries log n legal is (of_changes whole bad) = none_bad entries log n legal is bad

-- ---- one entry at most is at fault

front_begun : (entries : List (List ℕ)) (m : ℕ) → IsBegun entries → IsBegun (take m entries)
front_begun entries m begun = record {
  log = begun.log;
  legal = begun.legal;
  more = drop m entries ++ begun.more;
  told = sym (append_assoc (take m entries) (drop m entries) begun.more) ∙ (ap (λ es. es ++ begun.more) (take-append-drop m entries) ∙ begun.told);
}

-- one that is not accepted is not below one that is reached
not_below : (entries : List (List ℕ)) (m n : ℕ) → 0 < n → IsBegun (take (n - 1) entries) → (IsBegun (take m entries) → ⊥) → m < n → ⊥
not_below entries m n some begun none less = none (subst IsBegun (take-take m (n - 1) entries (omega (arith, some, less))) (front_begun (take (n - 1) entries) m begun))

one_bad : (entries : List (List ℕ)) (m n : ℕ) → IsBadEntry entries m → IsBadEntry entries n → m ≡ n
one_bad entries m n (is_not_accepted some low begun none) (is_not_accepted some_too low_too begun_too none_too) =
    by (cases_lt m n) (cases_lt n m)
  where
    by : (m < n) ⊎ (n ≤ m) → (n < m) ⊎ (m ≤ n) → m ≡ n
    by (inl less) other = absurd (not_below entries m n some_too begun_too none less)
    by (inr up) (inl less) = absurd (not_below entries n m some begun none_too less)
    by (inr up) (inr down) = omega (arith, up, down)
one_bad entries m n (is_not_accepted some low begun none) (is_lacking last begun_too none_too) = absurd (none (front_begun entries m begun_too))
one_bad entries m n (is_lacking last begun none) (is_not_accepted some low begun_too none_too) = absurd (none_too (front_begun entries n begun))
one_bad entries m n (is_lacking last begun none) (is_lacking last_too begun_too none_too) = last ∙ sym last_too

-- where a piece is at fault, no history was told before
apart : CheckpointsHaveNoFault → SoundStatesHaveCheckpoints → (entries : List (List ℕ)) (m n : ℕ) → BeginsWithPiece entries → IsFault entries m → AreOfHistory (take (n - 1) entries) → ⊥
apart faultless told entries m n begins_so fault before =
    let whole : entries ≡ encoded before.log ++ drop (n - 1) entries = sym (take-append-drop (n - 1) entries) ∙ ap (λ es. es ++ drop (n - 1) entries) before.told in
    no_piece_bad faultless told before.log (drop (n - 1) entries) m before.legal (subst BeginsWithPiece whole begins_so) (subst (λ es. IsFault es m) whole fault)

pub one_at_fault : CheckpointsHaveNoFault → SoundStatesHaveCheckpoints → FaultIsOne → (entries : List (List ℕ)) (m n : ℕ) → IsEntryAtFault entries m → IsEntryAtFault entries n → m ≡ n
one_at_fault faultless told one entries m n (of_pieces begins_so fault) (of_pieces begins_too fault_too) = one entries m n fault fault_too
one_at_fault faultless told one entries m n (of_pieces begins_so fault) (of_changes whole bad) = absurd (apart faultless told entries m n begins_so fault (whole begins_so))
one_at_fault faultless told one entries m n (of_changes whole bad) (of_pieces begins_so fault) = absurd (apart faultless told entries n m begins_so fault (whole begins_so))
one_at_fault faultless told one entries m n (of_changes whole bad) (of_changes whole_too bad_too) = one_bad entries m n bad bad_too
