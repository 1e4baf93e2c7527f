-- A history is told by its entries: each next entry tells the change that goes on with it.
use Rattle.std.proofs.Common.{◌≡◌, ◌≢◌, ℕ, ◌+◌, ◌-◌, ◌<◌, ◌≤◌, ◌==◌, Bool, true, false, cond, List, [], ◌∷◌, ◌++◌, length, map, get_or, take, Option, Some, None, IfSome, option_map, slice_get, suc, refl, sym, ◌∙◌, ap, subst, arith, append-nil}
use Rattle.std.specs.Arc.{arc_value}
use Rattle.std.specs.Prelude.{IfNone}
use Rattle.std.proofs.lemmas.List.{append_assoc, append_cancel_left, take_more}
use Rattle.entry_bytes.specs.declared.entry.Entry.{Entry}
use Rattle.entry_bytes.specs.declared.entry.Entry.TheVariants as entry
use Rattle.entry_bytes.specs.declared.person.Person.{Person}
use Rattle.entry_bytes.specs.Entries.{entry_bytes, IsEntry}
use Rattle.conf_model.specs.Configurations.{Configuration}
use Rattle.conf_model.specs.ConfText.{conf_text}
use Rattle.project_machine.specs.ProjectState.{ProjectState, is_some_out}
use Rattle.project_machine.specs.Requests.{Asked, Happened, Founded, TextAdded, CheckedOut, TakenOver, LayerCommitted, LayerParked, LayerFinished, LayerReopened, LayerIgnored, LayerReadmitted, SnapshotTaken, ItemDecided, ItemUndecided, AllFreed, Restored}
use Rattle.project_machine.specs.RequestValues.{IsAsked}
use Rattle.project_machine.specs.Entries.{entries_of, entry_of, first_piece, founding_entry, pieces_of}
use Rattle.project_machine.specs.Machine.{step}
use Rattle.project_machine.specs.AskedFor.{asked_for, next_by}
use Rattle.project_machine.specs.Asking.{entry_behind}
use Rattle.project_machine.specs.History.{after, after_places, effect, encoded, encoded_from, numbered_from, place_behind, unfounded}
use Rattle.project_machine.specs.Legal.{IsFounding, IsKept, IsLegal, legal_founding, legal_freeing}
use Rattle.project_machine.specs.Opening.{GoesOn, IsBadEntry, IsBegun, IsReplay, freeing_bytes, is_lacking, is_not_accepted}
use Rattle.project_machine.proofs.HistoryLemmas.{front_legal, legal_some, step_next}
use Rattle.project_machine.proofs.OpenLemmas.{encoded_more}
use Rattle.project_state.specs.declared.entries.asking.Asking.{Asking}
use Rattle.project_state.specs.Entries.Asking.{CanBeNext, TellsRequest, plain_asking}
use Rattle.project_state.specs.declared.entries.founding.Founding.{Founding}
use Rattle.project_state.specs.Entries.Founding.{IsFoundingOf, founded as told_founding}
use Rattle.project_book.proofs.StatePiecesProofs.BeginLemmas.{Begins, begins, with_founding, with_state}
use Rattle.project_book.proofs.StatePiecesProofs.ConfLemmas.{ReadBack}
use Rattle.project_state.specs.declared.act.Act.{Act}
use Rattle.project_state.specs.declared.act.Act.TheVariants as act
use Rattle.project_state.specs.declared.change.Change.TheVariants as change
use Rattle.project_state.specs.Acting.{CanAct, FitsRows, performed}
use Rattle.project_state.specs.Values.{happened_of}
use Rattle.project_state.specs.Tables.Tabling.{tabling_by, tabling_of}
use Rattle.project_steps.specs.declared.steps.judging.Kept.{Kept}
use Rattle.project_steps.specs.Steps.Judging.{kept_happens}
use Rattle.project_book.specs.Founding.{founded}
use Rattle.project_book.specs.Replaying.{HasEntry, IsAskedBy, IsAskingOf, IsFoundingBy, IsFreeing, IsMadeBy, IsNextKept, IsNoBeginning, IsNoneNext, IsOnlyNext, IsReading, IsTakenUp}
use Rattle.project_book.proofs.BookLemmas.{one_entry}
use Rattle.project_book.proofs.EntryLemmas.{Goes, WrittenIsUtf8, by_freeing, by_request, founding_is, goes, next_is}

-- ---- laws of entries and of requests

-- no two entries have the same bytes
abbrev pub ToldApart : Type 0
ToldApart = (d e : Entry) → IsEntry d → IsEntry e → entry_bytes d ≡ entry_bytes e → d ≡ e

-- a change tells the request that made it
abbrev pub TellsAsked : Type 0
TellsAsked = (s : ProjectState) (caller : List ℕ) (asked : Asked) (happened : Happened) → (step s caller asked).change ≡ Some happened → asked_for s happened ≡ Some (caller, asked)

-- which makes it again
abbrev pub TellsNextBy : Type 0
TellsNextBy = (s : ProjectState) (caller : List ℕ) (asked : Asked) (happened : Happened) → (step s caller asked).change ≡ Some happened → next_by s happened ≡ Some happened

-- what histories keep
abbrev pub LegalIsKept : Type 0
LegalIsKept = (log : List Happened) → IsLegal log → IsKept (after log)

none_some : {X : Type 0} (x : X) → None ≡ Some x → ⊥
none_some x e = cc

some_same : {X : Type 0} (x y : X) → Some x ≡ Some y → x ≡ y
some_same x y e = cc

-- ---- a change that goes on with a history

pub goes_of : (log : List Happened) (bytes : List ℕ) (e : Happened) → IsLegal log → HasEntry log bytes e → Goes log e
goes_of log bytes e legal has = goes log e (legal_some log legal) has.legal

freed_next : (s : ProjectState) → is_some_out s ≡ true → next_by s AllFreed ≡ Some AllFreed
freed_next s is = ap (λ b. cond b (Some AllFreed) None) is

can_be : TellsAsked → TellsNextBy → (log : List Happened) (e : Happened) → Goes log e → CanBeNext (after log) e
can_be tells again log e (by_request caller asked typed is) = record {
  typed = subst (λ (o : Option (List ℕ × Asked)). IfSome o (λ asking. IsAsked asking.1)) (sym (tells (after log) caller asked e is)) typed;
  made = again (after log) caller asked e is;
}
can_be tells again log e (by_freeing same is) = subst (CanBeNext (after log)) (sym same) (record { typed = tt; made = freed_next (after log) is })

-- its entry is that of the bytes
same_entry : WrittenIsUtf8 → LegalIsKept → ToldApart → (log : List Happened) (bytes : List ℕ) (d : Entry) (e : Happened) → IsLegal log → IsEntry d → entry_bytes d ≡ bytes → HasEntry log bytes e → entry_of (after log) e ≡ d
same_entry written kept apart log bytes d e legal is same has =
    apart (entry_of (after log) e) d (next_is written log e (kept log legal) (goes_of log bytes e legal has)) is (sym has.entry ∙ sym same)

-- bytes that are no entry are none of it
pub none_without_entry : WrittenIsUtf8 → LegalIsKept → (log : List Happened) (bytes : List ℕ) → IsLegal log → ((e : Entry) → IsEntry e → entry_bytes e ≡ bytes → ⊥) → IsNoneNext log bytes
none_without_entry written kept log bytes legal isnt = λ e has. isnt (entry_of (after log) e) (next_is written log e (kept log legal) (goes_of log bytes e legal has)) (sym has.entry)

-- what is told of an entry is what each change of it was asked for
pub asked_by : WrittenIsUtf8 → LegalIsKept → ToldApart → TellsAsked → TellsNextBy → (log : List Happened) (bytes : List ℕ) (d : Entry) (told : Option Asking) → IsLegal log → IsEntry d → entry_bytes d ≡ bytes → TellsRequest (after log) d told
    → IsAskedBy log bytes (option_map plain_asking told)
asked_by written kept apart tells again log bytes d told legal is same reads = λ e has.
    reads e (can_be tells again log e (goes_of log bytes e legal has)) (same_entry written kept apart log bytes d e legal is same has)

none_asked : TellsAsked → (log : List Happened) (e : Happened) → Goes log e → asked_for (after log) e ≡ None → e ≡ AllFreed
none_asked tells log e (by_request caller asked typed is) none = absurd (none_some (caller, asked) (sym none ∙ tells (after log) caller asked e is))
none_asked tells log e (by_freeing same is) none = same

-- where nobody is told to ask and the bytes are not those of a freeing, no change has them
pub none_unasked : WrittenIsUtf8 → LegalIsKept → ToldApart → TellsAsked → TellsNextBy → (log : List Happened) (bytes : List ℕ) (d : Entry) → IsLegal log → IsEntry d → entry_bytes d ≡ bytes → bytes ≢ freeing_bytes → TellsRequest (after log) d None
    → IsNoneNext log bytes
none_unasked written kept apart tells again log bytes d legal is same isnt reads = λ e has.
    let freed : e ≡ AllFreed = none_asked tells log e (goes_of log bytes e legal has) (asked_by written kept apart tells again log bytes d None legal is same reads e has) in
    isnt (has.entry ∙ ap (entry_behind log) freed)

-- the bytes of a freeing
pub freeing_is : freeing_bytes ≡ 12 ∷ []
unfolding entry_bytes
freeing_is = refl

-- ---- a freeing

founding_freeing : (conf : List ℕ) (people : List Person) (level : ℕ) (b : Bool) → cond b (entry.Found conf people) (entry.FoundAt conf people level) ≡ entry.FreeAll → ⊥
founding_freeing conf people level true e = cc
founding_freeing conf people level false e = cc

-- the entry of a freeing is that of no other change
freeing_only : (s : ProjectState) (e : Happened) → entry_of s e ≡ entry.FreeAll → e ≡ AllFreed
freeing_only s (Founded conf level people) same = absurd (founding_freeing (conf_text conf) people level (level == 255) same)
freeing_only s (TextAdded by name text) same = cc
freeing_only s (CheckedOut by doc) same = cc
freeing_only s (TakenOver by doc) same = cc
freeing_only s (LayerCommitted by doc hold layer) same = cc
freeing_only s (LayerParked by doc hold done undone) same = cc
freeing_only s (LayerFinished by doc) same = cc
freeing_only s (LayerReopened by doc who) same = cc
freeing_only s (LayerIgnored by doc who) same = cc
freeing_only s (LayerReadmitted by doc who) same = cc
freeing_only s (SnapshotTaken by doc) same = cc
freeing_only s (ItemDecided by number holder id verdict) same = cc
freeing_only s (ItemUndecided by number holder id) same = cc
freeing_only s AllFreed same = refl
freeing_only s (Restored place state) same = cc

only_freeing : WrittenIsUtf8 → LegalIsKept → ToldApart → (log : List Happened) (bytes : List ℕ) (e : Happened) → IsLegal log → bytes ≡ freeing_bytes → HasEntry log bytes e → e ≡ AllFreed
only_freeing written kept apart log bytes e legal same has = freeing_only (after log) e (same_entry written kept apart log bytes entry.FreeAll e legal tt (sym same) has)

true_false : true ≡ false → ⊥
true_false e = cc

still_out : TellsAsked → (log : List Happened) (e : Happened) → e ≡ AllFreed → Goes log e → is_some_out (after log) ≡ true
still_out tells log e same (by_request caller asked typed is) =
    absurd (none_some (caller, asked) (ap (asked_for (after log)) (sym same) ∙ tells (after log) caller asked e is))
still_out tells log e same (by_freeing freed is) = is

-- the freeing that goes on with a history is the one change of its entry
pub freeing_next : WrittenIsUtf8 → LegalIsKept → ToldApart → TellsAsked → (log : List Happened) (bytes : List ℕ) (o : Option Kept) → IsLegal log → bytes ≡ freeing_bytes → IsFreeing log o → IsNextKept log bytes o
freeing_next written kept apart tells log bytes None legal same none = λ e has.
    let freed : e ≡ AllFreed = only_freeing written kept apart log bytes e legal same has in
    true_false (sym (still_out tells log e freed (goes_of log bytes e legal has)) ∙ none)
freeing_next written kept apart tells log bytes (Some change) legal same is =
    (is.0, is.1 ∙ sym same, λ e has. only_freeing written kept apart log bytes e legal same has ∙ sym is.2)

-- ---- a request

asked_same : TellsAsked → (log : List Happened) (bytes : List ℕ) (e : Happened) (asking : List ℕ × Asked) → IsLegal log → asked_for (after log) e ≡ Some asking → Goes log e → (step (after log) asking.0 asking.1).change ≡ Some e
asked_same tells log bytes e asking legal told (by_request caller asked typed is) =
    let same : asking ≡ (caller, asked) = some_same asking (caller, asked) (sym told ∙ tells (after log) caller asked e is) in
    subst (λ (p : List ℕ × Asked). (step (after log) p.0 p.1).change ≡ Some e) (sym same) is
asked_same tells log bytes e asking legal told (by_freeing same is) = absurd (none_some asking (ap (asked_for (after log)) (sym same) ∙ told))

made_of : TellsAsked → (log : List Happened) (bytes : List ℕ) (e : Happened) (asking : List ℕ × Asked) → IsLegal log → IsAskedBy log bytes (Some asking) → HasEntry log bytes e → (step (after log) asking.0 asking.1).change ≡ Some e
made_of tells log bytes e asking legal told has = asked_same tells log bytes e asking legal (told e has) (goes_of log bytes e legal has)

only_made : TellsAsked → (log : List Happened) (bytes : List ℕ) (asking : List ℕ × Asked) (change : Kept) → IsLegal log → IsAskedBy log bytes (Some asking) → IsMadeBy log asking (Some change) → IsOnlyNext log bytes (kept_happens change)
only_made tells log bytes asking change legal told made = λ e has. sym (some_same (kept_happens change) e (sym made.0 ∙ made_of tells log bytes e asking legal told has))

-- the change of a request is the one of these bytes where its entry has them; else there is none
pub made_next : TellsAsked → (log : List Happened) (bytes : List ℕ) (asking : List ℕ × Asked) (made found : Option Kept) → IsLegal log → IsAskedBy log bytes (Some asking) → IsMadeBy log asking made
    → IfSome found (λ kept. (made ≡ Some kept) × (kept.entry ≡ bytes)) → IfNone found (IfSome made (λ kept. kept.entry ≢ bytes)) → IsNextKept log bytes found
made_next tells log bytes asking None None legal told none same other = λ e has. none_some e (sym none ∙ made_of tells log bytes e asking legal told has)
made_next tells log bytes asking (Some kept) None legal told made same other = λ e has.
    let one : e ≡ kept_happens kept = only_made tells log bytes asking kept legal told made e has in
    other (made.1.change.entry ∙ sym (has.entry ∙ ap (entry_behind log) one))
made_next tells log bytes asking made (Some kept) legal told is same other =
    let here : IsMadeBy log asking (Some kept) = subst (IsMadeBy log asking) same.0 is in
    (here.1, same.1, only_made tells log bytes asking kept legal told here)

-- ---- the entries of a longer history

-- the place behind a history that began behind one
place_from : ℕ → List Happened → ℕ
place_from before [] = before
place_from before (x ∷ xs) = place_from (place_behind x before) xs

encoded_append_from : (s : ProjectState) (before : ℕ) (log more : List Happened)
    → encoded_from s (numbered_from before (log ++ more)) ≡ encoded_from s (numbered_from before log) ++ encoded_from (after_places s (numbered_from before log)) (numbered_from (place_from before log) more)
unfolding place_from
encoded_append_from s before [] more = refl
encoded_append_from s before (x ∷ xs) more =
    ap (λ rest. map entry_bytes (entries_of s x) ++ rest) (encoded_append_from (effect (place_behind x before) x s) (place_behind x before) xs more)
    ∙ sym (append_assoc (map entry_bytes (entries_of s x)) _ _)

encoded_append : (log more : List Happened) → encoded (log ++ more) ≡ encoded log ++ encoded_from (after log) (numbered_from (place_from 0 log) more)
encoded_append log more = encoded_append_from unfounded 0 log more

goes_one : (log : List Happened) (e : Happened) → Goes log e → entries_of (after log) e ≡ entry_of (after log) e ∷ []
goes_one log e (by_request caller asked typed is) = one_entry (after log) e (step_next (after log) caller asked e 0 is) (step_next (after log) caller asked e 1 is)
goes_one log e (by_freeing same is) = subst (λ x. entries_of (after log) x ≡ entry_of (after log) x ∷ []) (sym same) refl

take_whole : (log : List Happened) (x : Happened) (rest : List Happened) → take (length log + 1) (log ++ x ∷ rest) ≡ log ++ x ∷ []
take_whole [] x [] = refl
take_whole [] x (y ∷ rest) = refl
take_whole (z ∷ log) x rest =
    let next : suc (length log) + 1 ≡ suc (length log + 1) = omega arith in
    ap (λ n. take n (z ∷ (log ++ x ∷ rest))) next ∙ ap (λ l. z ∷ l) (take_whole log x rest)

next_legal : (log : List Happened) (x : Happened) (rest : List Happened) → IsLegal (log ++ x ∷ rest) → IsLegal (log ++ x ∷ [])
next_legal log x rest legal = subst IsLegal (take_whole log x rest) (front_legal (length log + 1) (log ++ x ∷ rest) legal (omega arith))

head_same : (x y : List ℕ) (xs ys : List (List ℕ)) → x ∷ xs ≡ y ∷ ys → x ≡ y
head_same x y xs ys e = cc

nil_cons : (x : List ℕ) (xs : List (List ℕ)) → x ∷ xs ≡ [] → ⊥
nil_cons x xs e = cc

-- what goes on with a history by one more entry
record IsNext (log : List Happened) (bytes : List ℕ) (other : List Happened) : Type 0 where
  change : Happened
  rest : List Happened
  has : HasEntry log bytes change
  whole : other ≡ log ++ change ∷ rest

next_by_rest : (log : List Happened) (bytes : List ℕ) (more : List (List ℕ)) (other rest : List Happened) → IsLegal log → IsLegal other → other ≡ log ++ rest → bytes ∷ more ≡ encoded_from (after log) (numbered_from (place_from 0 log) rest) → IsNext log bytes other
next_by_rest log bytes more other [] legal whole is same = absurd (nil_cons bytes more same)
next_by_rest log bytes more other (x ∷ rest) legal whole is same =
    let next : IsLegal (log ++ x ∷ []) = next_legal log x rest (subst IsLegal is whole) in
    let one : entries_of (after log) x ≡ entry_of (after log) x ∷ [] = goes_one log x (goes log x (legal_some log legal) next) in
    record {
      change = x;
      rest = rest;
      has = record { legal = next; entry = head_same bytes (entry_behind log x) more _ (same ∙ ap (λ es. map entry_bytes es ++ encoded_from (effect (place_behind x (place_from 0 log)) x (after log)) (numbered_from (place_behind x (place_from 0 log)) rest)) one) };
      whole = is;
    }

next_of : (entries : List (List ℕ)) (log : List Happened) (bytes : List ℕ) (other : List Happened) (more : List (List ℕ)) → IsReplay entries log → IsLegal other → (entries ++ bytes ∷ []) ++ more ≡ encoded other → IsNext log bytes other
next_of entries log bytes other more replay legal same =
    let parts : entries ++ bytes ∷ more ≡ encoded other = sym (append_assoc entries (bytes ∷ []) more) ∙ same in
    let on : GoesOn log other = replay.only other (bytes ∷ more) legal parts in
    next_by_rest log bytes more other on.0 replay.legal legal on.1
    (append_cancel_left (encoded log) (bytes ∷ more) _ (ap (λ es. es ++ bytes ∷ more) (sym replay.told) ∙ (parts ∙ (ap encoded on.1 ∙ encoded_append log on.0))))

-- one more entry
pub replay_more : (entries : List (List ℕ)) (log : List Happened) (bytes : List ℕ) (now : List Happened) → IsReplay entries log → IsTakenUp log bytes now true → IsReplay (entries ++ bytes ∷ []) now
replay_more entries log bytes now replay is =
    subst (IsReplay (entries ++ bytes ∷ [])) (sym is.3) (record {
      legal = is.1.legal;
      told = ap (λ es. es ++ bytes ∷ []) replay.told
          ∙ (ap (λ b. encoded log ++ b ∷ []) is.1.entry
          ∙ sym (encoded_more log is.0 ∙ ap (λ es. encoded log ++ map entry_bytes es) (goes_one log is.0 (goes log is.0 (legal_some log replay.legal) is.1.legal))));
      only = λ other more legal same.
          let next : IsNext log bytes other = next_of entries log bytes other more replay legal same in
          let one : next.change ≡ is.0 = is.2 next.change next.has in
          (next.rest, next.whole ∙ (ap (λ x. log ++ x ∷ next.rest) one ∙ sym (append_assoc log (is.0 ∷ []) next.rest)));
    })

-- ---- an entry at fault

pub begun_so : (entries : List (List ℕ)) (log : List Happened) → IsReplay entries log → IsBegun entries
begun_so entries log replay = record { log = log; legal = replay.legal; more = []; told = append-nil entries ∙ replay.told }

one_longer : (entries : List (List ℕ)) (place : ℕ) (bytes : List ℕ) → place < length entries → bytes ≡ get_or entries place bytes → take place entries ++ bytes ∷ [] ≡ take (place + 1) entries
one_longer entries place bytes within is = ap (λ (b : List ℕ). take place entries ++ b ∷ []) is ∙ sym (take_more entries place bytes within)

pub bad_next : (entries : List (List ℕ)) (place : ℕ) (log : List Happened) (bytes : List ℕ) → place < length entries → bytes ≡ get_or entries place bytes → IsReplay (take place entries) log → IsNoneNext log bytes → IsBadEntry entries (place + 1)
bad_next entries place log bytes within is replay none =
    let before : place + 1 - 1 ≡ place = omega arith in
    is_not_accepted (omega arith) (omega arith) (subst (λ n. IsBegun (take n entries)) (sym before) (begun_so (take place entries) log replay))
    (λ begun.
    let next : IsNext log bytes begun.log =
    next_of (take place entries) log bytes begun.log begun.more replay begun.legal (ap (λ es. es ++ begun.more) (one_longer entries place bytes within is) ∙ begun.told) in
    none next.change next.has)

-- ---- the first entry

founding_one : (s : ProjectState) (conf : Configuration) (level : ℕ) (people : List Person) (rest : List Happened) (n : ℕ) → encoded_from s (numbered_from n (Founded conf level people ∷ rest)) ≡ entry_bytes (founding_entry (conf_text conf) people level) ∷ encoded_from (effect (n + 1) (Founded conf level people) s) (numbered_from (n + 1) rest)
founding_one s conf level people rest n = refl

first_founded : (bytes : List ℕ) (more : List (List ℕ)) (log : List Happened) (conf : Configuration) (level : ℕ) (people : List Person) (rest : List Happened) → bytes ∷ more ≡ encoded log → log ≡ Founded conf level people ∷ rest → bytes ≡ entry_bytes (founding_entry (conf_text conf) people level)
first_founded bytes more log conf level people rest same is =
    head_same bytes (entry_bytes (founding_entry (conf_text conf) people level)) more _ (same ∙ ap encoded is)

state_tag : (bytes : List ℕ) (s : ProjectState) → bytes ≡ entry_bytes (first_piece s) → slice_get bytes 0 ≡ Some 16
unfolding entry_bytes
state_tag bytes s is = ap (λ bs. slice_get bs 0) is

first_state : (bytes : List ℕ) (more : List (List ℕ)) (log : List Happened) (state : ProjectState) (rest : List Happened) → bytes ∷ more ≡ encoded log → log ≡ Restored state.place state ∷ rest → slice_get bytes 0 ≡ Some 16
unfolding pieces_of
first_state bytes more log state rest same is = state_tag bytes state (head_same bytes (entry_bytes (first_piece state)) more _ (same ∙ ap encoded is))

-- bytes that are no entry begin no history
no_beginning_by : (bytes : List ℕ) (more : List (List ℕ)) (log : List Happened) → ReadBack → slice_get bytes 0 ≢ Some 16 → ((conf : Configuration) (level : ℕ) (people : List Person) → IsFounding conf level people → bytes ≢ entry_bytes (founding_entry (conf_text conf) people level))
    → bytes ∷ more ≡ encoded log → Begins log → ⊥
no_beginning_by bytes more log back isnt none same (with_founding conf level people rest is whole) = none conf level people is (first_founded bytes more log conf level people rest same whole)
no_beginning_by bytes more log back isnt none same (with_state state rest sound whole) = isnt (first_state bytes more log state rest same whole)

pub none_begins : ReadBack → (bytes : List ℕ) → slice_get bytes 0 ≢ Some 16 → ((e : Entry) → IsEntry e → entry_bytes e ≡ bytes → ⊥) → IsNoBeginning bytes
none_begins back bytes isnt none = λ log more legal same.
    no_beginning_by bytes more log back isnt (λ conf level people is e. none (founding_entry (conf_text conf) people level) (founding_is back conf level people is) (sym e)) same (begins log legal)

same_founding : ReadBack → ToldApart → (bytes : List ℕ) (d : Entry) (conf : Configuration) (level : ℕ) (people : List Person) → IsEntry d → entry_bytes d ≡ bytes → IsFounding conf level people → bytes ≡ entry_bytes (founding_entry (conf_text conf) people level) → IsFoundingOf d conf level people
same_founding back apart bytes d conf level people is same founding e = record {
  founding = founding;
  entry = apart (founding_entry (conf_text conf) people level) d (founding_is back conf level people founding) is (sym e ∙ sym same);
}

-- an entry of which no founding is told begins no history
pub none_founded : ReadBack → ToldApart → (bytes : List ℕ) (d : Entry) → slice_get bytes 0 ≢ Some 16 → IsEntry d → entry_bytes d ≡ bytes
    → ((conf : Configuration) (level : ℕ) (people : List Person) → IsFoundingOf d conf level people → None ≡ Some (Founded conf level people)) → IsNoBeginning bytes
none_founded back apart bytes d isnt is same told = λ log more legal e.
    no_beginning_by bytes more log back isnt (λ conf level people founding b. none_some (Founded conf level people) (told conf level people (same_founding back apart bytes d conf level people is same founding b))) e (begins log legal)

founded_first : ReadBack → ToldApart → (bytes : List ℕ) (d : Entry) (conf : Configuration) (level : ℕ) (people : List Person) → slice_get bytes 0 ≢ Some 16 → IsEntry d → entry_bytes d ≡ bytes
    → ((c : Configuration) (l : ℕ) (ps : List Person) → IsFoundingOf d c l ps → Some (Founded conf level people) ≡ Some (Founded c l ps)) → (other : List Happened) (more : List (List ℕ)) → bytes ∷ more ≡ encoded other → Begins other → GoesOn (founded conf level people) other
founded_first back apart bytes d conf level people isnt is same told other more e (with_founding c l ps rest founding whole) =
    let one : Founded conf level people ≡ Founded c l ps =
    some_same (Founded conf level people) (Founded c l ps) (told c l ps (same_founding back apart bytes d c l ps is same founding (first_founded bytes more other c l ps rest e whole))) in
    (rest, whole ∙ ap (λ (x : Happened). x ∷ rest) (sym one))
founded_first back apart bytes d conf level people isnt is same told other more e (with_state state rest sound whole) = absurd (isnt (first_state bytes more other state rest e whole))

-- the founding that is told of the first entry begins each history that begins with it
pub replay_founded : ReadBack → ToldApart → (bytes : List ℕ) (d : Entry) (conf : Configuration) (level : ℕ) (people : List Person) → slice_get bytes 0 ≢ Some 16 → IsEntry d → entry_bytes d ≡ bytes → IsFoundingOf d conf level people
    → ((c : Configuration) (l : ℕ) (ps : List Person) → IsFoundingOf d c l ps → Some (Founded conf level people) ≡ Some (Founded c l ps)) → IsReplay (bytes ∷ []) (founded conf level people)
replay_founded back apart bytes d conf level people isnt is same of told = record {
  legal = legal_founding conf level people of.founding;
  told = ap (λ (b : List ℕ). b ∷ []) (sym same ∙ ap entry_bytes (sym of.entry));
  only = λ other more legal e. founded_first back apart bytes d conf level people isnt is same told other more e (begins other legal);
}

some_of : (s : ProjectState) (e : Happened) (more : List (List ℕ)) → [] ≡ map entry_bytes (entries_of s e) ++ more → ⊥
unfolding pieces_of
some_of s (Founded conf level people) more same = cc
some_of s (TextAdded by name text) more same = cc
some_of s (CheckedOut by doc) more same = cc
some_of s (TakenOver by doc) more same = cc
some_of s (LayerCommitted by doc hold layer) more same = cc
some_of s (LayerParked by doc hold done undone) more same = cc
some_of s (LayerFinished by doc) more same = cc
some_of s (LayerReopened by doc who) more same = cc
some_of s (LayerIgnored by doc who) more same = cc
some_of s (LayerReadmitted by doc who) more same = cc
some_of s (SnapshotTaken by doc) more same = cc
some_of s (ItemDecided by number holder id verdict) more same = cc
some_of s (ItemUndecided by number holder id) more same = cc
some_of s AllFreed more same = cc
some_of s (Restored place state) more same = cc

none_encoded : (log : List Happened) → 0 < length log → [] ≢ encoded log
none_encoded [] some same = absurd (omega arith)
none_encoded (x ∷ rest) some same = some_of unfounded x _ same

-- where there is no entry, the first is lacking
pub bad_none : (entries : List (List ℕ)) → IsBegun [] → entries ≡ [] → IsBadEntry entries 1
bad_none entries begun none =
    subst (λ es. IsBadEntry es 1) (sym none) (is_lacking refl begun (λ log legal same. none_encoded log (legal_some log legal) same))

take_none : (entries : List (List ℕ)) → take 0 entries ≡ []
take_none [] = refl
take_none (x ∷ xs) = refl

take_first : (entries : List (List ℕ)) (first : List ℕ) → slice_get entries 0 ≡ Some first → take 1 entries ≡ first ∷ []
take_first [] first is = absurd (none_some first is)
take_first (x ∷ []) first is = ap (λ (b : List ℕ). b ∷ []) (some_same x first is)
take_first (x ∷ y ∷ ys) first is = ap (λ (b : List ℕ). b ∷ []) (some_same x first is)

first_within : (entries : List (List ℕ)) (first : List ℕ) → slice_get entries 0 ≡ Some first → 1 ≤ length entries
first_within [] first is = absurd (none_some first is)
first_within (x ∷ xs) first is = omega arith

-- the first entry is at fault where it begins no history
pub bad_first : (entries : List (List ℕ)) (first : List ℕ) → IsBegun [] → slice_get entries 0 ≡ Some first → IsNoBeginning first → IsBadEntry entries 1
bad_first entries first begun is none =
    is_not_accepted (omega arith) (first_within entries first is) (subst IsBegun (sym (take_none entries)) begun)
    (λ so. none so.log so.more so.legal (ap (λ es. es ++ so.more) (sym (take_first entries first is)) ∙ so.told))

pub replay_one : (entries : List (List ℕ)) (first : List ℕ) (log : List Happened) → slice_get entries 0 ≡ Some first → IsReplay (first ∷ []) log → IsReplay (take 1 entries) log
replay_one entries first log is replay = subst (λ es. IsReplay es log) (sym (take_first entries first is)) replay

-- ---- what is read of bytes, taken up

-- what is read of bytes that are not a freeing's tells who asked
pub asking_read : WrittenIsUtf8 → LegalIsKept → ToldApart → TellsAsked → TellsNextBy → (log : List Happened) (bytes : List ℕ) (d : Entry) (told : Option Asking) → IsLegal log → IsReading bytes (Some d) → bytes ≢ freeing_bytes → TellsRequest (after log) d told → IsAskingOf log bytes told
asking_read written kept apart tells again log bytes d None legal is isnt reads = none_unasked written kept apart tells again log bytes d legal is.0 is.1 isnt reads
asking_read written kept apart tells again log bytes d (Some asking) legal is isnt reads = asked_by written kept apart tells again log bytes d (Some asking) legal is.0 is.1 reads

-- what is read of bytes that are not a state's tells the founding
pub founding_read : ReadBack → ToldApart → (bytes : List ℕ) (d : Entry) (told : Option Founding) → IsReading bytes (Some d) → slice_get bytes 0 ≢ Some 16 → IfSome told (λ founding. IsFoundingOf d (arc_value founding.conf) founding.level founding.roster)
    → ((conf : Configuration) (level : ℕ) (people : List Person) → IsFoundingOf d conf level people → option_map told_founding told ≡ Some (Founded conf level people)) → IsFoundingBy bytes told
founding_read back apart bytes d None is isnt found told = none_founded back apart bytes d isnt is.0 is.1 told
founding_read back apart bytes d (Some founding) is isnt found told =
    (found.founding, replay_founded back apart bytes d (arc_value founding.conf) founding.level founding.roster isnt is.0 is.1 found told)

-- ---- a freeing as it is kept

pub out_there : (result : Bool) (log : List Happened) (state : ProjectState) → result ≡ is_some_out state → state ≡ after log → result ≡ true → is_some_out (after log) ≡ true
out_there result log state is same there = sym (is ∙ ap is_some_out same) ∙ there

pub freeing_kept : (log : List Happened) (kept : Kept) → IsLegal log → is_some_out (after log) ≡ true → kept.change ≡ change.FreeAll → kept.entry ≡ freeing_bytes → kept.act ≡ act.FreeAll → IsFreeing log (Some kept)
freeing_kept log kept legal out is_change is_entry is_act =
    let happens : kept_happens kept ≡ AllFreed = ap happened_of is_change in (
      record {
        legal = subst (λ e. IsLegal (log ++ e ∷ [])) (sym happens) (legal_freeing log legal out);
        change = record {
          entry = is_entry ∙ sym (ap (λ e. entry_bytes (entry_of (after log) e)) happens);
          short = subst (λ (b : List ℕ). length b ≤ 16777216) (sym (is_entry ∙ freeing_is)) (omega arith);
          acts = ap (λ (a : Act). performed a (after log)) is_act ∙ sym (ap (λ e. effect ((after log).place + 1) e (after log)) happens);
          tables = ap (λ (a : Act). tabling_by (after log) a) is_act ∙ sym (ap (λ e. tabling_of (after log) e) happens);
          can = subst (λ (a : Act). CanAct a (after log)) (sym is_act) tt;
          fits = subst (λ (a : Act). FitsRows a (after log)) (sym is_act) tt;
        };
      },
      is_entry,
      happens,
      out,
    )

-- ---- the first of some entries

none_at : (entries : List (List ℕ)) → slice_get entries 0 ≡ None → entries ≡ []
none_at [] is = refl
none_at (x ∷ xs) is = absurd (none_some x (sym is))

-- where there is no first entry, it is lacking
pub bad_lacking : (entries : List (List ℕ)) → IsBegun [] → slice_get entries 0 ≡ None → IsBadEntry entries 1
bad_lacking entries begun is = bad_none entries begun (none_at entries is)

-- ---- one entry of some

-- the entry at a place was taken up, and so all up to it were
pub replay_taken : (entries : List (List ℕ)) (place : ℕ) (log now : List Happened) (bytes : List ℕ) (taken : Bool) → place < length entries → bytes ≡ get_or entries place bytes → IsReplay (take place entries) log → IsTakenUp log bytes now taken → taken ≡ true
    → IsReplay (take (place + 1) entries) now
replay_taken entries place log now bytes taken within is replay up so =
    subst (λ es. IsReplay es now) (one_longer entries place bytes within is) (replay_more (take place entries) log bytes now replay (subst (IsTakenUp log bytes now) so up))

-- it was not, and is at fault
pub bad_taken : (entries : List (List ℕ)) (place : ℕ) (log now : List Happened) (bytes : List ℕ) (taken : Bool) → place < length entries → bytes ≡ get_or entries place bytes → IsReplay (take place entries) log → IsTakenUp log bytes now taken → taken ≡ false
    → IsBadEntry entries (place + 1)
bad_taken entries place log now bytes taken within is replay up so = bad_next entries place log bytes within is replay (subst (IsTakenUp log bytes now) so up).0

-- ---- the one history of some entries

same_whole : (log rest other : List Happened) → other ≡ log ++ rest → [] ≡ encoded_from (after log) (numbered_from (place_from 0 log) rest) → other ≡ log
same_whole log [] other is none = is ∙ append-nil log
same_whole log (x ∷ rest) other is none = absurd (some_of (after log) x _ none)

-- no other history has the entries that tell one
pub whole_history : (entries : List (List ℕ)) (log other : List Happened) → IsReplay entries log → IsLegal other → entries ≡ encoded other → other ≡ log
whole_history entries log other replay legal same =
    let on : GoesOn log other = replay.only other [] legal (append-nil entries ∙ same) in
    same_whole log on.0 other on.1
    (append_cancel_left (encoded log) [] (encoded_from (after log) (numbered_from (place_from 0 log) on.0)) (append-nil (encoded log) ∙ (sym replay.told ∙ (same ∙ (ap encoded on.1 ∙ encoded_append log on.0)))))
