-- A desk can be opened on what a project hands out.
use Rattle.std.proofs.Common.{◌≡◌, ℕ, Bool, true, false, List, Option, Some, None, nat_lt, refl, sym, ◌∙◌, if◌then◌else◌}
use Rattle.project_machine.specs.declared.book_refusal.BookRefusal.{BookRefusal}
use Rattle.project_machine.specs.declared.book_refusal.BookRefusal.TheVariants as no
use Rattle.project_machine.specs.ProjectState.{ProjectState, document, is_annotator, number_of, row_in}
use Rattle.project_machine.specs.Requests.{Asked, ReadConf, ListDocs, ReadText, AddText, Checkout, TakeOver, Commit, Park, Finish, ReadLayer, Reopen, Ignore, Readmit, Snap, TakeSnapshot, Decide, Undecide, ReadPairs, ReadAlpha, ReadReport, Answered, HandedOut, Happened}
use Rattle.project_machine.specs.Machine.{Step, change, out_of, refusal, refused, reply, size_in, step, unless}
use Rattle.project_machine.specs.Legal.{IsKept, IsRowKept}
use Rattle.project_machine.proofs.RowLemmas.{Flawless}
use Rattle.project_machine.proofs.KeptLemmas.{allowed, annotates, row_kept}
use Rattle.annotation_http.specs.Exchanges.Exchanges.{CanBeOpened}

-- the answer of a step can be opened where what is granted can
bounded_opened : (long : Bool) (s : ProjectState) (asked : Asked) (bytes : ℕ) (answer : Answered) (happened : Option Happened) → CanBeOpened answer
    → CanBeOpened (if◌then◌else◌ {A = Step} long (refused s asked (no.EntryTooLong bytes)) (record { answer = answer; change = happened })).answer
bounded_opened true s asked bytes answer happened can = tt
bounded_opened false s asked bytes answer happened can = can

unless_opened : (s : ProjectState) (asked : Asked) (o : Option BookRefusal) (answer : Answered) (happened : Option Happened) → (o ≡ None → CanBeOpened answer) → CanBeOpened (unless s asked o answer happened).answer
unless_opened s asked (Some r) answer happened can = tt
unless_opened s asked None answer None can = can refl
unless_opened s asked None answer (Some happened) can = bounded_opened (nat_lt 16777216 (size_in s happened)) s asked (size_in s happened) answer (Some happened) (can refl)

-- the row of an annotator can be opened
row_opened : (s : ProjectState) (name who : List ℕ) → Flawless → IsKept s → is_annotator s who ≡ true → CanBeOpened (HandedOut (out_of s (document s (number_of s name)) (row_in s name who)))
row_opened s name who flawless kept is =
    let r : IsRowKept s.conf (document s (number_of s name)).text s.place who (row_in s name who) = row_kept s (number_of s name) who flawless kept is in
    record { base = r.layer.obeys.well_formed; accepted = r.accepted }

-- what is granted can be opened
granted_opened : (s : ProjectState) (caller : List ℕ) (asked : Asked) → Flawless → IsKept s → refusal s caller asked ≡ None → CanBeOpened (reply s caller asked)
granted_opened s caller (Checkout name) flawless kept free = row_opened s name caller flawless kept (annotates s caller (allowed s caller (Checkout name) free))
granted_opened s caller (TakeOver name) flawless kept free = row_opened s name caller flawless kept (annotates s caller (allowed s caller (TakeOver name) free))
granted_opened s caller ReadConf flawless kept free = tt
granted_opened s caller ListDocs flawless kept free = tt
granted_opened s caller (ReadText name) flawless kept free = tt
granted_opened s caller (AddText name text) flawless kept free = tt
granted_opened s caller (Commit name hold layer) flawless kept free = tt
granted_opened s caller (Park name hold done undone) flawless kept free = tt
granted_opened s caller (Finish name) flawless kept free = tt
granted_opened s caller (ReadLayer name who) flawless kept free = tt
granted_opened s caller (Reopen name who) flawless kept free = tt
granted_opened s caller (Ignore name who) flawless kept free = tt
granted_opened s caller (Readmit name who) flawless kept free = tt
granted_opened s caller (Snap name) flawless kept free = tt
granted_opened s caller (TakeSnapshot number) flawless kept free = tt
granted_opened s caller (Decide number holder id verdict) flawless kept free = tt
granted_opened s caller (Undecide number holder id) flawless kept free = tt
granted_opened s caller ReadPairs flawless kept free = tt
granted_opened s caller ReadAlpha flawless kept free = tt
granted_opened s caller (ReadReport report) flawless kept free = tt

-- what a step answers can be opened
pub step_opened : (s : ProjectState) (caller : List ℕ) (asked : Asked) → Flawless → IsKept s → CanBeOpened (step s caller asked).answer
step_opened s caller asked flawless kept =
    unless_opened s asked (refusal s caller asked) (reply s caller asked) (change s caller asked) (λ free. granted_opened s caller asked flawless kept free)

-- a layer without a flaw has none
pub no_flaw : {X A : Type 0} {o : Option X} (x : X) → o ≡ None → o ≡ Some x → A
no_flaw {X} {A} {o} x none some = absurd (let f : ◌≡◌ {A = Option X} None (Some x) = sym none ∙ some in cc)
