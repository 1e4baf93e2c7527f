-- What is said of a trouble that does not come.
use Rattle.std.proofs.Common.{◌≡◌, ℕ, List, Option, Bool, true, false, Result, Ok, Err, inl, inr, refl, sym, ap, ◌∙◌, arith}
use Rattle.std.specs.Prelude.{◌≢◌, IfErr, IsErrOf}
use Rattle.mark_base.specs.Streams.{TellsFault}
use Rattle.program_inputs.specs.Troubles.{Complains, Says, status_of}
use Rattle.program_inputs.specs.declared.trouble.Trouble.{Trouble}
use Rattle.program_inputs.specs.declared.trouble.Trouble.TheVariants.{Usage, Conf, Ann, Columns, ColumnsOut, Roster, TextNotUtf8, TextTooLong, FileAbsent, FileTooLong, FileFailed, NotAJournal, NewerVersion, Damaged, AlreadyThere, BookTooLong, BadEntry, Refused, DiskInUse, DiskFailed, DoorFailed, Cut, BadHead, NeedsLength, TooLarge, Encoded, Spent, ReadFault, WriteFault, Memory}

-- a success is no error
pub not_err : {X : Type 0} {done : Result X Trouble} {value : X} {named : Trouble} → done ≡ Ok value → done ≡ Err named → ⊥
not_err {X} {done} {value} {named} ok err = cc

ok_err : {X : Type 0} (value : X) (named : Trouble) → ◌≡◌ {A = Result X Trouble} (Ok value) (Err named) → ⊥
ok_err {X} value named same = cc

same_trouble : {X : Type 0} (one other : Trouble) → ◌≡◌ {A = Result X Trouble} (Err one) (Err other) → one ≡ other
same_trouble {X} one other same = cc

pub never : {X : Type 0} (named : Trouble) (done : Result X Trouble) → IfErr done (λ trouble. trouble ≢ named) → IsErrOf done named → ⊥
never {X} named (Ok value) told is = ok_err value named is
never {X} named (Err trouble) told is = told (same_trouble {X = X} trouble named is)

-- no fault was told, and none was counted
pub tells_none : {X : Type 0} (named : Trouble) (done : Result X Trouble) (before now : ℕ) → IfErr done (λ trouble. trouble ≢ named) → now ≡ before
    → TellsFault (IsErrOf done named) before now
tells_none {X} named done before now told same = record { rose = λ is. absurd (never named done told is); still = λ _. same }

-- ---- the status of a run that has not done its job

status_some : (verifies : Bool) (why : Trouble) → status_of verifies why ≡ 0 → ⊥
status_some true (Conf line what) is = absurd (omega (arith, is))
status_some false (Conf line what) is = absurd (omega (arith, is))
status_some true (Ann line what) is = absurd (omega (arith, is))
status_some false (Ann line what) is = absurd (omega (arith, is))
status_some verifies (Columns line what) is = absurd (omega (arith, is))
status_some verifies (ColumnsOut fault) is = absurd (omega (arith, is))
status_some verifies (Roster fault) is = absurd (omega (arith, is))
status_some verifies Usage is = absurd (omega (arith, is))
status_some verifies TextNotUtf8 is = absurd (omega (arith, is))
status_some verifies TextTooLong is = absurd (omega (arith, is))
status_some verifies FileAbsent is = absurd (omega (arith, is))
status_some verifies FileTooLong is = absurd (omega (arith, is))
status_some verifies FileFailed is = absurd (omega (arith, is))
status_some verifies NotAJournal is = absurd (omega (arith, is))
status_some verifies (NewerVersion version) is = absurd (omega (arith, is))
status_some verifies (Damaged number) is = absurd (omega (arith, is))
status_some verifies (AlreadyThere length) is = absurd (omega (arith, is))
status_some verifies (BookTooLong bytes) is = absurd (omega (arith, is))
status_some verifies (BadEntry number) is = absurd (omega (arith, is))
status_some verifies (Refused refusal named) is = absurd (omega (arith, is))
status_some verifies DiskInUse is = absurd (omega (arith, is))
status_some verifies DiskFailed is = absurd (omega (arith, is))
status_some verifies DoorFailed is = absurd (omega (arith, is))
status_some verifies Cut is = absurd (omega (arith, is))
status_some verifies BadHead is = absurd (omega (arith, is))
status_some verifies NeedsLength is = absurd (omega (arith, is))
status_some verifies TooLarge is = absurd (omega (arith, is))
status_some verifies Encoded is = absurd (omega (arith, is))
status_some verifies Spent is = absurd (omega (arith, is))
status_some verifies ReadFault is = absurd (omega (arith, is))
status_some verifies WriteFault is = absurd (omega (arith, is))
status_some verifies Memory is = absurd (omega (arith, is))

says_some : (verifies : Bool) (why : Trouble) (old new : Option (List ℕ)) (before now status : ℕ) → Says verifies why old new before now status → status ≡ 0 → ⊥
says_some verifies why old new before now status (inl said) is = status_some verifies why (sym said.1 ∙ is)
says_some verifies why old new before now status (inr broken) is = absurd (omega (arith, broken.1, is))

pub complains_some : (verifies : Bool) (why : Trouble) (old new : Option (List ℕ)) (before now status : ℕ) → Complains verifies why old new before now status → status ≡ 0 → ⊥
complains_some verifies why old new before now status (inl said) is = says_some verifies why old new before now status said is
complains_some verifies why old new before now status (inr said) is = says_some verifies Memory old new before now status said.1 is
