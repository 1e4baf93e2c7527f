-- What is told of a disk that was handed out is told of its file before.
use Rattle.std.proofs.Common.{◌≡◌, ℕ, Bool, false, List, [], Option, Some, None, is_some, unwrap_or, refl, subst}
use Rattle.std.specs.Prelude.{IfSome}
use Rattle.std.specs.FinMap.{get}
use Rattle.named_disks.specs.NamedDisks.{IsLacking, Stored, reads_as}
use Rattle.project_journal.specs.JournalFile.{is_journal}
use Rattle.program_inputs.specs.declared.trouble.Trouble.{Trouble}
use Rattle.program_inputs.specs.declared.trouble.Trouble.TheVariants.{Usage, Conf, Ann, Columns, ColumnsOut, Roster, TextNotUtf8, TextTooLong, FileAbsent, FileTooLong, FileFailed, NotAJournal, NewerVersion, Damaged, AlreadyThere, BookTooLong, BadEntry, Refused, DiskInUse, DiskFailed, DoorFailed, Cut, BadHead, NeedsLength, TooLarge, Encoded, Spent, ReadFault, WriteFault, Memory}
use Rattle.program_inputs.specs.ProjectFiles.ProjectFiles.{NotOpened}

-- where the file was not told, less is said
untold : (why : Trouble) (held : Option (List ℕ)) → NotOpened held why → NotOpened None why
untold NotAJournal held told = tt
untold (NewerVersion version) held told = tt
untold (Damaged number) held told = tt
untold DiskFailed held told = tt
untold Memory held told = tt
untold (BadEntry number) held told = record { entries = told.entries; read = tt; fault = told.fault }
untold Usage held told = told
untold (Conf line what) held told = told
untold (Ann line what) held told = told
untold (Columns line what) held told = told
untold (ColumnsOut fault) held told = told
untold (Roster fault) held told = told
untold TextNotUtf8 held told = told
untold TextTooLong held told = told
untold FileAbsent held told = told
untold FileTooLong held told = told
untold FileFailed held told = told
untold (AlreadyThere bytes) held told = told
untold (BookTooLong bytes) held told = told
untold (Refused refusal named) held told = told
untold DiskInUse held told = tt
untold DoorFailed held told = told
untold Cut held told = told
untold BadHead held told = told
untold NeedsLength held told = told
untold TooLarge held told = told
untold Encoded held told = told
untold Spent held told = told
untold ReadFault held told = told
untold WriteFault held told = told

-- why a disk that reads as a file is not opened is why the file is not
pub not_opened : (why : Trouble) (file held : Option (List ℕ)) → IfSome file (λ bytes. held ≡ Some bytes) → NotOpened held why → NotOpened file why
not_opened why None held reads told = untold why held told
not_opened why (Some bytes) held reads told = subst (λ o. NotOpened o why) reads told

-- there is no disk of a name that is lacking, so what it reads as is no journal
pub lacking : (stored : Option Stored) (name : List ℕ) → IsLacking stored name → NotOpened (reads_as stored name) NotAJournal
lacking None name lacks = tt
lacking (Some stored) name lacks = by (get stored name) lacks
  where
    by : (found : Option (List ℕ)) → is_some found ≡ false → is_journal (unwrap_or found []) ≡ false
    by None is = refl
    by (Some bytes) is = cc
