-- What a run that ends with status 4 met.
use Rattle.std.proofs.Common.{◌≡◌, ◌⊎◌, ℕ, Bool, true, false, List, Option, Result, Ok, Err, inl, inr, refl, sym, ap, ◌∙◌, arith}
use Rattle.program_inputs.specs.Troubles.{Complains, Ends, Says, status_of}
use Rattle.program_inputs.specs.declared.trouble.Trouble.{Trouble}
use Rattle.program_inputs.specs.declared.trouble.Trouble.TheVariants.{Usage, Conf, Ann, Columns, ColumnsOut, Roster, TextNotUtf8, TextTooLong, FileAbsent, FileTooLong, FileFailed, NotAJournal, NewerVersion, Damaged, AlreadyThere, BookTooLong, BadEntry, Refused, DiskInUse, DiskFailed, DoorFailed, Cut, BadHead, NeedsLength, TooLarge, Encoded, Spent, ReadFault, WriteFault, Memory}

-- a fault of the folder, a disk that another process has, or a disk that failed
abbrev pub IsFour : Trouble → Type 0
IsFour why = (why ≡ FileFailed) ⊎ ((why ≡ DiskInUse) ⊎ (why ≡ DiskFailed))

four_is : (verifies : Bool) (why : Trouble) → status_of verifies why ≡ 4 → IsFour why
four_is verifies Usage is = absurd (omega (arith, is))
four_is true (Conf line what) is = absurd (omega (arith, is))
four_is false (Conf line what) is = absurd (omega (arith, is))
four_is true (Ann line what) is = absurd (omega (arith, is))
four_is false (Ann line what) is = absurd (omega (arith, is))
four_is verifies (Columns line what) is = absurd (omega (arith, is))
four_is verifies (ColumnsOut fault) is = absurd (omega (arith, is))
four_is verifies (Roster fault) is = absurd (omega (arith, is))
four_is verifies TextNotUtf8 is = absurd (omega (arith, is))
four_is verifies TextTooLong is = absurd (omega (arith, is))
four_is verifies FileAbsent is = absurd (omega (arith, is))
four_is verifies FileTooLong is = absurd (omega (arith, is))
four_is verifies FileFailed is = inl refl
four_is verifies NotAJournal is = absurd (omega (arith, is))
four_is verifies (NewerVersion version) is = absurd (omega (arith, is))
four_is verifies (Damaged number) is = absurd (omega (arith, is))
four_is verifies (AlreadyThere length) is = absurd (omega (arith, is))
four_is verifies (BookTooLong bytes) is = absurd (omega (arith, is))
four_is verifies (BadEntry number) is = absurd (omega (arith, is))
four_is verifies (Refused refusal named) is = absurd (omega (arith, is))
four_is verifies DiskInUse is = inr (inl refl)
four_is verifies DiskFailed is = inr (inr refl)
four_is verifies DoorFailed is = absurd (omega (arith, is))
four_is verifies Cut is = absurd (omega (arith, is))
four_is verifies BadHead is = absurd (omega (arith, is))
four_is verifies NeedsLength is = absurd (omega (arith, is))
four_is verifies TooLarge is = absurd (omega (arith, is))
four_is verifies Encoded is = absurd (omega (arith, is))
four_is verifies Spent is = absurd (omega (arith, is))
four_is verifies ReadFault is = absurd (omega (arith, is))
four_is verifies WriteFault is = absurd (omega (arith, is))
four_is verifies Memory is = absurd (omega (arith, is))

says_four : (verifies : Bool) (why : Trouble) (old new : Option (List ℕ)) (before now status : ℕ) → Says verifies why old new before now status → status ≡ 4 → IsFour why
says_four verifies why old new before now status (inl said) is = four_is verifies why (sym said.1 ∙ is)
says_four verifies why old new before now status (inr broken) is = absurd (omega (arith, broken.1, is))

never_four : (verifies : Bool) (old new : Option (List ℕ)) (before now status : ℕ) → Says verifies Memory old new before now status → status ≡ 4 → ⊥
never_four verifies old new before now status (inl said) is = omega (arith, said.1, is)
never_four verifies old new before now status (inr broken) is = omega (arith, broken.1, is)

complains_four : (verifies : Bool) (why : Trouble) (old new : Option (List ℕ)) (before now status : ℕ) → Complains verifies why old new before now status → status ≡ 4 → IsFour why
complains_four verifies why old new before now status (inl said) is = says_four verifies why old new before now status said is
complains_four verifies why old new before now status (inr said) is = absurd (never_four verifies old new before now status said.1 is)

err_of : (why other : Trouble) → why ≡ other → ◌≡◌ {A = Result (Unit {0}) Trouble} (Err why) (Err other)
err_of why other is = ap (λ (t : Trouble). Err t) is

-- how a run ended whose status is 4
pub ends_four : (verifies : Bool) (done : Result (Unit {0}) Trouble) (old new : Option (List ℕ)) (before now status : ℕ) → Ends verifies done old new before now status → status ≡ 4
    → (done ≡ Err FileFailed) ⊎ ((done ≡ Err DiskInUse) ⊎ (done ≡ Err DiskFailed))
ends_four verifies (Ok done) old new before now status ends is = absurd (omega (arith, ends.1, is))
ends_four verifies (Err why) old new before now status ends is = by (complains_four verifies why old new before now status ends is)
  where
    by : IsFour why → (◌≡◌ {A = Result (Unit {0}) Trouble} (Err why) (Err FileFailed)) ⊎ ((◌≡◌ {A = Result (Unit {0}) Trouble} (Err why) (Err DiskInUse)) ⊎ (◌≡◌ {A = Result (Unit {0}) Trouble} (Err why) (Err DiskFailed)))
    by (inl same) = inl (err_of why FileFailed same)
    by (inr (inl same)) = inr (inl (err_of why DiskInUse same))
    by (inr (inr same)) = inr (inr (err_of why DiskFailed same))

-- where the folder counted its fault, and neither of the others comes where no disk can fail, a fault was counted or a disk may fail
pub told_four : {Rises Faultless : Type 0} (done : Result (Unit {0}) Trouble) → (done ≡ Err FileFailed → Rises) → (Faultless → done ≡ Err DiskInUse → ⊥) → (Faultless → done ≡ Err DiskFailed → ⊥)
    → (done ≡ Err FileFailed) ⊎ ((done ≡ Err DiskInUse) ⊎ (done ≡ Err DiskFailed)) → Rises ⊎ (Faultless → ⊥)
told_four done rises unused never (inl is) = inl (rises is)
told_four done rises unused never (inr (inl is)) = inr (λ f. unused f is)
told_four done rises unused never (inr (inr is)) = inr (λ f. never f is)
