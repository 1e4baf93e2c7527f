-- What a folder tells of its files: nothing, that there is none of a name, or its bytes.
use Rattle.std.specs.Prelude.{◌≡◌, ℕ, ◌<◌, ◌≤◌, List, [], ◌∷◌, length, if◌then◌else◌, bytes_eq, Option, Some, None, IfSome, IsSomeAnd, Result, Ok, Err, ⊤}
use Rattle.mark_base.specs.Streams.{Rose}
use Rattle.program_inputs.specs.declared.folder.FolderFault.{FolderFault}
use Rattle.program_inputs.specs.declared.folder.FolderFault.TheVariants.{Absent, TooLong, Failed, Memory}

-- what a read of at most `limit` bytes has told of the file; the numbers are the faults before and now
abbrev pub ReadTells : Option (Option (List ℕ)) → ℕ → ℕ → ℕ → Result (List ℕ) FolderFault → Type 0
ReadTells file limit before now (Ok bytes) = IfSome file (λ found. found ≡ Some bytes) × (length bytes ≤ limit)
ReadTells file limit before now (Err Absent) = IfSome file (λ found. found ≡ None)
ReadTells file limit before now (Err TooLong) = IfSome file (λ found. IsSomeAnd found (λ bytes. limit < length bytes))
ReadTells file limit before now (Err Failed) = Rose before now
ReadTells file limit before now (Err Memory) = ⊤

-- the file of a name among pairs of a name and bytes: the first of that name
abbrev pub file_among : List (List ℕ × List ℕ) → List ℕ → Option (List ℕ)
file_among [] name = None
file_among (file ∷ files) name = if bytes_eq file.0 name then Some file.1 else file_among files name
