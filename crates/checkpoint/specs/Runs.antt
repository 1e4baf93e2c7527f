-- What entries are read as: the pieces of a checkpoint, one after another, up to the first at fault.
use Rattle.std.specs.Prelude.{◌≡◌, ◌≢◌, ℕ, ◌+◌, ◌-◌, ◌<◌, Bool, true, false, List, [], ◌∷◌, ◌++◌, get_or, length, take, Option, Some, None, ⊤}
use Rattle.entry_bytes.specs.declared.entry.Entry.{Entry}
use Rattle.entry_bytes.specs.Entries.{entry_bytes, IsEntry}
use Rattle.project_machine.specs.ProjectState.{ProjectState}
use Rattle.checkpoint.specs.declared.so_far.Part.{Part}
use Rattle.checkpoint.specs.declared.so_far.Part.TheVariants as part
use Rattle.checkpoint.specs.declared.so_far.SoFar.{SoFar}
use Rattle.checkpoint.specs.declared.restored.RestoreFault.{RestoreFault}
use Rattle.checkpoint.specs.declared.restored.RestoreFault.TheVariants as fault
use Rattle.checkpoint.specs.Reading.{Begins, Reads}

-- entries are pieces that are read one after another, and leave this
pub data IsReadTo : List (List ℕ) → SoFar → Type 0 where
  begins : (e : Entry) (so : SoFar) → IsEntry e → Begins e so → IsReadTo (entry_bytes e ∷ []) so
  goes_on : (entries : List (List ℕ)) (so now : SoFar) (e : Entry) → IsReadTo entries so → IsEntry e → Reads so e now → IsReadTo (entries ++ entry_bytes e ∷ []) now

-- the last piece was read
abbrev pub is_ended : Part → Bool
is_ended part.Ended = true
is_ended _ = false

-- entries are a checkpoint, up to its end, and tell this project
pub record IsCheckpoint (entries : List (List ℕ)) (s : ProjectState) : Type 0 where
  pub so : SoFar
  pub read : IsReadTo entries so
  pub ended : is_ended so.part ≡ true
  pub told : so.state ≡ s

-- bytes are no piece with which a checkpoint begins
abbrev pub IsNoFirst : List ℕ → Type 0
IsNoFirst bytes = (e : Entry) (so : SoFar) → IsEntry e → entry_bytes e ≡ bytes → Begins e so → ⊥

-- bytes are no piece that is read behind those that leave this
abbrev pub IsNoNext : SoFar → List ℕ → Type 0
IsNoNext so bytes = (e : Entry) (now : SoFar) → IsEntry e → entry_bytes e ≡ bytes → Reads so e now → ⊥

-- the entry of this number, from 1, is the first at fault: those before it are read, and it is not; or it is the one past the last, and no last piece was read
pub data IsFault (entries : List (List ℕ)) (n : ℕ) : Type 0 where
  no_first : n ≡ 1 → IsNoFirst (get_or entries 0 []) → IsFault entries n
  no_next : (so : SoFar) → 1 < n → n - 1 < length entries → IsReadTo (take (n - 1) entries) so → is_ended so.part ≡ false → IsNoNext so (get_or entries (n - 1) []) → IsFault entries n
  no_end : (so : SoFar) → n ≡ length entries + 1 → IsReadTo entries so → is_ended so.part ≡ false → IsFault entries n

-- why entries are not read: the entry of a number is the first at fault, or memory ran out
abbrev pub IsRefusal : List (List ℕ) → RestoreFault → Type 0
IsRefusal entries (fault.BadEntry n) = IsFault entries n
IsRefusal entries fault.Memory = ⊤

-- ---- one piece (private calls only)

-- what an entry leaves as the first piece, or that it is none
abbrev pub IsBegunWith : Entry → Option SoFar → Type 0
IsBegunWith e None = (so : SoFar) → Begins e so → ⊥
IsBegunWith e (Some so) = Begins e so

-- what is read of bytes as the first piece, or that they are none
abbrev pub IsBegunBy : List ℕ → Option SoFar → Type 0
IsBegunBy bytes None = IsNoFirst bytes
IsBegunBy bytes (Some so) = (e : Entry) × IsEntry e × (entry_bytes e ≡ bytes) × Begins e so

-- what is read of a piece, or that it is not read
abbrev pub IsReadAs : SoFar → Entry → Option SoFar → Type 0
IsReadAs so e None = (now : SoFar) → Reads so e now → ⊥
IsReadAs so e (Some now) = Reads so e now

-- what is read of bytes as the next piece, or that they are none
abbrev pub IsReadBy : SoFar → List ℕ → Option SoFar → Type 0
IsReadBy so bytes None = IsNoNext so bytes
IsReadBy so bytes (Some now) = (e : Entry) × IsEntry e × (entry_bytes e ≡ bytes) × Reads so e now
