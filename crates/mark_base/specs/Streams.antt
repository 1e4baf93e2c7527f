-- What a read and a write do to the bytes of a stream, and when a fault is answered.
use Rattle.std.specs.Prelude.{◌≡◌, ℕ, ◌+◌, ◌-◌, ◌^◌, ◌≤◌, min, List, length, take, Option, Result, OnOk, OnErr}
use Rattle.std.specs.Io.KnownBytes.{Appends}

-- a count rose, or stands at the last value of its type
abbrev pub Rose : ℕ → ℕ → Type 0
Rose before now = min (before + 1) (2 ^ 64 - 1) ≤ now

-- A count of faults did not fall. An error comes only where it rose, and a success only where it stands as before:
-- no call that failed was made again. At the type's last value the count cannot tell.
pub record HasCause {T E : Type 0} (before now : ℕ) (result : Result T E) : Type 0 where
  pub later : before ≤ now
  pub failed : OnErr result (Rose before now)
  pub still : OnOk result (now ≡ before)

-- one call failed, and no more than one
abbrev pub CountsOne : ℕ → ℕ → Type 0
CountsOne before now = now ≡ min (before + 1) (2 ^ 64 - 1)

-- the same of an ending that may be a fault: where it is one the count rose, and otherwise it stands as before
pub record TellsFault (fault : Type 0) (before now : ℕ) : Type 0 where
  pub rose : fault → Rose before now
  pub still : (fault → ⊥) → now ≡ before

-- a sink took a front of the piece and no more
pub record AppendsFront (old new : Option (List ℕ)) (piece : List ℕ) : Type 0 where
  pub count : ℕ
  pub fits : count ≤ length piece
  pub bytes : Appends old new (take count piece)

-- a link was read and not written
pub record OnlyReads {L : Type 0} (holds : L → Option (List ℕ)) (writes_failed reads_failed : L → ℕ) (old new : L) : Type 0 where
  pub held : holds new ≡ holds old
  pub write_faults : writes_failed new ≡ writes_failed old
  pub later : reads_failed old ≤ reads_failed new

-- a link was written and not read
pub record OnlyWrites {L : Type 0} (has_left : L → Option (List ℕ)) (reads_failed writes_failed : L → ℕ) (old new : L) : Type 0 where
  pub left : has_left new ≡ has_left old
  pub read_faults : reads_failed new ≡ reads_failed old
  pub later : writes_failed old ≤ writes_failed new
