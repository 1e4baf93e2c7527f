-- What a command prints: bytes that it found, or nothing where it found none.
use Rattle.std.specs.Prelude.{◌≡◌, ℕ, List, Option, Result, Ok, Err}
use Rattle.std.specs.Io.KnownBytes.{Appends}
use Rattle.mark_base.specs.Streams.{AppendsFront}
use Rattle.program_inputs.specs.declared.trouble.Trouble.{Trouble}
use Rattle.program_inputs.specs.declared.trouble.Trouble.TheVariants as trouble

-- bytes were written, or a front of them where a write failed
abbrev pub Writes : List ℕ → (before written : Option (List ℕ)) → Result (Unit {0}) Trouble → Type 0
Writes bytes before written (Ok done) = Appends before written bytes
Writes bytes before written (Err trouble.WriteFault) = AppendsFront before written bytes
Writes bytes before written (Err why) = ⊥

-- what was found was written; where nothing was found, nothing was written, and the run ends for that
abbrev pub Prints : Result (List ℕ) Trouble → (before written : Option (List ℕ)) → Result (Unit {0}) Trouble → Type 0
Prints (Ok bytes) before written done = Writes bytes before written done
Prints (Err why) before written done = (done ≡ Err why) × (written ≡ before)
