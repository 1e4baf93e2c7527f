-- Which calls of a disk in memory fail.
use Rattle.std.specs.Prelude.{ℕ, ◌≤◌, Bool, false, nat_eq, List, find, Option, option_map, unwrap_or}
use Rattle.std.specs.List.{All}
use Rattle.project_journal.specs.declared.disk_fails.DiskFail.{DiskFail}

-- no failing call is left on the list
abbrev pub NoFailLeft : ℕ → List DiskFail → Type 0
NoFailLeft calls fails = All (λ fail. fail.call ≤ calls) fails

-- None where the call of that number succeeds, and otherwise whether its effect is done first; of two fails of one call the first counts
abbrev pub fate_of : List DiskFail → ℕ → Option Bool
fate_of fails call = option_map (λ fail. fail.done) (find (λ fail. nat_eq fail.call call) fails)

-- whether the call of that number fails with its effect done
abbrev pub is_done : List DiskFail → ℕ → Bool
is_done fails call = unwrap_or (fate_of fails call) false
