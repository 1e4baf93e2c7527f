-- What a keeper in memory does at each append: it fails at the numbers of its list.
use Rattle.std.specs.Prelude.{◌≡◌, ◌⊎◌, false, Result, is_err, IsErrOf}
use Rattle.mark_base.specs.FailList.{FailState, CountsCall}
use Rattle.project_journal.specs.declared.keeper.KeeperFault.{KeeperFault}
use Rattle.project_journal.specs.declared.keeper.KeeperFault.TheVariants.{Memory}
use Rattle.project_journal.specs.declared.memory_keeper.MemoryKeeper.{MemoryKeeper}

-- which appends of a keeper fail
abbrev pub fails_of_appends : MemoryKeeper → FailState
fails_of_appends keeper = keeper.fails

-- One append: it is counted, and answers Failed exactly where its number is listed. One that wants memory is no fault; where it wants it for the copy of its entry it is not counted.
pub record AppendsOnce (old new : MemoryKeeper) (result : Result (Unit {0}) KeeperFault) : Type 0 where
  pub called : (IsErrOf result Memory → ⊥) → CountsCall (fails_of_appends old) (is_err result) (fails_of_appends new)
  pub memory : IsErrOf result Memory → (fails_of_appends new ≡ fails_of_appends old) ⊎ CountsCall (fails_of_appends old) false (fails_of_appends new)
