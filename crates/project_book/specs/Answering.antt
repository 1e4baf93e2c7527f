-- What a request to a book makes of it (private calls only).
use Rattle.std.specs.Prelude.{◌≡◌, ℕ, List, [], Option, Some, Result, Ok, Err}
use Rattle.project_journal.specs.declared.keeper.KeeperFault.{KeeperFault}
use Rattle.project_journal.specs.declared.keeper.KeeperFault.TheVariants as keeper
use Rattle.project_journal.specs.Stops.{LeavesOnly}
use Rattle.project_machine.specs.declared.book_refusal.BookRefusal.TheVariants as no
use Rattle.project_machine.specs.Requests.{Asked, Answered, Refused}
use Rattle.project_machine.specs.Asking.{IsDoubted, IsLeftByAsk, IsStep}
use Rattle.project_state.specs.declared.reply.Reply.{Reply}
use Rattle.project_state.specs.Values.{answer_of}
use Rattle.project_book.specs.Keeping.{BookValue, GoesAlong, TellsKeeper, tabling_behind}

-- what is answered: a reply, or that the keeper failed or memory ran out, which names nothing
abbrev pub answer_behind : Result Reply KeeperFault → Answered
answer_behind (Ok reply) = answer_of reply
answer_behind (Err keeper.Failed) = Refused no.Keeper []
answer_behind (Err keeper.Memory) = Refused no.Memory []

-- what a request makes of a book, what it answers, what a stop meanwhile leaves, and how many steps it takes
pub record IsAnswered {K : Type 0} (kept : K → Option (List (List ℕ))) (doubt : K → Option (List ℕ)) (moment : K → ℕ) (left_since : K → ℕ → Option (List (List ℕ)) → Type 0) (faults : K → ℕ) (faultless : K → Type 0)
    (old new : BookValue K) (caller : List ℕ) (asked : Asked) (answer : Answered) (steps_old steps_new : ℕ) : Type 0 where
  pub step : IsStep old.log caller asked answer new.log
  pub doubted : IsDoubted old.log caller asked answer new.log (doubt old.keeper) (doubt new.keeper)
  pub any_moment : (entries : List (List ℕ)) → kept old.keeper ≡ Some entries → LeavesOnly moment left_since old.keeper new.keeper (IsLeftByAsk old.log (doubt old.keeper) caller asked)
  pub keeper : TellsKeeper faults faultless old.keeper new.keeper (answer ≡ Refused no.Keeper [])
  pub tables : GoesAlong (tabling_behind old.log new.log) old.tables new.tables steps_old steps_new
