-- What is made of a request.
use Rattle.std.specs.Prelude.{◌≡◌, ℕ, ◌+◌, List, Some, None, IfSome}
use Rattle.std.specs.Option.{option_map}
use Rattle.project_machine.specs.ProjectState.{ProjectState}
use Rattle.project_machine.specs.Requests.{Asked, Happened}
use Rattle.project_machine.specs.Machine.{change, first_of, reply, tests}
use Rattle.project_machine.specs.History.{effect}
use Rattle.project_state.specs.Acting.{CanAct, FitsRows, performed}
use Rattle.project_state.specs.Values.{answer_of, happened_of}
use Rattle.project_state.specs.Tables.Tabling.{tabling_by, tabling_of}
use Rattle.project_steps.specs.declared.steps.accepted.Made.{Made}
use Rattle.project_steps.specs.declared.steps.accepted.Accepted.{Accepted}
use Rattle.project_steps.specs.declared.steps.accepted.Outcome.{Outcome}
use Rattle.project_steps.specs.declared.steps.accepted.Outcome.TheVariants as outcome

-- what a change makes happen
abbrev pub made_happen : Made → Happened
made_happen made = happened_of made.change

-- a change that a request makes comes with the act that does it at the next place, which does the same to the tables and can be done
pub record IsMade (s : ProjectState) (made : Made) : Type 0 where
  pub acts : performed made.act s ≡ effect (s.place + 1) (made_happen made) s
  pub tables : tabling_by s made.act ≡ tabling_of s (made_happen made)
  pub can : CanAct made.act s
  pub fits : FitsRows made.act s

-- the answer is the one to a request that is not refused, and the change is what it makes happen
pub record Accepts (s : ProjectState) (caller : List ℕ) (asked : Asked) (accepted : Accepted) : Type 0 where
  pub answer : answer_of accepted.reply ≡ reply s caller asked
  pub change : option_map made_happen accepted.made ≡ change s caller asked
  pub made : IfSome accepted.made (IsMade s)

-- a request of one who may make it is refused by its first test that is not passed, or accepted where there is none
abbrev pub IsOutcome : ProjectState → List ℕ → Asked → Outcome → Type 0
IsOutcome s caller asked (outcome.Refused refusal) = first_of (tests s caller asked) ≡ Some refusal
IsOutcome s caller asked (outcome.Accepted accepted) = (first_of (tests s caller asked) ≡ None) × Accepts s caller asked accepted
