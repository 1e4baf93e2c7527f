-- What a book keeps between two calls, and what a call of it does to its tables and its keeper.
use Rattle.std.specs.Prelude.{◌≡◌, ℕ, ◌+◌, ◌≤◌, List, [], ◌∷◌, ◌++◌, length, slice_get, Option}
use Rattle.std.specs.Option.{option_map_or}
use Rattle.mark_base.specs.Streams.{TellsFault}
use Rattle.label_tracks.specs.Levels.{Grouping, grouping_of}
use Rattle.kappa_alpha.specs.Standing.{Standing}
use Rattle.project_machine.specs.ProjectState.{ProjectState}
use Rattle.project_machine.specs.Requests.{Happened}
use Rattle.project_machine.specs.History.{after}
use Rattle.project_machine.specs.Legal.{HasRoom, IsLegal}
use Rattle.project_machine.specs.Tables.{standing_of}
use Rattle.project_machine.specs.Asking.{IsKeptBy}
use Rattle.project_state.specs.declared.tables.tabling.TableAct.{TableAct}
use Rattle.project_state.specs.declared.tables.tabling.TableAct.TheVariants as table
use Rattle.project_state.specs.Tables.Tabling.{most_steps, tabled, tabling_of}
use Rattle.project_steps.specs.declared.steps.judging.Kept.{Kept}
use Rattle.project_steps.specs.Steps.Judging.{IsKeptChange, kept_happens}

-- a book, as contracts see it: its history, its keeper and its tables
pub record BookValue (K : Type 0) : Type 0 where
  pub log : List Happened
  pub keeper : K
  pub tables : Standing

-- the tables of a state: the labels of all rows that were committed and are not ignored, whatever room there is
abbrev pub AreTables : ProjectState → Standing → Type 0
AreTables s tables = tables ≡ standing_of s tables.spare

-- what is true of each book between two calls: its history is legal and has room, the state is the one behind it, the tables and the groups are those of the state, and what the keeper tells are the entries of the history
pub record Stands (log : List Happened) (state : ProjectState) (groups : Grouping) (tables : Standing) (kept : Option (List (List ℕ))) (doubt : Option (List ℕ)) : Type 0 where
  pub legal : IsLegal log
  pub room : HasRoom log
  pub state_is : state ≡ after log
  pub tables_are : AreTables state tables
  pub groups_are : groups ≡ grouping_of state.conf.types state.level
  pub kept_is : IsKeptBy log kept doubt

-- a change follows on a history: it goes on with it, and it comes with its entry and its act
pub record Follows (log : List Happened) (kept : Kept) : Type 0 where
  pub legal : IsLegal (log ++ kept_happens kept ∷ [])
  pub change : IsKeptChange (after log) kept

-- what is done to the tables from a history to one that has one change more, or none: what that change does to them, or nothing
abbrev pub tabling_behind : List Happened → List Happened → TableAct
tabling_behind old new = option_map_or (tabling_of (after old)) (slice_get new (length old)) table.Nothing

-- the tables went along: with room made for some documents this was done to them, in no more steps than it takes
pub record GoesAlong (act : TableAct) (old new : Standing) (steps_old steps_new : ℕ) : Type 0 where
  pub spare : ℕ
  pub moved : new ≡ tabled act (record old { spare = spare })
  pub few : steps_new ≤ steps_old + most_steps act old

-- what a call tells of the faults of its keeper: the count rose where the call says that the keeper failed, and stands elsewhere; where no fault can come none comes, and it stays so
pub record TellsKeeper {K : Type 0} (faults : K → ℕ) (faultless : K → Type 0) (old new : K) (failed : Type 0) : Type 0 where
  pub later : faults old ≤ faults new
  pub cause : TellsFault failed (faults old) (faults new)
  pub stays : faultless old → faultless new × (faults new ≡ faults old)
  pub never : faultless old → failed → ⊥
