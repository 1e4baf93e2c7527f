-- A desk after any calls.
use Rattle.std.specs.Prelude.{List, [], ◌∷◌, option_map, unwrap_or}
use Rattle.std.specs.Result.{result_ok}
use Rattle.layer_core.specs.declared.command.Command.{Command}
use Rattle.layer_undo.specs.Desks.{DeskState, performed, after_undo, after_redo, settled}

-- what is asked of a desk
pub data Call : Type 0 where
  Perform : Command → Call
  Undo : Call
  Redo : Call
  Settle : Call

-- the desk behind a call; one that is refused leaves it as it was
abbrev pub after_call : DeskState → Call → DeskState
after_call desk (Perform command) = unwrap_or (option_map (λ p. p.desk) (result_ok (performed desk command))) desk
after_call desk Undo = unwrap_or (result_ok (after_undo desk)) desk
after_call desk Redo = unwrap_or (result_ok (after_redo desk)) desk
after_call desk Settle = settled desk

-- the desk behind some calls in turn
abbrev pub after_calls : DeskState → List Call → DeskState
after_calls desk [] = desk
after_calls desk (call ∷ calls) = after_calls (after_call desk call) calls
