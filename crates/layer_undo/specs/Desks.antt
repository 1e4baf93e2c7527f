-- A desk: the layer that it was opened on, the commands done on it since, and those undone.
use Rattle.std.specs.Prelude.{◌≡◌, ℕ, List, [], ◌∷◌, ◌++◌, ◌-◌, length, take, nat_lt, slice_get, Option, None, option_map, ok_or, unwrap_or, Result, Ok, Err, if◌then◌else◌, refl}
use Rattle.std.specs.Result.{result_ok}
use Rattle.std.specs.Coded.{Coded, code_by, coded×, coded_ℕ, coded_list}
use Rattle.mark_base.specs.declared.ann_id.AnnId.{AnnId}
use Rattle.conf_model.specs.Configurations.{Configuration, configuration_code}
use Rattle.layer_model.specs.declared.rule.Rule.{Rule}
use Rattle.layer_model.specs.declared.rule.Rule.TheVariants.{DeskFull, NothingToUndo, NothingToRedo}
use Rattle.layer_model.specs.Annotations.{Annotations, annotations_code}
use Rattle.layer_core.specs.declared.command.Command.{Command}
use Rattle.layer_core.specs.contracts.command.Command as command_row
use Rattle.layer_core.specs.Commands.{Applied, apply}
use Rattle.layer_rules.specs.WellFormed.{IsWellFormed}
use Rattle.layer_core.specs.Works.{WorkState}
use Rattle.layer_undo.specs.Replays.{first_refusal, replay}

-- the configuration, the characters of the text, the layer that the desk was opened on, and two scripts; the last of undone was undone last
pub record DeskState : Type 0 where
  pub conf : Configuration
  pub text : List ℕ
  pub base : Annotations
  pub done : List Command
  pub undone : List Command

-- it is stored as the tuple of its fields
abbrev pub desk_code : Coded DeskState
desk_code =
    code_by (Configuration × (List ℕ × (Annotations × (List Command × List Command))))
    (coded× configuration_code (coded× (coded_list coded_ℕ) (coded× annotations_code (coded× (coded_list command_row.the_row.coded) (coded_list command_row.the_row.coded)))))
    (λ d. (d.conf, (d.text, (d.base, (d.done, d.undone)))))
    (λ p. record { conf = p.0; text = p.1.0; base = p.1.1.0; done = p.1.1.1.0; undone = p.1.1.1.1 }) (λ _. refl)

-- a desk: its base is well-formed, and its scripts are not refused
pub record IsDesk (desk : DeskState) : Type 0 where
  pub base : IsWellFormed desk.conf (length desk.text) desk.base
  pub accepted : first_refusal desk.conf (length desk.text) desk.base desk.done desk.undone ≡ None

-- the layer of a desk: the done commands carried out on its base
abbrev pub layer_of : DeskState → Annotations
layer_of desk = unwrap_or (result_ok (replay desk.conf (length desk.text) desk.base desk.done)) desk.base

-- a work that has the layer of a desk
pub record IsWorkOf (desk : DeskState) (work : WorkState) : Type 0 where
  pub is_desk : IsDesk desk
  pub conf : work.conf ≡ desk.conf
  pub text : work.text ≡ desk.text
  pub layer : replay desk.conf (length desk.text) desk.base desk.done ≡ Ok work.layer

-- a desk with other scripts
abbrev pub with_scripts : DeskState → List Command → List Command → DeskState
with_scripts desk done undone = record { conf = desk.conf; text = desk.text; base = desk.base; done = done; undone = undone }

-- a desk, and the annotation that a command made on it
pub record Performed : Type 0 where
  pub desk : DeskState
  pub made : Option AnnId

-- a command that was carried out stands at the end of done, and nothing is undone any more
abbrev pub taken_in : DeskState → Command → Result Applied Rule → Result Performed Rule
taken_in desk command (Ok applied) = Ok (record { desk = with_scripts desk (desk.done ++ command ∷ []) []; made = applied.made })
taken_in desk command (Err rule) = Err rule

-- a command on a desk: full is tested first
abbrev pub performed : DeskState → Command → Result Performed Rule
performed desk command =
    if nat_lt (length desk.done) 4096 then taken_in desk command (apply desk.conf (length desk.text) (layer_of desk) command) else Err DeskFull

-- the last of a list
abbrev pub last_of : {X : Type 0} → List X → Option X
last_of xs = slice_get xs (length xs - 1)

-- a list without its last
abbrev pub but_last : {X : Type 0} → List X → List X
but_last xs = take (length xs - 1) xs

-- the last command done moves to the end of undone
abbrev pub after_undo : DeskState → Result DeskState Rule
after_undo desk = ok_or (option_map (λ command. with_scripts desk (but_last desk.done) (desk.undone ++ command ∷ [])) (last_of desk.done)) NothingToUndo

-- the last command undone moves back to the end of done
abbrev pub after_redo : DeskState → Result DeskState Rule
after_redo desk = ok_or (option_map (λ command. with_scripts desk (desk.done ++ command ∷ []) (but_last desk.undone)) (last_of desk.undone)) NothingToRedo

-- the layer of a desk becomes its base, and both scripts become empty
abbrev pub settled : DeskState → DeskState
settled desk = record { conf = desk.conf; text = desk.text; base = layer_of desk; done = []; undone = [] }
