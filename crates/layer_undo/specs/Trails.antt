-- The ways back from commands that were carried out in turn.
use Rattle.std.specs.Prelude.{◌≡◌, ℕ, List, [], ◌∷◌, ◌++◌, length, IfOk, ⊤}
use Rattle.conf_model.specs.Configurations.{Configuration}
use Rattle.layer_model.specs.Annotations.{Annotations}
use Rattle.layer_core.specs.declared.command.Command.{Command}
use Rattle.layer_core.specs.declared.back.Back.{Back}
use Rattle.layer_core.specs.Backs.{IsWayBack, led_back}
use Rattle.layer_core.specs.Commands.{apply}
use Rattle.layer_core.specs.Works.{WorkState}
use Rattle.layer_undo.specs.Desks.{DeskState, IsWorkOf}

-- a way back for each of some commands that are carried out in turn on a layer: from the layer that the command makes to the one before it
abbrev pub IsTrail : Configuration → ℕ → Annotations → List Command → List Back → Type 0
IsTrail conf characters layer [] [] = ⊤
IsTrail conf characters layer (command ∷ commands) (back ∷ backs) =
    IfOk (apply conf characters layer command) (λ made. IsWayBack back made.layer layer × IsTrail conf characters made.layer commands backs)
IsTrail conf characters layer [] (back ∷ backs) = ⊥
IsTrail conf characters layer (command ∷ commands) [] = ⊥

-- what a desk keeps: a work that has its layer, and a way back for each command done
pub record IsKept (desk : DeskState) (work : WorkState) (backs : List Back) : Type 0 where
  pub is_work : IsWorkOf desk work
  pub trail : IsTrail desk.conf (length desk.text) desk.base desk.done backs

-- the last of some ways back was gone, and these are left
pub record IsReverted (old new : WorkState) (backs fewer : List Back) : Type 0 where
  pub back : Back
  pub last : backs ≡ fewer ++ back ∷ []
  pub work : new ≡ record { conf = old.conf; text = old.text; layer = led_back back old.layer }

-- a way back more stands behind the others, and it leads to the layer before
pub record IsOneMore (old new : WorkState) (backs more : List Back) : Type 0 where
  pub back : Back
  pub last : more ≡ backs ++ back ∷ []
  pub way : IsWayBack back new.layer old.layer
