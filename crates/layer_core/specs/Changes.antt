-- What a command does to a layer, as the code keeps it until it is judged (private calls only).
use Rattle.std.specs.Prelude.{◌≡◌, ⊤, ℕ, ◌<◌, true, IfSome, List, length, Option, Some, None, option_map}
use Rattle.mark_base.specs.declared.ann_id.AnnId.{AnnId}
use Rattle.conf_model.specs.Configurations.{Configuration}
use Rattle.layer_model.specs.declared.rule.Rule.{Rule}
use Rattle.layer_model.specs.Annotations.{Annotations}
use Rattle.layer_model.specs.Classes.{joined, parted}
use Rattle.layer_model.specs.Layers.{is_of_kind, with_classes, with_mark}
use Rattle.layer_rules.specs.WellFormed.{least_flaw}
use Rattle.layer_core.specs.declared.command.Command.{Command}
use Rattle.layer_core.specs.declared.command.Command.TheVariants as ask
use Rattle.layer_core.specs.declared.change.Change as changing
use Rattle.layer_core.specs.declared.change.Change.TheVariants as change
use Rattle.layer_core.specs.CommandRules.{first_naming}
use Rattle.layer_core.specs.Commands.{told_of}
use Rattle.layer_core.specs.MadeLayers.{Draft, gone, with_less, without_all}
use Rattle.layer_core.specs.Namers.{AreNamersOf}

-- the draft that a change makes of a layer
abbrev pub draft_by : Annotations → changing.Change → Option Draft
draft_by layer change.Nothing = None
draft_by layer (change.Put id mark is_new) = Some (record { layer = with_mark layer id mark; changed = Some id; is_new = is_new })
draft_by layer (change.Without id) = Some (with_less (gone layer id))
draft_by layer (change.Join kind members) = Some (with_less (with_classes layer (joined kind members layer.classes)))
draft_by layer (change.Part kind id) = Some (with_less (with_classes layer (parted kind.n id layer.classes)))
draft_by layer (change.Less ids) = Some (with_less (without_all layer ids))
draft_by layer (change.Whole whole) = Some (with_less whole)

-- an annotation that is put fits its ID, one that goes is named by none, and there are members that are joined
abbrev pub FitsLayer : Annotations → changing.Change → Type 0
FitsLayer layer change.Nothing = ⊤
FitsLayer layer (change.Put id mark is_new) = is_of_kind id.kind mark ≡ true
FitsLayer layer (change.Without id) = first_naming layer id ≡ None
FitsLayer layer (change.Join kind members) = 0 < length members
FitsLayer layer (change.Part kind id) = ⊤
FitsLayer layer (change.Less ids) = ⊤
FitsLayer layer (change.Whole whole) = ⊤

-- the annotation of which a command asks who names it
abbrev pub subject : Command → Option AnnId
subject (ask.RetypeSpan id kind) = Some id
subject (ask.SetAttribute kind target value) = Some target
subject (ask.ClearAttribute id) = Some id
subject (ask.SetNote target kind text) = Some target
subject (ask.SetReference target store entry text) = Some target
subject (ask.Delete id) = Some id
subject command = None

-- these are all annotations that name the one of which a command asks, ascending
abbrev pub AreNamers : Annotations → Command → List AnnId → Type 0
AreNamers layer command ids = IfSome (subject command) (λ id. AreNamersOf layer id ids)

-- the rule that a layer breaks because of the annotation that was put under an ID
abbrev pub changed_rule : Configuration → ℕ → Annotations → AnnId → Option Rule
changed_rule conf characters layer id = option_map (λ flaw. told_of conf layer id flaw.rule) (least_flaw conf characters layer)
