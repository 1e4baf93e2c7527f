-- What leads from the layer that a command made back to the layer before it.
use Rattle.std.specs.Prelude.{◌≡◌, ℕ, Bool, true, nat_lt, List, [], ◌∷◌, length, Option, Some, None}
use Rattle.std.specs.Option.{option_map_or}
use Rattle.std.specs.List.{list_all}
use Rattle.mark_base.specs.declared.ann_id.AnnId.{AnnId}
use Rattle.mark_base.specs.declared.ann_id.Kind.{Kind}
use Rattle.mark_base.specs.declared.table_places.RelId.{RelId}
use Rattle.conf_model.specs.Configurations.{Configuration}
use Rattle.layer_model.specs.declared.mark.Mark.{Mark}
use Rattle.layer_model.specs.declared.class.Class.{Class}
use Rattle.layer_model.specs.Annotations.{Annotations}
use Rattle.layer_model.specs.Classes.{joined}
use Rattle.layer_model.specs.Layers.{is_of_kind, mark_at, with_classes, with_marked, without_number}
use Rattle.layer_core.specs.declared.command.Command.{Command}
use Rattle.layer_core.specs.declared.back.Back.{Back}
use Rattle.layer_core.specs.declared.back.Back.TheVariants.{Same, Under, Member, Classes, Marks, Whole}
use Rattle.layer_core.specs.declared.taken.Left.{Left}
use Rattle.layer_core.specs.declared.taken.Taken.{Taken}
use Rattle.layer_core.specs.MadeLayers.{Draft, draft}
use Rattle.layer_core.specs.Regrouped.{all_joined, all_parted}

-- the layer with this under a letter and a number: a mark, or nothing
abbrev pub with_this : Annotations → Kind → ℕ → Option Mark → Annotations
with_this layer kind number None = without_number layer kind number
with_this layer kind number (Some mark) = with_marked layer kind number mark

-- an ID stands again in the classes that it left, the last of them first
abbrev pub with_left : AnnId → List Left → List Class → List Class
with_left id [] classes = classes
with_left id (left ∷ more_) classes = joined left.kind (id ∷ left.beside ∷ []) (with_left id more_ classes)

-- an annotation that was taken away stands again, and in the classes that it left
abbrev pub with_taken : Taken → Annotations → Annotations
with_taken taken layer = with_this (with_classes layer (with_left taken.id taken.left layer.classes)) taken.id.kind taken.id.number taken.mark

-- so do some, the one that went last first
abbrev pub with_all_taken : List Taken → Annotations → Annotations
with_all_taken [] layer = layer
with_all_taken (taken ∷ more_) layer = with_taken taken (with_all_taken more_ layer)

-- the class that was left beside a member that stays, where one was (private calls only)
abbrev pub left_beside : RelId → Option AnnId → List Left
left_beside kind None = []
left_beside kind (Some beside) = record { kind = kind; beside = beside } ∷ []

-- the layer that a way back leads to
abbrev pub led_back : Back → Annotations → Annotations
led_back Same layer = layer
led_back (Under id mark) layer = with_this layer id.kind id.number mark
led_back (Member kind id beside) layer = with_classes layer (joined kind (id ∷ beside ∷ []) layer.classes)
led_back (Classes kind out again) layer = with_classes layer (all_joined again (all_parted kind.n out layer.classes))
led_back (Marks taken) layer = with_all_taken taken layer
led_back (Whole earlier) layer = earlier

-- an annotation that was taken away is of the sort that stands under its ID
abbrev pub fits_taken : Taken → Bool
fits_taken taken = option_map_or (is_of_kind taken.id.kind) taken.mark true

-- a class has a member
abbrev pub has_some : Class → Bool
has_some class = nat_lt 0 (length class.members)

-- what a way back puts under an ID is of the sort that stands there, and each class that it joins has a member
abbrev pub fits_back : Back → Bool
fits_back Same = true
fits_back (Under id mark) = option_map_or (is_of_kind id.kind) mark true
fits_back (Member kind id beside) = true
fits_back (Classes kind out again) = list_all has_some again
fits_back (Marks taken) = list_all fits_taken taken
fits_back (Whole earlier) = true

-- a way back from one layer to another
pub record IsWayBack (back : Back) (layer earlier : Annotations) : Type 0 where
  pub fits : fits_back back ≡ true
  pub leads : led_back back layer ≡ earlier

-- what was taken away leads back to an earlier layer (private calls only)
pub record IsTaken (taken : Taken) (layer earlier : Annotations) : Type 0 where
  pub fits : fits_taken taken ≡ true
  pub leads : with_taken taken layer ≡ earlier

-- so does all that was taken away (private calls only)
pub record AreTaken (taken : List Taken) (layer earlier : Annotations) : Type 0 where
  pub fits : list_all fits_taken taken ≡ true
  pub leads : with_all_taken taken layer ≡ earlier

-- a layer is an earlier one again where what stood under an ID stands there again
abbrev pub DiffersUnder : Annotations → AnnId → Annotations → Type 0
DiffersUnder layer id earlier = with_this layer id.kind id.number (mark_at earlier id) ≡ earlier

-- the draft of a command for some configuration
abbrev pub IsDraftOf : Annotations → Command → Draft → Type 0
IsDraftOf layer command made = (conf : Configuration) × (draft conf layer command ≡ Some made)
