-- What breaks a rule where members of a well-formed layer are joined: the class that they make, or one class too many.
use Rattle.std.specs.Prelude.{ℕ, suc, length, map, nat_lt, List, [], ◌∷◌, Option, Some, None, option_map, if◌then◌else◌}
use Rattle.std.specs.Option.{option_or}
use Rattle.mark_base.specs.declared.ann_id.AnnId.{AnnId}
use Rattle.mark_base.specs.declared.ann_id.Kind.TheVariants as letter
use Rattle.mark_base.specs.declared.table_places.RelId.{RelId}
use Rattle.conf_model.specs.Configurations.{Configuration}
use Rattle.layer_model.specs.declared.class.Class.{Class}
use Rattle.layer_model.specs.declared.rule.Rule.{Rule}
use Rattle.layer_model.specs.declared.rule.Rule.TheVariants.{LayerFull}
use Rattle.layer_model.specs.declared.flaw.Flaw.{Flaw}
use Rattle.layer_model.specs.declared.flaw.FlawPlace.TheVariants as at
use Rattle.layer_model.specs.Annotations.{Annotations}
use Rattle.layer_model.specs.Classes.{apart, comes_before, joined, joined_class}
use Rattle.layer_rules.specs.MarkRules.{class_not_for_use, first_missing, first_unwanted, member, unknown_class}
use Rattle.layer_rules.specs.LayerRules.{equiv_members}
use Rattle.layer_core.specs.OwnRules.{first_broken}

-- where a class comes to stand among classes in their order
abbrev pub place_among : Class → List Class → ℕ
place_among class [] = 0
place_among class (first ∷ classes) = if comes_before class first then 0 else suc (place_among class classes)

-- the first rule that a class breaks, whatever the other classes are
abbrev pub alone_rule : Configuration → Annotations → Class → Option Rule
alone_rule conf layer class =
    first_broken (unknown_class conf class ∷ class_not_for_use conf class ∷ first_missing layer class.members ∷ first_unwanted (map (member conf layer) class.members) ∷ equiv_members conf layer class ∷ [])

-- the flaw of the 10,001st class, where there is one
abbrev pub too_many_classes : List Class → Option Flaw
too_many_classes classes = if nat_lt 10000 (length classes) then Some (record { rule = LayerFull letter.Text; at = at.Class 10000 }) else None

-- the flaw of the class that members make with all that share one, or else of the 10,001st class
abbrev pub joined_flaw : Configuration → Annotations → RelId → List AnnId → Option Flaw
joined_flaw conf layer kind members =
    let class = joined_class kind members layer.classes in
    option_or (option_map (λ rule. record { rule = rule; at = at.Class (place_among class (apart kind.n members layer.classes)) }) (alone_rule conf layer class)) (too_many_classes (joined kind members layer.classes))
