-- What a broken rule names, as it is shown.
use Rattle.std.specs.Prelude.{ℕ, List, [], ◌∷◌, ◌++◌, Option, Some, None, unwrap_or, codes}
use Rattle.mark_base.specs.declared.ann_id.AnnId.{AnnId}
use Rattle.mark_base.specs.AnnIds.{letter_of, spelling_of}
use Rattle.conf_model.specs.Configurations.{Configuration}
use Rattle.conf_model.specs.Lookups.{relation_role, role_name}
use Rattle.layer_model.specs.declared.rule.Rule.{Rule}
use Rattle.layer_model.specs.declared.rule.Rule.TheVariants as rule
use Rattle.layer_model.specs.declared.rule.RoleAt.{RoleAt}
use Rattle.layer_model.specs.declared.rule.RoleAt.TheVariants as role

-- an ID, as it is spelt in an .ann file
abbrev pub id_text : AnnId → List ℕ
id_text id = spelling_of id.kind id.number

-- a role by its name; the one role of an attribute is `Arg`
abbrev pub role_text : Configuration → RoleAt → List ℕ
role_text conf (role.Event kind place) = unwrap_or (role_name conf kind.n place) []
role_text conf (role.Relation relation second) = unwrap_or (relation_role conf relation.n second) []
role_text conf role.Attribute = codes "Arg"

-- what a rule names: an annotation, a role, an event and a role of it, or a letter
abbrev pub carried_by_rule : Configuration → Rule → Option (List ℕ)
carried_by_rule conf (rule.NoSuch id) = Some (id_text id)
carried_by_rule conf (rule.WrongKind id) = Some (id_text id)
carried_by_rule conf (rule.ArgumentType role) = Some (role_text conf role)
carried_by_rule conf (rule.TooMany role) = Some (role_text conf role)
carried_by_rule conf (rule.SameSpan id) = Some (id_text id)
carried_by_rule conf (rule.SameEvent id) = Some (id_text id)
carried_by_rule conf (rule.SameRelation id) = Some (id_text id)
carried_by_rule conf (rule.AttributeThere id) = Some (id_text id)
carried_by_rule conf (rule.OverlapRefused id) = Some (id_text id)
carried_by_rule conf (rule.InUse id) = Some (id_text id)
carried_by_rule conf (rule.LayerFull kind) = Some (letter_of kind ∷ [])
carried_by_rule conf (rule.IdsUsedUp kind) = Some (letter_of kind ∷ [])
carried_by_rule conf (rule.TooFew event role) = Some (id_text event ++ (codes " " ++ role_text conf role))
carried_by_rule conf broken = None
