-- The rules that a command or a layer may break: how they are named, and the order in which they are tested.
use Rattle.std.specs.Prelude.{ℕ, List, codes}
use Rattle.layer_model.specs.declared.rule.Rule.{Rule}
use Rattle.layer_model.specs.declared.rule.Rule.TheVariants as rule

-- the name of a rule, without what it names
abbrev pub rule_name : Rule → List ℕ
rule_name rule.UnknownType = codes "UnknownType"
rule_name rule.NotForUse = codes "NotForUse"
rule_name rule.BadFragments = codes "BadFragments"
rule_name rule.OutOfText = codes "OutOfText"
rule_name rule.SpanTooLong = codes "SpanTooLong"
rule_name (rule.NoSuch id) = codes "NoSuch"
rule_name (rule.WrongKind id) = codes "WrongKind"
rule_name rule.UnknownRole = codes "UnknownRole"
rule_name (rule.ArgumentType role) = codes "ArgumentType"
rule_name (rule.TooMany role) = codes "TooMany"
rule_name rule.NoSuchArgument = codes "NoSuchArgument"
rule_name rule.UnknownValue = codes "UnknownValue"
rule_name rule.TooDeep = codes "TooDeep"
rule_name (rule.SameSpan id) = codes "SameSpan"
rule_name (rule.SameEvent id) = codes "SameEvent"
rule_name (rule.SameRelation id) = codes "SameRelation"
rule_name (rule.AttributeThere id) = codes "AttributeThere"
rule_name rule.EquivMembers = codes "EquivMembers"
rule_name (rule.OverlapRefused id) = codes "OverlapRefused"
rule_name (rule.InUse id) = codes "InUse"
rule_name rule.BadText = codes "BadText"
rule_name (rule.LayerFull kind) = codes "LayerFull"
rule_name (rule.IdsUsedUp kind) = codes "IdsUsedUp"
rule_name (rule.TooFew event role) = codes "TooFew"
rule_name rule.DeskFull = codes "DeskFull"
rule_name rule.NothingToUndo = codes "NothingToUndo"
rule_name rule.NothingToRedo = codes "NothingToRedo"

-- the place of a rule in the order in which they are tested, from 1
abbrev pub number_of : Rule → ℕ
number_of rule.UnknownType = 1
number_of rule.NotForUse = 2
number_of rule.BadFragments = 3
number_of rule.OutOfText = 4
number_of rule.SpanTooLong = 5
number_of (rule.NoSuch id) = 6
number_of (rule.WrongKind id) = 7
number_of rule.UnknownRole = 8
number_of (rule.ArgumentType role) = 9
number_of (rule.TooMany role) = 10
number_of rule.NoSuchArgument = 11
number_of rule.UnknownValue = 12
number_of rule.TooDeep = 13
number_of (rule.SameSpan id) = 14
number_of (rule.SameEvent id) = 15
number_of (rule.SameRelation id) = 16
number_of (rule.AttributeThere id) = 17
number_of rule.EquivMembers = 18
number_of (rule.OverlapRefused id) = 19
number_of (rule.InUse id) = 20
number_of rule.BadText = 21
number_of (rule.LayerFull kind) = 22
number_of (rule.IdsUsedUp kind) = 23
number_of (rule.TooFew event role) = 24
number_of rule.DeskFull = 25
number_of rule.NothingToUndo = 26
number_of rule.NothingToRedo = 27
