use Rattle.std.proofs.Common.{◌≡◌, ◌++◌, string_bytes, take}
use Rattle.std.specs.List.{flat_map}
use Rattle.conf_model.specs.ConfText.{attribute_text}
use Rattle.annotation_conf.proofs.canonical_text.push_attributes.Given as goal

abbrev pub invariant-loop-attribute : goal.invariant-loop-attribute
invariant-loop-attribute l = string_bytes l.out ≡ string_bytes l.initial.out ++ flat_map (attribute_text l.conf) (take l.attribute-index l.attributes)
