use Rattle.std.proofs.Common.{◌≡◌, ◌++◌, string_bytes, take}
use Rattle.std.specs.List.{flat_map}
use Rattle.conf_model.specs.ConfText.{relation_text}
use Rattle.annotation_conf.proofs.canonical_text.push_relations.Given as goal

abbrev pub invariant-loop-relation : goal.invariant-loop-relation
invariant-loop-relation l = string_bytes l.out ≡ string_bytes l.initial.out ++ flat_map (relation_text l.conf) (take l.relation-index l.relations)
