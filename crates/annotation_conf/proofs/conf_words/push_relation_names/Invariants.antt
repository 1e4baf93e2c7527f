use Rattle.std.proofs.Common.{◌≡◌, ◌++◌, map, filter, not, take}
use Rattle.conf_model.specs.ConfText.{relation_name_at, has_type_named}
use Rattle.annotation_conf.proofs.conf_words.push_relation_names.Given as goal

abbrev pub invariant-loop-place : goal.invariant-loop-place
invariant-loop-place l = l.words.items
    ≡ l.initial.words.items ++ map (relation_name_at l.conf) (filter (λ place. not (has_type_named l.conf l.types (relation_name_at l.conf place))) (take l.place-index l.places))
