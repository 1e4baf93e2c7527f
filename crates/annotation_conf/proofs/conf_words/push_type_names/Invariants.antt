use Rattle.std.proofs.Common.{◌≡◌, ◌++◌, map, take}
use Rattle.conf_model.specs.ConfText.{type_name_at}
use Rattle.annotation_conf.proofs.conf_words.push_type_names.Given as goal

abbrev pub invariant-loop-place : goal.invariant-loop-place
invariant-loop-place l = l.words.items ≡ l.initial.words.items ++ map (type_name_at l.conf) (take l.place-index l.places)
