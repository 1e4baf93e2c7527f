use Rattle.std.proofs.Common.{◌≡◌, ◌++◌, take}
use Rattle.annotation_conf.proofs.canonical_text.push_names.Given as goal

abbrev pub invariant-loop-name : goal.invariant-loop-name
invariant-loop-name l = l.words.items ≡ l.initial.words.items ++ take l.name-index l.names
