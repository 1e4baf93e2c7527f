use Rattle.std.proofs.Common.{◌≡◌, ◌++◌, string_bytes, take}
use Rattle.std.specs.List.{flat_map}
use Rattle.conf_model.specs.ConfText.{overlap_text}
use Rattle.annotation_conf.proofs.canonical_text.push_overlaps.Given as goal

abbrev pub invariant-loop-line : goal.invariant-loop-line
invariant-loop-line l = string_bytes l.out ≡ string_bytes l.initial.out ++ flat_map (overlap_text l.conf) (take l.line-index l.lines)
