use Rattle.std.proofs.Common.{◌≡◌, ◌++◌, string_bytes, take}
use Rattle.std.specs.List.{flat_map}
use Rattle.ann_writer.specs.AnnOf.{class_line}
use Rattle.ann_writer.proofs.ann_file.push_classes.Given as goal

abbrev pub invariant-loop-class : goal.invariant-loop-class
invariant-loop-class l = string_bytes l.out ≡ string_bytes l.fn.out ++ flat_map (class_line l.conf) (take l.class-index l.classes)
