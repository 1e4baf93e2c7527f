use Rattle.std.proofs.Common.{◌≡◌, drop, None}
use Rattle.std.specs.List.{filter, fold}
use Rattle.token_columns.specs.WriteFaults.{earlier, is_misnumbered}
use Rattle.token_columns.proofs.write_faults.misnumbered.Given as goal

abbrev pub invariant-loop-span : goal.invariant-loop-span
invariant-loop-span l = fold earlier l.found (filter (is_misnumbered l.spans) (drop l.span-index l.spans)) ≡ fold earlier None (filter (is_misnumbered l.spans) l.spans)
