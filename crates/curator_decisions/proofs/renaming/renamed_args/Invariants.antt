use Rattle.std.proofs.Common.{◌≡◌, map, take}
use Rattle.curator_decisions.specs.Curated.{renamed_arg}
use Rattle.curator_decisions.specs.Placing.{rename_by}
use Rattle.curator_decisions.proofs.renaming.renamed_args.Given as goal

abbrev pub invariant-loop-arg : goal.invariant-loop-arg
invariant-loop-arg l = l.out.items ≡ map (renamed_arg (rename_by l.names)) (take l.arg-index l.args)
