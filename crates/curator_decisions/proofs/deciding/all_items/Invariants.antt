use Rattle.std.proofs.Common.{◌≡◌, drop, is_some}
use Rattle.std.specs.List.{list_all}
use Rattle.curator_decisions.specs.Naming.{entry_as}
use Rattle.curator_decisions.proofs.deciding.all_items.Given as goal

abbrev pub invariant-loop-one : goal.invariant-loop-one
invariant-loop-one l = list_all (λ one. is_some (entry_as l.entries one.0)) l.pairs ≡ list_all (λ one. is_some (entry_as l.entries one.0)) (drop l.one-index l.pairs)
