use Rattle.std.proofs.Common.{◌≡◌}
use Rattle.layer_rules.specs.WellFormed.{commit_fault}
use Rattle.layer_rules.proofs.CommitLemmas.{first_few}
use Rattle.layer_rules.proofs.commit.may_commit.Given as goal

abbrev pub invariant-loop-number : goal.invariant-loop-number
invariant-loop-number l = first_few l.conf l.number-iterator ≡ commit_fault l.conf l.layer
