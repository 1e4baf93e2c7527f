use Rattle.std.proofs.Common.{nat_lt, rules}
use Rattle.std.proofs.lemmas.Bool.Decides.{nat_tests}
use Rattle.std.proofs.lemmas.List.Sorted.{IsPartitionedBy-ltb, IsPartitionPoint-from_clause}
use Rattle.unanimous_merge.specs.declared.item.ItemId.{ItemId}
use Rattle.curator_decisions.specs.declared.verdict.Verdict.{Verdict}
use Rattle.curator_decisions.specs.Decisions.{item_rank}
use Rattle.curator_decisions.proofs.SearchLemmas.{rise}
use Rattle.curator_decisions.proofs.decisions.end_before.Goals as goal

pub returns-clause-end : goal.returns-clause-end
returns-clause-end c =
    IsPartitionPoint-from_clause (λ (y : ItemId × Verdict). nat_lt (item_rank y.0) c.args.sought) c.args.decided.now c.partition_point.result c.partition_point.ensures.partitioned
    (IsPartitionedBy-ltb (λ (y : ItemId × Verdict). item_rank y.0) c.args.decided.now c.args.sought (rise c.args.decided.now c.requires)) (λ a r g q. search (rules, nat_tests))
