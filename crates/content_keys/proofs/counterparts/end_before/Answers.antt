use Rattle.std.proofs.Common.{◌≡◌, ℕ, true, false, nat_lt, subst, rules}
use Rattle.std.specs.List.Sorted.{IsPartitionPoint}
use Rattle.std.proofs.lemmas.Bool.Decides.{nat_tests}
use Rattle.std.proofs.lemmas.List.Sorted.{IsPartitionedBy-ltb, IsPartitionPoint-from_clause}
use Rattle.layer_model.specs.Classes.{rank}
use Rattle.content_keys.specs.declared.counterparts.Found.{Found}
use Rattle.content_keys.proofs.counterparts.end_before.Goals as goal

pub returns : goal.returns
returns c =
    subst (λ (n : ℕ). IsPartitionPoint (λ (y : Found). nat_lt (rank y.id) n ≡ true) (λ (y : Found). nat_lt (rank y.id) n ≡ false) c.args.found.now c.partition_point.result) c.rank-sought.ensures
    (IsPartitionPoint-from_clause (λ (y : Found). nat_lt (rank y.id) c.rank-sought.result) c.args.found.now c.partition_point.result c.partition_point.ensures.partitioned
    (IsPartitionedBy-ltb (λ (y : Found). rank y.id) c.args.found.now c.rank-sought.result c.requires) (λ a r g q. search (rules, nat_tests)))
