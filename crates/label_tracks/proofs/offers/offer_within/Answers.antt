use Rattle.std.proofs.Common.{◌≡◌, ℕ, List, true, false, nat_lt, arith, rules}
use Rattle.std.proofs.lemmas.Bool.Decides.{nat_tests}
use Rattle.std.specs.List.Sorted.{IsPartitionPoint}
use Rattle.std.proofs.lemmas.List.Sorted.{IsPartitionedBy-ltb, IsPartitionPoint-from_clause}
use Rattle.mark_base.specs.declared.fragments.Frag.{Frag}
use Rattle.label_tracks.proofs.OfferLemmas.{fragment_offered}
use Rattle.label_tracks.proofs.offers.offer_within.Goals as goal

pub returns : goal.returns
returns c =
    let tokens : List Frag = c.args.tokens.now in
    let start : ℕ = c.args.frag.start in
    let end : ℕ = c.args.frag.end in
    let first : IsPartitionPoint (λ (y : Frag). nat_lt y.start start ≡ true) (λ (y : Frag). nat_lt y.start start ≡ false) tokens c.partition_point-from.result =
    IsPartitionPoint-from_clause (λ (y : Frag). nat_lt y.start start) tokens c.partition_point-from.result c.partition_point-from.ensures.partitioned
    (IsPartitionedBy-ltb (λ (y : Frag). y.start) tokens start c.requires.ascending) (λ a r g q. search (rules, nat_tests)) in
    let last : IsPartitionPoint (λ (y : Frag). nat_lt y.start end ≡ true) (λ (y : Frag). nat_lt y.start end ≡ false) tokens c.partition_point.result =
    IsPartitionPoint-from_clause (λ (y : Frag). nat_lt y.start end) tokens c.partition_point.result c.partition_point.ensures.partitioned
    (IsPartitionedBy-ltb (λ (y : Frag). y.start) tokens end c.requires.ascending) (λ a r g q. search (rules, nat_tests)) in
    fragment_offered tokens c.args.frag c.partition_point-from.result c.partition_point.result c.loop-i.i c.args.candidate c.args.found.now c.loop-i.found first last (let capped = c.max-to.ensures in let stop = c.loop-i-test.false in let most = c.loop-i.auto.i-end in omega arith) c.loop-i.invariant.1
