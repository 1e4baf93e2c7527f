use Rattle.std.proofs.Common.{◌≡◌, ◌∙◌, ◌≤◌, sym, ap, subst, nat_le, count_by, length, rules, List, map, true, false}
use Rattle.std.proofs.lemmas.Bool.Decides.{nat_tests}
use Rattle.std.specs.List.Sorted.{IsPartitionPoint}
use Rattle.std.proofs.lemmas.List.Sorted.{IsPartitionedBy-leb, IsPartitionPoint-from_clause}
use Rattle.annotation_conf.specs.declared.known_names.DeclaredName.{DeclaredName}
use Rattle.conf_model.specs.ConfFaults.{Declared}
use Rattle.annotation_conf.specs.FirstFaults.{IsRising}
use Rattle.annotation_conf.specs.NamePlaces.{seen_declared}
use Rattle.annotation_conf.proofs.FaultNames.{count_up_to, rising_goes, rising_of_map}
use Rattle.annotation_conf.proofs.known_names.Names.count_up_to.Goals as goal

pub returns-clause-value : goal.returns-clause-value
returns-clause-value c =
    let lines : List DeclaredName = c.deref.result.now in
    let P : List DeclaredName → Type 0 = λ xs. IsRising (λ (one : Declared). one.number) 1 (map seen_declared xs) in
    let rising : P lines = subst P (sym c.deref.ensures.value) c.self.invariant.rising in
    let parted : IsPartitionPoint (λ (y : DeclaredName). nat_le y.number c.args.number ≡ true) (λ (y : DeclaredName). nat_le y.number c.args.number ≡ false) lines c.partition_point.result =
    IsPartitionPoint-from_clause (λ (y : DeclaredName). nat_le y.number c.args.number) lines c.partition_point.result c.partition_point.ensures.partitioned
    (IsPartitionedBy-leb (λ (y : DeclaredName). y.number) lines c.args.number (rising_goes (λ (y : DeclaredName). y.number) 1 lines (rising_of_map seen_declared (λ (one : Declared). one.number) 1 lines rising)))
    (λ a r g q. search (rules, nat_tests)) in
    let short : c.partition_point.result ≤ length lines = c.partition_point.ensures.bound in
    sym (count_up_to (λ (one : Declared). nat_le one.number c.args.number) seen_declared lines c.partition_point.result short parted.0 parted.1)
    ∙ ap (λ xs. count_by (λ (one : Declared). nat_le one.number c.args.number) (map seen_declared xs)) c.deref.ensures.value
    ∙ ap (λ all. count_by (λ (one : Declared). nat_le one.number c.args.number) all) c.self.view_is
