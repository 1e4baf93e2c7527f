use Rattle.std.proofs.Common.{◌≡◌, List, length, ◌∙◌, ap, subst, arith}
use Rattle.std.specs.List.{AllByRecursion}
use Rattle.entry_bytes.specs.declared.person.Person.{Person}
use Rattle.entry_bytes.specs.Fields.{IsSlug}
use Rattle.project_state.proofs.EntriesProofs.OrderLemmas.{none_told, some_found, some_told}
use Rattle.project_state.proofs.EntriesProofs.RosterLemmas.{few_people}
use Rattle.project_state.proofs.entries.founding.roster_read.Goals as goal

pub returns-then-items-gt255-clause-told : goal.returns-then-items-gt255-clause-told
returns-then-items-gt255-clause-told c = λ is.
    let few = few_people c.args.people.now is.sorts in
    let same = ap length c.items-2.ensures in
    let many = c.if-items-gt255.true in
    absurd (omega arith)

pub returns-in-None-clause-told : goal.returns-in-None-clause-told
returns-in-None-clause-told c = none_told c.args.people.now c.into_vec.result.items c.in_ok-roster.field-0 c.in-None.is (c.into_vec.ensures ∙ c.in_ok-copy.ensures) c.in_ok-roster.ensures.faulty

pub returns-in-Some : goal.returns-in-Some
returns-in-Some c =
    let people = c.args.people.now in
    let given = c.into_vec.result.items in
    let slugs = subst (λ (ps : List Person). AllByRecursion (λ (p : Person). IsSlug p.name) ps) c.items.ensures c.names_are_spelt.ensures in
    let ensured = c.in_ok-roster.ensures in
    record {
      found = some_found c.rosters_can_found.ensures.founding people given c.in-Some.roster c.in_ok-roster.field-0 c.in_own_order.result c.in-Some.is
          ensured.ordered ensured.accepted c.in_own_order.ensures.found c.in_own_order.ensures.own slugs;
      told = some_told people given c.in-Some.roster c.in_ok-roster.field-0 c.in_own_order.result c.in-Some.is (c.into_vec.ensures ∙ c.in_ok-copy.ensures) ensured.ordered c.in_own_order.ensures.told;
    }
