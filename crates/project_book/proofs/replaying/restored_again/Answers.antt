use Rattle.std.proofs.Common.{◌≡◌, sym, ◌∙◌, ap, subst}
use Rattle.label_tracks.specs.Levels.{grouping_of}
use Rattle.project_machine.specs.Legal.{IsSound}
use Rattle.project_machine.specs.Opening.{restored}
use Rattle.project_state.specs.Stored.{Stored}
use Rattle.project_book.proofs.FoundingLemmas.{groups_founded}
use Rattle.project_book.proofs.RestoredLemmas.{stands_restored}
use Rattle.project_book.proofs.replaying.restored_again.Goals as goal

pub invariant_of-result : goal.invariant_of-result
invariant_of-result g c =
    let s = c.in_ok-state-2.state.state in
    let same : c.in_ok-state-2.state ≡ c.args.state = c.in_ok-state-2.ensures ∙ c.in_ok-state.ensures.ok in
    let sound : IsSound s = subst (λ (one : Stored). IsSound one.state) (sym same) c.requires in
    let log : c.in_ok-log.log ≡ restored s = c.in_ok-log.ensures ∙ sym (ap (λ (one : Stored). restored one.state) c.in_ok-state-2.ensures) in
    let grouped : c.in_ok-groups.groups ≡ grouping_of s.conf.types s.level = groups_founded s.conf _ s.level c.in_ok-groups.groups c.in_ok-groups.ensures.groups (c.in_ok-groups.ensures.level ∙ c.level.ensures) (c.deref.ensures ∙ c.conf.ensures) in
    stands_restored s c.in_ok-log.log c.in_ok-groups.groups c.in_ok-tables.tables sound log grouped c.in_ok-tables.ensures
