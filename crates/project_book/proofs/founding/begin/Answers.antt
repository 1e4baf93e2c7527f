use Rattle.std.proofs.Common.{◌≡◌, List, false, sym, ◌∙◌, ap, subst}
use Rattle.std.specs.List.{AllByRecursion}
use Rattle.entry_bytes.specs.declared.person.Person.{Person}
use Rattle.entry_bytes.specs.Fields.{IsSlug}
use Rattle.label_tracks.specs.Levels.{grouping_of}
use Rattle.project_machine.specs.ProjectState.{ProjectState}
use Rattle.project_machine.specs.People.{IsOrdered, IsRoster}
use Rattle.project_machine.specs.History.{after}
use Rattle.project_machine.specs.Legal.{IsFounding, IsKept, legal_founding}
use Rattle.project_book.specs.Founding.{founded, founding_bytes, is_too_long}
use Rattle.project_book.specs.Keeping.{AreTables}
use Rattle.project_book.proofs.FoundingLemmas.{can_found, entry_founded, founding_is_entry, log_founded, state_founded}
use Rattle.project_book.proofs.founding.begin.Goals as goal

pub complete-requires-clause-kept : goal.complete-requires-clause-kept
complete-requires-clause-kept c =
    let roster : IsRoster c.args.roster =
    c.rosters_can_found.ensures.founding c.args.roster (subst IsOrdered c.roster.view_is c.roster.invariant) (subst (λ (ps : List Person). AllByRecursion (λ (p : Person). IsSlug p.name) ps) c.people.ensures c.names_are_spelt.ensures) in
    let state : c.founded-state.result.state ≡ after (founded c.args.conf c.args.level c.args.roster) =
    state_founded c.args.conf _ c.args.level c.args.roster _ c.founded-state.result.state c.founded-state.ensures.state (c.in_ok-share.ensures ∙ c.in_ok-conf.ensures) c.in_ok-copy.ensures in
    let entry : (c.in_ok-entry.entry ≡ founding_bytes c.args.conf c.args.level c.args.roster) × (is_too_long c.args.conf c.args.level c.args.roster ≡ false) =
    entry_founded c.args.conf _ c.args.level c.args.roster c.founded-state.result.state c.in_ok-entry.entry c.in_ok-entry.ensures (c.deref.ensures ∙ c.in_ok-conf.ensures) state in
    let founding : IsFounding c.args.conf c.args.level c.args.roster = can_found c.args.conf c.args.level c.args.roster c.reads_back.ensures.sound roster c.ranges.level.fits entry.1 in
    subst IsKept (sym state) (c.states_can_be_restored.ensures.kept (founded c.args.conf c.args.level c.args.roster) (legal_founding c.args.conf c.args.level c.args.roster founding))

pub returns-clause-begun : goal.returns-clause-begun
returns-clause-begun c =
    let roster : IsRoster c.args.roster =
    c.rosters_can_found.ensures.founding c.args.roster (subst IsOrdered c.roster.view_is c.roster.invariant) (subst (λ (ps : List Person). AllByRecursion (λ (p : Person). IsSlug p.name) ps) c.people.ensures c.names_are_spelt.ensures) in
    let state : c.founded-state.result.state ≡ after (founded c.args.conf c.args.level c.args.roster) =
    state_founded c.args.conf _ c.args.level c.args.roster _ c.founded-state.result.state c.founded-state.ensures.state (c.in_ok-share.ensures ∙ c.in_ok-conf.ensures) c.in_ok-copy.ensures in
    let entry : (c.in_ok-entry.entry ≡ founding_bytes c.args.conf c.args.level c.args.roster) × (is_too_long c.args.conf c.args.level c.args.roster ≡ false) =
    entry_founded c.args.conf _ c.args.level c.args.roster c.founded-state.result.state c.in_ok-entry.entry c.in_ok-entry.ensures (c.deref.ensures ∙ c.in_ok-conf.ensures) state in
    record {
      founding = can_found c.args.conf c.args.level c.args.roster c.reads_back.ensures.sound roster c.ranges.level.fits entry.1;
      log = log_founded c.args.conf _ c.args.level c.args.roster _ _ c.in_ok-beginning.ensures.log c.founding_change-change.ensures (c.in_ok-share-2.ensures ∙ c.in_ok-conf.ensures);
      state = c.in_ok-beginning.ensures.state ∙ state;
      groups = c.in_ok-beginning.ensures.groups ∙ ap (λ (s : ProjectState). grouping_of s.conf.types s.level) state;
      tables = subst (λ (s : ProjectState). AreTables s c.in_ok-beginning.beginning.tables) state c.in_ok-beginning.ensures.tables;
      entry = c.in_ok-beginning.ensures.entry_is ∙ entry.0;
      fits = entry.1;
      is_entry = founding_is_entry c.args.conf c.args.level c.args.roster c.in_ok-beginning.beginning.entry c.entries_have_bytes.ensures.some (c.in_ok-beginning.ensures.entry_is ∙ entry.0) entry.1;
    }
