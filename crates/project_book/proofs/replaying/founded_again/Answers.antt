use Rattle.std.proofs.Common.{◌≡◌, None, refl, ◌∙◌, ap, subst}
use Rattle.label_tracks.specs.Levels.{grouping_of}
use Rattle.project_machine.specs.History.{after}
use Rattle.project_machine.specs.ProjectState.{ProjectState}
use Rattle.project_book.specs.Founding.{founded, founding_bytes}
use Rattle.project_book.specs.Keeping.{AreTables}
use Rattle.std.specs.Arc.{arc_value}
use Rattle.project_book.proofs.FoundingLemmas.{log_founded, stands_founded, state_founded}
use Rattle.project_book.proofs.replaying.founded_again.Goals as goal

pub invariant_of-result : goal.invariant_of-result
invariant_of-result c =
    let conf = arc_value c.args.founding.conf in
    let level = c.args.founding.level in
    let people = c.args.founding.roster in
    let state : c.founded-state.result.state ≡ after (founded conf level people) = state_founded conf _ level people _ c.founded-state.result.state c.founded-state.ensures.state c.in_ok-share.ensures c.in_ok-copy.ensures in
    stands_founded conf level people _ c.in_ok-beginning.beginning.state.state c.in_ok-beginning.beginning.groups c.in_ok-beginning.beginning.tables None None None (founding_bytes conf level people)
    c.requires (log_founded conf _ level people _ _ c.in_ok-beginning.ensures.log c.founding_change-change.ensures refl) (c.in_ok-beginning.ensures.state ∙ state)
    (c.in_ok-beginning.ensures.groups ∙ ap (λ (s : ProjectState). grouping_of s.conf.types s.level) state) (subst (λ (s : ProjectState). AreTables s c.in_ok-beginning.beginning.tables) state c.in_ok-beginning.ensures.tables)
    refl tt refl refl
