use Rattle.std.proofs.Common.{ap, ◌∙◌}
use Rattle.project_machine.specs.History.{after}
use Rattle.project_commands.specs.Showing.{first_curator}
use Rattle.project_commands.proofs.CuratorLemmas.{curates}
use Rattle.project_commands.proofs.showing.curator_in.Goals as goal

pub returns-clause-curates : goal.returns-clause-curates
returns-clause-curates g c =
    let kept = c.states_can_be_restored.ensures.kept c.args.project.now.log c.keeps.ensures.legal in
    curates (after c.args.project.now.log) c.in_ok-name.name kept.founding.roster.sorts (c.in_ok-name.ensures ∙ ap first_curator c.roster.ensures)
