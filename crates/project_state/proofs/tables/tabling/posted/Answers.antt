use Rattle.std.proofs.Common.{◌≤◌, length, arith}
use Rattle.project_machine.specs.ProjectState.{annotators}
use Rattle.project_state.proofs.RosterLemmas.{annotators_few}
use Rattle.project_state.proofs.tables.tabling.posted.Goals as goal

pub overflow_cast-result-2 : goal.overflow_cast-result-2
overflow_cast-result-2 c = let few : length (annotators c.args.state.now.state) ≤ 16 = annotators_few c.args.state.now.state c.requires.kept in omega (arith, c.requires.rater_in)
