use Rattle.std.proofs.Common.{◌≤◌, length, arith}
use Rattle.project_machine.specs.ProjectState.{annotators}
use Rattle.project_state.proofs.RosterLemmas.{annotators_few}
use Rattle.project_state.proofs.tables.counting.tables_of.Goals as goal

pub overflow_cast-annotator_count : goal.overflow_cast-annotator_count
overflow_cast-annotator_count g c = let few : length (annotators c.args.state.now.state) ≤ 16 = annotators_few c.args.state.now.state c.requires.kept in omega (arith, c.annotator_count.ensures)

pub new-requires-clause-raters_few : goal.new-requires-clause-raters_few
new-requires-clause-raters_few g c = let few : length (annotators c.args.state.now.state) ≤ 16 = annotators_few c.args.state.now.state c.requires.kept in omega (arith, c.annotator_count.ensures)
