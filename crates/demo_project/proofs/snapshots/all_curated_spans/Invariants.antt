use Rattle.std.proofs.Common.{◌≡◌, ◌≤◌, ◌*◌, take, length}
use Rattle.project_machine.specs.History.{after}
use Rattle.demo_project.specs.Summary.{spans_in}
use Rattle.demo_project.proofs.snapshots.all_curated_spans.Given as goal

abbrev pub invariant-loop-taken : goal.invariant-loop-taken
invariant-loop-taken g l = record {
  same : l.book.log ≡ l.initial.book.log;
  within : l.taken ≤ length (after l.initial.book.log).snapshots;
  sum : l.spans ≡ spans_in (after l.initial.book.log) (take l.taken (after l.initial.book.log).snapshots);
  small : l.spans ≤ 4294967295 * l.taken;
}
