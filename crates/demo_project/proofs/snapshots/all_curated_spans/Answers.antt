use Rattle.std.proofs.Common.{List, ◌∙◌, ◌<◌, ap, arith, length, refl, subst, sym}
use Rattle.project_machine.specs.History.{after}
use Rattle.project_machine.specs.ProjectState.{Snapshot}
use Rattle.project_machine.specs.Requests.{Happened}
use Rattle.demo_project.proofs.SummaryLemmas.{curated_more, some_taken, spans_none}
use Rattle.demo_project.proofs.snapshots.all_curated_spans.Goals as goal

pub loop-taken-init : goal.loop-taken-init
loop-taken-init g c = record {
  same = refl;
  within = omega arith;
  sum = sym (spans_none (after c.args.book.now.log) (after c.args.book.now.log).snapshots);
  small = omega arith;
}

pub loop-taken-preserved : goal.loop-taken-preserved
loop-taken-preserved g c =
    let log = c.loop-taken.book.log in
    let same = c.loop-taken.invariant.same in
    let low : c.loop-taken.taken < length (after log).snapshots = some_taken (after log) c.loop-taken.taken (λ (shot : Snapshot). shot.holders) _ c.in-Some.ensures in
    let low_first = subst (λ (l : List Happened). c.loop-taken.taken < length (after l).snapshots) same low in
    record {
      same = c.curated_spans.ensures.same ∙ same;
      within = omega (arith, low_first);
      sum = curated_more _ log c.loop-taken.taken _ _ same low c.loop-taken.invariant.sum (c.from.ensures ∙ c.in_ok-curated_spans.ensures.spans);
      small = omega (arith, c.loop-taken.invariant.small);
    }
