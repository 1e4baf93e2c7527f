use Rattle.std.proofs.Common.{◌∙◌, ◌≤◌, refl, arith, ap}
use Rattle.layer_model.specs.Annotations.{Annotations, no_marks}
use Rattle.std.specs.FinMap as finite
use Rattle.token_columns.specs.ReadRuns.{put_from}
use Rattle.token_columns.proofs.LayerLemmas.{free_first, free_step, put_step}
use Rattle.token_columns.proofs.layer_runs.layer_of.Goals as goal

pub loop-run-init : goal.loop-run-init
loop-run-init c = record {
  count = refl;
  free = λ q h. ap (λ (l : Annotations). finite.contains_key l.spans q) c.new-layer.ensures ∙ free_first q;
  put = ap (λ l. put_from l 1 c.args.runs.now) c.new-layer.ensures;
}

pub loop-run-preserved : goal.loop-run-preserved
loop-run-preserved c =
    let few : c.loop-run.number ≤ 999999999 = omega (arith, c.requires, c.loop-run.invariant.count, c.loop-run-test.true) in
    record {
      count = omega (arith, c.loop-run.invariant.count);
      free = free_step c.loop-run.layer c.put.new.self c.id_at.result c.loop-run.number c.in_ok-span_of.field-0 c.id_at.ensures few c.in_ok-put.ensures.ok c.loop-run.invariant.free;
      put =
          put_step c.loop-run.layer c.put.new.self c.args.runs.now _ c.loop-run.run-index c.loop-run.number c.id_at.result c.in_ok-span_of.field-0 (put_from no_marks 1 c.args.runs.now) c.loop-run-test.true
          c.id_at.ensures few c.in_ok-span_of.ensures c.in_ok-put.ensures.ok c.loop-run.invariant.put;
    }
