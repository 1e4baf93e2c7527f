use Rattle.std.proofs.Common.{◌-◌, List, [], ℕ, sym, subst, arith, map, drop, get_or}
use Rattle.std.proofs.lemmas.Map.Text.{btree_map_updates_str}
use Rattle.items_report.specs.FoundLines.{FindsLines}
use Rattle.items_report.proofs.FoundSteps.{finds_more, line_before}
use denote.Ref.{Bor}
use Rattle.items_report.proofs.ann_lines.behind_ids.Goals as goal

pub loop-left-preserved : goal.loop-left-preserved
loop-left-preserved c =
    let none : Bor (List ℕ) = record { ref_ptr = (0, 0); now = [] } in
    let before = c.loop-left.behind in
    let after = c.insert.new.self in
    record {
      within = omega arith;
      finds = subst (λ lines. FindsLines (map (λ line. line.now) lines) after) (sym (line_before c.args.lines.now c.loop-left.left none c.loop-left-test.true c.loop-left.invariant.within))
          (finds_more (get_or c.args.lines.now (c.loop-left.left - 1) none).now (map (λ line. line.now) (drop c.loop-left.left c.args.lines.now)) before after c.id_in.result.now c.rest_in.result c.loop-left.invariant.finds c.id_in.ensures c.rest_in.ensures
          (btree_map_updates_str _ before after _ c.in_ok-insert.ensures.updates));
    }
