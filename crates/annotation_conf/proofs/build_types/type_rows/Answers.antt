use Rattle.std.proofs.Common.{◌≡◌, ◌∙◌, ◌+◌, ◌<◌, ◌++◌, ◌∷◌, cond, Some, [], List, ℕ, ap, map, take, drop, length, arith}
use Rattle.std.specs.BTreeMap.{get, is_at}
use Rattle.std.specs.Ordering.{nat_cmp}
use Rattle.std.proofs.lemmas.List.{length-append}
use Rattle.annotation_conf.specs.declared.file.TypeLine.{TypeLine}
use Rattle.conf_model.specs.ConfOf.{rows_from}
use Rattle.annotation_conf.specs.BuildTold.{bare_type, parent_by}
use Rattle.annotation_conf.proofs.BuildRows.{depths_more, rows_more}
use Rattle.annotation_conf.proofs.build_types.type_rows.Goals as goal

pub loop-line-preserved : goal.loop-line-preserved
loop-line-preserved c =
    let all : List TypeLine = c.args.lines.now in
    let i : ℕ = c.loop-line.line-index in
    let first : ℕ = length c.args.rows.items in
    let within : i < length all = c.loop-line-test.true in
    let place : c.len-place.result ≡ first + i = omega (arith, c.len-place.ensures, c.loop-line.rows.ok.0, c.loop-line.invariant.count) in
    record {
      count = omega (arith, ap length c.in_ok-push.ensures.items, length-append c.loop-line.rows.items (c.in_ok-row.field-0 ∷ []), c.loop-line.invariant.count);
      finds = depths_more all i first c.line-item.result c.loop-line.last c.insert.new.self c.len-place.result within place c.loop-line.invariant.finds
          (λ q. c.in_ok-insert.ensures.updates.0 q
          ∙ ap (λ (one : TypeLine). cond (is_at (nat_cmp one.depth) q) (Some c.len-place.result) (get nat_cmp c.loop-line.last q)) c.line-item.is);
      rows =
          ap (λ xs. xs ++ rows_from first c.args.event (map bare_type (take (i + 1) all)) (map bare_type (drop (i + 1) all))) c.in_ok-push.ensures.items
          ∙ rows_more all i first c.line-item.result c.args.event c.loop-line.last c.loop-line.rows.items c.in_ok-row.field-0 within c.loop-line.invariant.finds
          (c.in_ok-row.ensures ∙ ap (λ (one : TypeLine). record { name = one.name; parent = parent_by c.loop-line.last one.depth; usable = one.usable; event = c.args.event }) c.line-item.is)
          ∙ c.loop-line.invariant.rows;
    }
