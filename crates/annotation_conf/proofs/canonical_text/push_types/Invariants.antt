use Rattle.std.proofs.Common.{◌≡◌, ◌++◌, string_bytes, drop, filter, cond, true, false}
use Rattle.std.specs.List.{flat_map, enumerate_from}
use Rattle.conf_model.specs.ConfText.{type_text}
use Rattle.annotation_conf.proofs.canonical_text.push_types.Given as goal

abbrev pub invariant-loop-row : goal.invariant-loop-row
invariant-loop-row l = record {
  place : l.place ≡ l.row-index;
  lines : string_bytes l.out ++ flat_map (type_text l.conf) (filter (λ placed. cond l.event placed.1.event (cond placed.1.event false true)) (enumerate_from l.place (drop l.row-index l.rows)))
      ≡ string_bytes l.initial.out ++ flat_map (type_text l.conf) (filter (λ placed. cond l.event placed.1.event (cond placed.1.event false true)) (enumerate_from 0 l.rows));
}
