use Rattle.std.proofs.Common.{◌≡◌, ◌+◌, ◌++◌, map, take, drop, length, []}
use Rattle.conf_model.specs.ConfOf.{rows_from}
use Rattle.annotation_conf.specs.BuildTold.{bare_type, FindsDepths}
use Rattle.annotation_conf.proofs.build_types.type_rows.Given as goal

abbrev pub invariant-loop-line : goal.invariant-loop-line
invariant-loop-line l = record {
  count : length l.rows.items ≡ length l.initial.rows.items + l.line-index;
  finds : FindsDepths (length l.initial.rows.items) (map bare_type (take l.line-index l.lines)) l.last;
  rows : l.rows.items ++ rows_from (length l.initial.rows.items) l.event (map bare_type (take l.line-index l.lines)) (map bare_type (drop l.line-index l.lines))
      ≡ l.initial.rows.items ++ rows_from (length l.initial.rows.items) l.event [] (map bare_type l.lines);
}
