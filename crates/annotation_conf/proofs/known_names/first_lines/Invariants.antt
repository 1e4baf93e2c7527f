use Rattle.std.proofs.Common.{◌≡◌, map, take, filter, not}
use Rattle.conf_model.specs.ConfFaults.{stood_before}
use Rattle.annotation_conf.specs.NamePlaces.{seen_declared}
use Rattle.annotation_conf.proofs.known_names.first_lines.Given as goal

abbrev pub invariant-loop-line : goal.invariant-loop-line
invariant-loop-line l =
    map seen_declared l.kept.items ≡ filter (λ one. not (stood_before one.number one.name l.names)) (map seen_declared (take l.line-index l.lines))
