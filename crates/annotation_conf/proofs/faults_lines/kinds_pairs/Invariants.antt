use Rattle.std.proofs.Common.{◌≡◌, take, map, filter, bytes_eq, codes}
use Rattle.annotation_conf.proofs.faults_lines.kinds_pairs.Given as goal

abbrev pub invariant-loop-pair : goal.invariant-loop-pair
invariant-loop-pair l = map (λ pair. pair.now) l.kinds.items ≡ filter (λ pair. bytes_eq pair.key (codes "OVL-TYPE")) (take l.pair-index l.keyed)
