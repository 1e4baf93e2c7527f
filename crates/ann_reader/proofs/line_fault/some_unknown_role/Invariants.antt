use Rattle.std.proofs.Common.{◌≡◌, drop, is_none}
use Rattle.std.specs.Prelude.{map}
use Rattle.std.specs.List.{list_any}
use Rattle.ann_reader.specs.Roles.{role_read}
use Rattle.ann_reader.specs.FormShows.{seen_pair}
use Rattle.ann_reader.proofs.line_fault.some_unknown_role.Given as goal

abbrev pub invariant-loop-pair : goal.invariant-loop-pair
invariant-loop-pair l =
    list_any (λ pair. is_none (role_read l.conf l.kind.n pair.role)) (map seen_pair (drop l.pair-index l.pairs))
    ≡ list_any (λ pair. is_none (role_read l.conf l.kind.n pair.role)) (map seen_pair l.pairs)
