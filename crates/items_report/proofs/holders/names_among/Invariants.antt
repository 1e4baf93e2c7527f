use Rattle.std.proofs.Common.{◌≡◌, ◌++◌, drop}
use Rattle.std.specs.Prelude.{map}
use Rattle.items_report.specs.ItemRows.{names_among}
use Rattle.items_report.proofs.holders.names_among.Given as goal

abbrev pub invariant-loop-name : goal.invariant-loop-name
invariant-loop-name l =
    names_among (map (λ name. name.now) l.names) l.bits
    ≡ map (λ name. name.now) l.among.items ++ names_among (map (λ name. name.now) (drop l.name-index l.names)) l.left
