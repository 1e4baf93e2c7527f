use Rattle.std.proofs.Common.{◌≡◌, map, take}
use Rattle.std.specs.List.{filter}
use Rattle.unanimous_merge.specs.Rows.{each_has}
use Rattle.unanimous_merge.proofs.shared.shared_ids.Given as goal

abbrev pub invariant-loop-one : goal.invariant-loop-one
invariant-loop-one l = l.ids.items ≡ map (λ p. p.id) (filter (λ p. each_has (map (λ row. row.items) l.standing) p.place) (take l.one-index l.marks))
