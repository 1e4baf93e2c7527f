use Rattle.std.proofs.Common.{◌≡◌, [], map, ℕ, List, take, drop}
use denote.Ref.{Bor}
use Rattle.std.specs.Ordering.{nat_cmp}
use Rattle.std.specs.Cmp.Lexicographic.{slice_cmp}
use Rattle.std.specs.BTreeMap.{get_by}
use Rattle.layer_rules.specs.Repeats.{first_with, repeat_after, shown}
use Rattle.layer_rules.proofs.repeats.first_repeat.Given as goal

abbrev pub invariant-loop-one : goal.invariant-loop-one
invariant-loop-one l =
    ((q : Bor (List ℕ)) → get_by (λ k. slice_cmp nat_cmp q.now k.now) l.seen ≡ first_with q.now (map shown (take l.one-index l.all)))
    × (repeat_after (map shown (take l.one-index l.all)) (map shown (drop l.one-index l.all)) ≡ repeat_after [] (map shown l.all))
