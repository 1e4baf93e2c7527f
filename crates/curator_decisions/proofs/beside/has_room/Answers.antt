use Rattle.std.proofs.Common.{◌≤◌, ◌==◌, List, Bool, map, subst, arith}
use Rattle.std.specs.List.{count_by}
use Rattle.std.proofs.lemmas.Bool.{leb-true}
use Rattle.layer_model.specs.Classes.{letter_place}
use Rattle.unanimous_merge.specs.declared.entry.Entry.{Entry}
use Rattle.curator_decisions.specs.Placing.{is_in_at, letter_of_entry}
use Rattle.curator_decisions.proofs.BesideLemmas.{no_more_pass}
use Rattle.curator_decisions.proofs.beside.has_room.Goals as goal

pub returns-then-count_alike-le10000 : goal.returns-then-count_alike-le10000
returns-then-count_alike-le10000 c few =
    let flags : List (List Bool) = map (λ row. row.items) c.args.merged.now.marks.items in
    let alike : Entry → Bool = λ other. letter_place (letter_of_entry other) == letter_place (letter_of_entry c.args.entry) in
    let all : count_by alike c.args.merged.now.firsts.items ≤ 10000 = subst (λ n. n ≤ 10000) c.count_alike.ensures (leb-true c.count_alike.result 10000 few) in
    let less = no_more_pass alike (is_in_at flags c.args.decisions.now) c.args.merged.now.firsts.items in
    omega (arith, all, less)
