use Rattle.std.proofs.Common.{◌∙◌, ◌≤◌, List, ℕ, sym, length, arith}
use Rattle.annotation_conf.specs.BuildPlaces.{names_in}
use Rattle.annotation_conf.proofs.BuildOrder.{StandsIn, stands_in}
use Rattle.annotation_conf.proofs.build_places.place_in.Goals as goal

pub overflow_cast-result : goal.overflow_cast-result
overflow_cast-result c =
    let names : List (List ℕ) = names_in c.args.known.now c.args.table in
    let there : StandsIn names 0 c.in_ok-place.place c.args.name.now = stands_in names 0 c.in_ok-place.place c.args.name.now (sym c.find_place.ensures ∙ c.in_ok-place.was) in
    let few : length names ≤ 256 = c.requires in
    omega (arith, there.within, few)
