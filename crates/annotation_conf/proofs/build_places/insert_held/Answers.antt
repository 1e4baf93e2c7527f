use Rattle.std.proofs.Common.{◌≡◌, ◌∙◌, List, ℕ, Some, None, sym, ap, length}
use Rattle.annotation_conf.specs.FileShows.{seen_alternative}
use Rattle.annotation_conf.specs.BuildPlaces.{inserted, names_in, place_in, places_by}
use Rattle.annotation_conf.proofs.BuildOrder.{place_of_one, place_of_no}
use Rattle.annotation_conf.proofs.build_places.insert_held.Goals as goal

pub returns-in_ok-insert-in-Named : goal.returns-in_ok-insert-in-Named
returns-in_ok-insert-in-Named c =
    let names : List (List ℕ) = names_in c.args.known.now c.args.table in
    let found : place_in names c.in-Named.name ≡ Some c.in-Some.place = ap (place_in names) (sym c.text.ensures) ∙ sym c.place_in.ensures ∙ c.in-Some.is in
    c.in_ok-insert-in-Named.ensures.keys
    ∙ ap (inserted c.args.set.now.keys) (sym (place_of_one names c.in-Named.name c.in-Some.place c.requires.table.differ found))
    ∙ ap (λ one. inserted c.args.set.now.keys (places_by c.args.known.now c.args.table (length c.args.lists.now) (seen_alternative one))) (sym c.in-Named.is)

pub returns-in_default : goal.returns-in_default
returns-in_default c =
    let names : List (List ℕ) = names_in c.args.known.now c.args.table in
    let found : place_in names c.in-Named.name ≡ None = ap (place_in names) (sym c.text.ensures) ∙ sym c.place_in.ensures ∙ c.in_default.is in
    ap (inserted c.args.set.now.keys) (sym (place_of_no names c.in-Named.name found))
    ∙ ap (λ one. inserted c.args.set.now.keys (places_by c.args.known.now c.args.table (length c.args.lists.now) (seen_alternative one))) (sym c.in-Named.is)
