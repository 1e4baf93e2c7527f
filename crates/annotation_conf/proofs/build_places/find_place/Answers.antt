use Rattle.std.proofs.Common.{◌∙◌, sym, ap}
use Rattle.conf_model.specs.ConfFaults.{bound_names, of_named, firsts}
use Rattle.annotation_conf.specs.BuildPlaces.{names_in, place_in}
use Rattle.annotation_conf.proofs.BuildHeld.{place_same}
use Rattle.annotation_conf.proofs.build_places.find_place.Goals as goal

pub returns-in-Types : goal.returns-in-Types
returns-in-Types c =
    c.type_place.ensures ∙ place_same c.args.name.now 0 (bound_names c.args.known.now)
    ∙ ap (λ table. place_in (names_in c.args.known.now table) c.args.name.now) (sym c.in-Types.is)

pub returns-in-Relations : goal.returns-in-Relations
returns-in-Relations c =
    c.relation_place.ensures ∙ place_same c.args.name.now 0 (of_named (firsts c.args.known.now.relations))
    ∙ ap (λ table. place_in (names_in c.args.known.now table) c.args.name.now) (sym c.in-Relations.is)
