use Rattle.std.proofs.Common.{◌≡◌, ◌∙◌, sym, ap, subst, List, map, filter, not}
use Rattle.conf_model.specs.ConfFaults.{Declared, stood_before}
use Rattle.annotation_conf.specs.NamePlaces.{seen_declared, firsts_among}
use Rattle.annotation_conf.proofs.FaultKnown.{Rises, firsts_rise}
use Rattle.annotation_conf.proofs.known_names.Names.firsts.Goals as goal

pub of-requires : goal.of-requires
of-requires c =
    let all : List Declared = c.args.self.now in
    let same : map seen_declared c.in_ok-lines.lines.items ≡ firsts_among all =
    c.in_ok-lines.ensures ∙ ap (λ xs. filter (λ one. not (stood_before one.number one.name all)) (map seen_declared xs)) c.deref.ensures.value
    ∙ ap (λ xs. filter (λ one. not (stood_before one.number one.name all)) xs) c.self.view_is in
    subst Rises (sym same) (firsts_rise all (subst Rises c.self.view_is c.self.invariant.rising))
