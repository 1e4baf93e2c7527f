use Rattle.std.proofs.Common.{◌≡◌, ◌∙◌, ◌-◌, ◌<◌, sym, ap, nat_lt, length, arith, map, get_or, List}
use Rattle.std.proofs.lemmas.List.{get_or-map, length-map}
use Rattle.annotation_conf.specs.declared.known_names.DeclaredName.{DeclaredName}
use Rattle.conf_model.specs.ConfFaults.{Declared, stood_before}
use Rattle.annotation_conf.specs.NamePlaces.{seen_declared}
use Rattle.annotation_conf.proofs.FaultNames.{StandsThere, stood_there, stood_nowhere}
use Rattle.annotation_conf.proofs.known_names.Names.stood_before.Goals as goal

pub index-requires : goal.index-requires
index-requires c =
    let lines : List DeclaredName = c.self.inside.lines.items in
    let there : StandsThere (map seen_declared lines) 0 c.in-Some.place.now c.args.number c.args.name.now =
    stood_there (map seen_declared lines) 0 1 c.in-Some.place.now c.args.number c.args.name.now c.self.invariant.rising
    (sym (c.self.invariant.finds c.args.name.now) ∙ sym c.in-Some.ensures.value) in
    omega (arith, there.within, length-map lines seen_declared, c.self.inside.lines.ok.0)

pub returns-in-Some : goal.returns-in-Some
returns-in-Some c =
    let lines : List DeclaredName = c.self.inside.lines.items in
    let there : StandsThere (map seen_declared lines) 0 c.in-Some.place.now c.args.number c.args.name.now =
    stood_there (map seen_declared lines) 0 1 c.in-Some.place.now c.args.number c.args.name.now c.self.invariant.rising
    (sym (c.self.invariant.finds c.args.name.now) ∙ sym c.in-Some.ensures.value) in
    let within : c.in-Some.place.now < length lines = omega (arith, there.within, length-map lines seen_declared) in
    let zero : c.in-Some.place.now - 0 ≡ c.in-Some.place.now = omega arith in
    ap (λ one. nat_lt one.number c.args.number) c.index.ensures
    ∙ ap (λ (one : Declared). nat_lt one.number c.args.number) (sym (get_or-map seen_declared lines c.in-Some.place.now c.index.result.now (seen_declared c.index.result.now) within))
    ∙ ap (λ k. nat_lt (get_or (map seen_declared lines) k (seen_declared c.index.result.now)).number c.args.number) (sym zero)
    ∙ sym (there.stood (seen_declared c.index.result.now))
    ∙ ap (λ all. stood_before c.args.number c.args.name.now all) c.self.view_is

pub returns-in-None : goal.returns-in-None
returns-in-None c =
    sym (stood_nowhere _ 0 c.args.number c.args.name.now (sym (c.self.invariant.finds c.args.name.now) ∙ sym c.in-None.ensures.value))
    ∙ ap (λ all. stood_before c.args.number c.args.name.now all) c.self.view_is
