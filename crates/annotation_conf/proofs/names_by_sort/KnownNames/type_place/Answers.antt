use Rattle.std.proofs.Common.{◌≡◌, ◌∙◌, ◌+◌, Bool, Some, None, sym, ap, length, arith, option_map}
use Rattle.std.specs.List.{position_from}
use Rattle.std.proofs.lemmas.List.{length-append, length-map}
use Rattle.conf_model.specs.ConfFaults.{Declared, of_types, names_of}
use Rattle.annotation_conf.specs.NamePlaces.{place_among, is_called}
use Rattle.annotation_conf.proofs.BuildOrder.{StandsIn, stands_in}
use Rattle.annotation_conf.proofs.BuildHeld.{place_in_first, place_in_second, place_later, place_same}
use Rattle.annotation_conf.proofs.names_by_sort.KnownNames.type_place.Goals as goal

pub returns-in-Some : goal.returns-in-Some
returns-in-Some c =
    let entities : c.self.inside.entities ≡ of_types c.args.self.now.entities = c.self.invariant.1.entities ∙ ap (λ f. of_types f.entities) c.self.view_is in
    sym (place_in_first (is_called c.args.name.now) 0 c.in-Some.place (of_types c.args.self.now.entities) (of_types c.args.self.now.events)
    (ap (λ xs. place_among xs c.args.name.now) (sym entities) ∙ sym c.place.ensures ∙ c.in-Some.is))

pub returns-in_err-place : goal.returns-in_err-place
returns-in_err-place c =
    let entities : c.self.inside.entities ≡ of_types c.args.self.now.entities = c.self.invariant.1.entities ∙ ap (λ f. of_types f.entities) c.self.view_is in
    let events : c.self.inside.events ≡ of_types c.args.self.now.events = c.self.invariant.1.events ∙ ap (λ f. of_types f.events) c.self.view_is in
    let t : Declared → Bool = is_called c.args.name.now in
    let none : place_among (of_types c.args.self.now.events) c.args.name.now ≡ None = ap (λ xs. place_among xs c.args.name.now) (sym events) ∙ sym c.place-2.ensures ∙ c.in_err-place.was in
    let same : length (of_types c.args.self.now.entities) + 0 ≡ 0 + length (of_types c.args.self.now.entities) = omega arith in
    c.from_residual.ensures
    ∙ sym (place_in_second t 0 (of_types c.args.self.now.entities) (of_types c.args.self.now.events) (ap (λ xs. place_among xs c.args.name.now) (sym entities) ∙ sym c.place.ensures ∙ c.in_default.is)
    ∙ ap (λ k. position_from t k (of_types c.args.self.now.events)) (sym same)
    ∙ place_later t 0 (length (of_types c.args.self.now.entities)) (of_types c.args.self.now.events)
    ∙ ap (option_map (λ place. length (of_types c.args.self.now.entities) + place)) none)

pub overflow_add-result : goal.overflow_add-result
overflow_add-result c =
    let entities : c.self.inside.entities ≡ of_types c.args.self.now.entities = c.self.invariant.1.entities ∙ ap (λ f. of_types f.entities) c.self.view_is in
    let events : c.self.inside.events ≡ of_types c.args.self.now.events = c.self.invariant.1.events ∙ ap (λ f. of_types f.events) c.self.view_is in
    let there : StandsIn (names_of c.self.inside.events) 0 c.in_ok-place.place c.args.name.now =
    stands_in (names_of c.self.inside.events) 0 c.in_ok-place.place c.args.name.now (sym (place_same c.args.name.now 0 c.self.inside.events) ∙ sym c.place-2.ensures ∙ c.in_ok-place.was) in
    omega (arith, there.within, length-map c.self.inside.events (λ (one : Declared). one.name), c.len.ensures, ap length entities, ap length events, length-append (of_types c.args.self.now.entities) (of_types c.args.self.now.events), c.requires)

pub returns : goal.returns
returns c =
    let entities : c.self.inside.entities ≡ of_types c.args.self.now.entities = c.self.invariant.1.entities ∙ ap (λ f. of_types f.entities) c.self.view_is in
    let events : c.self.inside.events ≡ of_types c.args.self.now.events = c.self.invariant.1.events ∙ ap (λ f. of_types f.events) c.self.view_is in
    let t : Declared → Bool = is_called c.args.name.now in
    let found : place_among (of_types c.args.self.now.events) c.args.name.now ≡ Some c.in_ok-place.place = ap (λ xs. place_among xs c.args.name.now) (sym events) ∙ sym c.place-2.ensures ∙ c.in_ok-place.was in
    let same : length (of_types c.args.self.now.entities) + 0 ≡ 0 + length (of_types c.args.self.now.entities) = omega arith in
    let size : c.len.result ≡ length (of_types c.args.self.now.entities) = c.len.ensures ∙ ap length entities in
    ap (λ n. Some (n + c.in_ok-place.place)) size
    ∙ sym (place_in_second t 0 (of_types c.args.self.now.entities) (of_types c.args.self.now.events) (ap (λ xs. place_among xs c.args.name.now) (sym entities) ∙ sym c.place.ensures ∙ c.in_default.is)
    ∙ ap (λ k. position_from t k (of_types c.args.self.now.events)) (sym same)
    ∙ place_later t 0 (length (of_types c.args.self.now.entities)) (of_types c.args.self.now.events)
    ∙ ap (option_map (λ place. length (of_types c.args.self.now.entities) + place)) found)
