use Rattle.std.proofs.Common.{◌≡◌, ◌∙◌, sym, ap, subst, map, option_and_then}
use Rattle.std.specs.List.Sorted.{IsNonDecreasingBy}
use Rattle.layer_model.specs.Classes.{rank}
use Rattle.content_keys.specs.declared.placed_layer.Placed.{Placed}
use Rattle.content_keys.specs.Carrying.{move_at}
use Rattle.content_keys.specs.Counterparts.{counterpart_among, counterparts_in}
use Rattle.content_keys.specs.Founds.{first_at, found_at}
use Rattle.content_keys.proofs.CounterpartLemmas.{counterpart_is, found_all}
use Rattle.content_keys.proofs.SearchLemmas.{found_rise}
use Rattle.content_keys.proofs.keys.Keys.toward.Goals as goal

pub returns-clause-all : goal.returns-clause-all
returns-clause-all c =
    c.of.ensures ∙ c.in_ok-found.ensures
    ∙ (λ i. map (found_at (c.as_slice-2.ensures.value i) (c.as_slice-3.ensures.value i)) (c.as_slice.ensures.value i))
    ∙ found_all c.self.inside.table c.other.inside.table c.is_table.ensures c.in_ok-moves.moves.items c.in_ok-moves.ensures.long c.in_ok-moves.ensures.right c.other.inside.placed.items c.other.invariant.0 c.self.inside.placed.items c.self.invariant.0
    ∙ (λ i. counterparts_in (c.self.view_is i) (c.other.view_is i))

pub returns-clause-each : goal.returns-clause-each
returns-clause-each c = λ id.
    let all : c.of.result ≡ counterparts_in c.args.self.now c.args.other.now =
    c.of.ensures ∙ c.in_ok-found.ensures
    ∙ (λ i. map (found_at (c.as_slice-2.ensures.value i) (c.as_slice-3.ensures.value i)) (c.as_slice.ensures.value i))
    ∙ found_all c.self.inside.table c.other.inside.table c.is_table.ensures c.in_ok-moves.moves.items c.in_ok-moves.ensures.long c.in_ok-moves.ensures.right c.other.inside.placed.items c.other.invariant.0 c.self.inside.placed.items c.self.invariant.0
    ∙ (λ i. counterparts_in (c.self.view_is i) (c.other.view_is i)) in
    ap (λ cs. counterpart_among cs id) all ∙ counterpart_is c.args.self.now c.args.other.now id

pub of-requires : goal.of-requires
of-requires c =
    found_rise (λ p. option_and_then (first_at c.as_slice-3.result.now) (move_at c.as_slice-2.result.now p.place)) c.as_slice.result.now c.in_ok-found.found.items c.in_ok-found.ensures
    (subst (IsNonDecreasingBy (λ (p : Placed). rank p.id)) (sym c.as_slice.ensures.value) c.self.invariant.1)
