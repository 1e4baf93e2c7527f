use Rattle.std.proofs.Common.{sym, ◌∙◌, ap, Some}
use Rattle.layer_model.specs.declared.flaw.FlawPlace.TheVariants as at
use Rattle.layer_model.proofs.Maps.{same_list}
use Rattle.layer_rules.specs.LowestFlaw.{first_among}
use Rattle.layer_rules.proofs.PassLemmas.{among_found, among_nowhere}
use Rattle.layer_rules.proofs.text_flaw.first.Goals as goal

pub returns-in-Some-rule : goal.returns-in-Some-rule
returns-in-Some-rule g c =
    ap (λ id. Some (record { rule = c.in-Some-rule.rule; at = at.Mark id })) c.id_at.ensures
    ∙ among_found c.args.kind (λ _ found. g.J.Judge.told c.args.judge.now found) c.loop-number.number-iterator c.next.new.self c.in-Some.number.now c.in-Some.found.now c.in-Some-rule.rule _
    c.in-Some.ensures.steps c.in-Some-rule.ensures c.loop-number.invariant
    ∙ sym (ap (first_among c.args.kind (λ _ found. g.J.Judge.told c.args.judge.now found)) (same_list c.args.map.now.entries c.into_iter-number-iterator.ensures.into_iter_gives.5))

pub returns : goal.returns
returns g c =
    among_nowhere c.args.kind (λ _ found. g.J.Judge.told c.args.judge.now found) c.loop-number.number-iterator _ c.in-None.ensures.steps.0 c.loop-number.invariant
    ∙ sym (ap (first_among c.args.kind (λ _ found. g.J.Judge.told c.args.judge.now found)) (same_list c.args.map.now.entries c.into_iter-number-iterator.ensures.into_iter_gives.5))
