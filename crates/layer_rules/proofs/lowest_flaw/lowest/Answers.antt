use Rattle.std.proofs.Common.{sym, ◌∙◌, ap}
use Rattle.layer_model.specs.declared.flaw.FlawPlace.TheVariants as at
use Rattle.layer_model.proofs.Maps.{same_list}
use Rattle.layer_rules.specs.LowestFlaw.{flaw_at, lower_flaw, lowest_of}
use Rattle.layer_rules.proofs.FlawLemmas.{lower-None, walk_on}
use Rattle.layer_rules.proofs.lowest_flaw.lowest.Goals as goal

pub loop-number-preserved : goal.loop-number-preserved
loop-number-preserved g c =
    ap (λ o. lower_flaw o (lowest_of c.args.kind (g.J.Judge.told c.args.judge.now) c.next.new.self))
    (c.lower_flaw-lowest.ensures ∙ ap (lower_flaw c.loop-number.lowest) (c.flaw_at.ensures ∙ ap (λ id. flaw_at (at.Mark id) c.rule.result) c.id_at.ensures ∙ ap (flaw_at _) c.rule.ensures))
    ∙ walk_on c.args.kind (g.J.Judge.told c.args.judge.now) c.loop-number.lowest (lowest_of c.args.kind (g.J.Judge.told c.args.judge.now) c.args.map.now.entries)
    c.loop-number.number-iterator c.next.new.self c.in-Some.number.now c.in-Some.found.now c.in-Some.ensures.steps c.loop-number.invariant

pub returns : goal.returns
returns g c =
    sym (lower-None c.loop-number.lowest)
    ∙ sym (ap (λ r. lower_flaw c.loop-number.lowest (lowest_of c.args.kind (g.J.Judge.told c.args.judge.now) r)) c.in-None.ensures.steps.0)
    ∙ c.loop-number.invariant
    ∙ sym (ap (lowest_of c.args.kind (g.J.Judge.told c.args.judge.now)) (same_list c.args.map.now.entries c.into_iter-number-iterator.ensures.into_iter_gives.5))
