use Rattle.std.proofs.Common.{length}
use Rattle.std.specs.Arc.{arc_value}
use Rattle.layer_core.specs.MadeLayers.{draft}
use Rattle.layer_core.specs.Outcomes.{IsOutcome}
use Rattle.layer_core.specs.OwnRules.{own_rule}
use Rattle.layer_core.proofs.WorkLemmas.{Carries, carried_well, carries}
use Rattle.layer_core.proofs.work.Work.carry_out_back.Goals as goal

pub ready-requires-clause-well_formed : goal.ready-requires-clause-well_formed
ready-requires-clause-well_formed c = (arc_value c.self.inside.conf, (length (arc_value c.self.inside.doc), c.self.invariant.0))

pub invariant_of-self-2 : goal.invariant_of-self-2
invariant_of-self-2 c =
    let outcome : IsOutcome (arc_value c.self.inside.conf) (length (arc_value c.self.inside.doc)) (own_rule (arc_value c.self.inside.conf) (length (arc_value c.self.inside.doc)) c.self.inside.layer c.args.command.now)
    (draft (arc_value c.self.inside.conf) c.self.inside.layer c.args.command.now) c.self.inside.layer c.carry_out-outcome.new.layer c.carry_out-outcome.result.0 =
    rw (← c.deref.ensures, ← c.deref-2.ensures) c.carry_out-outcome.ensures.outcome in (
      carried_well (arc_value c.self.inside.conf) (length (arc_value c.self.inside.doc)) c.self.inside.layer c.args.command.now c.carry_out-outcome.new.layer c.carry_out-outcome.result.0 c.self.invariant.0
          (carries (arc_value c.self.inside.conf) (length (arc_value c.self.inside.doc)) c.self.inside.layer c.args.command.now c.carry_out-outcome.new.layer c.carry_out-outcome.result.0 outcome),
      c.carry_out-outcome.ensures.index,
    )

pub returns-clause-done : goal.returns-clause-done
returns-clause-done c =
    let outcome : IsOutcome (arc_value c.self.inside.conf) (length (arc_value c.self.inside.doc)) (own_rule (arc_value c.self.inside.conf) (length (arc_value c.self.inside.doc)) c.self.inside.layer c.args.command.now)
    (draft (arc_value c.self.inside.conf) c.self.inside.layer c.args.command.now) c.self.inside.layer c.carry_out-outcome.new.layer c.carry_out-outcome.result.0 =
    rw (← c.deref.ensures, ← c.deref-2.ensures) c.carry_out-outcome.ensures.outcome in
    let all : Carries (arc_value c.self.inside.conf) (length (arc_value c.self.inside.doc)) c.self.inside.layer c.args.command.now c.carry_out-outcome.new.layer c.carry_out-outcome.result.0 =
    carries (arc_value c.self.inside.conf) (length (arc_value c.self.inside.doc)) c.self.inside.layer c.args.command.now c.carry_out-outcome.new.layer c.carry_out-outcome.result.0 outcome in
    rw (← c.self.view_is) all.done

pub returns-clause-refused : goal.returns-clause-refused
returns-clause-refused c =
    let outcome : IsOutcome (arc_value c.self.inside.conf) (length (arc_value c.self.inside.doc)) (own_rule (arc_value c.self.inside.conf) (length (arc_value c.self.inside.doc)) c.self.inside.layer c.args.command.now)
    (draft (arc_value c.self.inside.conf) c.self.inside.layer c.args.command.now) c.self.inside.layer c.carry_out-outcome.new.layer c.carry_out-outcome.result.0 =
    rw (← c.deref.ensures, ← c.deref-2.ensures) c.carry_out-outcome.ensures.outcome in
    let all : Carries (arc_value c.self.inside.conf) (length (arc_value c.self.inside.doc)) c.self.inside.layer c.args.command.now c.carry_out-outcome.new.layer c.carry_out-outcome.result.0 =
    carries (arc_value c.self.inside.conf) (length (arc_value c.self.inside.doc)) c.self.inside.layer c.args.command.now c.carry_out-outcome.new.layer c.carry_out-outcome.result.0 outcome in
    rw (← c.self.view_is) all.refused
