use Rattle.std.proofs.Common.{rules, sym, ◌∙◌, subst}
use Rattle.project_state.specs.Values.{asked_of}
use Rattle.project_steps.specs.declared.steps.accepted.Outcome.TheVariants as outcome
use Rattle.project_steps.specs.Steps.Accepting.{IsOutcome}
use Rattle.project_steps.proofs.StepsProofs.JudgeLemmas.{acceptance_judges, caller_free, caller_refused, can_be_made, refusal_judges}
use Rattle.project_steps.proofs.steps.judging.judge.Goals as goal

pub returns-in-Some : goal.returns-in-Some
returns-in-Some c =
    refusal_judges c.args.state.now.state c.args.caller.now (asked_of c.args.request) c.decided_number-decided.result c.in-Some.refusal c.refused.result
    (caller_refused c.args.state.now.state c.args.caller.now (asked_of c.args.request) c.in-Some.refusal (sym c.in-Some.is ∙ c.refuses_caller.ensures)) (sym c.decided_number-decided.ensures) c.refused.ensures

pub entered-requires : goal.entered-requires
entered-requires c =
    let made : IsOutcome c.args.state.now.state c.args.caller.now (asked_of c.args.request) (outcome.Accepted c.in-Accepted.accepted) = subst (IsOutcome c.args.state.now.state c.args.caller.now (asked_of c.args.request)) c.in-Accepted.is c.in_ok-refusal.ensures in
    can_be_made c.args.state.now.state c.args.caller.now (asked_of c.args.request) c.in-Accepted.accepted c.accepted_changes_can_be_entered.ensures ((caller_free c.args.state.now.state c.args.caller.now (asked_of c.args.request) (search rules)).1 ∙ made.0) made.1

pub returns-in-Refused : goal.returns-in-Refused
returns-in-Refused c =
    let told : IsOutcome c.args.state.now.state c.args.caller.now (asked_of c.args.request) (outcome.Refused c.in-Refused.refusal) = subst (IsOutcome c.args.state.now.state c.args.caller.now (asked_of c.args.request)) c.in-Refused.is c.in_ok-refusal.ensures in
    refusal_judges c.args.state.now.state c.args.caller.now (asked_of c.args.request) c.decided_number-decided.result c.in-Refused.refusal c.refused-in-Refused.result
    ((caller_free c.args.state.now.state c.args.caller.now (asked_of c.args.request) (search rules)).1 ∙ told) (sym c.decided_number-decided.ensures) c.refused-in-Refused.ensures

pub returns-in-Accepted : goal.returns-in-Accepted
returns-in-Accepted c =
    let made : IsOutcome c.args.state.now.state c.args.caller.now (asked_of c.args.request) (outcome.Accepted c.in-Accepted.accepted) = subst (IsOutcome c.args.state.now.state c.args.caller.now (asked_of c.args.request)) c.in-Accepted.is c.in_ok-refusal.ensures in
    acceptance_judges c.args.state.now.state c.args.caller.now (asked_of c.args.request) c.decided_number-decided.result c.in-Accepted.accepted c.entered.result
    ((caller_free c.args.state.now.state c.args.caller.now (asked_of c.args.request) (search rules)).1 ∙ made.0) (sym c.decided_number-decided.ensures) made.1 c.entered.ensures
