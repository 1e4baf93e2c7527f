use Rattle.std.proofs.Common.{rules, ◌<◌, ap, length, subst}
use Rattle.project_steps.proofs.StepsProofs.ShotLemmas.{undecide_refused, undecide_unheld, shot_kept}
use Rattle.project_steps.proofs.StepsProofs.VerdictActs.{undecide_done, item_of}
use Rattle.project_steps.proofs.steps.decide.undecide.Goals as goal

pub returns-then-count-place : goal.returns-then-count-place
returns-then-count-place c = undecide_unheld c.args.state.now.state c.args.by.now c.args.number c.args.holder.now c.args.id c.in-Some.taken.now c.in-Some.ensures (search rules)

pub verdict_taken-requires : goal.verdict_taken-requires
verdict_taken-requires c = shot_kept c.args.state.now.state c.args.number c.in-Some.taken.now c.requires c.in-Some.ensures

pub returns-in_ok-accept_undecide-in-Ok : goal.returns-in_ok-accept_undecide-in-Ok
returns-in_ok-accept_undecide-in-Ok c =
    undecide_done c.args.state.now.state c.args.by.now c.args.number c.args.holder.now c.args.id c.in-Some.taken.now c.holder_of-place.result c.in-Ok.decisions c.in_ok-accept_undecide-in-Ok.field-0 c.in-Some.ensures c.holder_of-place.ensures (search rules) c.in-Ok.ensures.accepted c.in-Ok.ensures.decided
    c.in_ok-accept_undecide-in-Ok.ensures

pub returns-else-eq : goal.returns-else-eq
returns-else-eq c =
    undecide_refused c.args.state.now.state c.args.by.now c.args.number c.args.holder.now c.args.id c.in-Some.taken.now (item_of c.holder_of-place.result c.args.id) c.in-Err.fault c.in-Some.ensures
    (subst (λ n. n < length c.in-Some.taken.now.holders) c.holder_of-place.ensures (search rules)) (ap (λ n. item_of n c.args.id) c.holder_of-place.ensures) (search rules) c.in-Err.ensures.refused
