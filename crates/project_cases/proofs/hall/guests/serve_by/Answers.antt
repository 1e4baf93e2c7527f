use Rattle.std.proofs.Common.{◌≡◌, ◌∙◌, ap}
use Rattle.project_machine.specs.Asking.{Visiting}
use Rattle.project_cases.proofs.hall.guests.serve_by.Goals as goal

pub returns : goal.returns
returns g c =
    let badge = λ (v : Visiting). v.badge in
    (c.badges_tell_passes.ensures c.args.pass c.into_pass.result (ap badge c.into_pass.ensures.visiting ∙ (c.answers_to.ensures ∙ ap badge c.new-guest.ensures.visiting))).hall ∙ c.requires
