use Rattle.std.proofs.Common.{inr}
use Rattle.annotation_http.specs.Exchanges.Connections.{Bare}
use Rattle.project_commands.proofs.WeakLemmas.{serves}
use Rattle.project_commands.proofs.sessions.serve_session.Goals as goal

pub returns-clause-told : goal.returns-clause-told
returns-clause-told g c =
    let served = c.serve_alone-project.ensures.served in
    inr (record {
      log = c.in_ok-project.project.log;
      log_now = c.serve_alone-project.result.project.log;
      opened = c.in_ok-project.ensures.opened;
      served = record {
        faults = served.faults;
        faults_now = served.faults_now;
        room_now = served.room_now;
        served = serves _ (g.D.Disks.faultless c.args.disks.now) c.in_ok-project.ensures.sure Bare _ _ _ _ _ _ _ served.served;
      };
      kept = λ sure. c.give_project_back.ensures.certain (c.serve_alone-project.ensures.stays (c.in_ok-project.ensures.sure sure));
    })
