use Rattle.std.proofs.Common.{ℕ, subst}
use Rattle.mark_base.specs.FailList.{IsFaultless}
use Rattle.project_book.specs.Keeping.{BookValue}
use Rattle.project_book.specs.Visits.{visiting_alone}
use Rattle.project_machine.specs.History.{last}
use Rattle.annotation_http.specs.Exchanges.Connections.{Holds, holding_of}
use Rattle.project_journal.specs.declared.memory_keeper.MemoryKeeper.{MemoryKeeper}
use Rattle.project_journal.specs.MemoryKeepers.{fails_of_appends}
use Rattle.project_commands.specs.Commands.Serving.{Serves}
use Rattle.project_commands.proofs.AloneLemmas.{serves_alone}
use Rattle.project_commands.proofs.commands.trying.serve_desk.Goals as goal

pub returns-clause-told : goal.returns-clause-told
returns-clause-told g c =
    let left = g.C.Source.left in
    let held = g.C.Sink.held in
    let now = c.serve.new.visitor in
    let faults_now = (fails_of_appends now.book.keeper).faults in
    let alone = serves_alone (IsFaultless (fails_of_appends c.new-visitor.result.book.keeper)) (Holds (holding_of c.args.tried.held)) _ c.args.tried.book.log now.book.log now.began
    (fails_of_appends c.args.tried.book.keeper).faults faults_now 18446744073709551615 now.room
    (left c.args.console.now) (left c.serve.new.console) (held c.args.console.now) (held c.serve.new.console) c.serve.result c.serve.ensures.badge c.new-visitor.ensures.visiting c.serve.ensures.told in
    record {
      log_now = now.book.log;
      faults_now = faults_now;
      room_now = now.room;
      served = subst (λ (b : BookValue MemoryKeeper). Serves (IsFaultless (fails_of_appends b.keeper)) (Holds (holding_of c.args.tried.held))
          (visiting_alone c.args.tried.book.log (last c.args.tried.book.log) (fails_of_appends c.args.tried.book.keeper).faults 18446744073709551615)
          (visiting_alone now.book.log (last c.args.tried.book.log) faults_now now.room)
          (left c.args.console.now) (left c.serve.new.console) (held c.args.console.now) (held c.serve.new.console) c.serve.result) c.new-visitor.ensures.book alone;
    }
