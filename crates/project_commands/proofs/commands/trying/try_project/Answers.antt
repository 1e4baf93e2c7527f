use Rattle.std.proofs.Common.{inr}
use Rattle.project_journal.specs.MemoryKeepers.{fails_of_appends}
use Rattle.annotation_http.specs.Exchanges.Connections.{holding_of}
use Rattle.project_commands.proofs.commands.trying.try_project.Goals as goal

pub returns-clause-told : goal.returns-clause-told
returns-clause-told g c =
    let tried = c.in_ok-tried.tried in
    inr record {
      held = holding_of tried.held;
      log = tried.book.log;
      found = c.in_ok-tried.ensures.tried;
      appends = fails_of_appends tried.book.keeper;
      sure = c.in_ok-tried.ensures.sure;
      served = c.serve_desk.ensures.told;
    }
