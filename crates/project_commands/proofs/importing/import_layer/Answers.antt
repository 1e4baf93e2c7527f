use Rattle.std.proofs.Common.{inl, inr}
use Rattle.annotation_http.specs.Exchanges.Connections.{holding_of}
use Rattle.project_commands.proofs.importing.import_layer.Goals as goal

pub returns-in-Err-clause-refused : goal.returns-in-Err-clause-refused
returns-in-Err-clause-refused g c = inl c.in-Err.ensures.refused

pub returns-in-Err-committed-clause-refused : goal.returns-in-Err-committed-clause-refused
returns-in-Err-committed-clause-refused g c =
    inr (inl (record { held = holding_of c.in-Ok.held; out = c.check_out.new.book.log; taken = c.in-Ok.ensures.out; told = c.in-Err-committed.ensures.refused }))

pub returns-clause-refused : goal.returns-clause-refused
returns-clause-refused g c =
    inr (inr (record {
      held = holding_of c.in-Ok.held;
      out = c.check_out.new.book.log;
      taken = c.in-Ok.ensures.out;
      revision = c.in-Ok-committed.revision;
      held_now = holding_of c.load_and_commit-committed.new.held;
      behind = c.load_and_commit-committed.new.project.log;
      committed = c.in-Ok-committed.ensures.committed;
      refused = c.in-Err-parked.ensures.refused;
    }))
