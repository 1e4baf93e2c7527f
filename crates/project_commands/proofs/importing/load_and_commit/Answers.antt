use Rattle.std.proofs.Common.{inl}
use Rattle.annotation_http.specs.Exchanges.Connections.{holding_of}
use Rattle.project_commands.proofs.ImportLemmas.{commits, commit_refused}
use Rattle.project_commands.proofs.importing.load_and_commit.Goals as goal

pub returns-in-Err-clause-refused : goal.returns-in-Err-clause-refused
returns-in-Err-clause-refused g c = inl c.in-Err.ensures.refused

pub returns-in-Ok-commit-clause-committed : goal.returns-in-Ok-commit-clause-committed
returns-in-Ok-commit-clause-committed g c =
    let same = c.in-Ok.ensures.same in
    commits c.args.project.now.log c.commit.new.project.log (holding_of c.args.held.now) (holding_of c.load.new.held) (holding_of c.commit.new.held) c.args.layer c.in-Ok-commit.revision
    c.in-Ok.ensures.loaded same.0 same.1 same.2 c.in-Ok-commit.ensures.committed c.in-Ok-commit.ensures.settled

pub returns-in-Err-commit-clause-refused : goal.returns-in-Err-commit-clause-refused
returns-in-Err-commit-clause-refused g c =
    let same = c.in-Ok.ensures.same in
    commit_refused c.args.project.now.log (holding_of c.args.held.now) (holding_of c.load.new.held) c.args.layer c.in-Err-commit.why
    c.in-Ok.ensures.loaded same.0 same.1 same.2 c.in-Err-commit.ensures.refused
