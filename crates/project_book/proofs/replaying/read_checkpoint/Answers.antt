use Rattle.std.proofs.Common.{subst}
use Rattle.checkpoint.specs.Runs.{IsRefusal}
use Rattle.project_book.proofs.FaultLemmas.{piece_fault}
use Rattle.project_book.proofs.replaying.read_checkpoint.Goals as goal

pub returns-in-Err-BadEntry-clause-refused : goal.returns-in-Err-BadEntry-clause-refused
returns-in-Err-BadEntry-clause-refused c =
    piece_fault c.args.entries.now c.in-Err-BadEntry.number c.requires (subst (IsRefusal c.args.entries.now) c.in-Err-BadEntry.field-0-is c.in-Err-BadEntry.ensures.refused)
