use Rattle.std.proofs.Common.{Err, ap}
use Rattle.project_commands.proofs.CommandsProofs.TriedLemmas.{not_added, not_out}
use Rattle.project_commands.proofs.commands.trying.found_project.Goals as goal

pub returns-in-Err-clause-refused : goal.returns-in-Err-clause-refused
returns-in-Err-clause-refused g c =
    not_added c.in_ok-book.ensures.founded c.in_ok-roster.ensures c.in_ok-names.ensures.desk c.in_ok-names.ensures.added c.in-Err.ensures.refused
    (λ is. c.in-Err.ensures.keeper.never c.in_ok-book.ensures.sure (ap (λ why. Err why) is))

pub returns-in-Ok-check_out-clause-sure : goal.returns-in-Ok-check_out-clause-sure
returns-in-Ok-check_out-clause-sure g c = (c.in-Ok-check_out.ensures.keeper.stays (c.in-Ok.ensures.keeper.stays c.in_ok-book.ensures.sure).0).0

pub returns-clause-refused : goal.returns-clause-refused
returns-clause-refused g c =
    not_out c.in_ok-book.ensures.founded c.in_ok-roster.ensures c.in_ok-names.ensures.desk c.in_ok-names.ensures.added c.in_ok-names.ensures.you c.in_ok-names.ensures.taken
    c.in-Ok.ensures.added c.in-Err-check_out.ensures.refused
    (λ is. c.in-Err-check_out.ensures.keeper.never (c.in-Ok.ensures.keeper.stays c.in_ok-book.ensures.sure).0 (ap (λ why. Err why) is))
