use Rattle.std.proofs.Common.{◌∙◌}
use Rattle.checkpoint.proofs.BeginLemmas.{read_so}
use Rattle.checkpoint.proofs.reading.read_by.Goals as goal

pub returns-in_ok-read-in-Some : goal.returns-in_ok-read-in-Some
returns-in_ok-read-in-Some c =
    let found = rw c.in-Some.is at c.in_ok-entry.ensures.found in
    read_so c.entries_are_told_apart.ensures.no_two c.args.so_far c.in-Some.entry c.args.bytes.now c.in_ok-read-in-Some.read found.0 (found.1 ∙ c.items.ensures) c.in_ok-read-in-Some.ensures
