use Rattle.std.proofs.Common.{◌∙◌}
use Rattle.checkpoint.proofs.BeginLemmas.{begun_so}
use Rattle.checkpoint.proofs.beginning.begun_by.Goals as goal

pub returns-in_ok-begun-in-Some : goal.returns-in_ok-begun-in-Some
returns-in_ok-begun-in-Some c =
    let found = rw c.in-Some.is at c.in_ok-entry.ensures.found in
    begun_so c.entries_are_told_apart.ensures.no_two c.in-Some.entry c.args.bytes.now c.in_ok-begun-in-Some.begun found.0 (found.1 ∙ c.items.ensures) c.in_ok-begun-in-Some.ensures
