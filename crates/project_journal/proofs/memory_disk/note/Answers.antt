use Rattle.std.proofs.Common.{refl, ap}
use Rattle.project_journal.proofs.memory_disk.note.Goals as goal

pub returns-clause-past : goal.returns-clause-past
returns-clause-past c = (record { effect = c.args.effect; after = c.of-after.result }, c.push_reserved.ensures.items, refl, ap (λ v. v.items) c.of-after.ensures)
