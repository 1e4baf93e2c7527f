use Rattle.std.proofs.Common.{sym, subst}
use Rattle.project_state.specs.Entries.Writing.{CanBeEntered}
use Rattle.project_book.proofs.founding.founding_entry.Goals as goal

pub change_bytes-requires : goal.change_bytes-requires
change_bytes-requires c = subst (CanBeEntered c.args.state.now.state) (sym c.requires) tt
