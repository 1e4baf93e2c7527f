use Rattle.std.proofs.Common.{chars}
use Rattle.mark_base.specs.Names.{is_barred}
use Rattle.mark_base.proofs.NameLemmas.{position_bound}
use Rattle.mark_base.proofs.name.Name.new.Goals as goal

pub spelling_fault-requires : goal.spelling_fault-requires
spelling_fault-requires c = rw c.first_barred.ensures (position_bound is_barred (chars c.args.text.now))
