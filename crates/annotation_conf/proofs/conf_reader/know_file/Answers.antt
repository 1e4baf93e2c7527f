use Rattle.annotation_conf.proofs.FaultParts.{in_order, hold_in_turn}
use Rattle.annotation_conf.proofs.conf_reader.know_file.Goals as goal

pub of-requires : goal.of-requires
of-requires c = record { shows = c.requires; order = in_order c.args.text.now; held = hold_in_turn c.args.text.now }
