use Rattle.std.proofs.Common.{rules, bytes_eq, not}
use Rattle.std.proofs.lemmas.Fn.{filter_same}
use Rattle.named_disks.proofs.memory_disks.strike.Goals as goal

pub returns : goal.returns
returns c = filter_same _ (λ other. not (bytes_eq c.args.name.now other)) _ (λ x b f' r. search rules) _ _ c.retain.ensures.filtered
