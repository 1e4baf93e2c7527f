use Rattle.std.proofs.Common.{sym, arith}
use Rattle.layer_rules.proofs.FullLemmas.{few_classes, many_classes}
use Rattle.layer_rules.proofs.layer_full.full_classes.Goals as goal

pub returns-then-classes : goal.returns-then-classes
returns-then-classes c = sym (few_classes 0 c.args.classes.now (omega arith))

pub returns : goal.returns
returns c = sym (many_classes 0 c.args.classes.now (omega arith) (omega arith))
