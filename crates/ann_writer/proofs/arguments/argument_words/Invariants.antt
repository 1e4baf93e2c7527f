use Rattle.std.proofs.Common.{◌≡◌, ◌++◌, [], take, drop, length}
use Rattle.conf_model.specs.Lookups.{roles_of}
use Rattle.ann_writer.specs.Words.{argument_words}
use Rattle.ann_writer.specs.RoleCounts.{AreCounts}
use Rattle.ann_writer.proofs.arguments.argument_words.Given as goal

abbrev pub invariant-loop-arg : goal.invariant-loop-arg
invariant-loop-arg l = record {
  words : l.words.items ++ argument_words l.conf l.event.n (take l.arg-index l.args) (drop l.arg-index l.args) ≡ argument_words l.conf l.event.n [] l.args;
  counts : AreCounts l.counts.items (take l.arg-index l.args);
  size : length l.counts.items ≡ length (roles_of l.conf l.event.n);
}
