use Rattle.std.proofs.Common.{◌≡◌, [], take, length}
use Rattle.curator_decisions.specs.Placing.{numbered_entries}
use Rattle.curator_decisions.proofs.NumberLemmas.{AreCounts}
use Rattle.curator_decisions.proofs.numbering.numbered.Given as goal

abbrev pub invariant-loop-entry : goal.invariant-loop-entry
invariant-loop-entry l = record {
  long : length l.counts.items ≡ 7;
  counts : AreCounts l.counts.items (take l.entry-index l.entries);
  numbered : l.numbered.items ≡ numbered_entries [] (take l.entry-index l.entries);
}
