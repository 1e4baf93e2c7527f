use Rattle.layer_rules.proofs.OverlapLemmas.{Seen}
use Rattle.layer_core.proofs.index.spans_of.Given as goal

-- the spans before those that are left are held
abbrev pub invariant-loop-number : goal.invariant-loop-number
invariant-loop-number l = Seen l.layer l.number-iterator l.spans
