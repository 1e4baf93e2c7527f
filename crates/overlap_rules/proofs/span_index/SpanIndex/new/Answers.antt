use Rattle.overlap_rules.proofs.BucketLemmas.{kept_empty}
use Rattle.overlap_rules.proofs.span_index.SpanIndex.new.Goals as goal

pub invariant_of-result : goal.invariant_of-result
invariant_of-result c = kept_empty c.new.result.entries c.new-2.result c.new-3.result c.new.ensures.empty
