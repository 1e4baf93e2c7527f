use Rattle.overlap_rules.proofs.BucketLemmas.{take_keeps}
use Rattle.overlap_rules.proofs.buckets.take_starts.Goals as goal

pub loop-frag-preserved : goal.loop-frag-preserved
loop-frag-preserved c bucket number other there =
    take_keeps c.loop-frag.places c.remove.new.self c.first_bucket.result c.args.number c.remove.ensures.updates bucket number other (c.loop-frag.invariant bucket number other there)
