use Rattle.overlap_rules.proofs.BucketLemmas.{take_keeps}
use Rattle.overlap_rules.proofs.buckets.take_between.Goals as goal

pub loop-bucket-preserved : goal.loop-bucket-preserved
loop-bucket-preserved c bucket number other there =
    take_keeps c.loop-bucket.places c.remove.new.self c.loop-bucket.bucket c.args.number c.remove.ensures.updates bucket number other (c.loop-bucket.invariant bucket number other there)
