use Rattle.overlap_rules.proofs.BucketLemmas.{put_keeps, put_next}
use Rattle.overlap_rules.proofs.buckets.put_between.Goals as goal

pub loop-bucket-preserved : goal.loop-bucket-preserved
loop-bucket-preserved c = (
  put_next c.loop-bucket.places c.insert.new.self c.args.first c.loop-bucket.bucket c.args.number c.in_ok-insert.ensures.updates c.loop-bucket.invariant.0,
  λ bucket number there. put_keeps c.loop-bucket.places c.insert.new.self c.loop-bucket.bucket c.args.number c.in_ok-insert.ensures.updates bucket number (c.loop-bucket.invariant.1 bucket number there),
)
