use Rattle.std.proofs.Common.{◌+◌, ◌∙◌, ap}
use Rattle.overlap_rules.specs.Buckets.{held_in}
use Rattle.overlap_rules.proofs.NearLemmas.{near_both}
use Rattle.overlap_rules.proofs.span_index.lowest_near.Goals as goal

pub returns-clause-others : goal.returns-clause-others
returns-clause-others g c number near below =
    near_both (λ number kind answer. g.F.Fn.post c.args.test.now (number, (kind, tt)) answer) (held_in c.args.spans.now.entries) c.args.frags.now c.args.skip c.args.covered.now c.args.begun.now c.args.near.now c.first_bucket-first.result (c.last_bucket-behind.result + 1) c.lowest_between-found.result c.lowest_between.result
    c.first_bucket-first.ensures (ap (λ n. n + 1) c.last_bucket-behind.ensures.bucket) c.lowest_between.ensures.lower
    c.lowest_between-found.ensures.others c.lowest_between.ensures.others number near below

pub returns-clause-lower : goal.returns-clause-lower
returns-clause-lower g c number below = c.lowest_between-found.ensures.lower number (c.lowest_between.ensures.lower number below)
