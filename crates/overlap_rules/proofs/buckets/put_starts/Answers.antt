use Rattle.std.proofs.Common.{◌≡◌, ◌+◌, sym, subst, List, take, get_or}
use Rattle.std.proofs.lemmas.List.{take_more}
use Rattle.mark_base.specs.declared.fragments.Frag.{Frag}
use Rattle.overlap_rules.specs.Buckets.{begins, IsBeside}
use Rattle.overlap_rules.proofs.BucketLemmas.{put_keeps, starts_next}
use Rattle.overlap_rules.proofs.NearLemmas.{no_frag}
use Rattle.overlap_rules.proofs.buckets.put_starts.Goals as goal

pub loop-frag-preserved : goal.loop-frag-preserved
loop-frag-preserved c =
    let i = c.loop-frag.frag-index in
    let frags = c.args.frags.now in
    let bucket = c.first_bucket.result in (
      subst (λ (fs : List Frag). IsBeside begins c.insert.new.self c.args.number fs) (sym (take_more frags i no_frag c.loop-frag-test.true))
          (starts_next c.loop-frag.places c.insert.new.self c.args.number (take i frags) (get_or frags i no_frag) bucket c.loop-frag.invariant.0 c.first_bucket.ensures c.in_ok-insert.ensures.updates),
      λ at number there. put_keeps c.loop-frag.places c.insert.new.self bucket c.args.number c.in_ok-insert.ensures.updates at number (c.loop-frag.invariant.1 at number there),
    )
