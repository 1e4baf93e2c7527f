use Rattle.std.proofs.Common.{◌≡◌, length, subst, arith}
use Rattle.overlap_rules.specs.TouchingSpans.{IsFirstTouching}
use Rattle.overlap_rules.specs.Buckets.{held_in}
use Rattle.overlap_rules.proofs.NearLemmas.{Finds, finds_none, finds_more, finds_all, full_at}
use Rattle.overlap_rules.proofs.span_index.SpanIndex.first_touching.Goals as goal

pub loop-frag-init : goal.loop-frag-init
loop-frag-init g c = finds_none _ (held_in c.self.inside.spans.entries) c.self.inside.covered c.self.inside.begun c.args.frags.now c.args.skip

pub lowest_near-found-requires-clause-some : goal.lowest_near-found-requires-clause-some
lowest_near-found-requires-clause-some g c = full_at c.args.frags.now c.loop-frag.frag-index c.requires.ascending c.loop-frag-test.true

pub lowest_near-found-requires-clause-passes : goal.lowest_near-found-requires-clause-passes
lowest_near-found-requires-clause-passes g c = c.loop-frag.invariant.passes

pub loop-frag-preserved : goal.loop-frag-preserved
loop-frag-preserved g c =
    finds_more _ (held_in c.self.inside.spans.entries) c.self.inside.covered c.self.inside.begun c.args.frags.now c.loop-frag.frag-index c.args.skip c.loop-frag.found c.lowest_near-found.result
    c.loop-frag.invariant c.lowest_near-found.ensures.passes c.lowest_near-found.ensures.lower c.lowest_near-found.ensures.others

pub returns : goal.returns
returns g c =
    let all : c.loop-frag.frag-index ≡ length c.args.frags.now = (let upto = c.loop-frag.auto.frag-index-end in let done = c.loop-frag-test.false in omega (arith, upto, done)) in
    subst (λ held. IsFirstTouching (λ number kind answer. g.F.Fn.post c.args.test (number, (kind, tt)) answer) held c.args.frags.now c.args.skip c.loop-frag.found) c.self.view_is
    (finds_all _ (held_in c.self.inside.spans.entries) c.self.inside.covered c.self.inside.begun c.args.frags.now c.args.skip c.loop-frag.found c.self.invariant
    (subst (λ n. Finds (λ number kind answer. g.F.Fn.post c.args.test (number, (kind, tt)) answer) (held_in c.self.inside.spans.entries) c.self.inside.covered c.self.inside.begun c.args.frags.now n c.args.skip c.loop-frag.found) all c.loop-frag.invariant))
