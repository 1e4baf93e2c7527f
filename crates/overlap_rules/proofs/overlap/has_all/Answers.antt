use Rattle.std.proofs.Common.{sym, arith}
use Rattle.overlap_rules.proofs.CoverLemmas.{seeks_later, seeks_gap, seeks_covered, seeks_all, starts_behind, none_covers}
use Rattle.overlap_rules.proofs.overlap.has_all.Goals as goal

pub loop-frag-preserved-then-frag-start : goal.loop-frag-preserved-then-frag-start
loop-frag-preserved-then-frag-start c =
    seeks_later c.args.a.now c.args.b.now c.loop-frag.left.now c.loop-frag.sought.now c.in-Some.frag.now c.in-Some.later.now c.loop-frag.next c.in-Some.ensures.cases.0 (grind (arith, c.max-start.ensures)) c.loop-frag.invariant

pub returns-in_default-split_first : goal.returns-in_default-split_first
returns-in_default-split_first c =
    sym (seeks_gap c.args.a.now c.args.b.now c.loop-frag.left.now c.loop-frag.sought.now c.in-Some.frag.now c.in-Some.later.now c.loop-frag.next c.in-Some.ensures.cases.0 (grind (arith, c.max-start.ensures))
    (none_covers c.loop-frag.left.now _ c.in_default-split_first.ensures.cases) c.loop-frag.invariant)

pub returns-then-start-cover : goal.returns-then-start-cover
returns-then-start-cover c =
    sym (seeks_gap c.args.a.now c.args.b.now c.loop-frag.left.now c.loop-frag.sought.now c.in-Some.frag.now c.in-Some.later.now c.loop-frag.next c.in-Some.ensures.cases.0 (grind (arith, c.max-start.ensures))
    (starts_behind c.loop-frag.left.now c.in-Some-split_first.cover.now c.in-Some-split_first.lefts.now _ c.in-Some-split_first.ensures.cases.0 c.loop-frag.invariant.first (grind (arith, c.max-start.ensures))) c.loop-frag.invariant)

pub loop-frag-preserved : goal.loop-frag-preserved
loop-frag-preserved c =
    rw c.max-next.ensures (rw c.max-start.ensures
    (seeks_covered c.args.a.now c.args.b.now c.loop-frag.left.now c.loop-frag.sought.now c.in-Some-split_first.cover.now c.in-Some-split_first.lefts.now c.in-Some.frag.now c.in-Some.later.now c.loop-frag.next
    c.in-Some-split_first.ensures.cases.0 c.in-Some.ensures.cases.0 (grind (arith, c.max-start.ensures)) c.loop-frag.invariant))

pub returns : goal.returns
returns c = sym (seeks_all c.args.a.now c.args.b.now c.loop-frag.left.now c.loop-frag.sought.now c.loop-frag.next c.in_default.ensures.cases c.loop-frag.invariant)
