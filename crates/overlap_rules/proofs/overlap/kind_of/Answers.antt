use Rattle.std.proofs.Common.{true, false, sym, ◌∙◌}
use Rattle.overlap_rules.proofs.CoverLemmas.{kind_apart, kind_with}
use Rattle.overlap_rules.proofs.overlap.kind_of.Goals as goal

pub returns-then-not-shares : goal.returns-then-not-shares
returns-then-not-shares c = sym (kind_apart c.args.a.now c.args.b.now (sym c.shares.ensures ∙ c.if-not-shares.true))

pub returns-in-true-true : goal.returns-in-true-true
returns-in-true-true c = sym (kind_with c.args.a.now c.args.b.now true true true (sym c.if-not-shares.ensures) (sym c.in-true-true.ensures) (sym c.in-true-true.ensures'))

pub returns-in-true-false : goal.returns-in-true-false
returns-in-true-false c = sym (kind_with c.args.a.now c.args.b.now true true false (sym c.if-not-shares.ensures) (sym c.in-true-false.ensures) (sym c.in-true-false.ensures'))

pub returns-in-false-true : goal.returns-in-false-true
returns-in-false-true c = sym (kind_with c.args.a.now c.args.b.now true false true (sym c.if-not-shares.ensures) (sym c.in-false-true.ensures) (sym c.in-false-true.ensures'))

pub returns-in-false-false : goal.returns-in-false-false
returns-in-false-false c = sym (kind_with c.args.a.now c.args.b.now true false false (sym c.if-not-shares.ensures) (sym c.in-false-false.ensures) (sym c.in-false-false.ensures'))
