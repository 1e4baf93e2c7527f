use Rattle.std.proofs.Common.{rules, ◌≡◌, ◌∙◌, sym, true}
use Rattle.mark_base.specs.AnnIds.{is_canonical}
use Rattle.mark_base.proofs.NumberLemmas.{not_canonical, canonical_utf8, canonical_parsed, canonical_read, canonical_spells}
use Rattle.mark_base.proofs.decimal.number_read.Goals as goal

pub returns-then-not-is_canonical-clause-none : goal.returns-then-not-is_canonical-clause-none
returns-then-not-is_canonical-clause-none c = search (rules, not_canonical)

pub returns-in-Ok-clause-read : goal.returns-in-Ok-clause-read
returns-in-Ok-clause-read c =
    let form : is_canonical c.args.digits.now ≡ true = sym c.is_canonical.ensures ∙ c.if-not-is_canonical.false in
    canonical_parsed c.args.digits.now c.in-Ok.text.now c.parse.result c.ok.result form c.in-Ok.ensures.cases.0 c.parse.ensures.value.0 c.ok.ensures.value
    ∙ sym (canonical_read c.args.digits.now form)

pub returns-in-Ok-clause-some : goal.returns-in-Ok-clause-some
returns-in-Ok-clause-some c =
    let form : is_canonical c.args.digits.now ≡ true = sym c.is_canonical.ensures ∙ c.if-not-is_canonical.false in
    rw (canonical_parsed c.args.digits.now c.in-Ok.text.now c.parse.result c.ok.result form c.in-Ok.ensures.cases.0 c.parse.ensures.value.0 c.ok.ensures.value)
    (canonical_spells c.args.digits.now form)

pub returns-in-Ok-clause-none : goal.returns-in-Ok-clause-none
returns-in-Ok-clause-none c =
    let form : is_canonical c.args.digits.now ≡ true = sym c.is_canonical.ensures ∙ c.if-not-is_canonical.false in
    rw (canonical_parsed c.args.digits.now c.in-Ok.text.now c.parse.result c.ok.result form c.in-Ok.ensures.cases.0 c.parse.ensures.value.0 c.ok.ensures.value) tt

pub returns-in-Err-clause-read : goal.returns-in-Err-clause-read
returns-in-Err-clause-read c = absurd (c.in-Err.ensures.cases.0 (canonical_utf8 c.args.digits.now (sym c.is_canonical.ensures ∙ c.if-not-is_canonical.false)))

pub returns-in-Err-clause-none : goal.returns-in-Err-clause-none
returns-in-Err-clause-none c = λ n small e. absurd (c.in-Err.ensures.cases.0 (canonical_utf8 c.args.digits.now (sym c.is_canonical.ensures ∙ c.if-not-is_canonical.false)))
