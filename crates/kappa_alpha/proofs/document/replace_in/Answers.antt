use Rattle.std.proofs.Common.{◌≡◌, ◌<◌, arith, length, ap, ◌∙◌, None, set, get_or}
use Rattle.std.proofs.lemmas.List.{get_or_default, set-set}
use Rattle.kappa_alpha.specs.Standing.{over_tokens}
use Rattle.kappa_alpha.specs.Counted.{adds}
use Rattle.kappa_alpha.proofs.RowLaws.{fit_out, set_back}
use Rattle.kappa_alpha.proofs.document.replace_in.Goals as goal

pub replace_row-requires-clause-fit : goal.replace_row-requires-clause-fit
replace_row-requires-clause-fit g c = rw c.take-before.ensures.after (fit_out _ _ _ _ c.requires.fit)

pub replace_row-requires-clause-enough : goal.replace_row-requires-clause-enough
replace_row-requires-clause-enough g c = λ v h.
    let hr : c.args.rater < length c.args.rows.now = omega (arith, c.requires.rater_in, c.requires.whole) in
    let eb : c.take-before.result ≡ get_or c.args.rows.now c.args.rater None = c.take-before.ensures.value ∙ get_or_default c.args.rows.now c.args.rater c.index-rows-rater.result None hr in
    let back : over_tokens (adds v) (set (set c.args.rows.now c.args.rater c.take-before.new.self) c.args.rater c.take-before.result) c.args.tokens ≡ over_tokens (adds v) c.args.rows.now c.args.tokens = ap (λ t. over_tokens (adds v) t c.args.tokens) (ap (λ o. set (set c.args.rows.now c.args.rater o) c.args.rater c.take-before.result) c.take-before.ensures.after ∙ set_back c.args.rows.now c.args.rater c.take-before.result eb) in
    omega (arith, back, c.requires.enough v h)

pub replace_row-requires-clause-room : goal.replace_row-requires-clause-room
replace_row-requires-clause-room g c = λ v h.
    let again : over_tokens (adds v) (set (set c.args.rows.now c.args.rater c.take-before.new.self) c.args.rater c.args.row) c.args.tokens ≡ over_tokens (adds v) (set c.args.rows.now c.args.rater c.args.row) c.args.tokens = ap (λ t. over_tokens (adds v) t c.args.tokens) (set-set c.args.rows.now c.args.rater c.take-before.new.self c.args.row) in
    omega (arith, again, c.requires.room v h)

pub returns-clause-replaced : goal.returns-clause-replaced
returns-clause-replaced g c = set-set _ _ _ _

pub returns-clause-each : goal.returns-clause-each
returns-clause-each g c = λ v h.
    let hr : c.args.rater < length c.args.rows.now = omega (arith, c.requires.rater_in, c.requires.whole) in
    let eb : c.take-before.result ≡ get_or c.args.rows.now c.args.rater None = c.take-before.ensures.value ∙ get_or_default c.args.rows.now c.args.rater c.index-rows-rater.result None hr in
    let back : over_tokens (adds v) (set (set c.args.rows.now c.args.rater c.take-before.new.self) c.args.rater c.take-before.result) c.args.tokens ≡ over_tokens (adds v) c.args.rows.now c.args.tokens = ap (λ t. over_tokens (adds v) t c.args.tokens) (ap (λ o. set (set c.args.rows.now c.args.rater o) c.args.rater c.take-before.result) c.take-before.ensures.after ∙ set_back c.args.rows.now c.args.rater c.take-before.result eb) in
    let again : over_tokens (adds v) (set (set c.args.rows.now c.args.rater c.take-before.new.self) c.args.rater c.args.row) c.args.tokens ≡ over_tokens (adds v) (set c.args.rows.now c.args.rater c.args.row) c.args.tokens = ap (λ t. over_tokens (adds v) t c.args.tokens) (set-set c.args.rows.now c.args.rater c.take-before.new.self c.args.row) in
    omega (arith, back, again, c.replace_row.ensures.each v h)
