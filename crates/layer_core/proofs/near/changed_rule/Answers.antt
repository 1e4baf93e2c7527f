use Rattle.std.proofs.Common.{◌≡◌, sym, ◌∙◌, ap, subst, length, None, Some, IfOk}
use Rattle.std.specs.Option.{option_or}
use Rattle.layer_core.specs.Changes.{changed_rule}
use Rattle.layer_core.specs.Near.{later_near, single_near}
use Rattle.layer_core.proofs.NearLemmas.{changed_in_parts, good_where_none}
use Rattle.layer_core.proofs.near.changed_rule.Goals as goal

pub returns-in-Some : goal.returns-in-Some
returns-in-Some c =
    let was = c.requires.was in
    let single : Some c.in-Some.rule ≡ single_near c.args.conf.now (length c.args.doc.now) c.args.layer.now c.args.id =
    sym c.in-Some.is ∙ c.in_ok-rule.ensures ∙ ap (λ n. single_near c.args.conf.now n c.args.layer.now c.args.id) c.char_count.ensures.value in
    ap (λ o. option_or o (later_near c.args.conf.now c.args.layer.now c.args.id)) single
    ∙ sym (changed_in_parts c.args.conf.now (length c.args.doc.now) c.args.layer.now was.0 c.args.id c.keeps.ensures was.1.0 was.1.1)

pub later_rule-requires-clause-was : goal.later_rule-requires-clause-was
later_rule-requires-clause-was c = (length c.args.doc.now, c.requires.was)

pub later_rule-requires-clause-good : goal.later_rule-requires-clause-good
later_rule-requires-clause-good c =
    let was = c.requires.was in
    let none : None ≡ single_near c.args.conf.now (length c.args.doc.now) c.args.layer.now c.args.id =
    sym c.in_default.is ∙ c.in_ok-rule.ensures ∙ ap (λ n. single_near c.args.conf.now n c.args.layer.now c.args.id) c.char_count.ensures.value in
    good_where_none c.args.conf.now (length c.args.doc.now) c.args.layer.now was.0 c.args.id c.keeps.ensures was.1.0 was.1.1 none

pub returns : goal.returns
returns c =
    let was = c.requires.was in
    let none : None ≡ single_near c.args.conf.now (length c.args.doc.now) c.args.layer.now c.args.id =
    sym c.in_default.is ∙ c.in_ok-rule.ensures ∙ ap (λ n. single_near c.args.conf.now n c.args.layer.now c.args.id) c.char_count.ensures.value in
    let same : later_near c.args.conf.now c.args.layer.now c.args.id ≡ changed_rule c.args.conf.now (length c.args.doc.now) c.args.layer.now c.args.id =
    ap (λ o. option_or o (later_near c.args.conf.now c.args.layer.now c.args.id)) none
    ∙ sym (changed_in_parts c.args.conf.now (length c.args.doc.now) c.args.layer.now was.0 c.args.id c.keeps.ensures was.1.0 was.1.1) in
    subst (λ w. IfOk c.later_rule.result (λ rule. rule ≡ w)) same c.later_rule.ensures
