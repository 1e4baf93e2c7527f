use Rattle.std.proofs.Common.{◌≡◌, ◌∙◌, sym, ap, chars, drop, encode_utf8_all, rules, arith}
use Rattle.std.proofs.lemmas.Str.{encodes-chars}
use Rattle.token_columns.proofs.TextLemmas.{past_next, chars_behind}
use Rattle.token_columns.proofs.token_texts.behind.Goals as goal

pub loop-init : goal.loop-init
loop-init c = c.chars-rest.ensures.rest ∙ sym (encodes-chars c.args.text.now c.utf8.text)

pub loop-preserved : goal.loop-preserved
loop-preserved c = past_next _ (chars c.args.text.now) c.loop.rest.rest.now c.next.new.self.rest.now c.loop.counter c.next.result (search rules) c.loop.invariant (λ p. p.0) c.next.ensures.steps.0

pub returns-clause-characters : goal.returns-clause-characters
returns-clause-characters c =
    let all : c.loop.counter ≡ c.args.count = omega arith in
    ap chars (c.as_str.ensures ∙ c.loop.invariant ∙ ap (λ n. encode_utf8_all (drop n (chars c.args.text.now))) all)
    ∙ chars_behind c.args.text.now c.args.count c.utf8.text
