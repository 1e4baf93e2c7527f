use Rattle.std.proofs.Common.{◌≡◌, ◌≤◌, ◌-◌, length, take, ap, arith, ◌∙◌}
use Rattle.token_columns.proofs.TextLemmas.{front_within, front_boundary, front_bytes}
use Rattle.token_columns.proofs.token_texts.front.Goals as goal

pub overflow_sub-text : goal.overflow_sub-text
overflow_sub-text c =
    let h : length c.behind-rest.result.now ≤ length c.args.text.now = front_within c.args.text.now c.behind-rest.result.now c.args.count c.utf8.text c.behind-rest.ensures.bytes in omega (arith, h)

pub range-requires-clause-end_boundary : goal.range-requires-clause-end_boundary
range-requires-clause-end_boundary c = front_boundary c.args.text.now c.behind-rest.result.now c.args.count c.utf8.text c.behind-rest.ensures.bytes

pub returns : goal.returns
returns c =
    let all : length c.args.text.now - length c.behind-rest.result.now - 0 ≡ length c.args.text.now - length c.behind-rest.result.now = omega arith in
    c.range.ensures.value ∙ ap (λ n. take n c.args.text.now) all ∙ front_bytes c.args.text.now c.behind-rest.result.now c.args.count c.utf8.text c.behind-rest.ensures.bytes
