use Rattle.std.proofs.Common.{refl}
use Rattle.http_wire.specs.Answers.{answer_bytes_of, answer_head_of}
use Rattle.http_wire.proofs.answer.answer_bytes.Goals as goal

pub returns-then-bodiless : goal.returns-then-bodiless
unfolding answer_head_of
returns-then-bodiless c = rw (
  c.if-bodiless.true,
  c.from_vec.ensures,
  c.in_ok-push_text.ensures,
  c.ending.ensures,
  c.in_ok-push_number-2.ensures,
  c.in_ok-push_number.ensures,
  c.in_ok-push_field.ensures,
  c.media_name.ensures,
  c.in_ok-push_status.ensures,
  c.new-bytes.ensures.items,
  c.items-body.ensures,
) refl

pub returns : goal.returns
unfolding answer_bytes_of
returns c = rw (
  c.if-bodiless.false,
  c.from_vec-2.ensures,
  c.in_ok-extend_from_slice.ensures.items,
  c.in_ok-push_text.ensures,
  c.ending.ensures,
  c.in_ok-push_number-2.ensures,
  c.in_ok-push_number.ensures,
  c.in_ok-push_field.ensures,
  c.media_name.ensures,
  c.in_ok-push_status.ensures,
  c.new-bytes.ensures.items,
  c.items-body.ensures,
) refl
