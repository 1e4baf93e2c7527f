use Rattle.demo_project.proofs.JoinedLemmas.{message_built}
use Rattle.demo_project.proofs.sending.send.Goals as goal

pub returns : goal.returns
returns c =
    message_built (record { caller = c.args.caller.now; method = c.args.method.now; path = c.args.path.now; body = c.args.body.now }) _ _ _ _ _ _
    c.in_ok-push_line.ensures c.in_ok-push_field.ensures c.in_ok-push_number.ensures c.in_ok-push_text.ensures c.in_ok-extend_from_slice.ensures.items
