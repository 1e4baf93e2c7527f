use Rattle.http_wire.proofs.inbox.Inbox.next_message.Goals as goal

pub returns-clause-no_read : goal.returns-clause-no_read
returns-clause-no_read g c = rw (← c.self.view_is) c.take_message-taken.ensures.no_read
