use Rattle.std.proofs.Common.{◌≡◌, ◌++◌, take, sym, ◌∙◌, arith}
use Rattle.std.proofs.lemmas.Grind.{common_steps}
use Rattle.http_wire.proofs.StreamLemmas.{front_of_room, room_filled, same_stream}
use Rattle.http_wire.proofs.next_message.read_more.Given.{Over}
use Rattle.http_wire.proofs.next_message.read_more.Goals as goal
use Rattle.http_wire.proofs.next_message.read_more.Goals.{After-truncate}

-- what was read stands behind what was held
now_held : (g : Over) (c : After-truncate g) → c.truncate.new.self.items ≡ c.args.held.now.items ++ take c.in-Ok-receive.count c.receive.new.room
now_held g c = c.truncate.ensures.items ∙ room_filled _ _ _ _ _ _ _ _ (grind (arith, common_steps)) (front_of_room _ _ _ _ (grind (arith, common_steps)) (c.deref_mut.ensures.value ∙ c.in-Ok.ensures.items)) c.in-Ok-receive.ensures.bound.0 (omega (arith, c.in-Ok-receive.ensures.bound.0, c.receive.auto.room, c.in-Ok.ensures.len, c.deref_mut.ensures.len))

pub returns-in-Ok-receive-clause-same : goal.returns-in-Ok-receive-clause-same
returns-in-Ok-receive-clause-same g c = rw (now_held g c) (same_stream _ _ _ _ c.in-Ok-receive.ensures.bytes.0)

pub returns-in-Ok-receive-clause-more : goal.returns-in-Ok-receive-clause-more
returns-in-Ok-receive-clause-more g c = record {
  more = take c.in-Ok-receive.count c.receive.new.room;
  bytes = now_held g c;
  count_is = sym c.in-Ok-receive.ensures.bound.1;
}
