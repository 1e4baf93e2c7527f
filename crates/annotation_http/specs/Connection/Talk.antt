-- The messages that a connection answered, by how it ended: those that were answered whole, and the last one where its answer stands apart.
use Rattle.std.specs.Prelude.{ℕ, List, [], ◌∷◌, ◌++◌, Option}
use Rattle.std.proofs.Common.{inl, inr}
use Rattle.http_wire.specs.declared.message.Message.{Message}
use Rattle.project_machine.specs.Asking.{Visiting}
use Rattle.annotation_http.specs.Exchanges.Connections.{Connection}
use Rattle.annotation_http.specs.declared.connection.ending.Ending.{Ending}
use Rattle.annotation_http.specs.declared.connection.ending.Ending.TheVariants as ending
use Rattle.annotation_http.specs.Connection.Steps.{Given, Serving}
use Rattle.annotation_http.specs.Connection.Session.{ConnectionTold, Lacks, Owes, Served, SessionEnds, Stepped}

-- messages, and the answer to each; the last one may not be written, or a front of it
pub record Talk : Type 0 where
  pub messages : List Message
  pub answers : List Given

-- messages that were answered whole
abbrev pub talk_served : {faultless : Type 0} {old new : Serving} {left now before written : Option (List ℕ)} {count : ℕ} → Served faultless old new left now before written count → Talk
talk_served s = record { messages = s.messages; answers = s.answers }

-- and one more, whose step was made
abbrev pub talk_stepped : {faultless : Type 0} {old new : Serving} {left now before written : Option (List ℕ)} → Stepped faultless old new left now before written → Talk
talk_stepped s = record { messages = s.taken.served.messages ++ s.taken.message ∷ []; answers = s.taken.served.answers ++ s.given ∷ [] }

-- memory ran out before the step of a message, or behind it
abbrev pub talk_lacking : {faultless : Type 0} {old new : Serving} {left now before written : Option (List ℕ)} → Lacks faultless old new left now before written → Talk
talk_lacking (inl (count, served)) = talk_served served
talk_lacking (inr stepped) = talk_stepped stepped

-- bytes were owed: an answer's, those of the answer to a stop, or that there is no memory
abbrev pub talk_owing : {faultless : Type 0} {old new : Serving} {left now before written : Option (List ℕ)} {piece : List ℕ} → Owes faultless old new left now before written piece → Talk
talk_owing (inl (stepped, is)) = talk_stepped stepped
talk_owing (inr (inl (why, refuses, is))) = talk_served refuses.stopped.served
talk_owing (inr (inr (lacks, is))) = talk_lacking lacks

-- the messages of a connection by its ending
abbrev pub talk_ended : (faultless : Type 0) (old new : Serving) (left : Option (List ℕ)) (held : List ℕ) (now before written : Option (List ℕ)) (end : Ending) → SessionEnds faultless old new left held now before written end → Talk
talk_ended faultless old new left held now before written ending.End (stopped, all) = talk_served stopped.served
talk_ended faultless old new left held now before written ending.Cut (stopped, all) = talk_served stopped.served
talk_ended faultless old new left held now before written ending.BadHead (answered, few) = talk_served answered.refuses.stopped.served
talk_ended faultless old new left held now before written ending.NeedsLength (answered, few) = talk_served answered.refuses.stopped.served
talk_ended faultless old new left held now before written ending.TooLarge (answered, few) = talk_served answered.refuses.stopped.served
talk_ended faultless old new left held now before written ending.Encoded (answered, few) = talk_served answered.refuses.stopped.served
talk_ended faultless old new left held now before written ending.Closed (answered, asks, few) = talk_stepped answered.stepped
talk_ended faultless old new left held now before written ending.Spent (inl (answered, all)) = talk_stepped answered.stepped
talk_ended faultless old new left held now before written ending.Spent (inr (why, answered, all)) = talk_served answered.refuses.stopped.served
talk_ended faultless old new left held now before written ending.ReadFault (count, served, unfinished) = talk_served served
talk_ended faultless old new left held now before written ending.WriteFault broken = talk_owing broken.owes
talk_ended faultless old new left held now before written ending.Memory (sent, lacks, whole) = talk_lacking lacks

-- the messages of a whole connection
abbrev pub talk_of : {faultless : Type 0} {start : Connection} {old new : Visiting} {left now before written : Option (List ℕ)} {end : Ending}
    → ConnectionTold faultless start old new left now before written end → Talk
talk_of told = talk_ended _ _ _ _ _ _ _ _ _ told.session.ends
