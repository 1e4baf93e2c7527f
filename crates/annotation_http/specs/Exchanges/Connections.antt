-- A connection between two messages: it holds no desk, or one that was handed out to it.
use Rattle.std.specs.Prelude.{ℕ, Bool, true, false, List}
use Rattle.layer_undo.specs.Desks.{DeskState, settled}
use Rattle.project_machine.specs.Requests.{Out}
use Rattle.annotation_http.specs.declared.exchanges.connection.Held.{Held}
use Rattle.annotation_http.specs.declared.exchanges.connection.Start.{Start}
use Rattle.annotation_http.specs.declared.exchanges.connection.Start.TheVariants as start

-- a desk that was handed out: to whom, on which document, under which hold, and what was done on it since
pub record Holding : Type 0 where
  pub who : List ℕ
  pub doc : List ℕ
  pub hold : ℕ
  pub desk : DeskState

-- a connection
pub data Connection : Type 0 where
  Bare : Connection
  Holds : Holding → Connection

-- what a held desk is in plain values
abbrev pub holding_of : Held → Holding
holding_of held = record { who = held.who; doc = held.doc; hold = held.hold; desk = held.desk }

-- what a connection is in plain values
abbrev pub connection_of : Start → Connection
connection_of start.Bare = Bare
connection_of (start.Held held) = Holds (holding_of held)

-- the connection holds a desk
abbrev pub is_held : Connection → Bool
is_held Bare = false
is_held (Holds held) = true

-- the desk of an annotator with something else done on it
abbrev pub with_desk : Holding → DeskState → Holding
with_desk held desk = record { who = held.who; doc = held.doc; hold = held.hold; desk = desk }

-- the desk on a layer that is handed out
abbrev pub desk_on : Out → DeskState
desk_on out = record { conf = out.conf; text = out.text; base = out.base; done = out.done; undone = out.undone }

-- what is handed out to an annotator on a document
abbrev pub handed : List ℕ → List ℕ → Out → Holding
handed who doc out = record { who = who; doc = doc; hold = out.hold; desk = desk_on out }

-- the layer of the desk was committed: it is the base now, and nothing is left to undo
abbrev pub committed : Connection → Connection
committed Bare = Bare
committed (Holds held) = Holds (with_desk held (settled held.desk))

-- a desk that an annotator holds on a document, under a hold (worked examples)
abbrev pub held_as : (who doc : List ℕ) → ℕ → DeskState → Holding
held_as who doc hold desk = record { who = who; doc = doc; hold = hold; desk = desk }
