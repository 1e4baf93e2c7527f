-- A console that is served with a project.
use Rattle.std.specs.Prelude.{◌≡◌, ℕ, ◌<◌, List, Option, Result, Ok, Err}
use Rattle.project_machine.specs.Asking.{Visiting}
use Rattle.project_machine.specs.History.{after, begin, upto}
use Rattle.annotation_http.specs.Exchanges.Connections.{Connection}
use Rattle.annotation_http.specs.Connection.Headline.{IsTrustworthy}
use Rattle.annotation_http.specs.Connection.Session.{ConnectionTold}
use Rattle.annotation_http.specs.declared.connection.ending.Ending.{Ending}
use Rattle.annotation_http.specs.declared.connection.ending.Ending.TheVariants as ending
use Rattle.program_inputs.specs.declared.trouble.Trouble.{Trouble}
use Rattle.program_inputs.specs.declared.trouble.Trouble.TheVariants as trouble

-- what an ending comes to: the job is done where the input ended between two messages, or a message asked to close
abbrev pub ending_of : Ending → Result (Unit {0}) Trouble
ending_of ending.End = Ok tt
ending_of ending.Closed = Ok tt
ending_of ending.Cut = Err trouble.Cut
ending_of ending.BadHead = Err trouble.BadHead
ending_of ending.NeedsLength = Err trouble.NeedsLength
ending_of ending.TooLarge = Err trouble.TooLarge
ending_of ending.Encoded = Err trouble.Encoded
ending_of ending.Spent = Err trouble.Spent
ending_of ending.ReadFault = Err trouble.ReadFault
ending_of ending.WriteFault = Err trouble.WriteFault
ending_of ending.Memory = Err trouble.Memory

-- one connection was served, from its start to an ending that comes to this; what stands at each place of what was seen can be trusted: each committed layer obeys the configuration, each table is counted anew, and each refusal has its rule
pub record Serves (faultless : Type 0) (start : Connection) (old new : Visiting) (left now before written : Option (List ℕ)) (done : Result (Unit {0}) Trouble) : Type 0 where
  pub end : Ending
  pub told : ConnectionTold faultless start old new left now before written end
  pub places : (place : ℕ) → begin new.seen < place → IsTrustworthy (after (upto place new.seen))
  pub came : done ≡ ending_of end
