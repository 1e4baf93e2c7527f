-- What `demo` does.
use Rattle.std.specs.Prelude.{◌≡◌, ℕ, List, length}
use Rattle.mark_base.specs.FailList.{FailState, IsFaultless}
use Rattle.project_machine.specs.Requests.{Happened}
use Rattle.annotation_http.specs.Connection.Talk.{talk_of}
use Rattle.demo_project.specs.Founding.{IsFounded}
use Rattle.demo_project.specs.Requests.{demo_input}
use Rattle.demo_project.specs.Sessions.{ServesAll}
use Rattle.demo_project.specs.Summary.{summary_of}

-- a project was founded, all requests of a number were served with it as one connection, and the lines are the summary of the history behind that, with as many answers as there were
pub record DemoTold (number : ℕ) (lines : List ℕ) : Type 0 where
  pub log : List Happened
  pub log_now : List Happened
  pub founded : IsFounded log
  pub appends : FailState
  pub sure : IsFaultless appends
  pub served : ServesAll appends log (demo_input number) log_now
  pub summed : lines ≡ summary_of log_now (length (talk_of served.told).answers)
