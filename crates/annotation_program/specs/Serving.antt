-- What a run of the program does whose words are `serve BOOK PORT`.
use Rattle.std.specs.Prelude.{◌≡◌, ℕ, ◌+◌, ◌&&◌, ◌||◌, Bool, false, List, [], ◌∷◌, if◌then◌else◌, Option, Some, None, option_and_then, option_map, bytes_eq, codes, nat_le, nat_lt, Result, Ok, Err, IsErrOf}
use Rattle.mark_base.specs.Streams.{CountsOne}
use Rattle.program_inputs.specs.declared.trouble.Trouble.{Trouble}
use Rattle.program_inputs.specs.declared.trouble.Trouble.TheVariants as trouble
use Rattle.program_inputs.specs.Troubles as said
use Rattle.command_words.specs.Asked.{Command, IsChangedBy, has_hyphen, number_read}
use Rattle.serve_command.specs.declared.serving.serve_end.ServeEnd.{ServeEnd}
use Rattle.serve_command.specs.declared.serving.serve_end.ServeEnd.TheVariants as serve
use Rattle.serve_command.specs.Serving.Serving.{Ends}

-- a number that is a port
abbrev pub port_of : ℕ → Option ℕ
port_of number = if nat_lt 0 number && nat_lt number 65536 then Some number else None

-- the file and the port of three words
abbrev pub serving_by : (name book port : List ℕ) → Option (List ℕ × ℕ)
serving_by name book port =
    if bytes_eq name (codes "serve") then (if has_hyphen book || has_hyphen port then None else option_map (λ it. (book, it)) (option_and_then port_of (number_read port))) else None

-- the file and the port that the words ask to serve, if they ask that
abbrev pub serving_of : List (List ℕ) → Option (List ℕ × ℕ)
serving_of (name ∷ a ∷ b ∷ []) = serving_by name a b
serving_of words = None

-- a file on a disk that a run may change: the one that is served, or else that of the words' command
abbrev pub IsChangedIn : Option (List ℕ × ℕ) → Option Command → List ℕ → Type 0
IsChangedIn (Some (book, port)) command name = name ≡ book
IsChangedIn None command name = IsChangedBy command name

-- what the end of serving comes to
abbrev pub trouble_of : Result (Unit {0}) ServeEnd → Result (Unit {0}) Trouble
trouble_of (Ok done) = Ok tt
trouble_of (Err (serve.Trouble why)) = Err why
trouble_of (Err serve.DoorRefused) = Err trouble.DoorFailed
trouble_of (Err serve.DoorFailed) = Err trouble.DoorFailed

-- what doors tell at a moment: how many calls of them failed and doors of theirs came back with a fault, how many were handed out, and how many came back
pub record DoorsTold : Type 0 where
  pub faults : ℕ
  pub handed : ℕ
  pub taken : ℕ

-- one door was handed out, and one came back
pub record LendsOne (old new : DoorsTold) : Type 0 where
  pub handed : new.handed ≡ old.handed + 1
  pub taken : CountsOne old.taken new.taken

-- a run that serves the project of a file by the door of a port: how it ended, and what it says of that on the complaint sink
pub record Serves (faultless sure : Type 0) (file file_now : Option (List ℕ)) (old new : DoorsTold) (said_before said_now : Option (List ℕ)) (said_faults_before said_faults_now : ℕ) (status : ℕ) : Type 0 where
  pub done : Result (Unit {0}) ServeEnd
  pub ends : Ends faultless sure file file_now old.faults new.faults done
  pub lends : (IsErrOf done serve.DoorRefused → ⊥) → LendsOne old new
  pub says : said.Ends false (trouble_of done) said_before said_now said_faults_before said_faults_now status
