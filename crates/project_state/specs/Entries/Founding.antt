-- Which founding an entry tells.
use Rattle.std.specs.Prelude.{◌≡◌, ℕ, List, Ok}
use Rattle.std.specs.Arc.{arc_value}
use Rattle.entry_bytes.specs.declared.entry.Entry.{Entry}
use Rattle.entry_bytes.specs.declared.person.Person.{Person}
use Rattle.conf_model.specs.ConfOf.{conf_of}
use Rattle.conf_model.specs.ConfText.{conf_text}
use Rattle.conf_model.specs.Configurations.{Configuration}
use Rattle.project_machine.specs.Entries.{founding_entry}
use Rattle.project_machine.specs.Legal.{IsFounding}
use Rattle.project_machine.specs.Requests.{Happened, Founded}
use Rattle.project_state.specs.declared.entries.founding.Founding.{Founding}

-- a configuration is read from its canonical text, as each one of a program is
abbrev pub IsReadBack : Configuration → Type 0
IsReadBack conf = conf_of (conf_text conf) ≡ Ok conf

-- what a founding makes happen
abbrev pub founded : Founding → Happened
founded founding = Founded (arc_value founding.conf) founding.level founding.roster

-- a project can be founded so, and the founding has this entry
pub record IsFoundingOf (e : Entry) (conf : Configuration) (level : ℕ) (people : List Person) : Type 0 where
  pub founding : IsFounding conf level people
  pub entry : founding_entry (conf_text conf) people level ≡ e
