-- What is read of a founding (private calls only).
use Rattle.std.specs.Prelude.{◌≡◌, ℕ, ◌==◌, Bool, true, false, List, Option, Some, None, IfSome, option_map}
use Rattle.std.specs.Arc.{arc_value}
use Rattle.entry_bytes.specs.declared.entry.Entry.{Entry}
use Rattle.entry_bytes.specs.declared.entry.Entry.TheVariants as entry
use Rattle.entry_bytes.specs.declared.person.Person.{Person}
use Rattle.conf_model.specs.ConfText.{conf_text}
use Rattle.conf_model.specs.Configurations.{Configuration}
use Rattle.project_machine.specs.Legal.{IsFounding}
use Rattle.project_machine.specs.Requests.{Happened, Founded}
use Rattle.project_state.specs.declared.entries.founding.Founding.{Founding}
use Rattle.project_state.specs.Entries.Founding.{founded, IsReadBack}

-- a founding of this text, these people and this level
pub record IsOfFields (conf : List ℕ) (people : List Person) (level : ℕ) (founding : Founding) : Type 0 where
  pub founding_is : IsFounding (arc_value founding.conf) level people
  pub conf_is : conf_text (arc_value founding.conf) ≡ conf
  pub people_are : founding.roster ≡ people
  pub level_is : founding.level ≡ level

-- what is read of the text of a configuration, people and a level
pub record ReadsFields (conf : List ℕ) (people : List Person) (level : ℕ) (told : Option Founding) : Type 0 where
  pub found : IfSome told (IsOfFields conf people level)
  pub told_is : (c : Configuration) → IsFounding c level people → IsReadBack c → conf_text c ≡ conf → option_map founded told ≡ Some (Founded c level people)

-- what is read where the level is the one that stands for none, or is not
abbrev pub ReadsAt : Bool → List ℕ → List Person → ℕ → Option Founding → Type 0
ReadsAt true conf people level told = told ≡ None
ReadsAt false conf people level told = ReadsFields conf people level told

-- what is read of an entry; a founding at a level has not the level 255
abbrev pub ReadsFounding : Entry → Option Founding → Type 0
ReadsFounding (entry.Found conf people) told = ReadsFields conf people 255 told
ReadsFounding (entry.FoundAt conf people level) told = ReadsAt (level == 255) conf people level told
ReadsFounding _ told = told ≡ None
