-- What `found BOOK CONF ROSTER` and `found-at BOOK CONF ROSTER LEVEL` do: the two files are read, and a project is founded in a file that was empty or absent.
use Rattle.std.specs.Prelude.{◌≡◌, ◌⊎◌, ℕ, List, ◌++◌, codes, decimal, Option}
use Rattle.entry_bytes.specs.declared.person.Person.{Person}
use Rattle.conf_model.specs.Configurations.{Configuration}
use Rattle.project_machine.specs.People.{annotator_count, curator_count}
use Rattle.project_book.specs.Founding.{founded}
use Rattle.program_inputs.specs.declared.trouble.Trouble.{Trouble}
use Rattle.program_inputs.specs.Files.{HasConf, ConfRefused, HasRoster, RosterRefused}
use Rattle.program_inputs.specs.ProjectFiles.ProjectFiles.{IsFileOf, NotMade}

-- how many people of either sort a project has, as `annotators 3 curators 1`
abbrev pub people_line : List Person → List ℕ
people_line people = codes "annotators " ++ (decimal (annotator_count people) ++ (codes " curators " ++ (decimal (curator_count people) ++ codes "\n")))

-- a project was founded in a file on a configuration and a roster, at a level, 255 for none, and its people are counted
pub record Founds (conf_file roster_file : Option (Option (List ℕ))) (level : ℕ) (file_now : Option (List ℕ)) (bytes : List ℕ) : Type 0 where
  pub conf : Configuration
  pub conf_is : HasConf conf_file conf
  pub people : List Person
  pub people_are : HasRoster roster_file people
  pub kept : IsFileOf file_now (founded conf level people)
  pub line : bytes ≡ people_line people

-- the configuration was read, and the roster is at fault
pub record RosterAtFault (conf_file roster_file : Option (Option (List ℕ))) (before now : ℕ) (why : Trouble) : Type 0 where
  pub conf : Configuration
  pub conf_is : HasConf conf_file conf
  pub told : RosterRefused roster_file before now why

-- both files were read, and no project was founded on them
pub record ProjectAtFault (conf_file roster_file : Option (Option (List ℕ))) (level : ℕ) (file : Option (List ℕ)) (why : Trouble) : Type 0 where
  pub conf : Configuration
  pub conf_is : HasConf conf_file conf
  pub people : List Person
  pub people_are : HasRoster roster_file people
  pub told : NotMade file conf level people why

-- why no project was founded; each file is judged before the next is read, and the file of the project last
abbrev pub NotFounded : (conf_file roster_file : Option (Option (List ℕ))) → ℕ → (file : Option (List ℕ)) → (before now : ℕ) → Trouble → Type 0
NotFounded conf_file roster_file level file before now why =
    ConfRefused conf_file before now why ⊎ RosterAtFault conf_file roster_file before now why ⊎ ProjectAtFault conf_file roster_file level file why
