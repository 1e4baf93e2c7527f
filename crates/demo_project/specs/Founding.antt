-- The project of the session as it is founded.
use Rattle.std.specs.Prelude.{◌≡◌, ℕ, true, false, List, [], ◌∷◌, codes, Ok}
use Rattle.entry_bytes.specs.declared.person.Person.{Person}
use Rattle.conf_model.specs.Configurations.{Configuration}
use Rattle.conf_model.specs.ConfOf.{conf_of}
use Rattle.project_machine.specs.Requests.{Happened}
use Rattle.project_book.specs.Founding.{founded}

-- the lines of the configuration: eighteen types of spans
abbrev pub conf_lines : List ℕ
conf_lines = codes "[entities]\nK0\nK1\nK2\nK3\nK4\nK5\nK6\nK7\nK8\nK9\nK10\nK11\nK12\nK13\nK14\nK15\nK16\nK17\n"

-- the configuration that they spell
pub record IsDemoConf (conf : Configuration) : Type 0 where
  pub spelt : conf_of conf_lines ≡ Ok conf

-- the people, in the order of their names
abbrev pub demo_people : List Person
demo_people =
    record { name = codes "ann"; curator = false } ∷ record { name = codes "bob"; curator = false }
    ∷ record { name = codes "cid"; curator = false } ∷ record { name = codes "cur"; curator = true } ∷ []

-- the history of the project when it is founded
pub record IsFounded (log : List Happened) : Type 0 where
  pub conf : Configuration
  pub conf_is : IsDemoConf conf
  pub log_is : log ≡ founded conf 255 demo_people
