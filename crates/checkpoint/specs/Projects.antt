-- A project of which the pieces are read.
use Rattle.std.specs.Prelude.{ℕ, List, [], set}
use Rattle.entry_bytes.specs.declared.person.Person.{Person}
use Rattle.conf_model.specs.Configurations.{Configuration}
use Rattle.project_machine.specs.ProjectState.{Row, ProjectState, document, with_row}

-- a project without documents
abbrev pub begun : ℕ → ℕ → List Person → Configuration → ProjectState
begun place level people conf = record { conf = conf; level = level; people = people; place = place; documents = []; snapshots = [] }

-- a project with another row at a place among the annotators, in the document of a number
abbrev pub put_row : ProjectState → ℕ → ℕ → Row → ProjectState
put_row s doc rater new = record s { documents = set s.documents doc (with_row rater new (document s doc)) }
