-- What a roster file says: CSV without a header row (RFC 4180), a row for each person.
use Rattle.std.specs.Prelude.{◌≡◌, ℕ, ◌+◌, false, true, ◌&&◌, List, [], ◌∷◌, codes, bytes_eq, Option, Some, None, is_some, Result, Ok, Err, if◌then◌else◌, ⊤}
use Rattle.std.specs.Str.{is_utf8}
use Rattle.csv.specs.Reading.{default_config, strip_bom, records}
use Rattle.mark_base.specs.Names.{slug_fault}
use Rattle.entry_bytes.specs.declared.person.Person.{Person}
use Rattle.project_machine.specs.declared.roster_fault.RosterFault.{RosterFault}
use Rattle.project_machine.specs.People.{roster_fault, in_name_order}
use Rattle.roster_file.specs.declared.roster_read.RosterRead.{RosterRead}
use Rattle.roster_file.specs.declared.roster_read.RosterRead.TheVariants.{BadRow, BadName, BadRole, Roster, Memory}

-- the rows of a file: its records, each a list of fields; a byte order mark before them is passed over
abbrev pub rows_of : List ℕ → List (List (List ℕ))
rows_of bytes = records default_config (strip_bom bytes)

-- the name and the role of a row, where it has exactly two fields
abbrev pub two_of : List (List ℕ) → Option (List ℕ × List ℕ)
two_of [] = None
two_of (name ∷ []) = None
two_of (name ∷ role ∷ []) = Some (name, role)
two_of (name ∷ role ∷ more ∷ rest) = None

-- two fields, where both are UTF-8
abbrev pub texts_of : Option (List ℕ × List ℕ) → Option (List ℕ × List ℕ)
texts_of None = None
texts_of (Some fields) = if is_utf8 fields.0 && is_utf8 fields.1 then Some fields else None

-- a person of a name and a role, or which of the two is at fault; the number is the row's
abbrev pub person_of : ℕ → List ℕ → List ℕ → Result Person RosterRead
person_of number name role =
    if is_some (slug_fault name) then Err (BadName number)
    else if bytes_eq role (codes "annotator") then Ok (record { name = name; curator = false })
    else if bytes_eq role (codes "curator") then Ok (record { name = name; curator = true })
    else Err (BadRole number)

-- the person of a row, or its fault
abbrev pub row_of : ℕ → Option (List ℕ × List ℕ) → Result Person RosterRead
row_of number None = Err (BadRow number)
row_of number (Some texts) = person_of number texts.0 texts.1

-- a person and others, or the first fault
abbrev pub joined : Result Person RosterRead → Result (List Person) RosterRead → Result (List Person) RosterRead
joined (Err fault) others = Err fault
joined (Ok person) (Err fault) = Err fault
joined (Ok person) (Ok people) = Ok (person ∷ people)

-- the people of rows that are numbered from here on, or the fault of the first row that has one
abbrev pub people_of : ℕ → List (List (List ℕ)) → Result (List Person) RosterRead
people_of number [] = Ok []
people_of number (row ∷ rows) = joined (row_of number (texts_of (two_of row))) (people_of (number + 1) rows)

-- people in the order of their names, or their fault
abbrev pub ordered : Option RosterFault → List Person → Result (List Person) RosterRead
ordered None people = Ok (in_name_order people)
ordered (Some fault) people = Err (Roster fault)

-- what people that were read make, or the fault of a row
abbrev pub made : Result (List Person) RosterRead → Result (List Person) RosterRead
made (Err fault) = Err fault
made (Ok people) = ordered (roster_fault people) people

-- the people of a roster file, or its first fault
abbrev pub roster_of : List ℕ → Result (List Person) RosterRead
roster_of bytes = made (people_of 1 (rows_of bytes))

-- what a refusal says: the fault, or want of memory
abbrev pub IsRefusal : {T : Type 0} → Result T RosterRead → RosterRead → Type 0
IsRefusal told Memory = ⊤
IsRefusal told fault = told ≡ Err fault
