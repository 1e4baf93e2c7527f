use Rattle.std.proofs.Common.{◌++◌, codes, ap, arith}
use Rattle.std.proofs.lemmas.Fmt.{decimal_digit}
use Rattle.program_inputs.proofs.examples.examples_of_complaints.Goals as goal

pub returns-clause-orphan : goal.returns-clause-orphan
returns-clause-orphan c = ap (λ digits. codes "columns line " ++ (digits ++ codes ": Orphan\n")) (decimal_digit 2 (omega arith))

pub returns-clause-version : goal.returns-clause-version
returns-clause-version c = ap (λ digits. codes "journal: NewerVersion " ++ (digits ++ codes "\n")) (decimal_digit 9 (omega arith))

pub returns-clause-shared : goal.returns-clause-shared
returns-clause-shared c = ap (λ digits. codes "columns: Shared T" ++ (digits ++ codes "\n")) (decimal_digit 2 (omega arith))

pub returns-clause-role : goal.returns-clause-role
returns-clause-role c = ap (λ digits. codes "roster row " ++ (digits ++ codes ": BadRole\n")) (decimal_digit 2 (omega arith))

pub returns-clause-twice : goal.returns-clause-twice
returns-clause-twice c = ap (λ digits. codes "roster: NameTwice " ++ (digits ++ codes "\n")) (decimal_digit 2 (omega arith))
