-- The people of rows, one row after another, and a refusal of one of them.
use Rattle.std.proofs.Common.{◌≡◌, ◌∙◌, ℕ, ◌+◌, ◌<◌, zero, suc, List, [], ◌∷◌, ◌++◌, Option, Some, None, Result, Ok, Err, length, drop, get_or, is_some, option_map, true, false, refl, sym, ap, arith}
use Rattle.std.proofs.lemmas.List.{append_assoc, append-nil}
use Rattle.csv.specs.Records.{field_at}
use Rattle.entry_bytes.specs.declared.person.Person.{Person}
use Rattle.roster_file.specs.declared.roster_read.RosterRead.{RosterRead}
use Rattle.roster_file.specs.declared.roster_read.RosterRead.TheVariants.{BadRow, BadName, BadRole, Roster, Memory}
use Rattle.roster_file.specs.RosterFiles.{IsRefusal, joined, two_of}

-- people behind others
abbrev pub prefixed : List Person → Result (List Person) RosterRead → Result (List Person) RosterRead
prefixed people (Ok more) = Ok (people ++ more)
prefixed people (Err fault) = Err fault

-- a refusal of one is a refusal of the other, where each fault of the one is a fault of the other
pub refused_so : {X Y : Type 0} (one : Result X RosterRead) (other : Result Y RosterRead) (fault : RosterRead) → ((told : RosterRead) → one ≡ Err told → other ≡ Err told) → IsRefusal one fault → IsRefusal other fault
refused_so one other (BadRow n) h is = h (BadRow n) is
refused_so one other (BadName n) h is = h (BadName n) is
refused_so one other (BadRole n) h is = h (BadRole n) is
refused_so one other (Roster f) h is = h (Roster f) is
refused_so one other Memory h is = tt

-- one more person
pub next_person : (people : List Person) (row : Result Person RosterRead) (person : Person) (rest : Result (List Person) RosterRead) → row ≡ Ok person → prefixed people (joined row rest) ≡ prefixed (people ++ person ∷ []) rest
next_person people row person (Ok more) is = ap (λ r. prefixed people (joined r (Ok more))) is ∙ ap Ok (sym (append_assoc people (person ∷ []) more))
next_person people row person (Err fault) is = ap (λ r. prefixed people (joined r (Err fault))) is

-- the fault of the next row
pub next_fault : (people : List Person) (row : Result Person RosterRead) (fault : RosterRead) (rest : Result (List Person) RosterRead) → row ≡ Err fault → prefixed people (joined row rest) ≡ Err fault
next_fault people row fault rest is = ap (λ r. prefixed people (joined r rest)) is

-- no row is left
pub no_more : (people : List Person) → prefixed people (Ok []) ≡ Ok people
no_more people = ap Ok (append-nil people)

-- the rows from a place on
pub next_row : {X : Type 0} (xs : List X) (i : ℕ) (d : X) → i < length xs → drop i xs ≡ get_or xs i d ∷ drop (i + 1) xs
next_row [] i d lt = absurd (omega arith)
next_row (x ∷ xs) zero d lt = refl
next_row (x ∷ xs) (suc i) d lt =
    let one : suc (i + 1) ≡ suc i + 1 = omega arith in
    next_row xs i d (omega (arith, lt)) ∙ ap (λ n. get_or xs i d ∷ drop n (x ∷ xs)) one

-- ---- the fields of a row

pub no_first : (fields : List (List ℕ)) → field_at fields 0 ≡ None → two_of fields ≡ None
unfolding field_at
no_first [] e = refl
no_first (f ∷ fs) e = absurd (grind (arith, e))

pub no_second : (fields : List (List ℕ)) → field_at fields 1 ≡ None → two_of fields ≡ None
unfolding field_at
no_second [] e = refl
no_second (f ∷ []) e = refl
no_second (f ∷ g ∷ fs) e = absurd (grind (arith, e))

pub some_third : (fields : List (List ℕ)) → is_some (field_at fields 2) ≡ true → two_of fields ≡ None
unfolding field_at
some_third [] e = refl
some_third (f ∷ []) e = refl
some_third (f ∷ g ∷ []) e = absurd (grind (arith, e))
some_third (f ∷ g ∷ h ∷ fs) e = refl

pub some_mapped : {X Y : Type 0} (f : X → Y) (o : Option X) → is_some (option_map f o) ≡ is_some o
some_mapped f None = refl
some_mapped f (Some x) = refl

pub none_mapped : {X Y : Type 0} (f : X → Y) (o : Option X) → is_some o ≡ false → option_map f o ≡ None
none_mapped f None e = refl
none_mapped f (Some x) e = absurd (grind (arith, e))

pub just_two : (fields : List (List ℕ)) (name role : List ℕ) → field_at fields 0 ≡ Some name → field_at fields 1 ≡ Some role → field_at fields 2 ≡ None → two_of fields ≡ Some (name, role)
unfolding field_at
just_two [] name role a b c = absurd (grind (arith, a))
just_two (f ∷ []) name role a b c = absurd (grind (arith, b))
just_two (f ∷ g ∷ []) name role a b c = grind (arith, a, b)
just_two (f ∷ g ∷ h ∷ fs) name role a b c = absurd (grind (arith, c))
