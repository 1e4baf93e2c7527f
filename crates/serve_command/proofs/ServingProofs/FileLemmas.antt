-- What a file holds of a project whose disk was given up.
use Rattle.std.proofs.Common.{◌≡◌, ℕ, List, [], ◌∷◌, ◌++◌, Option, Some, None, inl, inr, refl, subst}
use Rattle.std.specs.Prelude.{IfSome}
use Rattle.std.specs.Option.{IsSomeAnd, option_map}
use Rattle.project_journal.specs.JournalFile.{opened}
use Rattle.project_journal.specs.Keeper.{IsKeptOrDoubt}
use Rattle.project_journal.specs.Settled.{kept_in}
use Rattle.project_machine.specs.Requests.{Happened}
use Rattle.project_machine.specs.History.{encoded}
use Rattle.project_book.specs.declared.open_fault.OpenFault.{OpenFault}
use Rattle.project_book.specs.declared.open_fault.OpenFault.TheVariants as fault
use Rattle.project_book.specs.Opening.{IsOpenRefusal}
use Rattle.program_inputs.specs.ProjectFiles.ProjectFiles.{HasEntries, IsFileOf, NotOpened}
use Rattle.serve_command.specs.Serving.Serving.{open_trouble}

-- a file that is told has the entries that are kept, alone or with the one in doubt
pub left_of : (gate : ℕ) (doubt : Option (List ℕ)) (log : List Happened) (holds : Option (List ℕ)) → IfSome (option_map (kept_in gate) holds) (λ told. told ≡ encoded log)
    → ((entries : List (List ℕ)) (file : List ℕ) → option_map (kept_in gate) holds ≡ Some entries → holds ≡ Some file → IsKeptOrDoubt entries doubt (opened file))
    → IfSome holds (λ bytes. IsKeptOrDoubt (encoded log) doubt (opened bytes))
left_of gate doubt log None kept opens = tt
left_of gate doubt log (Some file) kept opens = subst (λ entries. IsKeptOrDoubt entries doubt (opened file)) kept (opens (kept_in gate file) file refl refl)

alone : (entries : List (List ℕ)) (doubt : Option (List ℕ)) (found : Option (List (List ℕ))) → doubt ≡ None → IsKeptOrDoubt entries doubt found → found ≡ Some entries
alone entries doubt found none (inl same) = same
alone entries doubt found none (inr more) = absurd (subst (λ d. IsSomeAnd d (λ e. found ≡ Some (entries ++ e ∷ []))) none more)

-- where nothing is in doubt, alone
pub certain_of : (doubt : Option (List ℕ)) (log : List Happened) (file : Option (List ℕ)) → doubt ≡ None → IfSome file (λ bytes. IsKeptOrDoubt (encoded log) doubt (opened bytes)) → IsFileOf file log
certain_of doubt log None none left = tt
certain_of doubt log (Some bytes) none left = alone (encoded log) doubt (opened bytes) none left

entries_told : (entries : List (List ℕ)) (holds : Option (List ℕ)) → ((file : List ℕ) → holds ≡ Some file → opened file ≡ Some entries) → HasEntries holds entries
entries_told entries None opens = tt
entries_told entries (Some file) opens = opens file refl

-- why the entries of a file make no project is why the file is not opened
pub refusal_of : (entries : List (List ℕ)) (holds : Option (List ℕ)) (why : OpenFault) → ((file : List ℕ) → holds ≡ Some file → opened file ≡ Some entries) → IsOpenRefusal entries why → NotOpened holds (open_trouble why)
refusal_of entries holds (fault.BadEntry number) opens is = record { entries = entries; read = entries_told entries holds opens; fault = is }
refusal_of entries holds fault.Keeper opens is = tt
refusal_of entries holds fault.Memory opens is = tt
