-- What a file holds of a project whose disk was given up.
use Rattle.std.proofs.Common.{◌≡◌, ℕ, List, [], ◌∷◌, ◌++◌, Option, Some, None, inl, inr, refl, ap, ◌∙◌, subst}
use Rattle.std.specs.Prelude.{IfSome}
use Rattle.std.specs.Option.{IsSomeAnd, option_map}
use Rattle.project_journal.specs.JournalFile.{opened}
use Rattle.project_journal.specs.Keeper.{IsKeptOrDoubt}
use Rattle.project_journal.specs.Settled.{kept_in}
use Rattle.project_machine.specs.Requests.{Happened}
use Rattle.project_machine.specs.History.{encoded}
use Rattle.program_inputs.specs.ProjectFiles.ProjectFiles.{IsFileOf}

certain_file : (kept : List (List ℕ)) (doubt : Option (List ℕ)) (log : List Happened) (file : List ℕ) → kept ≡ encoded log → doubt ≡ None → IsKeptOrDoubt kept doubt (opened file)
    → opened file ≡ Some (encoded log)
certain_file kept doubt log file is none (inl same) = same ∙ ap Some is
certain_file kept doubt log file is none (inr more) = absurd (subst (λ d. IsSomeAnd d (λ e. opened file ≡ Some (kept ++ e ∷ []))) none more)

-- where nothing is in doubt, a file that is told has the entries that are kept
pub file_of : (gate : ℕ) (doubt : Option (List ℕ)) (log : List Happened) (holds : Option (List ℕ)) → IfSome (option_map (kept_in gate) holds) (λ told. told ≡ encoded log)
    → ((entries : List (List ℕ)) (file : List ℕ) → option_map (kept_in gate) holds ≡ Some entries → holds ≡ Some file → IsKeptOrDoubt entries doubt (opened file)) → doubt ≡ None → IsFileOf holds log
file_of gate doubt log None kept opens none = tt
file_of gate doubt log (Some file) kept opens none = certain_file (kept_in gate file) doubt log file kept none (opens (kept_in gate file) file refl refl)
