-- What a creation that was cut off leaves.
use Rattle.std.specs.Prelude.{◌≡◌, ◌⊎◌, ℕ, false, List, Some}
use Rattle.project_journal.specs.JournalFile.{is_journal, opened}

-- an image is no journal, or has exactly these entries
abbrev pub IsNoneOrWhole : List (List ℕ) → List ℕ → Type 0
IsNoneOrWhole entries image = (is_journal image ≡ false) ⊎ (opened image ≡ Some entries)
