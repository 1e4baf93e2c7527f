-- What `--help` and `--version` do.
use Rattle.std.specs.Prelude.{◌≡◌, ℕ, List, Option, Result, IfErr, MatchResult, codes}
use Rattle.program_inputs.specs.declared.trouble.Trouble.{Trouble}
use Rattle.program_inputs.specs.declared.trouble.Trouble.TheVariants.{Memory}
use Rattle.annotation_cli.specs.Printing.{Prints}

-- a text was printed, or there was no memory for it; the console is not read
pub record HelpTold (left left_now held held_now : Option (List ℕ)) (done : Result (Unit {0}) Trouble) : Type 0 where
  pub text : Result (List ℕ) Trouble
  pub lacking : IfErr text (λ why. why ≡ Memory)
  pub prints : Prints text held held_now done
  pub unread : left_now ≡ left

-- the name and the version of the program, as a line
abbrev pub version_line : List ℕ
version_line = codes "annotate 1.0.0\n"

-- that line was printed, or there was no memory for it; the console is not read
pub record VersionTold (left left_now held held_now : Option (List ℕ)) (done : Result (Unit {0}) Trouble) : Type 0 where
  pub line : Result (List ℕ) Trouble
  pub finds : MatchResult line (λ it. it ≡ version_line) (λ why. why ≡ Memory)
  pub prints : Prints line held held_now done
  pub unread : left_now ≡ left
