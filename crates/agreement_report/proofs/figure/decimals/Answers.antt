use Rattle.std.proofs.Common.{◌≡◌, ℕ, List, ◌∷◌, ◌++◌, ◌∙◌, append_assoc}
use Rattle.std.specs.Prelude.{codes}
use Rattle.agreement_report.proofs.figure.decimals.Goals as goal

nested : (a b d e : List ℕ) → a ++ (b ++ (46 ∷ (d ++ e))) ≡ a ++ b ++ codes "." ++ d ++ e
nested a b d e = simp append_assoc

pub returns : goal.returns
returns c =
    let written = rw (c.minus_of-minus.ensures, c.filling_of-filling.ensures, c.cut_of-cut.ensures) at c.in_ok-text.ensures.ok in
    c.from_string.ensures ∙ written ∙ nested _ _ _ _
