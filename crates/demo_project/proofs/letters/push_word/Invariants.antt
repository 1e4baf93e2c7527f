use Rattle.std.proofs.Common.{◌≡◌, [], ◌∷◌, ◌++◌}
use Rattle.demo_project.specs.Joined.{joined}
use Rattle.demo_project.specs.Texts.{letter}
use Rattle.demo_project.proofs.letters.push_word.Given as goal

abbrev pub invariant-loop-place : goal.invariant-loop-place
invariant-loop-place l = l.text.items ≡ l.initial.text.items ++ joined (λ place. letter l.number l.doc l.word place ∷ []) l.place
