use Rattle.project_state.proofs.ActingLemmas.{frees}
use Rattle.std.proofs.Common.{◌∙◌, ap, ℕ, List}
use Rattle.std.specs.Ordering.{is_eq, nat_cmp}
use Rattle.std.specs.Cmp.Lexicographic.{slice_cmp}
use Rattle.std.proofs.lemmas.Map.Text.{is_eq-slice_cmp}
use Rattle.project_state.proofs.acting.put_number.Goals as goal

pub returns-clause-others : goal.returns-clause-others
returns-clause-others c = λ other apart.
    c.in_ok-insert.ensures.updates.2 other (ap (λ (n : List ℕ). is_eq (slice_cmp nat_cmp n other)) c.in_ok-copy.ensures ∙ (is_eq-slice_cmp c.args.name.now other ∙ apart))
