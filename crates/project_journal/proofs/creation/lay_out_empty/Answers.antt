use Rattle.std.proofs.Common.{◌++◌, List, ℕ, Some, ◌∙◌, ap, arith}
use Rattle.std.proofs.lemmas.List.{drop_at}
use Rattle.project_journal.specs.JournalFile.{mark}
use Rattle.project_journal.proofs.creation.lay_out_empty.Goals as goal

pub returns-clause-ok : goal.returns-clause-ok
returns-clause-ok g c = λ f is.
    let held = c.claim.ensures.holds ∙ is in
    let cut = c.in_ok-cut.ensures.resized f held (omega arith) in
    let body = c.in_ok-write_body.ensures.ok _ cut (omega arith) in
    c.in_ok-write_front.ensures.ok _ body.1 ∙ ap (λ (l : List ℕ). Some (mark ++ l)) (drop_at body.0 _ 8 body.2)
