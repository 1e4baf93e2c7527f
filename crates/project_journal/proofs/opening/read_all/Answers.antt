use Rattle.std.proofs.Common.{◌∙◌, vec_len}
use Rattle.std.proofs.lemmas.List.{take_all}
use Rattle.project_journal.proofs.opening.read_all.Goals as goal

pub returns-then-not-branch-clause-told : goal.returns-then-not-branch-clause-told
returns-then-not-branch-clause-told g c = λ f is.
    let t = c.in_ok-read_more.ensures.told f (c.pieces.invariant.holds ∙ is) (c.pieces.invariant.told f is) in
    t.0 ∙ take_all (vec_len c.read_more.new.bytes) f (t.1 c.if-not-branch.true)
