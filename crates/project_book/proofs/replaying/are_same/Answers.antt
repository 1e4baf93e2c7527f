use Rattle.std.proofs.Common.{◌≡◌, true, false, sym, ◌∙◌}
use Rattle.std.proofs.lemmas.Bool.Decides.{Decides-eqb}
use Rattle.std.proofs.lemmas.Slice.Eq.{slice_eq-Decides}
use Rattle.project_book.proofs.replaying.are_same.Goals as goal

true_false : true ≡ false → ⊥
true_false e = cc

pub returns-clause-same : goal.returns-clause-same
returns-clause-same c = (slice_eq-Decides Decides-eqb c.args.bytes.now c.args.others.now c.eq.result c.eq.ensures).0

pub returns-clause-differ : goal.returns-clause-differ
returns-clause-differ c = λ isnt same. true_false (sym ((slice_eq-Decides Decides-eqb c.args.bytes.now c.args.others.now c.eq.result c.eq.ensures).1 same) ∙ isnt)
