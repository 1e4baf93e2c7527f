use Rattle.std.proofs.Common.{◌≡◌, ◌≤◌, ◌*◌, take, length}
use Rattle.kappa_alpha.specs.Standing.{tokens_in}
use Rattle.demo_project.proofs.summary.tokens_in.Given as goal

abbrev pub invariant-loop-doc : goal.invariant-loop-doc
invariant-loop-doc l = record {
  within : l.doc ≤ length l.tables.documents;
  sum : l.tokens ≡ tokens_in (take l.doc l.tables.documents);
  small : l.tokens ≤ 4294967295 * l.doc;
}
