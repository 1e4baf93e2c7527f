use Rattle.std.proofs.Common.{◌≡◌, take}
use Rattle.kappa_alpha.specs.Standing.{tokens_in}
use Rattle.kappa_alpha.proofs.tables.tokens_of.Given as goal

abbrev pub invariant-loop-document : goal.invariant-loop-document
invariant-loop-document l = l.total ≡ tokens_in (take l.document-index l.documents)
