use Rattle.std.proofs.Common.{map, subst, sym, ◌∙◌}
use Rattle.layer_model.specs.Snapshots.{AreHolders, row_of}
use Rattle.layer_model.proofs.Holders.{two_holders}
use Rattle.tests_scores.proofs.shared.snapshot_of.Goals as goal

pub of-requires : goal.of-requires
of-requires c = subst (λ rows. AreHolders (map row_of rows)) (sym c.in_ok-rows.ensures.items) (two_holders _ _ _ _ (sym c.cmp.ensures ∙ c.in-Less.is))
