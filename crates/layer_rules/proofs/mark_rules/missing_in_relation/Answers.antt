use Rattle.std.proofs.Common.{[], ◌∷◌, not}
use Rattle.layer_model.specs.Layers.{has}
use Rattle.layer_model.specs.declared.rule.Rule.TheVariants.{NoSuch}
use Rattle.layer_rules.proofs.RecordLemmas.{first_split}
use Rattle.layer_rules.proofs.mark_rules.missing_in_relation.Goals as goal

pub returns : goal.returns
returns c =
    rw (c.or.ensures, c.missing.ensures, c.missing-2.ensures)
    (first_split NoSuch (λ id. not (has c.args.layer.now id)) c.args.relation.now.first (c.args.relation.now.second ∷ []))
