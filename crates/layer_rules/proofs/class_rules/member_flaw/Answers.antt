use Rattle.std.proofs.Common.{sym, ◌∙◌, ap}
use Rattle.layer_rules.specs.LayerRules.{equiv_members}
use Rattle.layer_rules.specs.LowestFlaw.{first_from}
use Rattle.layer_rules.proofs.PassLemmas.{only_classes}
use Rattle.layer_rules.proofs.class_rules.member_flaw.Goals as goal

pub returns : goal.returns
returns c =
    c.first_bad.ensures ∙ ap (first_from 0 (λ i. equiv_members c.args.conf.now c.args.layer.now)) c.classes.ensures
    ∙ sym (only_classes (λ i. equiv_members c.args.conf.now c.args.layer.now) c.args.layer.now c.keeps.ensures)
