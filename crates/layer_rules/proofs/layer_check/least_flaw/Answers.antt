use Rattle.layer_rules.proofs.CheckLemmas.{flaw_of_one, flaw_of_others, good_spans}
use Rattle.layer_rules.proofs.layer_check.least_flaw.Goals as goal

pub returns-in-Some : goal.returns-in-Some
returns-in-Some c = flaw_of_one c.args.scene.now.conf.now c.args.scene.now.characters c.args.scene.now.layer.now c.in-Some.flaw c.in-Some.ensures

pub later_flaw-requires : goal.later_flaw-requires
later_flaw-requires c = good_spans c.args.scene.now.conf.now c.args.scene.now.characters c.args.scene.now.layer.now c.keeps.ensures c.in_default.ensures

pub returns : goal.returns
returns c =
    flaw_of_others c.args.scene.now.conf.now c.args.scene.now.characters c.args.scene.now.layer.now c.in_ok-later.later c.in_default.ensures c.in_ok-later.ensures
