use Rattle.std.proofs.Common.{◌≡◌, sym, subst, IfOk}
use Rattle.conf_model.specs.ConfNames.{File}
use Rattle.conf_model.specs.ConfOf.{configuration_of}
use Rattle.annotation_conf.specs.BuildTold.{IsFaultless}
use Rattle.annotation_conf.proofs.BuildLaws.{tables_are}
use Rattle.annotation_conf.proofs.build.build.Goals as goal

pub of-requires : goal.of-requires
of-requires c = tables_are c.args.text.now c.args.known.now c.requires

pub build_by-requires : goal.build_by-requires
build_by-requires c = let P : File → Type 0 = λ f. IsFaultless c.args.text.now f in subst P (sym c.in_ok-resolver.ensures) c.requires

pub returns : goal.returns
returns c = let P : File → Type 0 = λ f. IfOk c.build_by.result (λ conf. conf ≡ configuration_of f) in subst P c.in_ok-resolver.ensures c.build_by.ensures
