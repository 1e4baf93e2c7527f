use Rattle.std.proofs.Common.{◌≡◌, ◌∙◌, subst}
use Rattle.conf_model.specs.ConfNames.{File}
use Rattle.annotation_conf.specs.KnownMacros.{kinds_of_macros}
use Rattle.annotation_conf.proofs.FaultMacros.{all_macros, all_are_first}
use Rattle.annotation_conf.proofs.faults_macros.KnownMacros.kinds.Goals as goal

pub returns-clause-first : goal.returns-clause-first
returns-clause-first c =
    let P : File → Type 0 = λ file. c.as_slice.result.now ≡ kinds_of_macros file file.macros in
    all_are_first c.args.self.now c.as_slice.result.now (subst P c.self.view_is (c.as_slice.ensures.value ∙ c.self.invariant))

pub returns-clause-all : goal.returns-clause-all
returns-clause-all c =
    let P : File → Type 0 = λ file. c.as_slice.result.now ≡ kinds_of_macros file file.macros in
    all_macros c.args.self.now c.as_slice.result.now (subst P c.self.view_is (c.as_slice.ensures.value ∙ c.self.invariant))
