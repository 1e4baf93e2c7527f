use Rattle.std.proofs.Common.{◌≡◌, ◌∙◌, sym, ap, subst, length, arith, take}
use Rattle.std.proofs.lemmas.List.{length-map}
use Rattle.conf_model.specs.ConfNames.{File, MacroLine}
use Rattle.annotation_conf.specs.KnownMacros.{kinds_of, AreFirstKinds}
use Rattle.annotation_conf.proofs.FaultMacros.{front_kinds}
use Rattle.annotation_conf.proofs.faults.first_macro.Goals as goal

pub macro_fault-requires : goal.macro_fault-requires
macro_fault-requires c =
    let P : File → Type 0 = λ f. AreFirstKinds f (take c.loop-place.place c.kinds.result.now) in
    let size : length c.kinds.result.now ≡ length c.args.known.now.macros =
    ap length c.kinds.ensures.value ∙ length-map c.args.known.now.macros (λ (macro : MacroLine). kinds_of c.args.known.now macro.holding) in
    subst P (sym c.names.ensures) (front_kinds c.args.known.now c.kinds.result.now c.loop-place.place c.kinds.ensures.value (omega (arith, size, c.requires)))
