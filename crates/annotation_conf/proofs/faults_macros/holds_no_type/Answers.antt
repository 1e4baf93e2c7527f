use Rattle.std.proofs.Common.{◌∙◌, sym, ap, length, false}
use Rattle.std.specs.Option.{option_map_or}
use Rattle.annotation_conf.specs.declared.faults_macros.Kinds.{Kinds}
use Rattle.annotation_conf.proofs.FaultMacros.{unknown_by}
use Rattle.annotation_conf.proofs.faults_macros.holds_no_type.Goals as goal

pub returns-in-Some : goal.returns-in-Some
returns-in-Some c =
    ap (λ o. option_map_or (λ (k : Kinds). k.no_type) o false) (sym c.in-Some.is ∙ c.held_macro.ensures) ∙ unknown_by c.args.known.now (length c.args.kinds.now) c.args.name.now

pub returns-in-None : goal.returns-in-None
returns-in-None c =
    ap (λ o. option_map_or (λ (k : Kinds). k.no_type) o false) (sym c.in-None.is ∙ c.held_macro.ensures) ∙ unknown_by c.args.known.now (length c.args.kinds.now) c.args.name.now
