use Rattle.std.proofs.Common.{◌∙◌, sym, ap, length, Some}
use Rattle.annotation_conf.proofs.FaultMacros.{held_at, held_past, held_nowhere, read_kinds, no_macro}
use Rattle.annotation_conf.proofs.faults_macros.held_macro.Goals as goal

pub returns-in_err-place : goal.returns-in_err-place
returns-in_err-place c =
    c.from_residual.ensures
    ∙ sym (held_nowhere c.args.known.now (length c.args.kinds.now) c.args.name.now (sym c.in_default.is ∙ c.built_in.ensures c.args.known.now) (sym c.first_macro.ensures ∙ c.in_err-place.was))

pub returns-then-place-kinds : goal.returns-then-place-kinds
returns-then-place-kinds c =
    ap Some (read_kinds c.args.known.now c.args.kinds.now c.in_ok-place.place no_macro _ c.requires c.if-place-kinds.true)
    ∙ sym (held_at c.args.known.now (length c.args.kinds.now) c.in_ok-place.place c.args.name.now no_macro (sym c.in_default.is ∙ c.built_in.ensures c.args.known.now) (sym c.first_macro.ensures ∙ c.in_ok-place.was) c.if-place-kinds.true)

pub returns : goal.returns
returns c =
    sym (held_past c.args.known.now (length c.args.kinds.now) c.in_ok-place.place c.args.name.now (sym c.in_default.is ∙ c.built_in.ensures c.args.known.now) (sym c.first_macro.ensures ∙ c.in_ok-place.was) c.if-place-kinds.false)
