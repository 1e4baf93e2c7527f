use Rattle.std.proofs.Common.{◌||◌, sym, ◌∙◌, ap}
use Rattle.layer_rules.specs.Targets.{type_of}
use Rattle.layer_rules.specs.LayerRules.{may_be_equal}
use Rattle.layer_rules.specs.MemberTypes.{has_unfit}
use Rattle.layer_rules.proofs.MemberLemmas.{bad_members}
use Rattle.layer_rules.proofs.class_rules.are_bad_members.Goals as goal

pub returns-then-has_twins : goal.returns-then-has_twins
returns-then-has_twins c =
    sym (bad_members c.args.conf.now c.args.layer.now c.args.kind.n c.args.ids.now
    ∙ ap (λ b. b || has_unfit (λ x y. may_be_equal c.args.conf.now c.args.kind.n (type_of c.args.layer.now x) (type_of c.args.layer.now y)) c.args.ids.now) (sym c.has_twins.ensures ∙ c.if-has_twins.true))

pub returns : goal.returns
returns c =
    c.have_unfit_types.ensures
    ∙ sym (bad_members c.args.conf.now c.args.layer.now c.args.kind.n c.args.ids.now
    ∙ ap (λ b. b || has_unfit (λ x y. may_be_equal c.args.conf.now c.args.kind.n (type_of c.args.layer.now x) (type_of c.args.layer.now y)) c.args.ids.now) (sym c.has_twins.ensures ∙ c.if-has_twins.false))
