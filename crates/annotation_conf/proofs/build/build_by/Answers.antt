use Rattle.std.proofs.Common.{◌≡◌, ◌∙◌, None, sym, subst}
use Rattle.type_hierarchy.specs.TypeFaults.{fault_of}
use Rattle.conf_model.specs.Kept.{IsKept}
use Rattle.annotation_conf.proofs.BuildLaws.{kept_is, conf_same}
use Rattle.annotation_conf.proofs.BuildTables.{keeps_faultless}
use Rattle.annotation_conf.proofs.SoundSizes.{types_sound}
use Rattle.annotation_conf.proofs.build.build_by.Goals as goal

pub tree_of-requires-clause-sound : goal.tree_of-requires-clause-sound
tree_of-requires-clause-sound c =
    subst (λ rows. fault_of rows ≡ None) (sym c.in_ok-rows.ensures.rows) (types_sound c.args.resolver.now (keeps_faultless c.args.text.now c.args.resolver.now c.requires))

pub of-requires : goal.of-requires
of-requires c =
    subst IsKept
    (sym
    (conf_same c.args.resolver.now _ _ _ _ _ (c.in_ok-types.ensures ∙ c.in_ok-rows.ensures.rows) c.in_ok-roles.ensures c.in_ok-relations.ensures c.in_ok-attributes.ensures c.in_ok-overlaps.ensures))
    (kept_is c.args.text.now c.args.resolver.now c.requires)

pub returns : goal.returns
returns c =
    c.of.ensures
    ∙
    (conf_same c.args.resolver.now _ _ _ _ _ (c.in_ok-types.ensures ∙ c.in_ok-rows.ensures.rows) c.in_ok-roles.ensures c.in_ok-relations.ensures c.in_ok-attributes.ensures c.in_ok-overlaps.ensures)
