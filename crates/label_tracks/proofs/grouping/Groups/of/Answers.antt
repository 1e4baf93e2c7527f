use Rattle.std.proofs.Common.{◌∙◌, sym, ap, length}
use Rattle.label_tracks.specs.Levels.{grouping_of}
use Rattle.label_tracks.proofs.LevelLemmas.{grouping_made, groups_kept}
use Rattle.label_tracks.proofs.grouping.Groups.of.Goals as goal

pub invariant_of-result : goal.invariant_of-result
invariant_of-result c =
    groups_kept c.types-types.result.now c.args.level c.in_ok-numbered.numbered.items c.in_ok-groups.groups.items c.len.result c.in_ok-numbered.ensures.heads c.in_ok-numbered.ensures.few c.in_ok-groups.ensures (c.len.ensures ∙ sym c.as_slice.ensures.len ∙ ap length c.as_slice.ensures.value)

pub returns-clause-groups : goal.returns-clause-groups
returns-clause-groups c =
    grouping_made c.types-types.result.now c.args.level c.in_ok-numbered.numbered.items c.in_ok-groups.groups.items c.len.result c.in_ok-numbered.ensures.heads c.in_ok-groups.ensures (c.len.ensures ∙ sym c.as_slice.ensures.len ∙ ap length c.as_slice.ensures.value)
    ∙ ap (λ rows. grouping_of rows c.args.level) c.types-types.ensures
