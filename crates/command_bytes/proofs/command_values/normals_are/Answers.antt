use Rattle.std.proofs.Common.{◌≡◌, ◌∙◌, sym, ap, subst}
use Rattle.std.specs.FinMap as finite
use Rattle.std.specs.List.{AllByRecursion}
use Rattle.layer_model.proofs.Maps.{same_list}
use Rattle.ann_writer.proofs.MarkSteps.{told_on}
use Rattle.ann_writer.specs.Writable.{NormalTexts}
use Rattle.command_bytes.proofs.command_values.normals_are.Goals as goal

pub loop-number-init : goal.loop-number-init
loop-number-init c =
    λ all. subst (λ es. AllByRecursion (λ entry. NormalTexts entry.1) es)
    (c.into_iter-number-iterator.ensures.into_iter_gives.0 ∙ sym (same_list c.normals-number-items.result.now.entries c.into_iter-number-iterator.ensures.into_iter_gives.5) ∙ ap finite.entries c.normals-number-items.ensures) all

pub loop-number-preserved : goal.loop-number-preserved
loop-number-preserved c = told_on NormalTexts _ c.loop-number.number-iterator c.next.new.self c.in-Some.number.now c.in-Some.normal.now c.in-Some.ensures.steps c.normal_is.ensures c.loop-number.invariant

pub returns : goal.returns
returns c = c.loop-number.invariant (subst (λ es. AllByRecursion (λ entry. NormalTexts entry.1) es) (sym c.in-None.ensures.steps.0) tt)
