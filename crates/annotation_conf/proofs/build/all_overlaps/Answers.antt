use Rattle.std.proofs.Common.{◌≡◌, ◌∙◌, List, ap, subst, map, IfOk}
use Rattle.annotation_conf.specs.declared.file.File.{File as FileValue}
use Rattle.conf_model.specs.ConfNames.{File}
use Rattle.annotation_conf.specs.KnownFiles.{IsKnown}
use Rattle.conf_model.specs.declared.overlap_line.Overlap.{Overlap}
use Rattle.annotation_conf.specs.BuildTold.{overlap_kept}
use Rattle.annotation_conf.proofs.BuildTables.{overlaps_shown}
use Rattle.annotation_conf.proofs.build.all_overlaps.Goals as goal

pub returns : goal.returns
returns c =
    let file : File = c.args.resolver.now in
    let values : FileValue = c.file.result.now in
    let known : IsKnown values file = (let P : File → Type 0 = λ f. IsKnown values f in subst P c.names.ensures.value c.file.ensures) in
    let P : List Overlap → Type 0 = λ xs. IfOk c.overlaps.result (λ rows. rows.items ≡ xs) in
    subst P (ap (map (overlap_kept file)) c.deref.ensures.value ∙ overlaps_shown file values known) c.overlaps.ensures
