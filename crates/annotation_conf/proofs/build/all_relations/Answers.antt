use Rattle.std.proofs.Common.{◌≡◌, ◌∙◌, List, ap, subst, map, IfOk}
use Rattle.annotation_conf.specs.declared.file.File.{File as FileValue}
use Rattle.conf_model.specs.ConfNames.{File}
use Rattle.annotation_conf.specs.KnownFiles.{IsKnown}
use Rattle.conf_model.specs.declared.relation_type.RelationType.{RelationType}
use Rattle.annotation_conf.specs.BuildTold.{relation_kept, firsts_kept}
use Rattle.annotation_conf.proofs.BuildTables.{relations_shown}
use Rattle.std.proofs.lemmas.List.Elements.{All-same}
use Rattle.annotation_conf.specs.BuildTold.{IsRelationNamed}
use Rattle.annotation_conf.proofs.BuildNamed.{relations_named}
use Rattle.annotation_conf.proofs.build.all_relations.Goals as goal

pub relations-requires : goal.relations-requires
relations-requires c =
    let file : File = c.args.resolver.now in
    let values : FileValue = c.file.result.now in
    let known : IsKnown values file = (let P : File → Type 0 = λ f. IsKnown values f in subst P c.names.ensures.value c.file.ensures) in
    All-same IsRelationNamed c.deref.result.now values.relations.items c.deref.ensures.value (relations_named c.args.text.now file values known c.requires)

pub returns : goal.returns
returns c =
    let file : File = c.args.resolver.now in
    let values : FileValue = c.file.result.now in
    let known : IsKnown values file = (let P : File → Type 0 = λ f. IsKnown values f in subst P c.names.ensures.value c.file.ensures) in
    let P : List RelationType → Type 0 = λ xs. IfOk c.relations.result (λ rows. rows.items ≡ xs) in
    subst P (ap (λ xs. map (relation_kept file xs) (firsts_kept file xs)) c.deref.ensures.value ∙ relations_shown file values known) c.relations.ensures
