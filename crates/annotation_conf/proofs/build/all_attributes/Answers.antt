use Rattle.std.proofs.Common.{◌≡◌, ◌∙◌, List, ap, subst, map, IfOk}
use Rattle.annotation_conf.specs.declared.file.File.{File as FileValue}
use Rattle.conf_model.specs.ConfNames.{File}
use Rattle.annotation_conf.specs.KnownFiles.{IsKnown}
use Rattle.conf_model.specs.declared.attribute_type.AttributeType.{AttributeType}
use Rattle.annotation_conf.specs.BuildTold.{attribute_kept}
use Rattle.annotation_conf.proofs.BuildTables.{attributes_shown}
use Rattle.std.proofs.lemmas.List.Elements.{All-same}
use Rattle.annotation_conf.specs.BuildTold.{IsAttributeNamed}
use Rattle.annotation_conf.proofs.BuildNamed.{attributes_named}
use Rattle.annotation_conf.proofs.build.all_attributes.Goals as goal

pub attributes-requires : goal.attributes-requires
attributes-requires c =
    let file : File = c.args.resolver.now in
    let values : FileValue = c.file.result.now in
    let known : IsKnown values file = (let P : File → Type 0 = λ f. IsKnown values f in subst P c.names.ensures.value c.file.ensures) in
    All-same IsAttributeNamed c.deref.result.now values.attributes.items c.deref.ensures.value (attributes_named c.args.text.now file values known c.requires)

pub returns : goal.returns
returns c =
    let file : File = c.args.resolver.now in
    let values : FileValue = c.file.result.now in
    let known : IsKnown values file = (let P : File → Type 0 = λ f. IsKnown values f in subst P c.names.ensures.value c.file.ensures) in
    let P : List AttributeType → Type 0 = λ xs. IfOk c.attributes.result (λ rows. rows.items ≡ xs) in
    subst P (ap (map (attribute_kept file)) c.deref.ensures.value ∙ attributes_shown file values c.args.text.now known c.requires) c.attributes.ensures
