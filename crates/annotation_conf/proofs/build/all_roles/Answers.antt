use Rattle.std.proofs.Common.{◌≡◌, ◌∙◌, ◌++◌, [], List, ap, subst, map, IfOk}
use Rattle.annotation_conf.specs.declared.file.File.{File as FileValue}
use Rattle.conf_model.specs.ConfNames.{File}
use Rattle.annotation_conf.specs.KnownFiles.{IsKnown}
use Rattle.conf_model.specs.declared.role.Role.{Role}
use Rattle.annotation_conf.specs.declared.file.TypeLine.{TypeLine}
use Rattle.annotation_conf.specs.BuildTold.{roles_kept}
use Rattle.annotation_conf.proofs.BuildTables.{roles_shown}
use Rattle.std.proofs.lemmas.List.Elements.{All-same}
use Rattle.annotation_conf.specs.BuildTold.{HasRolesNamed}
use Rattle.annotation_conf.proofs.BuildNamed.{event_roles_named}
use Rattle.annotation_conf.proofs.build.all_roles.Goals as goal

pub roles_of_types-requires : goal.roles_of_types-requires
roles_of_types-requires c =
    let file : File = c.args.resolver.now in
    let values : FileValue = c.file-file.result.now in
    let known : IsKnown values file = (let P : File → Type 0 = λ f. IsKnown values f in subst P c.names.ensures.value c.file-file.ensures) in
    All-same HasRolesNamed c.deref-2.result.now values.events.items c.deref-2.ensures.value (event_roles_named c.args.text.now file values known c.requires)

pub returns : goal.returns
returns c =
    let file : File = c.args.resolver.now in
    let values : FileValue = c.file-file.result.now in
    let known : IsKnown values file = (let P : File → Type 0 = λ f. IsKnown values f in subst P c.names.ensures.value c.file-file.ensures) in
    let P : List (List Role) → Type 0 = λ xs. IfOk c.roles_of_types.result (λ rows. rows.items ≡ xs) in
    subst P
    (ap (λ xs. map (λ (line : TypeLine). []) xs ++ map (roles_kept file) c.deref-2.result.now) c.deref.ensures.value
    ∙ ap (λ xs. map (λ (line : TypeLine). []) values.entities.items ++ map (roles_kept file) xs) c.deref-2.ensures.value
    ∙ roles_shown file values known) c.roles_of_types.ensures
