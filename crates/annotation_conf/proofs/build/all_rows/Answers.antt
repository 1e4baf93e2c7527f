use Rattle.std.proofs.Common.{◌≡◌, ◌∙◌, ◌+◌, ◌++◌, [], List, ap, subst, length, arith, map, false, true}
use Rattle.std.proofs.lemmas.List.{length-append, length-map}
use Rattle.std.proofs.lemmas.List.Elements.{All-same}
use Rattle.type_hierarchy.specs.declared.type_row.TypeRow.{TypeRow}
use Rattle.annotation_conf.specs.declared.file.File.{File as FileValue}
use Rattle.annotation_conf.specs.declared.file.TypeLine.{TypeLine}
use Rattle.conf_model.specs.ConfNames.{File}
use Rattle.conf_model.specs.ConfOf.{rows_from}
use Rattle.annotation_conf.specs.KnownFiles.{IsKnown}
use Rattle.annotation_conf.specs.BuildTold.{bare_type, IsTypeNamed}
use Rattle.annotation_conf.proofs.BuildNamed.{entities_named, events_named}
use Rattle.annotation_conf.proofs.BuildTables.{rows_shown, length_rows, few_lines}
use Rattle.annotation_conf.proofs.build.all_rows.Goals as goal

pub type_rows-requires-clause-named : goal.type_rows-requires-clause-named
type_rows-requires-clause-named c =
    let file : File = c.args.resolver.now in
    let values : FileValue = c.file-file.result.now in
    let known : IsKnown values file = (let P : File → Type 0 = λ f. IsKnown values f in subst P c.names.ensures.value c.file-file.ensures) in
    All-same IsTypeNamed c.deref.result.now values.entities.items c.deref.ensures.value (entities_named c.args.text.now file values known c.requires)

pub type_rows-requires-2-clause-named : goal.type_rows-requires-2-clause-named
type_rows-requires-2-clause-named c =
    let file : File = c.args.resolver.now in
    let values : FileValue = c.file-file.result.now in
    let known : IsKnown values file = (let P : File → Type 0 = λ f. IsKnown values f in subst P c.names.ensures.value c.file-file.ensures) in
    All-same IsTypeNamed c.deref-2.result.now values.events.items c.deref-2.ensures.value (events_named c.args.text.now file values known c.requires)

pub type_rows-requires-clause-few : goal.type_rows-requires-clause-few
type_rows-requires-clause-few c =
    let file : File = c.args.resolver.now in
    let values : FileValue = c.file-file.result.now in
    let known : IsKnown values file = (let P : File → Type 0 = λ f. IsKnown values f in subst P c.names.ensures.value c.file-file.ensures) in
    omega (arith, few_lines file values known c.names.ensures.tables.types.few, ap length c.deref.ensures.value, c.new.ensures.len)

pub type_rows-requires-2-clause-few : goal.type_rows-requires-2-clause-few
type_rows-requires-2-clause-few c =
    let file : File = c.args.resolver.now in
    let values : FileValue = c.file-file.result.now in
    let known : IsKnown values file = (let P : File → Type 0 = λ f. IsKnown values f in subst P c.names.ensures.value c.file-file.ensures) in
    let lines : List TypeLine = c.deref.result.now in
    let entities : length c.in_ok-entities.entities.items ≡ length lines =
    ap length (c.in_ok-entities.ensures ∙ ap (λ xs. xs ++ rows_from (length xs) false [] (map bare_type lines)) c.new.ensures.items)
    ∙ length_rows 0 false [] (map bare_type lines) ∙ length-map lines bare_type in
    omega (arith, few_lines file values known c.names.ensures.tables.types.few, ap length c.deref.ensures.value, ap length c.deref-2.ensures.value, entities, c.in_ok-entities.entities.ok.0)

pub returns-clause-rows : goal.returns-clause-rows
returns-clause-rows c =
    let file : File = c.args.resolver.now in
    let values : FileValue = c.file-file.result.now in
    let known : IsKnown values file = (let P : File → Type 0 = λ f. IsKnown values f in subst P c.names.ensures.value c.file-file.ensures) in
    let entities : c.in_ok-entities.entities.items ≡ rows_from 0 false [] file.entities =
    c.in_ok-entities.ensures ∙ ap (λ xs. xs ++ rows_from (length xs) false [] (map bare_type c.deref.result.now)) c.new.ensures.items
    ∙ ap (λ xs. rows_from 0 false [] (map bare_type xs)) c.deref.ensures.value ∙ rows_shown 0 false values.entities.items file.entities known.shows.entities in
    c.in_ok-all.ensures
    ∙ ap (λ xs. xs ++ rows_from (length xs) true [] (map bare_type c.deref-2.result.now)) entities
    ∙ ap (λ n. rows_from 0 false [] file.entities ++ rows_from n true [] (map bare_type c.deref-2.result.now)) (length_rows 0 false [] file.entities)
    ∙ ap (λ xs. rows_from 0 false [] file.entities ++ rows_from (length file.entities) true [] (map bare_type xs)) c.deref-2.ensures.value
    ∙ ap (λ xs. rows_from 0 false [] file.entities ++ xs) (rows_shown (length file.entities) true values.events.items file.events known.shows.events)

pub returns-clause-few : goal.returns-clause-few
returns-clause-few c =
    let file : File = c.args.resolver.now in
    let values : FileValue = c.file-file.result.now in
    let known : IsKnown values file = (let P : File → Type 0 = λ f. IsKnown values f in subst P c.names.ensures.value c.file-file.ensures) in
    let lines : List TypeLine = c.deref.result.now in
    let more : List TypeLine = c.deref-2.result.now in
    let entities : length c.in_ok-entities.entities.items ≡ length lines =
    ap length (c.in_ok-entities.ensures ∙ ap (λ xs. xs ++ rows_from (length xs) false [] (map bare_type lines)) c.new.ensures.items)
    ∙ length_rows 0 false [] (map bare_type lines) ∙ length-map lines bare_type in
    let rows : List TypeRow = rows_from (length c.in_ok-entities.entities.items) true [] (map bare_type more) in
    let events : length rows ≡ length more = length_rows (length c.in_ok-entities.entities.items) true [] (map bare_type more) ∙ length-map more bare_type in
    let whole : length c.in_ok-all.all.items ≡ length c.in_ok-entities.entities.items + length rows =
    ap length c.in_ok-all.ensures ∙ length-append c.in_ok-entities.entities.items rows in
    omega (arith, few_lines file values known c.names.ensures.tables.types.few, ap length c.deref.ensures.value, ap length c.deref-2.ensures.value, entities, events, whole)
