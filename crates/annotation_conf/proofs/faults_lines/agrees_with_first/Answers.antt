use Rattle.std.proofs.Common.{◌≡◌, ◌∙◌, ◌-◌, ◌<◌, sym, ap, subst, length, arith, get_or, Option, Some, None, true}
use Rattle.std.specs.Option.{option_map_or}
use Rattle.conf_model.specs.ConfNames.{File, NamedLine}
use Rattle.conf_model.specs.ConfFaults.{of_named}
use Rattle.annotation_conf.specs.NamePlaces.{place_among}
use Rattle.annotation_conf.specs.KnownFiles.{IsKnown}
use Rattle.annotation_conf.specs.FileKept.{KeptNamed, kept_named}
use Rattle.annotation_conf.specs.FileShows.{seen_named}
use Rattle.annotation_conf.specs.FaultsTold.{agree_kept}
use Rattle.annotation_conf.proofs.FaultFirst.{FirstAt, first_at, first_nowhere, relations_size, relation_at, no_line}
use Rattle.annotation_conf.proofs.faults_lines.agrees_with_first.Goals as goal

pub index-requires : goal.index-requires
index-requires c =
    let file : File = c.args.known.now in
    let known : IsKnown c.file.result.now file = (let P : File → Type 0 = λ f. IsKnown c.file.result.now f in subst P c.names-in-Some.ensures c.file.ensures) in
    let place : place_among (of_named file.relations) c.args.line.now.name ≡ Some c.in-Some.place =
    ap (λ (f : File). place_among (of_named f.relations) c.args.line.now.name) (sym c.names.ensures)
    ∙ ap (place_among (of_named c.names.result.now.relations)) (sym c.text.ensures) ∙ sym c.first_relation.ensures ∙ c.in-Some.is in
    let there : FirstAt file.relations 0 c.in-Some.place c.args.line.now.name = first_at file.relations 0 c.in-Some.place c.args.line.now.name place in
    omega (arith, there.within, relations_size c.file.result.now file known, c.file.result.now.relations.ok.0)

pub returns-in-Some : goal.returns-in-Some
returns-in-Some c =
    let file : File = c.args.known.now in
    let known : IsKnown c.file.result.now file = (let P : File → Type 0 = λ f. IsKnown c.file.result.now f in subst P c.names-in-Some.ensures c.file.ensures) in
    let place : place_among (of_named file.relations) c.args.line.now.name ≡ Some c.in-Some.place =
    ap (λ (f : File). place_among (of_named f.relations) c.args.line.now.name) (sym c.names.ensures)
    ∙ ap (place_among (of_named c.names.result.now.relations)) (sym c.text.ensures) ∙ sym c.first_relation.ensures ∙ c.in-Some.is in
    let there : FirstAt file.relations 0 c.in-Some.place c.args.line.now.name = first_at file.relations 0 c.in-Some.place c.args.line.now.name place in
    let same : c.in-Some.place - 0 ≡ c.in-Some.place = omega arith in
    let within : c.in-Some.place < length c.file.result.now.relations.items = omega (arith, there.within, relations_size c.file.result.now file known) in
    c.agree.ensures
    ∙ ap (λ (k : KeptNamed). agree_kept k (seen_named c.args.line.now)) (ap seen_named c.index.ensures ∙ relation_at c.file.result.now file known c.in-Some.place c.index.result.now no_line within)
    ∙ ap (λ k. agree_kept (kept_named (get_or file.relations k no_line)) (seen_named c.args.line.now)) (sym same)
    ∙ ap (λ (o : Option NamedLine). option_map_or (λ first. agree_kept (kept_named first) (seen_named c.args.line.now)) o true) (sym (there.first no_line))

pub returns-in-None : goal.returns-in-None
returns-in-None c =
    let file : File = c.args.known.now in
    let place : place_among (of_named file.relations) c.args.line.now.name ≡ None =
    ap (λ (f : File). place_among (of_named f.relations) c.args.line.now.name) (sym c.names.ensures)
    ∙ ap (place_among (of_named c.names.result.now.relations)) (sym c.text.ensures) ∙ sym c.first_relation.ensures ∙ c.in-None.is in
    ap (λ (o : Option NamedLine). option_map_or (λ first. agree_kept (kept_named first) (seen_named c.args.line.now)) o true) (sym (first_nowhere file.relations 0 c.args.line.now.name place))
