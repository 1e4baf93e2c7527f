use Rattle.std.proofs.Common.{◌≡◌, ◌∙◌, sym, ap, subst, option_map, length, arith}
use Rattle.std.specs.Option.{option_or}
use Rattle.std.proofs.lemmas.List.{length-map}
use Rattle.conf_model.specs.ConfNames.{File}
use Rattle.conf_model.specs.ConfOf.{missing_fault}
use Rattle.annotation_conf.specs.FileKept.{kept_line}
use Rattle.annotation_conf.specs.FileShows.{seen_line}
use Rattle.annotation_conf.specs.KnownFiles.{IsKnown}
use Rattle.annotation_conf.specs.FaultsFirst.{seen_fault, missing_told}
use Rattle.annotation_conf.proofs.FaultAnswers.{missing_is}
use Rattle.annotation_conf.proofs.faults.any_fault.Goals as goal

pub missing_entities-requires : goal.missing_entities-requires
missing_entities-requires c =
    let P : File → Type 0 = λ f. IsKnown c.file.result.now f in
    let known : IsKnown c.file.result.now c.args.known.now = subst P c.names.ensures c.file.ensures in
    let size : length c.deref.result.now ≡ length c.args.known.now.lines =
    ap length c.deref.ensures.value ∙ sym (length-map c.file.result.now.lines.items seen_line) ∙ ap length known.shows.lines ∙ length-map c.args.known.now.lines kept_line in
    omega (arith, size, c.requires)

pub returns-in-Some : goal.returns-in-Some
returns-in-Some c =
    ap (λ o. option_or o (missing_fault c.args.known.now)) (sym (ap (option_map seen_fault) c.in-Some.is) ∙ c.in_ok-fault.ensures)

pub returns-in-None : goal.returns-in-None
returns-in-None c =
    let P : File → Type 0 = λ f. IsKnown c.file.result.now f in
    let known : IsKnown c.file.result.now c.args.known.now = subst P c.names.ensures c.file.ensures in
    c.missing_entities.ensures ∙ ap missing_told c.deref.ensures.value ∙ missing_is c.file.result.now.lines.items c.args.known.now known.shows.lines
    ∙ ap (λ o. option_or o (missing_fault c.args.known.now)) (sym (ap (option_map seen_fault) c.in-None.is) ∙ c.in_ok-fault.ensures)
