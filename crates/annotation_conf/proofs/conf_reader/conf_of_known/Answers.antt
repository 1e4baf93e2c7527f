use Rattle.std.proofs.Common.{◌∙◌, ◌<◌, Ok, sym, ap, subst, option_map, length}
use Rattle.conf_model.specs.ConfNames.{File}
use Rattle.annotation_conf.specs.FaultsFirst.{seen_fault}
use Rattle.annotation_conf.proofs.FaultAnswers.{text_faulty, text_faultless, few_lines}
use Rattle.annotation_conf.proofs.conf_reader.conf_of_known.Goals as goal

pub any_fault-requires : goal.any_fault-requires
any_fault-requires c =
    let P : File → Type 0 = λ f. length f.lines < 4294967295 in
    subst P (sym c.requires.file) (few_lines c.args.text.now c.requires.short)

pub returns-in-Some-clause-fault : goal.returns-in-Some-clause-fault
returns-in-Some-clause-fault c =
    text_faulty c.args.text.now c.args.known.now c.in-Some.fault c.utf8.text c.requires.file (sym (ap (option_map seen_fault) c.in-Some.is) ∙ c.in_ok-fault.ensures)

pub build-requires : goal.build-requires
build-requires c = record {
  same = c.requires.file;
  says = text_faultless c.args.text.now c.args.known.now c.utf8.text c.requires.file (sym (ap (option_map seen_fault) c.in-None.is) ∙ c.in_ok-fault.ensures);
}

pub returns-in_ok-build-in-None-clause-read : goal.returns-in_ok-build-in-None-clause-read
returns-in_ok-build-in-None-clause-read c =
    text_faultless c.args.text.now c.args.known.now c.utf8.text c.requires.file (sym (ap (option_map seen_fault) c.in-None.is) ∙ c.in_ok-fault.ensures)
    ∙ ap Ok (sym c.in_ok-build-in-None.ensures)
