use Rattle.std.proofs.Common.{◌∙◌, sym, ap, length}
use Rattle.std.specs.Option.{option_map}
use Rattle.ann_reader.specs.AnnFaults.{layer_fault, first_text_fault}
use Rattle.ann_reader.specs.FaultShows.{seen_fault}
use Rattle.ann_reader.proofs.AnswerLemmas.{first_told, later_told, none_told}
use Rattle.ann_reader.proofs.reader.layer_read.Goals as goal

pub returns-in-Some : goal.returns-in-Some
returns-in-Some c =
    record {
      read = tt;
      clean = tt;
      fault = first_told (layer_fault c.args.conf.now (length c.args.doc.now) c.args.known.now) (first_text_fault c.args.doc.now c.args.known.now) c.in-Some.fault c.told.result
          (ap (option_map seen_fault) (sym c.in-Some.is) ∙ c.in_ok-fault.ensures) c.told.ensures;
    }

pub returns-in-Some-text_fault : goal.returns-in-Some-text_fault
returns-in-Some-text_fault c =
    record {
      read = tt;
      clean = tt;
      fault = later_told (layer_fault c.args.conf.now (length c.args.doc.now) c.args.known.now) (first_text_fault c.args.doc.now c.args.known.now) c.in-Some-text_fault.fault c.told-in-Some-text_fault.result
          (ap (option_map seen_fault) (sym c.in_default.is) ∙ c.in_ok-fault.ensures)
          (ap (option_map seen_fault) (sym c.in-Some-text_fault.is) ∙ c.requires.texts) c.told-in-Some-text_fault.ensures;
    }

pub returns-in-None : goal.returns-in-None
returns-in-None c =
    record {
      read = c.requires.layer;
      clean = none_told (layer_fault c.args.conf.now (length c.args.doc.now) c.args.known.now) (first_text_fault c.args.doc.now c.args.known.now)
          (ap (option_map seen_fault) (sym c.in_default.is) ∙ c.in_ok-fault.ensures)
          (ap (option_map seen_fault) (sym c.in-None.is) ∙ c.requires.texts);
      fault = tt;
    }
