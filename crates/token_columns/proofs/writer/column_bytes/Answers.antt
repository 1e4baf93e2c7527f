use Rattle.std.proofs.Common.{◌≡◌, ◌∙◌, ap, sym, map, None}
use Rattle.token_columns.specs.declared.run.Placed.{Placed}
use Rattle.token_columns.specs.Labels.{runs_of}
use Rattle.token_columns.specs.WriteFaults.{out_fault}
use Rattle.token_columns.proofs.OutLemmas.{none_of}
use Rattle.token_columns.proofs.FitsFacts.{columns_are, fits_of, told_layer}
use Rattle.token_columns.proofs.writer.column_bytes.Goals as goal

pub returns-in-Some-clause-fault : goal.returns-in-Some-clause-fault
returns-in-Some-clause-fault c = told_layer c.args.doc.now c.args.layer.now c.in-Some.fault (sym c.in_ok-fault.ensures ∙ c.in-Some.is)

pub returns-clause-bytes : goal.returns-clause-bytes
returns-clause-bytes c =
    let clean : out_fault c.args.doc.now c.args.layer.now ≡ None = sym c.in_ok-fault.ensures ∙ none_of _ c.in_default.not-Some in
    let runs : c.deref-3.result.now ≡ runs_of c.args.layer.now =
    c.deref-3.ensures.value ∙ c.in_ok-runs.ensures ∙ ap (map (λ (span : Placed). span.run)) (c.deref-2.ensures.value ∙ c.in_ok-spans.ensures) in
    c.from_vec.ensures ∙ ap (λ v. v.items) c.into_bytes.ensures.value ∙ c.in_ok-text.ensures
    ∙ columns_are c.args.conf.now c.args.doc.now c.args.layer.now c.deref-3.result.now c.keeps.ensures c.requires runs clean

pub returns-clause-fits : goal.returns-clause-fits
returns-clause-fits c =
    let clean : out_fault c.args.doc.now c.args.layer.now ≡ None = sym c.in_ok-fault.ensures ∙ none_of _ c.in_default.not-Some in
    fits_of c.args.doc.now c.args.layer.now clean
