use Rattle.std.proofs.Common.{◌≡◌, ◌∙◌, ◌<◌, length, arith, subst, IfOk, IfErr, OnOk, None, IsUtf8}
use Rattle.std.specs.Str.{valid_up_to}
use Rattle.ann_reader.specs.Lines.{lines_of}
use Rattle.ann_reader.specs.AnnFaults.{lines_fault, layer_of}
use Rattle.ann_reader.specs.ReadFaults.{Tells}
use Rattle.ann_reader.proofs.AnswerLemmas.{bytes_faulty, answer_read, answer_told}
use Rattle.ann_reader.proofs.reader.read_ann.Goals as goal

pub returns-in-Ok-clause-read : goal.returns-in-Ok-clause-read
returns-in-Ok-clause-read c =
    let valid : IsUtf8 c.args.bytes.now = c.in-Ok.ensures.cases.1 in
    answer_read c.args.conf.now c.args.doc.now c.args.bytes.now c.read_text.result valid
    (subst (λ t. OnOk c.read_text.result (lines_fault c.args.conf.now c.args.doc.now (lines_of t) ≡ None)) c.in-Ok.ensures.cases.0 c.read_text.ensures.clean)
    (subst (λ t. IfOk c.read_text.result (λ layer. layer ≡ layer_of c.args.conf.now (lines_of t))) c.in-Ok.ensures.cases.0 c.read_text.ensures.read)

pub returns-in-Ok-clause-fault : goal.returns-in-Ok-clause-fault
returns-in-Ok-clause-fault c =
    let valid : IsUtf8 c.args.bytes.now = c.in-Ok.ensures.cases.1 in
    answer_told c.args.conf.now c.args.doc.now c.args.bytes.now c.read_text.result valid
    (subst (λ t. IfErr c.read_text.result (Tells (lines_fault c.args.conf.now c.args.doc.now (lines_of t)))) c.in-Ok.ensures.cases.0 c.read_text.ensures.fault)

pub returns-in-Err-clause-fault : goal.returns-in-Err-clause-fault
returns-in-Err-clause-fault c =
    let short : valid_up_to c.in-Err.error < length c.args.bytes.now = c.in-Err.ensures.cases.1.short in
    bytes_faulty c.args.conf.now c.args.doc.now c.args.bytes.now c.valid_up_to-valid.result c.count_line_ends.result (c.valid_up_to-valid.ensures ∙ c.in-Err.ensures.valid_len)
    (omega (arith, c.valid_up_to-valid.ensures, short)) c.count_line_ends.ensures.value
