use Rattle.std.proofs.Common.{◌∙◌, ◌<◌, length, arith}
use Rattle.std.specs.Str.{valid_up_to}
use Rattle.annotation_conf.proofs.FaultAnswers.{bytes_faulty}
use Rattle.annotation_conf.proofs.conf_reader.read_conf.Goals as goal

pub returns-in-Err-clause-fault : goal.returns-in-Err-clause-fault
returns-in-Err-clause-fault c =
    let short : valid_up_to c.in-Err.error < length c.args.bytes.now = c.in-Err.ensures.cases.1.short in
    bytes_faulty c.args.bytes.now c.valid_up_to-valid.result c.count_line_ends.result (c.valid_up_to-valid.ensures ∙ c.in-Err.ensures.valid_len)
    (omega (arith, c.valid_up_to-valid.ensures, short)) c.count_line_ends.ensures.value
