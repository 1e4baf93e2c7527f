use Rattle.program_inputs.proofs.Documents.{held, too_long, no_text}
use Rattle.program_inputs.proofs.files.read_text_file.Goals as goal

pub returns-in-Ok-new-clause-ok : goal.returns-in-Ok-new-clause-ok
returns-in-Ok-new-clause-ok g c =
    held c.in_ok-bytes.ensures.read c.items.ensures c.in-Ok.ensures.cases.0 c.in-Ok.ensures.cases.1 c.in-Ok-new.ensures.characters c.in-Ok-new.ensures.short

pub returns-in-Err-TooLong-clause-err : goal.returns-in-Err-TooLong-clause-err
returns-in-Err-TooLong-clause-err g c =
    too_long c.in_ok-bytes.ensures.read c.items.ensures c.in-Ok.ensures.cases.0 c.in-Ok.ensures.cases.1 (c.in-Err-TooLong.ensures.long c.in-Err-TooLong.field-0-is)

pub returns-clause-err : goal.returns-clause-err
returns-clause-err g c = no_text c.in_ok-bytes.ensures.read c.items.ensures c.in-Err.ensures.cases.0
