use Rattle.std.proofs.Common.{[], IfErr, IsUtf8, subst}
use Rattle.std.specs.Str.Lines.{lines}
use Rattle.char_documents.specs.Tokens.{tokens_of}
use Rattle.token_columns.specs.ReadColumns.{Tells, read_from}
use Rattle.token_columns.proofs.AnswerLemmas.{answer_told}
use Rattle.token_columns.proofs.reader.read_columns.Goals as goal

pub returns-in-Ok-clause-fault : goal.returns-in-Ok-clause-fault
returns-in-Ok-clause-fault c =
    let valid : IsUtf8 c.args.bytes.now = c.in-Ok.ensures.cases.1 in
    answer_told c.args.conf.now c.args.doc.now c.args.bytes.now c.read_text.result valid
    (subst (λ t. IfErr c.read_text.result (Tells (read_from c.args.conf.now c.args.doc.now 1 [] (tokens_of c.args.doc.now) (lines t)))) c.in-Ok.ensures.cases.0 c.read_text.ensures.fault)
