use Rattle.std.proofs.Common.{arith, sym, ap, ◌∙◌}
use Rattle.project_journal.specs.JournalFile.{is_known}
use Rattle.project_journal.proofs.Headers.{journal_is, version_is, refuses_so}
use Rattle.project_journal.proofs.opening.read_contents.Goals as goal

pub returns-then-not-reads_version-clause-err : goal.returns-then-not-reads_version-clause-err
returns-then-not-reads_version-clause-err c = (
  journal_is c.args.bytes.now (omega arith) (sym c.starts_with.ensures.value ∙ c.if-not-starts_with.false),
  version_is c.args.bytes.now c.from_le_bytes-version.result (omega arith) c.from_le_bytes-version.ensures,
  sym c.reads_version.ensures ∙ c.if-not-reads_version.true,
)

pub read_records-requires-clause-known : goal.read_records-requires-clause-known
read_records-requires-clause-known c =
    ap is_known (version_is c.args.bytes.now c.from_le_bytes-version.result (omega arith) c.from_le_bytes-version.ensures)
    ∙ sym c.reads_version.ensures ∙ c.if-not-reads_version.false

pub returns-clause-err : goal.returns-clause-err
returns-clause-err c =
    refuses_so c.args.bytes.now _ (journal_is c.args.bytes.now (omega arith) (sym c.starts_with.ensures.value ∙ c.if-not-starts_with.false))
    (ap is_known (version_is c.args.bytes.now c.from_le_bytes-version.result (omega arith) c.from_le_bytes-version.ensures) ∙ sym c.reads_version.ensures ∙ c.if-not-reads_version.false)
    c.read_records.ensures.err
