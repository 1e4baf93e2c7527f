use Rattle.annotation_cli.proofs.FreeLemmas.{there_after}
use Rattle.annotation_cli.proofs.finding.find.Goals as goal

pub returns-in-Import-clause-none_made : goal.returns-in-Import-clause-none_made
returns-in-Import-clause-none_made g c = λ name none. there_after c.in-Import.book.now name _ _ _ _ c.import_file.ensures.others c.import_file.ensures.none_made
