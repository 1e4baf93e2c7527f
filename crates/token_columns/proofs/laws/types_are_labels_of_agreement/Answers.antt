use Rattle.token_columns.proofs.RowLemmas.{rows_are}
use Rattle.token_columns.proofs.laws.types_are_labels_of_agreement.Goals as goal

pub returns : goal.returns
returns c = rows_are
