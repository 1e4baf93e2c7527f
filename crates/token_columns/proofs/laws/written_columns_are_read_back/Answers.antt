use Rattle.token_columns.proofs.WrittenLines.{written}
use Rattle.token_columns.proofs.laws.written_columns_are_read_back.Goals as goal

pub returns : goal.returns
returns c = written
