use Rattle.std.proofs.Common.{arith}
use Rattle.match_scores.proofs.PlaceLemmas.{contents_few}
use Rattle.match_scores.proofs.layer_in_table.is_few.Goals as goal

pub returns : goal.returns
returns c = contents_few c.args.layer.now (omega arith) (omega arith) (omega arith) (omega arith) (omega arith) (omega arith)
