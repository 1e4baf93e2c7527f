use Rattle.std.proofs.Common.{arith}
use Rattle.command_words.proofs.WordLemmas.{too_few, too_many}
use Rattle.command_words.proofs.asked.job_of.Goals as goal

pub returns-then-count-lt1 : goal.returns-then-count-lt1
returns-then-count-lt1 c = too_few _ c.args.words.now (omega arith)

pub returns-then-count-gt5 : goal.returns-then-count-gt5
returns-then-count-gt5 c = too_many _ c.args.words.now (omega arith)
