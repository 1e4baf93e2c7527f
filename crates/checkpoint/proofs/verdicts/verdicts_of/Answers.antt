use Rattle.std.proofs.Common.{arith}
use Rattle.checkpoint.proofs.VerdictLemmas.{four_before, pairs_behind}
use Rattle.checkpoint.proofs.verdicts.verdicts_of.Goals as goal

pub returns-then-bytes-lt4 : goal.returns-then-bytes-lt4
returns-then-bytes-lt4 c = λ verdicts e. let many = four_before c.args.bytes.now verdicts e in omega (arith, many, c.if-bytes-lt4.true)

pub returns : goal.returns
returns c = λ verdicts e. c.in_ok-pairs.ensures verdicts (pairs_behind c.args.bytes.now c.split_at.result.1.now verdicts c.split_at.ensures.back e)
