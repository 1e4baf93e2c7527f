use Rattle.std.proofs.Common.{◌≡◌, ◌+◌, ◌*◌, ◌≤◌, length, ap, arith}
use Rattle.char_documents.specs.Tokens.{tokens_of}
use Rattle.project_state.proofs.TablesProofs.SpareLemmas.{few_tokens}
use Rattle.project_state.proofs.tables.counting.token_count.Goals as goal

pub overflow_cast-result : goal.overflow_cast-result
overflow_cast-result c =
    let half : 2 * length (tokens_of c.args.text.now) ≤ length c.args.text.now + 1 = few_tokens c.args.text.now in
    let same : length c.tokens.result.now ≡ length (tokens_of c.args.text.now) = ap length c.tokens.ensures in
    omega (arith, c.char_count-few.ensures.bound)
