use Rattle.std.proofs.Common.{refl}
use Rattle.http_wire.proofs.HeadLemmas.{refused_head}
use Rattle.http_wire.proofs.TextLemmas.{path_text, token_text}
use Rattle.http_wire.proofs.head.judge_head.Goals as goal

pub copy_head-requires-clause-method_text : goal.copy_head-requires-clause-method_text
copy_head-requires-clause-method_text c = rw c.requires.head.1.method (token_text _ c.requires.head.1.reads.0.method)

pub copy_head-requires-clause-path_text : goal.copy_head-requires-clause-path_text
copy_head-requires-clause-path_text c = rw c.requires.head.1.path (path_text _ c.requires.head.1.reads.0.target_text)

pub returns-in-Err : goal.returns-in-Err
returns-in-Err c =
    refused_head c.args.buf.now c.args.spans.now _ c.args.found _ c.requires.short refl c.requires.head c.in-Err.ensures.fault (rw c.of.ensures at c.in-Err.ensures.size)
