use Rattle.std.proofs.Common.{◌+◌, ◌*◌, ◌∙◌, sym, arith}
use Rattle.char_documents.proofs.CheckpointLemmas.{mark_boundary, enough, found, found_fits, byte_of_single}
use Rattle.char_documents.proofs.checkpoints.next_mark.Goals as goal

pub returns-then-text-count : goal.returns-then-text-count
returns-then-text-count c =
    sym (byte_of_single c.args.text.now (256 * (c.args.number + 1)) c.utf8.text (c.if-text-count.true ∙ c.requires.counted) (omega (arith, c.requires.counted, c.requires.within)))

pub range_from-requires : goal.range_from-requires
range_from-requires c = λ _. mark_boundary c.args.text.now c.args.mark (256 * c.args.number) c.utf8.text c.requires.marked

pub behind-requires : goal.behind-requires
behind-requires c =
    enough c.args.text.now c.range_from.result.now c.args.mark (256 * c.args.number) 256 (256 * (c.args.number + 1))
    c.utf8.text c.requires.marked c.range_from.ensures.value (omega arith) (omega (arith, c.requires.counted, c.requires.within))

pub overflow_sub-result : goal.overflow_sub-result
overflow_sub-result c =
    found_fits c.args.text.now c.range_from.result.now c.behind.result.now c.args.mark (256 * c.args.number) 256 (256 * (c.args.number + 1))
    c.utf8.text c.requires.marked c.range_from.ensures.value (omega arith) c.behind.ensures.bytes

pub returns : goal.returns
returns c =
    found c.args.text.now c.range_from.result.now c.behind.result.now c.args.mark (256 * c.args.number) 256 (256 * (c.args.number + 1))
    c.utf8.text c.requires.marked c.range_from.ensures.value (omega arith) c.behind.ensures.bytes
