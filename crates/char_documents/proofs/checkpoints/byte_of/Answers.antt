use Rattle.std.proofs.Common.{◌∙◌, sym, ◌*◌, ◌/◌, ◌%◌, arith, get_or}
use Rattle.char_documents.proofs.CheckpointLemmas.{mark_boundary, mark_before, enough, found, found_fits, byte_of_single}
use Rattle.char_documents.proofs.checkpoints.byte_of.Goals as goal

pub returns-then-text-count : goal.returns-then-text-count
returns-then-text-count c = sym (byte_of_single c.args.text.now c.args.index c.utf8.text (c.if-text-count.true ∙ c.requires.counted) c.requires.within)

pub range_from-requires : goal.range_from-requires
range_from-requires c = λ _. mark_boundary c.args.text.now _ (256 * (c.args.index / 256)) c.utf8.text (mark_before c.args.text.now c.args.marks.now c.args.index c.requires.marked c.requires.within)

pub behind-requires : goal.behind-requires
behind-requires c =
    enough c.args.text.now c.range_from.result.now (get_or c.args.marks.now (c.args.index / 256) 0) (256 * (c.args.index / 256)) (c.args.index % 256) c.args.index
    c.utf8.text (mark_before c.args.text.now c.args.marks.now c.args.index c.requires.marked c.requires.within) c.range_from.ensures.value (omega arith) c.requires.within

pub overflow_sub-result : goal.overflow_sub-result
overflow_sub-result c =
    found_fits c.args.text.now c.range_from.result.now c.behind.result.now (get_or c.args.marks.now (c.args.index / 256) 0) (256 * (c.args.index / 256)) (c.args.index % 256) c.args.index
    c.utf8.text (mark_before c.args.text.now c.args.marks.now c.args.index c.requires.marked c.requires.within) c.range_from.ensures.value (omega arith) c.behind.ensures.bytes

pub returns : goal.returns
returns c =
    found c.args.text.now c.range_from.result.now c.behind.result.now (get_or c.args.marks.now (c.args.index / 256) 0) (256 * (c.args.index / 256)) (c.args.index % 256) c.args.index
    c.utf8.text (mark_before c.args.text.now c.args.marks.now c.args.index c.requires.marked c.requires.within) c.range_from.ensures.value (omega arith) c.behind.ensures.bytes
