use Rattle.std.proofs.Common.{◌∙◌, ◌-◌, ap, chars, take, drop, encode_utf8_all}
use Rattle.char_documents.proofs.CheckpointLemmas.{mark_boundary}
use Rattle.char_documents.proofs.SliceLemmas.{slice_between, between_ordered, slice_chars}
use Rattle.char_documents.proofs.doc.Doc.slice.Goals as goal

pub range-requires-clause-start_le_end : goal.range-requires-clause-start_le_end
range-requires-clause-start_le_end c =
    between_ordered c.as_str-text.result.now c.byte_of-start.result c.byte_of-end.result c.args.frag.start c.args.frag.end c.if-frag.false c.byte_of-start.ensures c.byte_of-end.ensures

pub range-requires-clause-start_boundary : goal.range-requires-clause-start_boundary
range-requires-clause-start_boundary c = λ _. mark_boundary c.as_str-text.result.now c.byte_of-start.result c.args.frag.start c.as_str-text.utf8 c.byte_of-start.ensures

pub range-requires-clause-end_boundary : goal.range-requires-clause-end_boundary
range-requires-clause-end_boundary c = mark_boundary c.as_str-text.result.now c.byte_of-end.result c.args.frag.end c.as_str-text.utf8 c.byte_of-end.ensures

pub returns-clause-bytes : goal.returns-clause-bytes
returns-clause-bytes c =
    slice_between c.as_str-text.result.now c.range.result.now c.byte_of-start.result c.byte_of-end.result c.args.frag.start c.args.frag.end c.as_str-text.utf8 c.if-frag.false c.byte_of-start.ensures c.byte_of-end.ensures c.range.ensures.value
    ∙ ap (λ cs. encode_utf8_all (take (c.args.frag.end - c.args.frag.start) (drop c.args.frag.start cs))) (ap chars c.as_str-text.ensures.value ∙ c.self.view_is)

pub returns-clause-characters : goal.returns-clause-characters
returns-clause-characters c =
    ap chars (slice_between c.as_str-text.result.now c.range.result.now c.byte_of-start.result c.byte_of-end.result c.args.frag.start c.args.frag.end c.as_str-text.utf8 c.if-frag.false c.byte_of-start.ensures c.byte_of-end.ensures c.range.ensures.value)
    ∙ slice_chars c.as_str-text.result.now c.args.frag.start (c.args.frag.end - c.args.frag.start) c.as_str-text.utf8
    ∙ ap (λ cs. take (c.args.frag.end - c.args.frag.start) (drop c.args.frag.start cs)) (ap chars c.as_str-text.ensures.value ∙ c.self.view_is)
