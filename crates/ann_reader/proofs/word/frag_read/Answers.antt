use Rattle.std.proofs.Common.{◌≡◌, ◌∙◌, sym, ap, false, drop}
use Rattle.std.specs.List.{before_first, prefix_len}
use Rattle.mark_base.specs.AnnIds.{number_read}
use Rattle.ann_reader.specs.Words.{is_space, is_padded, frag_of}
use Rattle.ann_reader.proofs.WordLemmas.{frag_spelt, no_frag}
use Rattle.ann_reader.proofs.word.frag_read.Goals as goal

pub returns-in-None : goal.returns-in-None
returns-in-None c =
    let plain : is_padded c.args.piece.now ≡ false = ap is_padded (sym c.as_bytes.ensures.value) ∙ sym c.is_padded.ensures ∙ c.if-is_padded.false in
    no_frag c.args.piece.now plain c.in-None.ensures

pub returns-in-Some : goal.returns-in-Some
returns-in-Some c =
    let plain : is_padded c.args.piece.now ≡ false = ap is_padded (sym c.as_bytes.ensures.value) ∙ sym c.is_padded.ensures ∙ c.if-is_padded.false in
    c.frag_of.ensures
    ∙ ap (λ s. frag_of (number_read s) (number_read c.without_spaces.result.now)) c.in-Some.ensures.1
    ∙ ap (λ r. frag_of (number_read (before_first is_space c.args.piece.now)) (number_read r)) (c.without_spaces.ensures ∙ ap (λ r. drop (prefix_len is_space r) r) c.in-Some.ensures.2)
    ∙ frag_spelt c.args.piece.now plain c.in-Some.ensures.0
