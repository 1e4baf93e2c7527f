use Rattle.std.proofs.Common.{◌∙◌, ap, []}
use Rattle.std.specs.Str.{skip_leading_whitespace}
use Rattle.conf_model.specs.ConfPairs.{piece_of}
use Rattle.annotation_conf.specs.FileShows.{seen_pieces}
use Rattle.annotation_conf.specs.FileGrows.{with_piece}
use Rattle.annotation_conf.proofs.FilePieces.{with_pieces-step}
use Rattle.annotation_conf.proofs.pieces.read_pieces.Goals as goal

pub loop-part-preserved : goal.loop-part-preserved
loop-part-preserved c =
    with_pieces-step (λ piece. piece_of (skip_leading_whitespace piece)) c.deref-part-items.result.now c.loop-part.part-index (record { ref_ptr = (0, 0); now = [] })
    (seen_pieces c.loop-part.pieces) (seen_pieces c.add.new.self) _ c.loop-part-test.true c.loop-part.invariant
    (c.in_ok-add.ensures ∙ ap (λ p. with_piece (seen_pieces c.loop-part.pieces) p) (c.in_ok-piece.ensures ∙ ap (λ w. piece_of w) c.trimmed-in-loop-part.ensures))
