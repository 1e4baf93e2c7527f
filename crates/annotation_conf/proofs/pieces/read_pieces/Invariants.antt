use Rattle.std.proofs.Common.{◌≡◌, drop}
use Rattle.std.specs.Prelude.{map}
use Rattle.std.specs.Str.{skip_leading_whitespace}
use Rattle.conf_model.specs.ConfPairs.{piece_of}
use Rattle.annotation_conf.specs.FileShows.{seen_pieces}
use Rattle.annotation_conf.specs.FileGrows.{with_pieces, nothing_behind}
use Rattle.annotation_conf.proofs.pieces.read_pieces.Given as goal

abbrev pub invariant-loop-part : goal.invariant-loop-part
invariant-loop-part l =
    with_pieces (seen_pieces l.pieces) (map (λ piece. piece_of (skip_leading_whitespace piece)) (map (λ part. part.now) (drop l.part-index l.part-items)))
    ≡ with_pieces nothing_behind (map (λ piece. piece_of (skip_leading_whitespace piece)) (map (λ part. part.now) l.part-items))
