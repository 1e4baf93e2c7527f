use Rattle.std.proofs.Common.{◌≡◌, ◌++◌, drop}
use Rattle.std.specs.Prelude.{map, option_map}
use Rattle.ann_reader.specs.Words.{all_of, frag_read, words_of}
use Rattle.ann_reader.proofs.word.all_frags.Given as goal

abbrev pub invariant-loop-piece : goal.invariant-loop-piece
invariant-loop-piece l =
    all_of (map (λ piece. frag_read (words_of piece)) (map (λ piece. piece.now) l.pieces))
    ≡ option_map (λ more. l.frags.items ++ more) (all_of (map (λ piece. frag_read (words_of piece)) (map (λ piece. piece.now) (drop l.piece-index l.pieces))))
