use Rattle.std.proofs.Common.{◌≡◌, ◌++◌, drop}
use Rattle.std.specs.Prelude.{map, filter}
use Rattle.ann_reader.specs.Words.{is_some_word}
use Rattle.ann_reader.proofs.word.words.Given as goal

abbrev pub invariant-loop-piece : goal.invariant-loop-piece
invariant-loop-piece l =
    map (λ word. word.now) l.words.items ++ filter is_some_word (map (λ piece. piece.now) (drop l.piece-index l.piece-items))
    ≡ filter is_some_word (map (λ piece. piece.now) l.piece-items)
