use Rattle.std.proofs.Common.{◌≡◌, ◌++◌, drop}
use Rattle.std.specs.Prelude.{map, option_map}
use Rattle.command_json.specs.Spellings.{all_of, frag_read}
use Rattle.command_json.proofs.spelling.all_frags.Given as goal

abbrev pub invariant-loop-piece : goal.invariant-loop-piece
invariant-loop-piece l =
    all_of (map frag_read (map (λ piece. piece.now) l.pieces))
    ≡ option_map (λ more. l.frags.items ++ more) (all_of (map frag_read (map (λ piece. piece.now) (drop l.piece-index l.pieces))))
