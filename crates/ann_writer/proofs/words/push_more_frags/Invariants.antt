use Rattle.std.proofs.Common.{◌≡◌, ◌++◌, codes, string_bytes, take}
use Rattle.std.specs.List.{flat_map}
use Rattle.ann_writer.specs.Words.{frag_word}
use Rattle.ann_writer.proofs.words.push_more_frags.Given as goal

abbrev pub invariant-loop-frag : goal.invariant-loop-frag
invariant-loop-frag l = string_bytes l.out ≡ string_bytes l.fn.out ++ flat_map (λ next. codes ";" ++ frag_word next) (take l.frag-index l.frags)
