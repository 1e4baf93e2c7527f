-- When text-bound annotations have the same fragments (brat standoff manual).
use Rattle.std.specs.Prelude.{Bool, true, false, ◌==◌, ◌&&◌, List, [], ◌∷◌}
use Rattle.mark_base.specs.declared.fragments.Frag.{Frag}

-- the same fragments in the same order
abbrev pub same_fragments : List Frag → List Frag → Bool
same_fragments [] [] = true
same_fragments (a ∷ as_) (b ∷ bs) = a.start == b.start && a.end == b.end && same_fragments as_ bs
same_fragments [] (b ∷ bs) = false
same_fragments (a ∷ as_) [] = false
