-- How two spans overlap, by the sets of their characters.
use Rattle.std.specs.Prelude.{ℕ, ◌-◌, ◌&&◌, Bool, true, not, List, [], ◌∷◌, nat_lt, nat_le, if◌then◌else◌}
use Rattle.std.specs.List.{list_any, list_all, range_with_len, flat_map}
use Rattle.mark_base.specs.declared.fragments.Frag.{Frag}
use Rattle.mark_base.specs.declared.overlap.OvlKind.{OvlKind}
use Rattle.mark_base.specs.declared.overlap.OvlKind.TheVariants.{Apart, Equal, Contains, Inside, Cross}

-- fragments that are not empty, each behind the one before it, which may end where it starts
abbrev pub are_ascending : List Frag → Bool
are_ascending [] = true
are_ascending (frag ∷ []) = nat_lt frag.start frag.end
are_ascending (frag ∷ next ∷ more) = nat_lt frag.start frag.end && nat_le frag.end next.start && are_ascending (next ∷ more)

-- the end of the last fragment, or else the given one
abbrev pub last_end : ℕ → List Frag → ℕ
last_end end [] = end
last_end end (frag ∷ more) = last_end frag.end more

-- how many characters fragments reach over: from the first one's start to the last one's end
abbrev pub reach : List Frag → ℕ
reach [] = 0
reach (frag ∷ more) = last_end frag.end more - frag.start

-- the characters that a fragment covers
abbrev pub characters_of : Frag → List ℕ
characters_of frag = range_with_len frag.start (frag.end - frag.start)

-- the characters that fragments cover
abbrev pub characters : List Frag → List ℕ
characters frags = flat_map characters_of frags

-- a character is among those that fragments cover
abbrev pub covers : List Frag → ℕ → Bool
covers frags character = list_any (λ frag. nat_le frag.start character && nat_lt character frag.end) frags

-- some character of one is a character of the other
abbrev pub shares : List Frag → List Frag → Bool
shares a b = list_any (covers b) (characters a)

-- each character of the second is a character of the first
abbrev pub has_all : List Frag → List Frag → Bool
has_all a b = list_all (covers a) (characters b)

-- the kind of overlap of two sets, by whether they share a character, the first has all of the second, and the second all of the first
abbrev pub kind_by : Bool → Bool → Bool → OvlKind
kind_by shared first second =
    if not shared then Apart else if first && second then Equal else if first then Contains else if second then Inside else Cross

-- the kind of overlap of two spans: none in common, equal sets, all of the second and more, all of the first and more, or else
unfoldable pub kind_of : List Frag → List Frag → OvlKind
kind_of a b = kind_by (shares a b) (has_all a b) (has_all b a)

-- the kind of overlap with the two spans in the other order
abbrev pub turned : OvlKind → OvlKind
turned Contains = Inside
turned Inside = Contains
turned kind = kind
