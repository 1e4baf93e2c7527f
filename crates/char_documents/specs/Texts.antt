-- A text as a list of characters, and what its fragments show (brat standoff manual, "Text-bound annotations").
use Rattle.std.specs.Prelude.{ℕ, ◌-◌, ◌==◌, ◌||◌, ◌&&◌, Bool, List, [], ◌∷◌, length, nat_le, map, take, drop, if◌then◌else◌}
use Rattle.std.specs.List.{join_with_byte, list_all}
use Rattle.mark_base.specs.declared.fragments.Frag.{Frag}

-- a fragment lies in a text: it starts at most at its end, and ends at most at the end of the text
abbrev pub lies_in : List ℕ → Frag → Bool
lies_in text frag = nat_le frag.start frag.end && nat_le frag.end (length text)

-- the characters of a text from the start of a fragment up to its end
abbrev pub covered : List ℕ → Frag → List ℕ
covered text frag = take (frag.end - frag.start) (drop frag.start text)

-- a line feed and a carriage return are shown as a space
abbrev pub shown : ℕ → ℕ
shown c = if c == 10 || c == 13 then 32 else c

-- what stands before the piece of a place: nothing before the first, else a space
abbrev pub separator : ℕ → List ℕ
separator place = if place == 0 then [] else 32 ∷ []

-- the reference text of fragments: what each covers, shown, and a space between each two
unfoldable pub reference_text : List ℕ → List Frag → List ℕ
reference_text text frags = join_with_byte 32 (map (λ frag. map shown (covered text frag)) frags)

-- each fragment lies in the text
abbrev pub all_lie_in : List ℕ → List Frag → Bool
all_lie_in text frags = list_all (lies_in text) frags
