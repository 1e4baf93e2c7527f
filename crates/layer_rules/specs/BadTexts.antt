-- The rules that speak of one span or one text alone.
use Rattle.std.specs.Prelude.{ℕ, ◌||◌, ◌&&◌, ◌==◌, Bool, List, length, nat_lt, chars}
use Rattle.std.specs.Char.{is_whitespace}
use Rattle.std.specs.List.{list_any}
use Rattle.mark_base.specs.declared.fragments.Frag.{Frag}
use Rattle.overlap_rules.specs.Overlaps.{are_ascending}

-- fragments of a span: at least one, none empty, in order
abbrev pub are_fragments : List Frag → Bool
are_fragments frags = nat_lt 0 (length frags) && are_ascending frags

-- a text of a note or a normalization: at most 4,000 characters, no line feed, no carriage return
abbrev pub is_bad_text : List ℕ → Bool
is_bad_text text = nat_lt 4000 (length (chars text)) || list_any (λ c. c == 10 || c == 13) text

-- an entry of a store: not empty, no white space
abbrev pub is_bad_entry : List ℕ → Bool
is_bad_entry entry = length entry == 0 || list_any is_whitespace (chars entry)

-- the name of a store: an entry without a colon
abbrev pub is_bad_store : List ℕ → Bool
is_bad_store store = is_bad_entry store || list_any (λ c. c == 58) store
