-- The words of a field, and how fragments are spelt.
use Rattle.std.specs.Prelude.{ℕ, ◌-◌, ◌==◌, ◌||◌, Bool, not, List, [], ◌∷◌, length, drop, slice_index, Option, Some, None, filter, if◌then◌else◌}
use Rattle.std.specs.List.{after_first, slice_split, prefix_len}
use Rattle.mark_base.specs.declared.fragments.Frag.{Frag}
use Rattle.mark_base.specs.AnnIds.{number_read}
pub use Rattle.mark_base.specs.Lists.{all_of}

-- a space
abbrev pub is_space : ℕ → Bool
is_space b = b == 32

-- a space stands before the first word or behind the last
abbrev pub is_padded : List ℕ → Bool
is_padded bytes = slice_index bytes 0 == 32 || slice_index bytes (length bytes - 1) == 32

-- not empty
abbrev pub is_some_word : List ℕ → Bool
is_some_word word = not (length word == 0)

-- the words that one or more spaces separate; none where a space stands before or behind them
abbrev pub words_of : List ℕ → List (List ℕ)
words_of bytes = if is_padded bytes then [] else filter is_some_word (slice_split is_space bytes)

-- what stands behind the first word and the spaces that follow it
abbrev pub behind_word : List ℕ → List ℕ
behind_word bytes = let rest = after_first is_space bytes in drop (prefix_len is_space rest) rest

-- ---- fragments

-- the fragment of two numbers
abbrev pub frag_of : Option ℕ → Option ℕ → Option Frag
frag_of (Some start) (Some end) = Some (record { start = start; end = end })
frag_of _ _ = None

-- the fragment of two words
abbrev pub frag_read : List (List ℕ) → Option Frag
frag_read (start ∷ end ∷ []) = frag_of (number_read start) (number_read end)
frag_read _ = None
