-- The entries of a project's journal as bytes.
use Rattle.std.specs.Prelude.{ℕ, ◌<◌, ◌^◌, List, [], ◌∷◌, ◌++◌, length, ⊤}
use Rattle.entry_bytes.specs.declared.entry.Entry.{Entry}
use Rattle.entry_bytes.specs.declared.entry.Entry.TheVariants as entry
use Rattle.entry_bytes.specs.Fields.{u32_bytes, u64_bytes, flag, slug_bytes, text_bytes, people_bytes, IsText, IsSlug, ArePeople}

-- the bytes of an entry: its tag, and its fields in order
unfoldable pub entry_bytes : Entry → List ℕ
entry_bytes (entry.Found conf people) = 1 ∷ text_bytes conf ++ people_bytes people
entry_bytes (entry.AddText by name text) = 2 ∷ slug_bytes by ++ slug_bytes name ++ text_bytes text
entry_bytes (entry.Checkout by doc) = 3 ∷ slug_bytes by ++ u32_bytes doc
entry_bytes (entry.TakeOver by doc) = 4 ∷ slug_bytes by ++ u32_bytes doc
entry_bytes (entry.Commit by doc hold lines) = 5 ∷ slug_bytes by ++ u32_bytes doc ++ u64_bytes hold ++ text_bytes lines
entry_bytes (entry.Park by doc hold commands) = 6 ∷ slug_bytes by ++ u32_bytes doc ++ u64_bytes hold ++ commands
entry_bytes (entry.Finish by doc) = 7 ∷ slug_bytes by ++ u32_bytes doc
entry_bytes (entry.Reopen by doc who) = 8 ∷ slug_bytes by ++ u32_bytes doc ++ slug_bytes who
entry_bytes (entry.Snap by doc) = 9 ∷ slug_bytes by ++ u32_bytes doc
entry_bytes (entry.Decide by snapshot holder kind number accept) = 10 ∷ slug_bytes by ++ u64_bytes snapshot ++ holder ∷ [] ++ kind ∷ [] ++ u32_bytes number ++ flag accept ∷ []
entry_bytes (entry.Undecide by snapshot holder kind number) = 11 ∷ slug_bytes by ++ u64_bytes snapshot ++ holder ∷ [] ++ kind ∷ [] ++ u32_bytes number
entry_bytes entry.FreeAll = 12 ∷ []
entry_bytes (entry.Ignore by doc who) = 13 ∷ slug_bytes by ++ u32_bytes doc ++ slug_bytes who
entry_bytes (entry.Readmit by doc who) = 14 ∷ slug_bytes by ++ u32_bytes doc ++ slug_bytes who
entry_bytes (entry.FoundAt conf people level) = 15 ∷ text_bytes conf ++ people_bytes people ++ level ∷ []
entry_bytes (entry.Restored place level documents snapshots conf people) = 16 ∷ u64_bytes place ++ level ∷ [] ++ u32_bytes documents ++ u64_bytes snapshots ++ text_bytes conf ++ people_bytes people
entry_bytes (entry.Document name text) = 17 ∷ slug_bytes name ++ text_bytes text
entry_bytes (entry.Row doc who revision flags) = 18 ∷ u32_bytes doc ++ slug_bytes who ++ u64_bytes revision ++ flags ∷ []
entry_bytes (entry.Layer lines) = 19 ∷ text_bytes lines
entry_bytes (entry.Draft commands) = 20 ∷ commands
entry_bytes (entry.Snapshot doc layers) = 21 ∷ u32_bytes doc ++ layers ∷ []
entry_bytes (entry.HeldLayer who lines) = 22 ∷ slug_bytes who ++ text_bytes lines
entry_bytes (entry.Decided pairs) = 23 ∷ pairs
entry_bytes entry.End = 24 ∷ []

-- the sizes that an entry can have: at most 255 people, and texts of fewer than 2 ^ 32 bytes
abbrev pub HasSizes : Entry → Type 0
HasSizes (entry.Found conf people) = (length conf < 2 ^ 32) × (length people < 256)
HasSizes (entry.AddText by name text) = length text < 2 ^ 32
HasSizes (entry.Commit by doc hold lines) = length lines < 2 ^ 32
HasSizes (entry.FoundAt conf people level) = (length conf < 2 ^ 32) × (length people < 256)
HasSizes (entry.Restored place level documents snapshots conf people) = (length conf < 2 ^ 32) × (length people < 256)
HasSizes (entry.Document name text) = length text < 2 ^ 32
HasSizes (entry.Layer lines) = length lines < 2 ^ 32
HasSizes (entry.HeldLayer who lines) = length lines < 2 ^ 32
HasSizes _ = ⊤

-- the values that the format names: a founding's level is not 255, and a row has no flags but finished (1) and ignored (2)
abbrev pub HasNamedValues : Entry → Type 0
HasNamedValues (entry.FoundAt conf people level) = level < 255
HasNamedValues (entry.Row doc who revision flags) = flags < 4
HasNamedValues _ = ⊤

-- what an entry's fields can be
abbrev pub IsEntry : Entry → Type 0
IsEntry (entry.Found conf people) = IsText conf × ArePeople people
IsEntry (entry.AddText by name text) = IsSlug by × IsSlug name × IsText text
IsEntry (entry.Checkout by doc) = IsSlug by × (doc < 2 ^ 32)
IsEntry (entry.TakeOver by doc) = IsSlug by × (doc < 2 ^ 32)
IsEntry (entry.Commit by doc hold lines) = IsSlug by × (doc < 2 ^ 32) × (hold < 2 ^ 64) × IsText lines
IsEntry (entry.Park by doc hold commands) = IsSlug by × (doc < 2 ^ 32) × (hold < 2 ^ 64)
IsEntry (entry.Finish by doc) = IsSlug by × (doc < 2 ^ 32)
IsEntry (entry.Reopen by doc who) = IsSlug by × (doc < 2 ^ 32) × IsSlug who
IsEntry (entry.Snap by doc) = IsSlug by × (doc < 2 ^ 32)
IsEntry (entry.Decide by snapshot holder kind number accept) = IsSlug by × (snapshot < 2 ^ 64) × (holder < 256) × (kind < 256) × (number < 2 ^ 32)
IsEntry (entry.Undecide by snapshot holder kind number) = IsSlug by × (snapshot < 2 ^ 64) × (holder < 256) × (kind < 256) × (number < 2 ^ 32)
IsEntry entry.FreeAll = ⊤
IsEntry (entry.Ignore by doc who) = IsSlug by × (doc < 2 ^ 32) × IsSlug who
IsEntry (entry.Readmit by doc who) = IsSlug by × (doc < 2 ^ 32) × IsSlug who
IsEntry (entry.FoundAt conf people level) = IsText conf × ArePeople people × (level < 255)
IsEntry (entry.Restored place level documents snapshots conf people) = (place < 2 ^ 64) × (level < 256) × (documents < 2 ^ 32) × (snapshots < 2 ^ 64) × IsText conf × ArePeople people
IsEntry (entry.Document name text) = IsSlug name × IsText text
IsEntry (entry.Row doc who revision flags) = (doc < 2 ^ 32) × IsSlug who × (revision < 2 ^ 64) × (flags < 4)
IsEntry (entry.Layer lines) = IsText lines
IsEntry (entry.Draft commands) = ⊤
IsEntry (entry.Snapshot doc layers) = (doc < 2 ^ 32) × (layers < 256)
IsEntry (entry.HeldLayer who lines) = IsSlug who × IsText lines
IsEntry (entry.Decided pairs) = ⊤
IsEntry entry.End = ⊤
