-- Which function writes an entry (private calls only).
use Rattle.std.specs.Prelude.{Bool, true, false}
use Rattle.entry_bytes.specs.declared.entry.Entry.{Entry}
use Rattle.entry_bytes.specs.declared.entry.Entry.TheVariants as entry

-- whether an entry is a piece of a state
abbrev pub is_piece : Entry → Bool
is_piece (entry.Restored place level documents snapshots conf people) = true
is_piece (entry.Document name text) = true
is_piece (entry.Row doc who revision flags) = true
is_piece (entry.Layer lines) = true
is_piece (entry.Draft commands) = true
is_piece (entry.Snapshot doc layers) = true
is_piece (entry.HeldLayer who lines) = true
is_piece (entry.Decided pairs) = true
is_piece entry.End = true
is_piece _ = false

-- whether an entry is a decision, or another act of a curator on a layer or a document
abbrev pub is_curation : Entry → Bool
is_curation (entry.Reopen by doc who) = true
is_curation (entry.Snap by doc) = true
is_curation (entry.Decide by snapshot holder kind number accept) = true
is_curation (entry.Undecide by snapshot holder kind number) = true
is_curation (entry.Ignore by doc who) = true
is_curation (entry.Readmit by doc who) = true
is_curation _ = false
