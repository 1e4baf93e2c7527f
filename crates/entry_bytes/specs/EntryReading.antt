-- Reading an entry: its tag, the fields of that tag, and nothing behind them.
use Rattle.std.specs.Prelude.{◌≡◌, ℕ, ◌==◌, List, Option, Some, None, option_map, option_and_then, length, if◌then◌else◌, Result, IfOk}
use Rattle.mark_base.specs.declared.failed.Memory.{Memory}
use Rattle.entry_bytes.specs.declared.person.Person.{Person}
use Rattle.entry_bytes.specs.declared.entry.Entry.{Entry}
use Rattle.entry_bytes.specs.declared.entry.Entry.TheVariants as entry
use Rattle.entry_bytes.specs.Reading.{◌&◌, made, byte_at, below_at, flag_at, u32_at, u64_at, slug_at, text_at, people_at, rest_at}

-- the text of a configuration, and people
unfoldable pub founding_at : List ℕ → Option ((List ℕ × List Person) × List ℕ)
founding_at bytes = (text_at & people_at) bytes

-- who made a change, and on which document
unfoldable pub on_document_at : List ℕ → Option ((List ℕ × ℕ) × List ℕ)
on_document_at bytes = (slug_at & u32_at) bytes

-- the same, and whose layer of the document
unfoldable pub on_layer_at : List ℕ → Option (((List ℕ × ℕ) × List ℕ) × List ℕ)
on_layer_at bytes = (on_document_at & slug_at) bytes

-- who decided, in which snapshot, and the item: its holder, kind and number
unfoldable pub on_item_at : List ℕ → Option (((((List ℕ × ℕ) × ℕ) × ℕ) × ℕ) × List ℕ)
on_item_at bytes = (slug_at & u64_at & byte_at & byte_at & u32_at) bytes

-- a founding
unfoldable pub found_at : List ℕ → Option (Entry × List ℕ)
found_at bytes = made (λ x. entry.Found x.0 x.1) founding_at bytes

-- a document that is added
unfoldable pub add_text_at : List ℕ → Option (Entry × List ℕ)
add_text_at bytes = made (λ x. entry.AddText x.0.0 x.0.1 x.1) (slug_at & slug_at & text_at) bytes

-- a checkout
unfoldable pub checkout_at : List ℕ → Option (Entry × List ℕ)
checkout_at bytes = made (λ x. entry.Checkout x.0 x.1) on_document_at bytes

-- a checkout of a layer that is out
unfoldable pub take_over_at : List ℕ → Option (Entry × List ℕ)
take_over_at bytes = made (λ x. entry.TakeOver x.0 x.1) on_document_at bytes

-- a commit
unfoldable pub commit_at : List ℕ → Option (Entry × List ℕ)
commit_at bytes = made (λ x. entry.Commit x.0.0.0 x.0.0.1 x.0.1 x.1) (on_document_at & u64_at & text_at) bytes

-- a parked layer, with its commands to the end
unfoldable pub park_at : List ℕ → Option (Entry × List ℕ)
park_at bytes = made (λ x. entry.Park x.0.0.0 x.0.0.1 x.0.1 x.1) (on_document_at & u64_at & rest_at) bytes

-- a finished layer
unfoldable pub finish_at : List ℕ → Option (Entry × List ℕ)
finish_at bytes = made (λ x. entry.Finish x.0 x.1) on_document_at bytes

-- a layer that is opened again
unfoldable pub reopen_at : List ℕ → Option (Entry × List ℕ)
reopen_at bytes = made (λ x. entry.Reopen x.0.0 x.0.1 x.1) on_layer_at bytes

-- a snapshot that is taken
unfoldable pub snap_at : List ℕ → Option (Entry × List ℕ)
snap_at bytes = made (λ x. entry.Snap x.0 x.1) on_document_at bytes

-- a decision
unfoldable pub decide_at : List ℕ → Option (Entry × List ℕ)
decide_at bytes = made (λ x. entry.Decide x.0.0.0.0.0 x.0.0.0.0.1 x.0.0.0.1 x.0.0.1 x.0.1 x.1) (on_item_at & flag_at) bytes

-- a decision that is taken back
unfoldable pub undecide_at : List ℕ → Option (Entry × List ℕ)
undecide_at bytes = made (λ x. entry.Undecide x.0.0.0.0 x.0.0.0.1 x.0.0.1 x.0.1 x.1) on_item_at bytes

-- a layer that is taken out of the tables
unfoldable pub ignore_at : List ℕ → Option (Entry × List ℕ)
ignore_at bytes = made (λ x. entry.Ignore x.0.0 x.0.1 x.1) on_layer_at bytes

-- a layer that is put back into the tables
unfoldable pub readmit_at : List ℕ → Option (Entry × List ℕ)
readmit_at bytes = made (λ x. entry.Readmit x.0.0 x.0.1 x.1) on_layer_at bytes

-- a founding at a level, which is not 255
unfoldable pub found_at_level_at : List ℕ → Option (Entry × List ℕ)
found_at_level_at bytes = made (λ x. entry.FoundAt x.0.0 x.0.1 x.1) (founding_at & below_at 255) bytes

-- the first piece of a state
unfoldable pub restored_at : List ℕ → Option (Entry × List ℕ)
restored_at bytes = made (λ x. entry.Restored x.0.0.0.0.0 x.0.0.0.0.1 x.0.0.0.1 x.0.0.1 x.0.1 x.1) (u64_at & byte_at & u32_at & u64_at & text_at & people_at) bytes

-- a document of a state
unfoldable pub document_at : List ℕ → Option (Entry × List ℕ)
document_at bytes = made (λ x. entry.Document x.0 x.1) (slug_at & text_at) bytes

-- a row of a state, with no flags but finished (1) and ignored (2)
unfoldable pub row_at : List ℕ → Option (Entry × List ℕ)
row_at bytes = made (λ x. entry.Row x.0.0.0 x.0.0.1 x.0.1 x.1) (u32_at & slug_at & u64_at & below_at 4) bytes

-- a committed layer
unfoldable pub layer_at : List ℕ → Option (Entry × List ℕ)
layer_at bytes = made entry.Layer text_at bytes

-- parked commands, to the end
unfoldable pub draft_at : List ℕ → Option (Entry × List ℕ)
draft_at bytes = made entry.Draft rest_at bytes

-- a snapshot of a state
unfoldable pub snapshot_at : List ℕ → Option (Entry × List ℕ)
snapshot_at bytes = made (λ x. entry.Snapshot x.0 x.1) (u32_at & byte_at) bytes

-- a layer that a snapshot holds
unfoldable pub held_layer_at : List ℕ → Option (Entry × List ℕ)
held_layer_at bytes = made (λ x. entry.HeldLayer x.0 x.1) (slug_at & text_at) bytes

-- decisions, to the end
unfoldable pub decided_at : List ℕ → Option (Entry × List ℕ)
decided_at bytes = made entry.Decided rest_at bytes

-- an entry without fields
abbrev pub bare : Entry → List ℕ → Option (Entry × List ℕ)
bare e bytes = Some (e, bytes)

-- the fields behind a tag from 16 on
unfoldable pub piece_at : ℕ → List ℕ → Option (Entry × List ℕ)
piece_at tag bytes =
    if tag == 16 then restored_at bytes
    else if tag == 17 then document_at bytes
    else if tag == 18 then row_at bytes
    else if tag == 19 then layer_at bytes
    else if tag == 20 then draft_at bytes
    else if tag == 21 then snapshot_at bytes
    else if tag == 22 then held_layer_at bytes
    else if tag == 23 then decided_at bytes
    else if tag == 24 then bare entry.End bytes
    else None

-- the fields behind a tag
unfoldable pub fields_at : ℕ → List ℕ → Option (Entry × List ℕ)
fields_at tag bytes =
    if tag == 1 then found_at bytes
    else if tag == 2 then add_text_at bytes
    else if tag == 3 then checkout_at bytes
    else if tag == 4 then take_over_at bytes
    else if tag == 5 then commit_at bytes
    else if tag == 6 then park_at bytes
    else if tag == 7 then finish_at bytes
    else if tag == 8 then reopen_at bytes
    else if tag == 9 then snap_at bytes
    else if tag == 10 then decide_at bytes
    else if tag == 11 then undecide_at bytes
    else if tag == 12 then bare entry.FreeAll bytes
    else if tag == 13 then ignore_at bytes
    else if tag == 14 then readmit_at bytes
    else if tag == 15 then found_at_level_at bytes
    else piece_at tag bytes

-- an entry with no byte behind it
abbrev pub alone : Entry × List ℕ → Option Entry
alone read = if length read.1 == 0 then Some read.0 else None

-- the entry that bytes are
unfoldable pub entry_of : List ℕ → Option Entry
entry_of bytes = option_and_then (λ tag. option_and_then alone (fields_at tag.0 tag.1)) (byte_at bytes)

-- what a reader of fields answers, unless memory runs out, and where it leaves the bytes
abbrev pub Reads : (List ℕ → Option (Entry × List ℕ)) → List ℕ → List ℕ → Result (Option Entry) Memory → Type 0
Reads fields old new result = IfOk result (λ found. fields old ≡ option_map (λ e. (e, new)) found)
