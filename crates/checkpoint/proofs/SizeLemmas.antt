-- How long the entries that hold a text are.
use Rattle.std.proofs.Common.{◌≡◌, ℕ, ◌+◌, ◌<◌, ◌≤◌, List, [], ◌∷◌, ◌++◌, length, refl, arith, length-append}
use Rattle.entry_bytes.specs.declared.entry.Entry.TheVariants as entry
use Rattle.entry_bytes.specs.Entries.{entry_bytes}
use Rattle.entry_bytes.specs.Fields.{slug_bytes, text_bytes, u32_bytes, u64_bytes}
use Rattle.project_machine.specs.Entries.{IsShort}
use Rattle.project_state.proofs.EntriesProofs.SizeLemmas.{text_size}

four : (n : ℕ) → length (u32_bytes n) ≡ 4
unfolding u32_bytes
four n = refl

eight : (n : ℕ) → length (u64_bytes n) ≡ 8
unfolding u64_bytes
eight n = refl

-- the entry of a commit has 18 bytes beside the name and the lines
pub commit_size : (who lines : List ℕ) → length (entry_bytes (entry.Commit who 0 0 lines)) ≡ length lines + (length who + 18)
unfolding entry_bytes
commit_size who lines =
    let size = text_size lines in
    let number = four 0 in
    let hold = eight 0 in
    let whole = length-append (5 ∷ slug_bytes who ++ u32_bytes 0 ++ u64_bytes 0) (text_bytes lines) in
    let front = length-append (5 ∷ slug_bytes who ++ u32_bytes 0) (u64_bytes 0) in
    let first = length-append (5 ∷ slug_bytes who) (u32_bytes 0) in
    omega arith

-- and the piece of a layer that a snapshot holds 6
pub held_size : (who lines : List ℕ) → length (entry_bytes (entry.HeldLayer who lines)) ≡ length lines + (length who + 6)
unfolding entry_bytes
held_size who lines =
    let size = text_size lines in
    let whole = length-append (22 ∷ slug_bytes who) (text_bytes lines) in
    omega arith

-- and that of commands one
pub draft_size : (bytes : List ℕ) → length (entry_bytes (entry.Draft bytes)) ≡ length bytes + 1
unfolding entry_bytes
draft_size bytes = omega arith
