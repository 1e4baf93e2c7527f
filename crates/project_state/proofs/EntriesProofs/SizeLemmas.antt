-- How long entries are.
use Rattle.std.proofs.Common.{◌≡◌, ℕ, ◌+◌, ◌<◌, ◌≤◌, List, [], ◌∷◌, ◌++◌, length, nat_lt, refl, sym, ◌∙◌, ap, cond, arith, length-append}
use Rattle.std.proofs.lemmas.Bool.{cond-true, lt-ltb}
use Rattle.entry_bytes.specs.declared.entry.Entry.{Entry}
use Rattle.entry_bytes.specs.declared.entry.Entry.TheVariants as entry
use Rattle.entry_bytes.specs.Fields.{u32_bytes, u64_bytes, slug_bytes, text_bytes, people_bytes}
use Rattle.entry_bytes.specs.Entries.{entry_bytes}
use Rattle.project_state.specs.declared.entries.written.Written.TheVariants as written
use Rattle.project_state.specs.Entries.Writing.{text_in, without_text, written_of}

four : (n : ℕ) → length (u32_bytes n) ≡ 4
unfolding u32_bytes
four n = refl

pub text_size : (text : List ℕ) → length (text_bytes text) ≡ 4 + length text
text_size text = length-append (u32_bytes (length text)) text ∙ ap (λ n. n + length text) (four (length text))

at_end : (front text : List ℕ) → length (front ++ text_bytes text) ≡ length (front ++ text_bytes []) + length text
at_end front text =
    let long = length-append front (text_bytes text) in
    let bare = length-append front (text_bytes []) in
    let size = text_size text in
    let none = text_size [] in
    omega arith

within : (front text end : List ℕ) → length (front ++ text_bytes text ++ end) ≡ length (front ++ text_bytes [] ++ end) + length text
within front text end =
    let long = length-append (front ++ text_bytes text) end in
    let bare = length-append (front ++ text_bytes []) end in
    let size = at_end front text in
    omega arith

within_two : (front text middle end : List ℕ) → length (front ++ text_bytes text ++ middle ++ end) ≡ length (front ++ text_bytes [] ++ middle ++ end) + length text
within_two front text middle end =
    let long = length-append (front ++ text_bytes text ++ middle) end in
    let bare = length-append (front ++ text_bytes [] ++ middle) end in
    let size = within front text middle in
    omega arith

-- an entry has as many bytes as without its text, and those of the text
pub size_parts : (e : Entry) → 0 < length (text_in e) → length (entry_bytes e) ≡ length (entry_bytes (without_text e)) + length (text_in e)
unfolding entry_bytes
size_parts (entry.Found conf people) h = within (1 ∷ []) conf (people_bytes people)
size_parts (entry.AddText by name text) h = at_end (2 ∷ slug_bytes by ++ slug_bytes name) text
size_parts (entry.Commit by doc hold lines) h = at_end (5 ∷ slug_bytes by ++ u32_bytes doc ++ u64_bytes hold) lines
size_parts (entry.FoundAt conf people level) h = within_two (15 ∷ []) conf (people_bytes people) (level ∷ [])
size_parts (entry.Restored place level documents snapshots conf people) h = within (16 ∷ u64_bytes place ++ level ∷ [] ++ u32_bytes documents ++ u64_bytes snapshots) conf (people_bytes people)
size_parts (entry.Document name text) h = at_end (17 ∷ slug_bytes name) text
size_parts (entry.Layer lines) h = at_end (19 ∷ []) lines
size_parts (entry.HeldLayer who lines) h = at_end (22 ∷ slug_bytes who) lines
size_parts _ h = absurd (omega arith)

-- bytes that are too many
pub too_long : (bytes : List ℕ) → 16777216 < length bytes → written_of bytes ≡ written.TooLong (length bytes)
too_long bytes h = cond-true (nat_lt 16777216 (length bytes)) (written.TooLong (length bytes)) (written.Bytes bytes) (lt-ltb 16777216 (length bytes) h)

-- the lines of a commit are shorter than its entry
pub commit_long : (by : List ℕ) (doc hold : ℕ) (lines : List ℕ) → length (entry_bytes (entry.Commit by doc hold lines)) ≤ 16777216 → length lines ≤ 16777216
unfolding entry_bytes
commit_long by doc hold lines short =
    let size = at_end (5 ∷ slug_bytes by ++ u32_bytes doc ++ u64_bytes hold) lines in
    let all : length (5 ∷ slug_bytes by ++ u32_bytes doc ++ u64_bytes hold ++ text_bytes lines) ≤ 16777216 = short in
    omega arith

-- and so are the commands of a park
pub park_long : (by : List ℕ) (doc hold : ℕ) (commands : List ℕ) → length (entry_bytes (entry.Park by doc hold commands)) ≤ 16777216 → length commands ≤ 16777216
unfolding entry_bytes
park_long by doc hold commands short =
    let size = length-append (6 ∷ slug_bytes by ++ u32_bytes doc ++ u64_bytes hold) commands in
    let all : length (6 ∷ slug_bytes by ++ u32_bytes doc ++ u64_bytes hold ++ commands) ≤ 16777216 = short in
    omega arith
