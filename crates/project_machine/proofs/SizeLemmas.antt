-- How long entries are.
use Rattle.std.proofs.Common.{◌≡◌, ℕ, ◌+◌, ◌≤◌, List, [], ◌∷◌, ◌++◌, length, refl, sym, ◌∙◌, subst, arith, length-append}
use Rattle.entry_bytes.specs.Fields.{u32_bytes, u64_bytes, slug_bytes, text_bytes}
use Rattle.entry_bytes.specs.Entries.{entry_bytes}
use Rattle.entry_bytes.specs.declared.entry.Entry.TheVariants as entry
use Rattle.conf_model.specs.Configurations.{Configuration}
use Rattle.command_bytes.specs.CommandBytes.{script_bytes, scripts_bytes}
use Rattle.project_machine.specs.Entries.{IsShort}

four : (n : ℕ) → length (u32_bytes n) ≡ 4
unfolding u32_bytes
four n = refl

eight : (n : ℕ) → length (u64_bytes n) ≡ 8
unfolding u64_bytes
eight n = refl

commit_size : (by : List ℕ) (doc hold : ℕ) (lines : List ℕ) → length (entry_bytes (entry.Commit by doc hold lines)) ≡ length by + 14 + length (text_bytes lines)
unfolding entry_bytes
commit_size by doc hold lines =
    let whole : length (5 ∷ slug_bytes by ++ u32_bytes doc ++ u64_bytes hold ++ text_bytes lines) ≡ length (5 ∷ slug_bytes by ++ u32_bytes doc ++ u64_bytes hold) + length (text_bytes lines) = length-append (5 ∷ slug_bytes by ++ u32_bytes doc ++ u64_bytes hold) (text_bytes lines) in
    let more : length (5 ∷ slug_bytes by ++ u32_bytes doc ++ u64_bytes hold) ≡ length (5 ∷ slug_bytes by ++ u32_bytes doc) + length (u64_bytes hold) = length-append (5 ∷ slug_bytes by ++ u32_bytes doc) (u64_bytes hold) in
    let first : length (5 ∷ slug_bytes by ++ u32_bytes doc) ≡ length (5 ∷ slug_bytes by) + length (u32_bytes doc) = length-append (5 ∷ slug_bytes by) (u32_bytes doc) in
    let of_doc : length (u32_bytes doc) ≡ 4 = four doc in
    let of_hold : length (u64_bytes hold) ≡ 8 = eight hold in
    omega arith

-- the entry of a commit has as many bytes on each document and under each hold
pub commit_short : (by : List ℕ) (doc hold : ℕ) (lines : List ℕ) → IsShort (entry.Commit by doc hold lines) → IsShort (entry.Commit by 0 0 lines)
commit_short by doc hold lines short = subst (λ n. n ≤ 16777216) (commit_size by doc hold lines ∙ sym (commit_size by 0 0 lines)) short

-- the piece of what is parked is shorter than the entry that parked it
pub draft_short : (by : List ℕ) (doc hold : ℕ) (commands : List ℕ) → IsShort (entry.Park by doc hold commands) → IsShort (entry.Draft commands)
unfolding entry_bytes
draft_short by doc hold commands short =
    let all : length (6 ∷ slug_bytes by ++ u32_bytes doc ++ u64_bytes hold ++ commands) ≤ 16777216 = short in
    let whole : length (6 ∷ slug_bytes by ++ u32_bytes doc ++ u64_bytes hold ++ commands) ≡ length (6 ∷ slug_bytes by ++ u32_bytes doc ++ u64_bytes hold) + length commands = length-append (6 ∷ slug_bytes by ++ u32_bytes doc ++ u64_bytes hold) commands in
    let more : length (6 ∷ slug_bytes by ++ u32_bytes doc ++ u64_bytes hold) ≡ length (6 ∷ slug_bytes by ++ u32_bytes doc) + length (u64_bytes hold) = length-append (6 ∷ slug_bytes by ++ u32_bytes doc) (u64_bytes hold) in
    let of_hold : length (u64_bytes hold) ≡ 8 = eight hold in
    omega arith

-- the piece of a layer that a snapshot holds is shorter than the entry that committed it
pub held_short : (by lines : List ℕ) → IsShort (entry.Commit by 0 0 lines) → IsShort (entry.HeldLayer by lines)
unfolding entry_bytes
held_short by lines short =
    let all : length (entry_bytes (entry.Commit by 0 0 lines)) ≤ 16777216 = short in
    let long : length (entry_bytes (entry.Commit by 0 0 lines)) ≡ length by + 14 + length (text_bytes lines) = commit_size by 0 0 lines in
    let size : length (22 ∷ slug_bytes by ++ text_bytes lines) ≡ length (22 ∷ slug_bytes by) + length (text_bytes lines) = length-append (22 ∷ slug_bytes by) (text_bytes lines) in
    omega arith

-- the piece of nothing parked is short
pub nothing_short : (conf : Configuration) (text : List ℕ) → IsShort (entry.Draft (scripts_bytes conf text [] []))
unfolding entry_bytes script_bytes u32_bytes
nothing_short conf text = omega arith
