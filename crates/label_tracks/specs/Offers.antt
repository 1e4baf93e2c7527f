-- What is found for each token while spans are gone over (private calls only).
use Rattle.std.specs.Prelude.{◌≡◌, ℕ, ◌<◌, ◌&&◌, Bool, List, map, length, nat_lt, nat_le, slice_index, slice_index_or, Option, None, if◌then◌else◌}
use Rattle.std.specs.Option.{option_map_or}
use Rattle.mark_base.specs.declared.fragments.Frag.{Frag}
use Rattle.label_tracks.specs.declared.candidate.Candidate.{Candidate}
use Rattle.label_tracks.specs.Candidates.{sooner}

-- where the tokens start
abbrev pub starts : List Frag → List ℕ
starts tokens = map (λ token. token.start) tokens

-- a character lies in a fragment
abbrev pub lies_in : Frag → ℕ → Bool
lies_in frag character = nat_le frag.start character && nat_lt character frag.end

-- what is found for a token of some character, once it was offered where the character passes
abbrev pub offered : Bool → Option Candidate → Candidate → Option Candidate
offered passes found candidate = if passes then sooner found candidate else found

-- the label of what is found, by the groups of types
abbrev pub label_of : List ℕ → Option Candidate → ℕ
label_of groups found = option_map_or (λ first. slice_index groups first.kind.n) found 0

-- the candidate was offered to each token whose first character passes, and to no other
abbrev pub AreOffered : (ℕ → Bool) → List Frag → Candidate → List (Option Candidate) → List (Option Candidate) → Type 0
AreOffered passes tokens candidate before after =
    (i : ℕ) → i < length tokens → slice_index_or after i None ≡ offered (passes (slice_index (starts tokens) i)) (slice_index_or before i None) candidate
