-- The spans that cover a character, and which of them comes first.
use Rattle.std.specs.Prelude.{◌≡◌, ℕ, ◌-◌, ◌==◌, ◌||◌, ◌&&◌, Bool, false, List, [], All, Contains, map, length, nat_lt, slice_get, Option, Some, None, if◌then◌else◌}
use Rattle.std.specs.Option.{option_map_or}
use Rattle.std.specs.List.{filter, fold}
use Rattle.mark_base.specs.declared.fragments.Frag.{Frag}
use Rattle.layer_model.specs.declared.span.Span.{Span}
use Rattle.overlap_rules.specs.Overlaps.{covers}
use Rattle.label_tracks.specs.declared.candidate.Candidate.{Candidate}

-- where the first fragment starts
abbrev pub start_of : List Frag → ℕ
start_of frags = option_map_or (λ frag. frag.start) (slice_get frags 0) 0

-- where the last fragment ends
abbrev pub end_of : List Frag → ℕ
end_of frags = option_map_or (λ frag. frag.end) (slice_get frags (length frags - 1)) 0

-- a span as what decides among spans that cover one character
abbrev pub candidate_of : ℕ → Span → Candidate
candidate_of number span = record { start = start_of span.frags; end = end_of span.frags; kind = span.kind; number = number }

-- one comes before another: it starts earlier, else ends later, else has the lower type, else the lower number
abbrev pub comes_before : Candidate → Candidate → Bool
comes_before a b =
    nat_lt a.start b.start || (a.start == b.start && (nat_lt b.end a.end || (a.end == b.end
    && (nat_lt a.kind.n b.kind.n || (a.kind.n == b.kind.n && nat_lt a.number b.number)))))

-- the one that comes before the other
abbrev pub sooner : Option Candidate → Candidate → Option Candidate
sooner None other = Some other
sooner (Some found) other = if comes_before other found then Some other else Some found

-- the spans that cover a character, of spans by number
abbrev pub candidates : ℕ → List (ℕ × Span) → List Candidate
candidates character spans = map (λ entry. candidate_of entry.0 entry.1) (filter (λ entry. covers entry.1.frags character) spans)

-- the first of them
abbrev pub first_covering : ℕ → List (ℕ × Span) → Option Candidate
first_covering character spans = fold sooner None (candidates character spans)

-- a candidate is the first of some: it is among them, and none of them comes before it; there is none only where there are none
abbrev pub IsFirst : List Candidate → Option Candidate → Type 0
IsFirst all None = all ≡ []
IsFirst all (Some first) = Contains all first × All (λ other. comes_before other first ≡ false) all
