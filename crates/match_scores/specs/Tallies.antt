-- The running counts of each two annotators (private calls only).
use Rattle.std.specs.Prelude.{◌≡◌, ℕ, ◌+◌, ◌*◌, List, get_or, length}
use Rattle.match_scores.specs.declared.sort.Sort.{Sort}
use Rattle.match_scores.specs.declared.sort.Sort.TheVariants.{Spans, Events, Relations}
use Rattle.match_scores.specs.declared.tally.Tally.{Tally}
use Rattle.match_scores.specs.declared.tally.Tallies.{Tallies}
use Rattle.match_scores.specs.Matches.{Part, Both, FirstOnly, SecondOnly}

-- a count of a tally
abbrev pub part_of : Tally → Part → ℕ
part_of t Both = t.both
part_of t FirstOnly = t.first_only
part_of t SecondOnly = t.second_only

-- the tally of a sort
abbrev pub tally_of : Tallies → Sort → Tally
tally_of t Spans = t.spans
tally_of t Events = t.events
tally_of t Relations = t.relations

-- a count of the tallies
abbrev pub read : Tallies → Sort → Part → ℕ
read t sort part = part_of (tally_of t sort) part

-- a tally of nothing
abbrev pub no_tally : Tally
no_tally = record { both = 0; first_only = 0; second_only = 0 }

-- tallies of nothing
abbrev pub no_tallies : Tallies
no_tallies = record { spans = no_tally; events = no_tally; relations = no_tally }

-- a count of raters a and b, of so many raters
unfoldable pub cell : ℕ → List Tallies → ℕ → ℕ → Sort → Part → ℕ
cell raters totals a b sort part = read (get_or totals (a * raters + b) no_tallies) sort part

-- there are tallies for each two raters
abbrev pub IsSquare : ℕ → List Tallies → Type 0
IsSquare raters totals = length totals ≡ raters * raters
