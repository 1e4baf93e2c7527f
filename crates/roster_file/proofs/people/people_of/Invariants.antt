use Rattle.std.proofs.Common.{◌≡◌, ◌+◌, length, map, drop}
use Rattle.csv.specs.Records.{fields_of}
use Rattle.roster_file.specs.RosterFiles.{people_of}
use Rattle.roster_file.proofs.PeopleLemmas.{prefixed}
use Rattle.roster_file.proofs.people.people_of.Given as goal

-- the people so far, and behind them those of the rows that are left
abbrev pub invariant-loop-place : goal.invariant-loop-place
invariant-loop-place l = record {
  told : people_of 1 (map fields_of l.rows) ≡ prefixed l.people.items (people_of (l.place + 1) (map fields_of (drop l.place l.rows)));
  count : length l.people.items ≡ l.place;
}
