use Rattle.std.proofs.Common.{◌≡◌, ◌+◌, ◌≤◌, [], drop, length, map}
use Rattle.token_columns.specs.LineShows.{seen_text}
use Rattle.token_columns.specs.ReadColumns.{read_from}
use Rattle.token_columns.specs.ReadRuns.{closed}
use Rattle.token_columns.proofs.ReadLemmas.{Reads}
use Rattle.token_columns.proofs.reader.runs_read.Given as goal

abbrev pub invariant-loop-line : goal.invariant-loop-line
invariant-loop-line l = record {
  count : l.number ≡ l.line-index + 1;
  place : l.place ≤ length l.tokens;
  reads : Reads l.conf l.doc l.number (drop l.place l.tokens) (map seen_text (drop l.line-index l.lines)) (read_from l.conf l.doc 1 [] l.tokens (map seen_text l.lines)) l.runs.items l.last;
  room : length l.runs.items + length (closed l.last) ≤ 10000;
}
