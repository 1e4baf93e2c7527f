use Rattle.std.proofs.Common.{◌≡◌, ◌+◌, ◌≤◌, drop, length}
use Rattle.std.specs.Prelude.{map}
use Rattle.std.specs.Str.Lines.{lines}
use Rattle.conf_model.specs.ConfLines.{Before, lines_from}
use Rattle.annotation_conf.specs.FileShows.{seen_file}
use Rattle.annotation_conf.specs.FileGrows.{seen_place, nothing_kept, grown_by}
use Rattle.annotation_conf.proofs.file.read_file.Given as goal

abbrev pub invariant-loop-line : goal.invariant-loop-line
invariant-loop-line l = record {
  count : l.number ≡ l.line-index;
  few : length l.line-items ≤ 4194304;
  same : map (λ line. line.now) l.line-items ≡ lines l.fn.text;
  grows : grown_by (seen_file l.file) (lines_from (l.line-index + 1) (seen_place l.place) (map (λ line. line.now) (drop l.line-index l.line-items)))
      ≡ grown_by nothing_kept (lines_from 1 Before (map (λ line. line.now) l.line-items));
}
