use Rattle.std.proofs.Common.{◌≡◌, ◌≤◌, [], length, map, take, drop}
use Rattle.std.specs.Option.{option_map, option_or}
use Rattle.std.specs.List.{fold}
use Rattle.ann_reader.specs.LineFaults.{first_line_fault}
use Rattle.ann_reader.specs.AnnFaults.{with_line, layer_of, first_text_fault}
use Rattle.ann_reader.specs.FaultShows.{seen_fault}
use Rattle.ann_reader.specs.LineShows.{seen_line}
use Rattle.ann_reader.specs.LineCounts.{CountsLines}
use Rattle.ann_reader.proofs.reader.spelt_by.Given as goal

abbrev pub invariant-loop-line : goal.invariant-loop-line
invariant-loop-line l = record {
  few : length l.line-items ≤ 16777217;
  counted : CountsLines (map seen_line (take l.line-index l.line-items)) l.counts;
  told : first_line_fault l.conf l.known (map seen_line (take l.line-index l.line-items)) (map seen_line (drop l.line-index l.line-items)) ≡ first_line_fault l.conf l.known [] l.known;
  classes : length l.layer.classes ≤ l.line-index;
  layer : fold (with_line l.conf) l.layer (map seen_line (drop l.line-index l.line-items)) ≡ layer_of l.conf l.known;
  texts : option_or (option_map seen_fault l.text_fault) (first_text_fault l.doc (map seen_line (drop l.line-index l.line-items))) ≡ first_text_fault l.doc l.known;
}
