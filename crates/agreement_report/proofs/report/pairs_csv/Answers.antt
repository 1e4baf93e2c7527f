use Rattle.std.proofs.Common.{◌≡◌, ℕ, List, [], ◌++◌, ◌∙◌, ap, sym, take, get_or, refl, None}
use Rattle.std.specs.List.{flat_map}
use Rattle.std.proofs.lemmas.List.{flat_map_more, take_more, append-nil}
use Rattle.kappa_alpha.specs.declared.figures.PairLine.{PairLine}
use Rattle.agreement_report.specs.Report.{pair_fields, pairs_header, row, text_of}
use Rattle.agreement_report.proofs.report.pairs_csv.Goals as goal

pub loop-line-init : goal.loop-line-init
loop-line-init c =
    let start : text_of c.from_writer-writer.result ≡ [] = rw (c.from_writer-writer.ensures.wtr, c.from_writer-writer.ensures.empty, c.new.ensures.items) refl in
    record {
      ready = c.in_ok-write_row.ensures.ready;
      written = c.in_ok-write_row.ensures.written ∙ ap (λ t. t ++ row pairs_header) start ∙ sym (append-nil (row pairs_header));
    }

pub loop-line-preserved : goal.loop-line-preserved
loop-line-preserved c =
    let of_line : PairLine → List ℕ = λ line. row (pair_fields c.args.names.now line) in
    let here : PairLine = get_or c.args.lines.now c.loop-line.line-index (record { first = 0; second = 0; units = 0; agreed = 0; kappa = None }) in
    record {
      ready = c.in_ok-write_pair.ensures.ready;
      written =
          c.in_ok-write_pair.ensures.written
          ∙ ap (λ t. t ++ of_line here) c.loop-line.invariant.written
          ∙ flat_map_more of_line (row pairs_header) (take c.loop-line.line-index c.args.lines.now) here
          ∙ ap (λ xs. row pairs_header ++ flat_map of_line xs) (sym (take_more c.args.lines.now c.loop-line.line-index (record { first = 0; second = 0; units = 0; agreed = 0; kappa = None }) c.loop-line-test.true));
    }
