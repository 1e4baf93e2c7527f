use Rattle.std.proofs.Common.{◌≡◌, ap, arith, length, map, sym, ◌∙◌, ◌++◌}
use Rattle.std.specs.List.{flat_map, zip}
use Rattle.entry_bytes.specs.Entries.{entry_bytes}
use Rattle.project_machine.specs.Entries.{row_pieces}
use Rattle.project_machine.specs.ProjectState.{blank_row, document, row_at}
use Rattle.project_book.proofs.StatePiecesProofs.RowLemmas.{rows_many}
use Rattle.project_book.proofs.StatePiecesProofs.RunLemmas.{get_or-same, told_paired, told_paired_more}
use Rattle.project_book.proofs.state_pieces.rows.put_rows_of.Goals as goal

pub loop-rater-preserved : goal.loop-rater-preserved
loop-rater-preserved c =
    let s = c.args.state.now.state in
    let doc = c.args.doc in
    let k = c.loop-rater.rater in
    let many : length (document s doc).rows ≡ length c.args.names.now = rows_many s doc c.args.names.now c.requires.kept c.requires.there c.requires.names in
    told_paired_more (row_pieces s doc) c.args.names.now (document s doc).rows c.args.run.now c.loop-rater.run c.put_row_at.new.run k c.index-names-rater.result (row_at s doc k) (omega arith) many c.index-names-rater.is
    (sym (get_or-same (document s doc).rows k blank_row (omega arith))) c.loop-rater.invariant c.in_ok-put_row_at.ensures

pub returns : goal.returns
returns c =
    let s = c.args.state.now.state in
    let doc = c.args.doc in
    let many : length (document s doc).rows ≡ length c.args.names.now = rows_many s doc c.args.names.now c.requires.kept c.requires.there c.requires.names in
    told_paired (row_pieces s doc) c.args.names.now (document s doc).rows c.args.run.now c.loop-rater.run c.loop-rater.rater (omega arith) many c.loop-rater.invariant
    ∙ ap (λ names. c.args.run.now ++ map entry_bytes (flat_map (row_pieces s doc) (zip names (document s doc).rows))) c.requires.names
