use Rattle.std.proofs.Common.{◌≡◌, ◌++◌, OnOk, ap, map, subst, sym, ◌∙◌}
use Rattle.std.specs.Option.{option_copied}
use Rattle.entry_bytes.specs.Entries.{entry_bytes}
use Rattle.project_machine.specs.Entries.{row_pieces}
use Rattle.project_machine.specs.Legal.{IsRowKept}
use Rattle.project_machine.specs.ProjectState.{Row, document, row_at}
use Rattle.project_book.proofs.StatePiecesProofs.RowLemmas.{row_missing, row_same, row_there}
use Rattle.project_book.proofs.state_pieces.rows.put_row_at.Goals as goal

pub put_row-requires-clause-kept : goal.put_row-requires-clause-kept
put_row-requires-clause-kept c =
    let s = c.args.state.now.state in
    let doc = c.args.doc in
    let same : c.in-Some.row.now ≡ row_at s doc c.args.rater =
    row_same s doc c.args.rater c.args.stored.now c.in-Some.row.now c.requires.is c.requires.kept c.requires.there c.requires.annotates (sym c.row.ensures ∙ ap option_copied c.in-Some.is) in
    subst (λ (r : Row). IsRowKept s.conf (document s doc).text s.place c.args.who.now r) (sym same) (row_there s doc c.args.rater c.args.who.now c.requires.kept c.requires.there c.requires.annotates c.requires.named)

pub unreachable-requires : goal.unreachable-requires
unreachable-requires c =
    row_missing c.args.state.now.state c.args.doc c.args.rater c.args.stored.now c.requires.is c.requires.kept c.requires.there c.requires.annotates (sym c.row.ensures ∙ ap option_copied c.in-None.is)

pub returns : goal.returns
returns c =
    let s = c.args.state.now.state in
    let doc = c.args.doc in
    let same : c.in-Some.row.now ≡ row_at s doc c.args.rater =
    row_same s doc c.args.rater c.args.stored.now c.in-Some.row.now c.requires.is c.requires.kept c.requires.there c.requires.annotates (sym c.row.ensures ∙ ap option_copied c.in-Some.is) in
    subst (λ (r : Row). OnOk c.put_row.result (c.put_row.new.run ≡ c.args.run.now ++ map entry_bytes (row_pieces s doc (c.args.who.now, r)))) same c.put_row.ensures
