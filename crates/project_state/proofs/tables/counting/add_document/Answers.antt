use Rattle.std.proofs.Common.{◌≡◌, ◌+◌, ◌≤◌, length, map, take, ap, subst, sym, ◌∙◌}
use Rattle.char_documents.specs.Tokens.{tokens_of}
use Rattle.kappa_alpha.specs.Standing.{Standing, tokens_in}
use Rattle.project_machine.specs.ProjectState.{Document, document}
use Rattle.project_machine.specs.Tables.{labelled}
use Rattle.project_state.specs.Tables.Counting.{standing_upto}
use Rattle.project_state.proofs.TablesProofs.ActTables.{ok_then}
use Rattle.project_state.proofs.TablesProofs.CountingLemmas.{comes_blank, document_more, front_of, next_fits}
use Rattle.project_state.proofs.tables.counting.add_document.Goals as goal

pub admit-number-requires-clause-short : goal.admit-number-requires-clause-short
admit-number-requires-clause-short g c =
    let s = c.args.state.now.state in
    let doc = c.args.doc in
    let front : c.reserve.new.self ≡ standing_upto s doc c.reserve.new.self.spare = front_of s doc c.args.tables.now c.reserve.new.self c.requires.before c.reserve.ensures.same in
    let text : c.deref.result.now ≡ (document s doc).text = c.deref.ensures ∙ (c.text.ensures ∙ ap (λ (d : Document). d.text) c.document_there-document.ensures) in
    let tokens : c.token_count.result ≡ length (tokens_of (document s doc).text) = c.token_count.ensures ∙ ap (λ t. length (tokens_of t)) text in
    subst (λ ds. tokens_in ds + c.token_count.result ≤ 8390656) (sym (ap (λ (t : Standing). t.documents) front))
    (subst (λ n. tokens_in (map (labelled s) (take doc s.documents)) + n ≤ 8390656) (sym tokens) (next_fits s doc c.requires.kept c.requires.there))

pub post_rows-requires-clause-blank : goal.post_rows-requires-clause-blank
post_rows-requires-clause-blank g c =
    let s = c.args.state.now.state in
    let doc = c.args.doc in
    let front : c.reserve.new.self ≡ standing_upto s doc c.reserve.new.self.spare = front_of s doc c.args.tables.now c.reserve.new.self c.requires.before c.reserve.ensures.same in
    let tokens : c.token_count.result ≡ length (tokens_of c.document_there-document.result.now.text) = c.token_count.ensures ∙ ap (λ t. length (tokens_of t)) (c.deref.ensures ∙ c.text.ensures) in
    comes_blank s doc c.token_count.result c.reserve.new.self c.admit-number.new.self c.document_there-document.result.now c.requires.kept c.requires.there c.document_there-document.ensures tokens front c.admit-number.ensures.admitted

pub returns : goal.returns
returns g c =
    let s = c.args.state.now.state in
    let doc = c.args.doc in
    let front : c.reserve.new.self ≡ standing_upto s doc c.reserve.new.self.spare = front_of s doc c.args.tables.now c.reserve.new.self c.requires.before c.reserve.ensures.same in
    ok_then c.post_rows.result
    (λ labels. document_more s doc c.token_count.result c.reserve.new.self c.admit-number.new.self c.post_rows.new.tables c.document_there-document.result.now c.requires.there c.document_there-document.ensures front c.admit-number.ensures.admitted labels)
    c.post_rows.ensures
