use Rattle.std.proofs.Common.{◌≡◌, ℕ, ◌∙◌, ◌++◌, ap, sym, List, map, codes, get_or, string_bytes, ◌+◌, [], drop}
use denote.Ref.{Bor}
use Rattle.mark_base.specs.declared.fragments.Frag.{Frag}
use Rattle.token_columns.specs.declared.run.Run.{Run}
use Rattle.token_columns.specs.Columns.{label_word, labelled_line, token_text}
use Rattle.token_columns.specs.Labels.{label_by}
use Rattle.token_columns.specs.WriteRuns.{first_at, still, text_from}
use Rattle.token_columns.proofs.TextFrom.{line_step, text_there}
use Rattle.token_columns.proofs.columns.column_text.Goals as goal

pub loop-place-preserved : goal.loop-place-preserved
loop-place-preserved c =
    let d : Frag = record { start = 0; end = 0 } in
    let e : Bor (List ℕ) = record { ref_ptr = (0, 0); now = [] } in
    let tokens : List Frag = c.tokens-tokens.result.now in
    let texts : map (λ (t : Bor (List ℕ)). t.now) c.deref-text-items.result.now ≡ map (token_text c.args.doc.now) tokens =
    ap (map (λ (t : Bor (List ℕ)). t.now)) c.deref-text-items.ensures.value ∙ c.in_ok-texts.ensures ∙ sym (ap (map (token_text c.args.doc.now)) c.tokens-tokens.ensures) in
    let there = text_there c.args.doc.now tokens c.deref-text-items.result.now c.loop-place.place d e texts c.loop-place-test.true in
    let token : Frag = get_or tokens c.loop-place.place d in
    let left : List Run = still token.start c.loop-place.left.now in
    let label_is : c.label_by.result ≡ label_by (first_at token.start left) token = c.label_by.ensures ∙ ap (λ found. label_by found token) (c.first_at.ensures ∙ ap (first_at token.start) c.still-left.ensures) in
    let line : List ℕ = ((get_or c.deref-text-items.result.now c.loop-place.place e).now ++ codes "\t" ++ label_word c.args.conf.now c.label_by.result) ++ codes "\n" in
    let is : line ≡ labelled_line c.args.conf.now c.args.doc.now token (label_by (first_at token.start left) token) ++ codes "\n" =
    ap (λ t. (t ++ codes "\t" ++ label_word c.args.conf.now c.label_by.result) ++ codes "\n") there.1
    ∙ ap (λ l. labelled_line c.args.conf.now c.args.doc.now token l ++ codes "\n") label_is in
    ap (λ (l : List Run). string_bytes c.push_line.new.out ++ text_from c.args.conf.now c.args.doc.now l (drop (c.loop-place.place + 1) tokens)) c.still-left.ensures
    ∙ line_step c.args.conf.now c.args.doc.now (string_bytes c.loop-place.out) (string_bytes c.push_line.new.out) c.loop-place.left.now tokens c.loop-place.place d line (text_from c.args.conf.now c.args.doc.now c.args.runs.now tokens)
    there.0 is c.in_ok-push_line.ensures c.loop-place.invariant
