use Rattle.std.proofs.Common.{◌≡◌, ◌+◌, ◌≤◌, ◌++◌, ◌∙◌, [], ◌∷◌, map, drop, length, chars, get_or, arith, ap, sym, subst, append-nil}
use Rattle.std.proofs.lemmas.List.{length-drop, at_drop_all, map-append}
use Rattle.mark_base.specs.declared.fragments.Frag.{Frag}
use Rattle.char_documents.specs.Tokens.{tokens_of}
use Rattle.token_columns.specs.Columns.{token_text}
use Rattle.token_columns.proofs.RunLemmas.{Rising}
use Rattle.token_columns.proofs.TokenLemmas.{EndBy, rising_lower, tokens_rising, tokens_end}
use Rattle.token_columns.proofs.TextLemmas.{next_is, behind_next, next_text}
use Rattle.token_columns.proofs.token_texts.token_texts.Goals as goal

pub loop-token-init : goal.loop-token-init
loop-token-init c = record {
  text = c.text-rest.utf8;
  rest = c.text-rest.ensures.characters;
  rise = subst (Rising 0) (sym c.tokens-token-items.ensures) (tokens_rising c.args.doc.now);
  end = subst (EndBy (length c.args.doc.now)) (sym c.tokens-token-items.ensures) (tokens_end c.args.doc.now);
  made = ap (λ ts. map (λ text. text.now) ts ++ map (token_text c.args.doc.now) c.tokens-token-items.result.now) c.new-texts.ensures.items ∙ ap (map (token_text c.args.doc.now)) c.tokens-token-items.ensures;
}

pub overflow_sub-start : goal.overflow_sub-start
overflow_sub-start c =
    let next = subst (Rising c.loop-token.place) (next_is c.tokens-token-items.result.now c.loop-token.token-index (record { start = 0; end = 0 }) c.loop-token-test.true) c.loop-token.invariant.rise in
    next.0

pub overflow_sub-end : goal.overflow_sub-end
overflow_sub-end c =
    let next = subst (Rising c.loop-token.place) (next_is c.tokens-token-items.result.now c.loop-token.token-index (record { start = 0; end = 0 }) c.loop-token-test.true) c.loop-token.invariant.rise in
    omega (arith, next.1)

pub front-requires : goal.front-requires
front-requires c =
    let d : Frag = record { start = 0; end = 0 } in
    let t : Frag = get_or c.tokens-token-items.result.now c.loop-token.token-index d in
    let at = next_is c.tokens-token-items.result.now c.loop-token.token-index d c.loop-token-test.true in
    let next = subst (Rising c.loop-token.place) at c.loop-token.invariant.rise in
    let ends = subst (EndBy (length c.args.doc.now)) at c.loop-token.invariant.end in
    let is : chars c.behind-rest.result.now ≡ drop t.start c.args.doc.now = c.behind-rest.ensures.characters ∙ behind_next c.args.doc.now c.loop-token.rest.now c.loop-token.place t.start next.0 c.loop-token.invariant.rest in
    omega (arith, ends.0, next.1, ap length is, length-drop t.start c.args.doc.now)

pub loop-token-preserved : goal.loop-token-preserved
loop-token-preserved c =
    let d : Frag = record { start = 0; end = 0 } in
    let t : Frag = get_or c.tokens-token-items.result.now c.loop-token.token-index d in
    let at = next_is c.tokens-token-items.result.now c.loop-token.token-index d c.loop-token-test.true in
    let next = subst (Rising c.loop-token.place) at c.loop-token.invariant.rise in
    let ends = subst (EndBy (length c.args.doc.now)) at c.loop-token.invariant.end in
    let is : chars c.behind-rest.result.now ≡ drop t.start c.args.doc.now = c.behind-rest.ensures.characters ∙ behind_next c.args.doc.now c.loop-token.rest.now c.loop-token.place t.start next.0 c.loop-token.invariant.rest in
    let later : Rising t.start (drop (c.loop-token.token-index + 1) c.tokens-token-items.result.now) =
    rising_lower t.start t.end (drop (c.loop-token.token-index + 1) c.tokens-token-items.result.now) (omega (arith, next.1)) next.2 in
    record {
      text = c.behind-rest.utf8;
      rest = is;
      rise = later;
      end = ends.1;
      made =
          ap (λ l. map (λ text. text.now) l ++ map (token_text c.args.doc.now) (drop (c.loop-token.token-index + 1) c.tokens-token-items.result.now)) c.in_ok-push.ensures.items
          ∙ ap (λ l. l ++ map (token_text c.args.doc.now) (drop (c.loop-token.token-index + 1) c.tokens-token-items.result.now)) (map-append _ c.loop-token.texts.items (c.front.result ∷ []))
          ∙ next_text c.args.doc.now c.tokens-token-items.result.now c.loop-token.token-index d c.behind-rest.result.now c.front.result.now (map (λ text. text.now) c.loop-token.texts.items)
          (map (token_text c.args.doc.now) (tokens_of c.args.doc.now)) c.loop-token-test.true is c.front.ensures c.loop-token.invariant.made;
    }

pub returns : goal.returns
returns c =
    let over : length c.tokens-token-items.result.now ≤ c.loop-token.token-index = c.loop-token-test.false in
    sym (append-nil (map (λ text. text.now) c.loop-token.texts.items))
    ∙ sym (at_drop_all (λ ts. map (λ text. text.now) c.loop-token.texts.items ++ map (token_text c.args.doc.now) ts) c.tokens-token-items.result.now c.loop-token.token-index over)
    ∙ c.loop-token.invariant.made
