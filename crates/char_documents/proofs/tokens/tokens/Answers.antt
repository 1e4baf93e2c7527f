use Rattle.std.proofs.Common.{◌≡◌, ◌<◌, ◌≤◌, ◌∙◌, ap, sym, arith, chars, length, get_or, refl, true, false, ◌++◌}
use Rattle.std.specs.Char.{is_whitespace}
use Rattle.std.proofs.lemmas.Iterator.{YieldsList-from_chars}
use Rattle.std.proofs.lemmas.Iterator.Consumers.{YieldsList-turn, YieldsList-end}
use Rattle.std.proofs.lemmas.List.{length_push}
use Rattle.char_documents.specs.Tokens.{tokens_from, tokens_of}
use Rattle.char_documents.proofs.TokenLemmas.{white_step, other_step, last_step}
use Rattle.char_documents.proofs.tokens.tokens.Goals as goal
use Rattle.char_documents.proofs.tokens.tokens.Goals.{then-is_whitespace+in_ok-close, else-is_whitespace}

pub loop-c-init : goal.loop-c-init
unfolding tokens_of
loop-c-init c = record {
  place = refl;
  tokens = ap (λ l. l ++ tokens_from 0 (chars c.args.text.now)) c.new-tokens.ensures.items;
}

pub overflow_add-place : goal.overflow_add-place
overflow_add-place c =
    let t = YieldsList-turn (YieldsList-from_chars c.args.text.now c.utf8.text cc) c.loop-c.yielded _ c.loop-c.yielded_by _ _ c.in-Some.c c.in-Some.is c.next.ensures.steps in
    omega (arith, t.0)

pub loop-c-preserved : goal.loop-c-preserved
loop-c-preserved c =
    let t = YieldsList-turn (YieldsList-from_chars c.args.text.now c.utf8.text cc) c.loop-c.yielded _ c.loop-c.yielded_by _ _ c.in-Some.c c.in-Some.is c.next.ensures.steps in
    let n = length_push c.loop-c.yielded c.in-Some.c in
    let at : (c.loop-c.place < length (chars c.args.text.now)) × (c.in-Some.c ≡ get_or (chars c.args.text.now) c.loop-c.place c.in-Some.c) = rw c.loop-c.invariant.place t in
    record {
      place = omega (arith, n);
      tokens = elim c.if-is_whitespace.branch [
        | then-is_whitespace+in_ok-close w ↦
            let white : is_whitespace c.in-Some.c ≡ true = sym c.is_whitespace.ensures ∙ w.if-is_whitespace.true in
            rw (w.tokens-is, w.run-is)
            (white_step (chars c.args.text.now) c.loop-c.place c.in-Some.c c.loop-c.run c.loop-c.tokens.items _ (tokens_of (chars c.args.text.now)) at white w.in_ok-close.ensures c.loop-c.invariant.tokens)
        | else-is_whitespace w ↦
            let other : is_whitespace c.in-Some.c ≡ false = sym c.is_whitespace.ensures ∙ w.if-is_whitespace.false in
            rw (w.tokens-is, w.run-is, w.unwrap_or.ensures)
            (other_step (chars c.args.text.now) c.loop-c.place c.in-Some.c c.loop-c.run c.loop-c.tokens.items (tokens_of (chars c.args.text.now)) at other c.loop-c.invariant.tokens)
      ];
    }

pub returns : goal.returns
returns c =
    let t = YieldsList-end (YieldsList-from_chars c.args.text.now c.utf8.text cc) c.loop-c.yielded _ c.loop-c.yielded_by _ _ c.in-None.is c.next.ensures.steps in
    let past : length (chars c.args.text.now) ≤ c.loop-c.place = omega (arith, t.1) in
    last_step (chars c.args.text.now) c.loop-c.place c.loop-c.run c.loop-c.tokens.items _ (tokens_of (chars c.args.text.now)) past c.in_ok-close-2.ensures c.loop-c.invariant.tokens
