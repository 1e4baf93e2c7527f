use Rattle.std.proofs.Common.{◌≡◌, chars, drop, encode_utf8_all}
use Rattle.token_columns.proofs.token_texts.behind.Given as goal

abbrev pub invariant-loop : goal.invariant-loop
invariant-loop l = l.rest.rest.now ≡ encode_utf8_all (drop l.counter (chars l.text))
