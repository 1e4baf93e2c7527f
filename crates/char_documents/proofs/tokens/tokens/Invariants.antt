use Rattle.std.proofs.Common.{◌≡◌, ◌++◌, chars, length, drop}
use Rattle.char_documents.specs.Tokens.{tokens_from, tokens_of}
use Rattle.char_documents.specs.TokenRuns.{run_on}
use Rattle.char_documents.proofs.tokens.tokens.Given as goal

abbrev pub invariant-loop-c : goal.invariant-loop-c
invariant-loop-c l = record {
  place : l.place ≡ length l.yielded;
  tokens : l.tokens.items ++ run_on l.run l.place (tokens_from l.place (drop l.place (chars l.text))) ≡ tokens_of (chars l.text);
}
