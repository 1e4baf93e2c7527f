use Rattle.std.proofs.Common.{◌≡◌, ◌++◌, drop, length, chars, map}
use denote.Shadow.{shadow}
use denote.Text.{Utf8}
use Rattle.char_documents.specs.Tokens.{tokens_of}
use Rattle.token_columns.specs.Columns.{token_text}
use Rattle.token_columns.proofs.RunLemmas.{Rising}
use Rattle.token_columns.proofs.TokenLemmas.{EndBy}
use Rattle.token_columns.proofs.token_texts.token_texts.Given as goal

abbrev pub invariant-loop-token : goal.invariant-loop-token
invariant-loop-token l = record {
  text : shadow (Utf8 l.rest);
  rest : chars l.rest ≡ drop l.place l.doc;
  rise : Rising l.place (drop l.token-index l.token-items);
  end : EndBy (length l.doc) (drop l.token-index l.token-items);
  made : map (λ text. text.now) l.texts.items ++ map (token_text l.doc) (drop l.token-index l.token-items) ≡ map (token_text l.doc) (tokens_of l.doc);
}
