use Rattle.std.proofs.Common.{◌≡◌, take, string_bytes, encode_utf8_all, true}
use Rattle.char_documents.specs.Texts.{all_lie_in, reference_text}
use Rattle.char_documents.proofs.doc.Doc.reference.Given as goal

abbrev pub invariant-loop-place : goal.invariant-loop-place
invariant-loop-place l = record {
  text : string_bytes l.text ≡ encode_utf8_all (reference_text l.self (take l.place l.frags));
  within : all_lie_in l.self (take l.place l.frags) ≡ true;
}
