use Rattle.std.proofs.Common.{◌∙◌, sym, ap, chars, encode_utf8_all}
use Rattle.std.proofs.lemmas.Str.{encodes-chars}
use Rattle.char_documents.proofs.doc.Doc.text.Goals as goal

pub returns-clause-bytes : goal.returns-clause-bytes
returns-clause-bytes c = sym (encodes-chars c.as_str.result.now c.as_str.utf8) ∙ ap (λ t. encode_utf8_all (chars t)) c.as_str.ensures.value ∙ ap encode_utf8_all c.self.view_is
