use Rattle.std.proofs.Common.{◌≡◌, chars, encode_utf8_all}
use Rattle.char_documents.specs.Texts.{reference_text}
use Rattle.ann_reader.proofs.ReferenceTexts.{reference_back}
use Rattle.ann_reader.proofs.texts.reference_characters.Goals as goal

pub returns-in_ok-characters-in-Ok-clause-value : goal.returns-in_ok-characters-in-Ok-clause-value
returns-in_ok-characters-in-Ok-clause-value c =
    let back : chars (encode_utf8_all (reference_text c.args.doc.now c.args.frags.now)) ≡ reference_text c.args.doc.now c.args.frags.now =
    reference_back c.text-whole.result.now c.args.doc.now c.args.frags.now c.text-whole.utf8 c.text-whole.ensures.characters in
    cc (c.in_ok-characters-in-Ok.ensures, c.text.ensures, c.in-Ok.ensures.text, back)
