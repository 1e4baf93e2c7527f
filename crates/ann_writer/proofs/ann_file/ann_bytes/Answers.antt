use Rattle.std.proofs.Common.{◌≡◌, sym, ◌∙◌, ap, subst, chars, encode_utf8_all, IsUtf8}
use Rattle.ann_writer.specs.AnnOf.{ann_of}
use Rattle.ann_writer.specs.Writable.{IsOfProgram}
use Rattle.ann_writer.proofs.RoundTrip.{read_back}
use Rattle.ann_writer.proofs.WritableLemmas.{writable}
use Rattle.ann_writer.proofs.ann_file.ann_bytes.Goals as goal

pub ann_text-requires : goal.ann_text-requires
ann_text-requires c = writable c.args.conf.now c.args.doc.now c.args.layer.now c.keeps.ensures c.requires

pub returns-clause-again : goal.returns-clause-again
returns-clause-again c =
    let conf = c.args.conf.now in
    let text = c.args.doc.now in
    let layer = c.args.layer.now in
    let same : encode_utf8_all text ≡ c.text-characters.result.now = sym c.text-characters.ensures.bytes in
    let program : IsOfProgram conf text layer = record {
      sound = c.reads_back.ensures.sound;
      kept = c.keeps.ensures;
      texts = c.in_ok-text.ensures.texts;
      short = c.char_count-few.ensures.bound;
      valid = subst IsUtf8 (sym same) c.text-characters.utf8;
      characters = ap chars same ∙ c.text-characters.ensures.characters;
    } in
    let lines : c.as_str-bytes.result.now ≡ ann_of conf text layer = c.as_str-bytes.ensures.value ∙ c.in_ok-text.ensures.text in
    read_back conf text layer program c.requires (subst IsUtf8 lines c.as_str-bytes.utf8)
