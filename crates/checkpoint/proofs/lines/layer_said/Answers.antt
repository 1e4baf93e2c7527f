use Rattle.std.proofs.Common.{List, ℕ, sym, ◌∙◌, ap, subst}
use Rattle.std.specs.Prelude.{chars, IsUtf8}
use Rattle.ann_reader.specs.AnnFiles.{IsAnn}
use Rattle.project_state.proofs.EntriesProofs.AgainLemmas.{IsOfText, layer_is}
use Rattle.checkpoint.proofs.lines.layer_said.Goals as goal

pub returns-in-Ok-clause-told : goal.returns-in-Ok-clause-told
returns-in-Ok-clause-told c =
    let conf = c.args.conf.now in
    let text = c.args.doc.now in
    let of : IsOfText conf text = record {
      sound = c.reads_back.ensures.sound;
      short = c.char_count-count.ensures.bound;
      valid = subst IsUtf8 c.text-text.ensures.bytes c.text-text.utf8;
      characters = ap chars (sym c.text-text.ensures.bytes) ∙ c.text-text.ensures.characters;
    } in
    layer_is c.written_layers_are_read_back.ensures c.at_most_one_layer.ensures conf text c.args.lines.now c.in-Ok.layer of c.keeps.ensures
    (subst (λ (bytes : List ℕ). IsAnn conf text bytes c.in-Ok.layer) (c.as_bytes.ensures.value ∙ c.text.ensures) c.in-Ok.ensures.read)
