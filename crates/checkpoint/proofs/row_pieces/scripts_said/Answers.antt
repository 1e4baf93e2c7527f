use Rattle.std.proofs.Common.{sym, ◌∙◌, ap, subst}
use Rattle.std.specs.Prelude.{chars, IsUtf8}
use Rattle.command_bytes.specs.CommandReading.{scripts_of}
use Rattle.project_state.proofs.EntriesProofs.AgainLemmas.{IsOfText, scripts_are}
use Rattle.checkpoint.proofs.row_pieces.scripts_said.Goals as goal

pub returns-clause-told : goal.returns-clause-told
returns-clause-told c =
    let conf = c.args.conf.now in
    let text = c.args.doc.now in
    let of : IsOfText conf text = record {
      sound = c.reads_back.ensures.sound;
      short = c.char_count-count.ensures.bound;
      valid = subst IsUtf8 c.text-text.ensures.bytes c.text-text.utf8;
      characters = ap chars (sym c.text-text.ensures.bytes) ∙ c.text-text.ensures.characters;
    } in
    scripts_are c.loads_are_read_again.ensures c.typed_scripts_are_read_again.ensures c.scripts_are_told_apart.ensures.read_again conf text c.args.commands.now _ of
    (ap (scripts_of conf text) (sym c.items.ensures) ∙ c.in_ok-found.ensures.exact)
