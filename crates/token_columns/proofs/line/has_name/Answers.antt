use Rattle.std.proofs.Common.{◌∙◌, sym, ap, slice_get}
use Rattle.std.proofs.lemmas.Slice.Eq.{bytes_eq-Decides}
use Rattle.token_columns.proofs.AcceptLemmas.{own_name}
use Rattle.token_columns.proofs.line.has_name.Goals as goal

pub returns-in-Some : goal.returns-in-Some
returns-in-Some c = λ same.
    own_name c.args.conf.now c.args.id c.in-Some.row.now c.args.name.now c.reads_back.ensures.sound
    (ap (λ rows. slice_get rows c.args.id.n) (sym c.types.ensures) ∙ sym c.in-Some.ensures)
    (sym c.text.ensures.value ∙ (bytes_eq-Decides c.text.result.now c.args.name.now).0 (sym c.eq.ensures ∙ same))
