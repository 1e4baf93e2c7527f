use Rattle.std.proofs.Common.{◌∙◌, sym, ap, length}
use Rattle.content_keys.proofs.MoveLemmas.{length_values}
use Rattle.content_keys.proofs.content_table.ContentTable.count.Goals as goal

pub returns : goal.returns
returns c = c.count.ensures ∙ sym (length_values c.self.inside.table) ∙ ap length c.self.view_is
