use Rattle.std.proofs.Common.{◌<◌, length, subst, sym, ◌∙◌, ap}
use Rattle.ann_reader.specs.FormShows.{seen_form}
use Rattle.ann_reader.proofs.ClassLemmas.{members_some}
use Rattle.ann_reader.proofs.SaidLemmas.{read_classes}
use Rattle.ann_reader.proofs.layer_lines.add_line.Goals as goal

pub join_said-requires-clause-some : goal.join_said-requires-clause-some
join_said-requires-clause-some c = members_some c.args.conf.now (seen_form c.args.form) c.in_ok-said.said c.requires.some c.in_ok-said.ensures

-- an annotation more leaves the classes
pub join_said-requires-clause-few : goal.join_said-requires-clause-few
join_said-requires-clause-few c =
    subst (λ n. n < 4294967295) (sym (ap (λ l. length l.classes) c.in_ok-put_read.ensures ∙ ap length (read_classes c.args.layer.now c.args.own c.in_ok-mark.mark))) c.requires.few
