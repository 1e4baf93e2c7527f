use Rattle.std.proofs.Common.{rules, ◌==◌, not}
use Rattle.std.proofs.lemmas.Fn.{filter_same}
use Rattle.layer_model.specs.Classes.{rank}
use Rattle.layer_model.proofs.class_list.drop_member.Goals as goal

pub returns : goal.returns
returns c = filter_same _ (λ member. not (rank member == c.args.place)) _ (λ x b f' r. search rules) _ _ c.retain.ensures.filtered
