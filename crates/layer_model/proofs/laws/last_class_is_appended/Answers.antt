use Rattle.layer_model.proofs.ClassOrder.{insert_class-last}
use Rattle.layer_model.proofs.laws.last_class_is_appended.Goals as goal

pub returns : goal.returns
returns c class classes last = insert_class-last class classes last
