use Rattle.std.proofs.Common.{Option, Some, None, is_some, sym, ◌∙◌, ap}
use Rattle.std.specs.Prelude.{if◌then◌else◌}
use Rattle.mark_base.specs.declared.ann_id.AnnId.{AnnId}
use Rattle.layer_model.specs.Annotations.{Annotations}
use Rattle.layer_core.specs.MadeLayers.{Draft, gone, with_less}
use Rattle.layer_core.proofs.SubjectLemmas.{first_of_namers}
use Rattle.layer_core.proofs.changes.clear.Goals as goal

cleared : (layer : Annotations) (id : AnnId) → Option AnnId → Option Draft
cleared layer id first = if is_some first then None else Some (with_less (gone layer id))

pub returns-in-Some : goal.returns-in-Some
unfolding cleared
returns-in-Some c = record {
  attribute = λ conf layer are. ap (cleared layer c.args.id) (c.in-Some.ensures.value ∙ first_of_namers layer c.args.id c.args.namers.now are);
  any = λ conf layer are. ap (cleared layer c.args.id) (c.in-Some.ensures.value ∙ first_of_namers layer c.args.id c.args.namers.now are);
  fits = λ layer are. tt;
}

pub returns-in-None : goal.returns-in-None
unfolding cleared
returns-in-None c = record {
  attribute = λ conf layer are. ap (cleared layer c.args.id) (c.in-None.ensures.value ∙ first_of_namers layer c.args.id c.args.namers.now are);
  any = λ conf layer are. ap (cleared layer c.args.id) (c.in-None.ensures.value ∙ first_of_namers layer c.args.id c.args.namers.now are);
  fits = λ layer are. sym (c.in-None.ensures.value ∙ first_of_namers layer c.args.id c.args.namers.now are);
}
