use Rattle.std.proofs.Common.{◌≡◌, ap, ◌∙◌, subst}
use Rattle.std.specs.Result.{OnOk}
use Rattle.layer_model.specs.Annotations.{Annotations}
use Rattle.layer_model.specs.Layers.{has_number, with_marked}
use Rattle.curator_decisions.proofs.PutLemmas.{free_then, put_over}
use Rattle.curator_decisions.proofs.building.put_over.Goals as goal

pub put-requires-clause-new : goal.put-requires-clause-new
put-requires-clause-new c = ap (λ l. has_number l c.args.id.kind c.args.id.number) c.take-stood.ensures.rest ∙ free_then c.args.layer.now c.args.id.kind c.args.id.number

pub returns : goal.returns
returns c =
    let P : Annotations → Type 0 = λ l. OnOk c.put.result (c.put.new.self ≡ l) in
    subst P (ap (λ l. with_marked l c.args.id.kind c.args.id.number c.args.mark) c.take-stood.ensures.rest ∙ put_over c.args.layer.now c.args.id.kind c.args.id.number c.args.mark c.requires) c.put.ensures.ok
