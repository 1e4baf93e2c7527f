use Rattle.std.proofs.Common.{◌≡◌, List, subst}
use Rattle.std.specs.Result.{IfOk}
use Rattle.mark_base.specs.declared.ann_id.AnnId.{AnnId}
use Rattle.curator_decisions.proofs.NamingLemmas.{ids_of_event}
use Rattle.curator_decisions.proofs.naming.named_ids.Goals as goal

pub returns-in-Some : goal.returns-in-Some
returns-in-Some c =
    let P : List AnnId → Type 0 = λ xs. IfOk c.event_names.result (λ ids. ids.items ≡ xs) in
    subst P (ids_of_event c.args.layer.now c.args.id c.in-Some.event.now c.in-Event.is c.in-Some.ensures) c.event_names.ensures
