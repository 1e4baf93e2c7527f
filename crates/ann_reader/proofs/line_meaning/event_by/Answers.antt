use Rattle.std.proofs.Common.{◌≡◌, ◌≤◌, List, Option, Some, sym, ◌∙◌, ap}
use Rattle.std.proofs.Math.Bridge.{le_prop}
use Rattle.mark_base.specs.declared.ann_id.AnnId.{AnnId}
use Rattle.mark_base.specs.declared.table_places.TypeId.{TypeId}
use Rattle.mark_base.specs.declared.arguments.Arg.{Arg}
use Rattle.layer_model.specs.declared.mark.Mark.TheVariants.{Event}
use Rattle.ann_reader.specs.LineMeanings.{event_by}
use Rattle.ann_reader.proofs.line_meaning.event_by.Goals as goal

event_told : (kind : TypeId) (t : Option AnnId) (a : Option (List Arg)) (trigger : AnnId) (args : List Arg) (w : trigger.number ≤ 999999999) → t ≡ Some trigger → a ≡ Some args
    → Some (Event (record { kind = kind; trigger = trigger.number; args = args; within = w })) ≡ event_by kind t a
event_told kind t a trigger args w first second =
    ap (λ (v : trigger.number ≤ 999999999). Some (Event (record { kind = kind; trigger = trigger.number; args = args; within = v }))) (le_prop w trigger.within)
    ∙ ap (λ one. event_by kind one (Some args)) (sym first) ∙ ap (event_by kind t) (sym second)

pub returns-in-Some-args : goal.returns-in-Some-args
returns-in-Some-args c = event_told c.args.kind c.args.trigger c.args.args c.in-Some.trigger c.in-Some-args.args _ c.in-Some.is c.in-Some-args.is
