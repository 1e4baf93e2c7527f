use Rattle.std.proofs.Common.{◌==◌, ◌&&◌, sym, ◌∙◌, ap}
use Rattle.std.specs.List.{list_any}
use Rattle.std.specs.FinMap as finite
use Rattle.layer_core.specs.CommandRules.{is_span_letter}
use Rattle.layer_core.proofs.SubjectLemmas.{trigger_of_namers}
use Rattle.layer_core.proofs.first_annotation.is_in_trigger.Goals as goal

pub returns-in-Text : goal.returns-in-Text
returns-in-Text c =
    c.has_trigger.ensures ∙ trigger_of_namers c.args.layer.now c.args.id c.args.namers.now c.keeps.ensures c.in-Text.is c.requires
    ∙ sym (ap (λ kind. is_span_letter kind && list_any (λ entry. entry.1.trigger == c.args.id.number) (finite.entries c.args.layer.now.events)) c.in-Text.is)
